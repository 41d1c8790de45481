use Rattle.std.proofs.Common.{arith, ◌+◌, refl, sym, ◌∙◌, subst}
use Rattle.lua_value.specs.declared.key.Key.TheVariants.{Text}
use Rattle.lua_value.specs.Ordered.{IsOrdered}
use Rattle.lua_value.specs.Pairs.{put}
use Rattle.lua_value.specs.View.{datum}
use Rattle.rockspec_table.proofs.Merged.{IsWithoutSoFar, without_start, without_it, without_another, without_end}
use Rattle.rockspec_table.proofs.merging.without.Goals as goal
use Rattle.rockspec_table.proofs.merging.without.Goals.{then-not-is_named+in_ok-copy+in_ok-copy-2+in_ok-put}
use Rattle.rockspec_table.proofs.merging.without.Goals.{else-not-is_named}

pub loop-at-init : goal.loop-at-init
loop-at-init c =
    let so_far = without_start (Text c.args.name.now) c.args.table.now c.requires in
    rw c.new-others.ensures (record { ordered = tt; so_far = so_far })

pub loop-at-preserved : goal.loop-at-preserved
loop-at-preserved c =
    let name = Text c.args.name.now in
    let table = c.args.table.now in
    let l = c.loop-at in
    elim c.if-not-is_named.branch [
      | then-not-is_named+in_ok-copy+in_ok-copy-2+in_ok-put w ↦
          let key = w.in_ok-copy.ensures in
          let value = w.in_ok-copy-2.ensures in
          let is = w.others-is ∙ w.in_ok-put.ensures.value ∙ (λ i. put (key i) (datum (value i)) l.others) in
          record {
            ordered = subst IsOrdered (sym w.others-is) w.in_ok-put.ensures.ordered;
            so_far = subst (λ ps. IsWithoutSoFar name table ps (l.at + 1)) (sym is)
                (without_another name table l.others l.at _ _ c.entry_at.ensures.entry l.invariant.so_far
                (λ same. let named = w.if-not-is_named.ensures.1 same in cc));
          }
      | else-not-is_named w ↦
          rw (w.others-is) (record {
            ordered = l.invariant.ordered;
            so_far = without_it name table l.others l.at _ _ c.entry_at.ensures.entry l.invariant.so_far
                (w.if-not-is_named.ensures.0 refl);
          })
    ]

pub returns-clause-value : goal.returns-clause-value
returns-clause-value c =
    without_end (Text c.args.name.now) c.args.table.now c.loop-at.others c.loop-at.at
    (omega (arith, c.len-at-end.ensures)) c.loop-at.invariant.so_far
