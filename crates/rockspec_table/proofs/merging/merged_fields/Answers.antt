use Rattle.std.proofs.Common.{arith, ◌+◌, sym, ◌∙◌, subst}
use Rattle.lua_value.specs.Pairs.{put}
use Rattle.rockspec_table.proofs.Merged.{IsMergedSoFar, merged_start, merged_more, merged_end}
use Rattle.rockspec_table.proofs.merging.merged_fields.Goals as goal

pub loop-at-init : goal.loop-at-init
loop-at-init c =
    let so_far = merged_start c.args.globals.now c.requires in
    rw c.new-merged.ensures (record { ordered = tt; so_far = so_far })

pub loop-at-preserved : goal.loop-at-preserved
loop-at-preserved c =
    let l = c.loop-at in
    let key = c.in_ok-copy.ensures in
    let value = c.in_ok-field_value.ensures.value in
    let put_is = c.in_ok-put.ensures.value in
    record {
      ordered = c.in_ok-put.ensures.ordered;
      so_far = subst (λ ps. IsMergedSoFar c.args.globals.now ps (l.at + 1))
          (sym (put_is ∙ (λ i. put (key i) (value i) l.merged)))
          (merged_more c.args.globals.now l.merged l.at _ _ c.entry_at.ensures.entry l.invariant.so_far);
    }

pub returns-clause-value : goal.returns-clause-value
returns-clause-value c =
    merged_end c.args.globals.now c.loop-at.merged c.loop-at.at (omega (arith, c.len-at-end.ensures))
    c.loop-at.invariant.so_far
