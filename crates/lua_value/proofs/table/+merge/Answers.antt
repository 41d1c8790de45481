use Rattle.std.proofs.Common.{◌*◌, ◌<◌, ◌≤◌, ◌++◌, drop, sym, ap, ◌∙◌, subst, arith}
use Rattle.chunked_list.specs.Items.{items}
use Rattle.lua_value.specs.declared.key.Key.{Key}
use Rattle.lua_value.specs.declared.table.Value.{Value}
use Rattle.lua_value.specs.Depth.{value_depth, depth}
use Rattle.lua_value.specs.Ordered.{IsOrdered}
use Rattle.lua_value.specs.Merge.{merged_pairs}
use Rattle.lua_value.specs.View.{datum, pairs_of}
use Rattle.lua_value.proofs.KeyOrder.{key_cmp-derived}
use Rattle.lua_value.proofs.Merges.{IsOrdered-merged_pairs}
use Rattle.lua_value.proofs.View.{served_at, depth_at}
use Rattle.lua_value.proofs.Walk.{step, left-less, left-greater, left-equal, end_of_lower, end_of_upper}
use Rattle.lua_value.proofs.table.+merge.Goals as goal
use Rattle.lua_value.proofs.table.+merge.Goals.{merge::merged_entries-then-loop-low-test+else-high-len, merge::merged_entries-else-loop-low-test}

pub merge::merged_entries-loop-low-preserved-in-Less :
    goal.merge::merged_entries-loop-low-preserved-in-Less
merge::merged_entries-loop-low-preserved-in-Less t c =
    let lower = items c.args.lower.now in
    let upper = items c.args.upper.now in
    let l = c.loop-low in
    let x = c.item-below.result.now in
    let y = c.item-above.result.now in
    let order = sym (key_cmp-derived x.0 y.0) ∙ sym c.in-Less.ensures in
    let copied = c.in_ok-copy_entry-in-Less.ensures in
    record {
      whole = c.in_ok-push-in-Less.ensures.whole;
      low_within = omega arith;
      high_within = omega arith;
      so_far = step _ _ _ _ _ _ _ _ c.in_ok-push-in-Less.ensures.ok (ap (λ (e : Key × Value). e.0) copied) (ap (λ (e : Key × Value). datum e.1) copied)
          (left-less lower upper c.requires.lower c.requires.upper l.low l.high x y c.item-below.ensures c.item-above.ensures order)
          l.invariant.so_far;
    }

pub merge::merged_entries-loop-low-preserved-in-Greater :
    goal.merge::merged_entries-loop-low-preserved-in-Greater
merge::merged_entries-loop-low-preserved-in-Greater t c =
    let lower = items c.args.lower.now in
    let upper = items c.args.upper.now in
    let l = c.loop-low in
    let x = c.item-below.result.now in
    let y = c.item-above.result.now in
    let order = sym (key_cmp-derived x.0 y.0) ∙ sym c.in-Greater.ensures in
    let copied = c.in_ok-copy_entry-in-Greater.ensures in
    record {
      whole = c.in_ok-push-in-Greater.ensures.whole;
      low_within = omega arith;
      high_within = omega arith;
      so_far = step _ _ _ _ _ _ _ _ c.in_ok-push-in-Greater.ensures.ok (ap (λ (e : Key × Value). e.0) copied) (ap (λ (e : Key × Value). datum e.1) copied)
          (left-greater lower upper c.requires.lower c.requires.upper l.low l.high x y c.item-below.ensures c.item-above.ensures order)
          l.invariant.so_far;
    }

pub merge::merged_entries-loop-low-preserved : goal.merge::merged_entries-loop-low-preserved
merge::merged_entries-loop-low-preserved t c =
    let lower = items c.args.lower.now in
    let upper = items c.args.upper.now in
    let l = c.loop-low in
    let x = c.item-below.result.now in
    let y = c.item-above.result.now in
    let order = sym (key_cmp-derived x.0 y.0) ∙ sym c.in-Equal.ensures in
    record {
      whole = c.in_ok-push-in-Equal.ensures.whole;
      low_within = omega arith;
      high_within = omega arith;
      so_far = step _ _ _ _ _ _ _ _ c.in_ok-push-in-Equal.ensures.ok c.in_ok-key-in-Equal.ensures c.in_ok-merged_value-in-Equal.ensures
          (left-equal lower upper c.requires.lower c.requires.upper l.low l.high x y c.item-below.ensures c.item-above.ensures order)
          l.invariant.so_far;
    }

pub merge::merged_entries-merged_value-requires : goal.merge::merged_entries-merged_value-requires
merge::merged_entries-merged_value-requires t c = (
  (let within : value_depth (datum c.item-below.result.now.1) ≤ depth (pairs_of (items c.args.lower.now)) = depth_at _ _ _ c.item-below.ensures in let falls : 3 * value_depth (datum c.item-below.result.now.1) < t = omega arith in falls),
  (
    (served_at _ _ _ c.requires.lower c.item-below.ensures).2,
    (served_at _ _ _ c.requires.upper c.item-above.ensures).2,
  ),
)

pub merge::merged_entries-returns-clause-value : goal.merge::merged_entries-returns-clause-value
merge::merged_entries-returns-clause-value t c =
    let lower = items c.args.lower.now in
    let upper = items c.args.upper.now in
    let l = c.loop-low in
    let all = merged_pairs (pairs_of lower) (pairs_of upper) in
    let both = c.in_ok-copy_rest-2.ensures.value ∙ ap (λ es. es ++ drop l.high upper) c.in_ok-copy_rest.ensures.value in
    ap pairs_of both ∙ elim c.loop-low-test.branch [
      | merge::merged_entries-then-loop-low-test+else-high-len w ↦ end_of_upper (items l.entries) lower upper all l.low l.high (omega arith) l.invariant.so_far
      | merge::merged_entries-else-loop-low-test w ↦ end_of_lower (items l.entries) lower upper all l.low l.high c.requires.upper (omega arith) l.invariant.so_far
    ]

pub Table::merged-returns-clause-ordered : goal.Table::merged-returns-clause-ordered
Table::merged-returns-clause-ordered t c =
    let is = c.in_ok-merged_entries.ensures.value ∙ (λ i. merged_pairs (c.self.view_is i) (c.over.view_is i)) in
    subst IsOrdered (sym is) (IsOrdered-merged_pairs _ _ c.requires.lower c.requires.upper)
