use Rattle.std.proofs.Common.{◌≡◌, rules, ap, ◌∙◌}
use Rattle.std.specs.Ordering.{is_lt}
use Rattle.std.proofs.lemmas.List.Sorted.{answers_always}
use Rattle.build_targets.specs.declared.target.Target.{Target}
use Rattle.build_plan.specs.Plans.{dest_cmp}
use Rattle.build_targets.specs.contracts.target.DestOrd.TheImpl as impl
use Rattle.build_plan.proofs.DestOrder.{derived_cmp, target_order}
use Rattle.build_plan.proofs.Planned.{ordered}
use Rattle.build_plan.proofs.places.in_order.Goals as goal

pub returns : goal.returns
returns c =
    ordered c.args.targets.items c.sort_by.new.self.items _ c.args.folders.items c.sort.new.self.items _ c.from_vec.ensures c.from_vec-2.ensures c.in_ok-sort_by.ensures.permutation
    (c.in_ok-sort_by.ensures.sorted (λ (x : Target) (y : Target). is_lt (dest_cmp x.to y.to)) target_order (answers_always _ _ _ (λ f a r g q. let e : r ≡ impl.ghosts.cmp a.0.now.to a.1.0.now.to = search rules in ap is_lt (e ∙ derived_cmp a.0.now.to a.1.0.now.to))))
    c.in_ok-sort.ensures.permutation c.in_ok-sort.ensures.sorted
