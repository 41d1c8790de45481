use Rattle.std.proofs.Common.{◌≡◌, map, take}
use Rattle.tree_sets.specs.Needs.{met_by}
use Rattle.tree_sets.specs.Sets.{keys_in}
use Rattle.tree_model.proofs.view.view_rock.Given as goal

abbrev pub invariant-loop-dependency : goal.invariant-loop-dependency
invariant-loop-dependency l =
    l.dependencies ≡ map (λ wanted. (wanted, met_by (keys_in l.entries) wanted)) (take l.dependency-index l.dependency-items)
