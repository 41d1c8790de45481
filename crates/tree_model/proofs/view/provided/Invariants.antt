use Rattle.std.proofs.Common.{◌≡◌, ◌≤◌, ◌-◌, length, map, take}
use Rattle.std.specs.List.{filter}
use Rattle.rock_manifest.specs.Text.{is_kind}
use Rattle.tree_model.proofs.view.provided.Given as goal

abbrev pub invariant-loop-item : goal.invariant-loop-item
invariant-loop-item l = record {
  within : l.at ≤ length l.providers;
  so_far : l.paths ≡ map (λ entry. (entry.0.path, entry.1)) (filter (λ entry. is_kind entry.0.kind l.kind) (take l.at l.providers));
}

abbrev pub decreases-loop-item : goal.decreases-loop-item
decreases-loop-item l = length l.providers - l.at
