use Rattle.std.proofs.Common.{◌≡◌, ◌++◌, take, None}
use Rattle.build_plan.specs.Entries.{entries_of}
use Rattle.build_plan.specs.Steps.{blamed_in, targets_of}
use Rattle.build_plan.proofs.entries.add_targets.Given as goal

abbrev pub invariant-loop-at : goal.invariant-loop-at
invariant-loop-at l = record {
  so_far : l.targets.items ≡ l.initial.targets.items ++ targets_of (take l.at (entries_of l.listing l.table));
  unblamed : blamed_in (take l.at (entries_of l.listing l.table)) ≡ None;
}
