use Rattle.std.proofs.Common.{◌≡◌, map, take, None}
use Rattle.build_targets.specs.Meanings.{source}
use Rattle.build_plan.specs.Plans.{folder_blame}
use Rattle.build_plan.specs.Steps.{first_some, texts_in}
use Rattle.build_plan.proofs.entries.folders.Given as goal

abbrev pub invariant-loop-at : goal.invariant-loop-at
invariant-loop-at l = record {
  so_far : l.folders.items ≡ map source (take l.at (texts_in l.table));
  unblamed : first_some (map (folder_blame l.rockspec) (take l.at (texts_in l.table))) ≡ None;
}
