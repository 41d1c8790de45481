use Rattle.std.proofs.Common.{◌≡◌, map, take, None}
use Rattle.build_targets.specs.declared.meanings.Listing.TheVariants.{Modules}
use Rattle.build_plan.specs.Entries.{entries_of}
use Rattle.build_plan.specs.Steps.{compiled_name, first_some}
use Rattle.build_plan.proofs.checks.first_compiled.Given as goal

-- none of the modules so far is compiled
abbrev pub invariant-loop-at : goal.invariant-loop-at
invariant-loop-at l = first_some (map compiled_name (take l.at (entries_of Modules l.modules))) ≡ None
