use Rattle.std.proofs.Common.{◌≡◌, ◌++◌}
use Rattle.rock_manifest.specs.Reading.{as_items}
use Rattle.rock_manifest.proofs.reader.add_items.Given as goal

abbrev pub invariant-loop-path : goal.invariant-loop-path
invariant-loop-path l = l.items ≡ l.initial.items ++ as_items l.kind l.yielded
