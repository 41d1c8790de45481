use Rattle.std.proofs.Common.{◌≡◌, take}
use Rattle.rock_manifest.specs.Lines.{files_text}
use Rattle.rock_manifest.specs.Text.{of_kind}
use Rattle.rock_manifest.proofs.printed.lines_of.Given as goal

abbrev pub invariant-loop-item : goal.invariant-loop-item
invariant-loop-item l = l.lines.items ≡ files_text (of_kind l.kind (take l.item-index l.items))
