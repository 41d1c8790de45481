use Rattle.std.proofs.Common.{◌≡◌, take}
use Rattle.rock_manifest.specs.Lines.{files_text}
use Rattle.rock_manifest.proofs.printed.own_lines.Given as goal

abbrev pub invariant-loop-path : goal.invariant-loop-path
invariant-loop-path l = l.lines.items ≡ files_text (take l.path-index l.own)
