use Rattle.std.proofs.Common.{◌≡◌, take}
use Rattle.manifest_text.proofs.view.copied_rocks.Given as goal

abbrev pub invariant-loop-rock : goal.invariant-loop-rock
invariant-loop-rock l = l.copied ≡ take l.rock-index l.rocks
