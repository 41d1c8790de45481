use Rattle.std.proofs.Common.{◌≡◌, ◌+◌, drop}
use Rattle.rocks_version.specs.Faults.{long_number_place}
use Rattle.rocks_version.proofs.text.long_number_place.Given as goal

abbrev pub invariant-loop-place : goal.invariant-loop-place
invariant-loop-place l = l.place + long_number_place (drop l.place l.text) ≡ long_number_place l.text
