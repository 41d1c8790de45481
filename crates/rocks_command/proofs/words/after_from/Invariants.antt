use Rattle.std.proofs.Common.{◌≡◌, ◌+◌, ◌*◌, length, map, string_bytes}
use Rattle.rocks_command.specs.Words.{after_from, from_folders}
use Rattle.rocks_command.proofs.words.after_from.Given as goal

abbrev pub invariant-loop-rest : goal.invariant-loop-rest
invariant-loop-rest l = record {
  same : after_from (map string_bytes l.rest) ≡ after_from (map string_bytes l.words);
  count : 2 * length (from_folders (map string_bytes l.words)) + length l.rest ≡ 2 * length (from_folders (map string_bytes l.rest)) + length l.words;
}

abbrev pub decreases-loop-rest : goal.decreases-loop-rest
decreases-loop-rest l = length l.rest
