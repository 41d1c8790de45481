use Rattle.std.proofs.Common.{◌≡◌, length}
use Rattle.schema_table.proofs.Matched.{matches_from}
use Rattle.schema_table.proofs.matching.matches.Given as goal

abbrev pub invariant-loop-at : goal.invariant-loop-at
invariant-loop-at l = record {
  same_length : length l.parts ≡ length l.path;
  so_far : matches_from l.parts l.path l.at ≡ matches_from l.parts l.path 0;
}
