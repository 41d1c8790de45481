use Rattle.std.proofs.Common.{◌≡◌}
use Rattle.schema_table.proofs.PathTexts.{text_before}
use Rattle.schema_table.proofs.visits.path_text.Given as goal

abbrev pub invariant-loop-at : goal.invariant-loop-at
invariant-loop-at l = l.out.items ≡ text_before l.path l.at
