use Rattle.std.proofs.Common.{refl, sym, ◌∙◌, arith}
use Rattle.schema_table.proofs.Absent.{match_at, match_nowhere}
use Rattle.schema_table.proofs.absence.has_match.Goals as goal

pub returns-then-part_matches : goal.returns-then-part_matches
returns-then-part_matches c = (
  (λ _. match_at c.args.part.now c.args.table.now c.loop-at.at _ _ c.requires c.entry_at.ensures.entry
      (sym c.part_matches.ensures ∙ c.if-part_matches.true)),
  λ _. refl,
)

pub returns : goal.returns
returns c = (
  (λ e. cc),
  λ found. absurd (match_nowhere c.args.part.now c.args.table.now c.loop-at.at
      (omega (arith, c.len-at-end.ensures)) c.loop-at.invariant found),
)
