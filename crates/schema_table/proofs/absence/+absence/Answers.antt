use Rattle.std.proofs.Common.{refl, sym, ◌∙◌, arith}
use Rattle.schema_table.specs.Paths.{referents}
use Rattle.schema_table.proofs.Absent.{absent_one, absent_more, absent_at, absent_nowhere}
use Rattle.schema_table.proofs.absence.+absence.Goals as goal

pub is_absent-returns-in-len1 : goal.is_absent-returns-in-len1
is_absent-returns-in-len1 t c =
    absent_one c.args.parts.now _ c.args.table.now c.has_match.result c.in-len1.len_at_least c.in-len1.len_below
    c.has_match.ensures

pub is_absent-returns-in-len1-up : goal.is_absent-returns-in-len1-up
is_absent-returns-in-len1-up t c =
    absent_more c.args.parts.now _ c.args.table.now _ c.in-len1-up.len_at_least c.is_absent_within.ensures

pub is_absent_within-returns-then-is_absent_in : goal.is_absent_within-returns-then-is_absent_in
is_absent_within-returns-then-is_absent_in t c = (
  (λ _. absent_at c.args.first.now (referents c.args.rest.now) c.args.table.now c.loop-at.at _ _ c.requires.1.1
      c.entry_at.ensures.entry (sym c.part_matches.ensures ∙ c.if-part_matches.true)
      (c.is_absent_in.ensures.0 c.if-is_absent_in.true)),
  λ _. refl,
)

pub is_absent_within-returns : goal.is_absent_within-returns
is_absent_within-returns t c = (
  (λ e. cc),
  λ found. absurd (absent_nowhere c.args.first.now (referents c.args.rest.now) c.args.table.now c.loop-at.at
      (omega (arith, c.len-at-end.ensures)) c.loop-at.invariant found),
)
