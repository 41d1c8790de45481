-- Rows that are missing, one after another.
use Rattle.std.proofs.Common.{◌≡◌, ℕ, zero, suc, ◌+◌, ◌<◌, ◌≤◌, List, [], ◌∷◌, length, get_or, Some, sym, subst, arith}
use Rattle.std.proofs.lemmas.Option.{get_or_from_slice_get, slice_get-get_or}
use Rattle.std.specs.List.{slice_get}
use borrow.Author.Count.{below_more}
use Rattle.lua_value.specs.Pairs.{Pairs}
use Rattle.schema_table.specs.declared.row.Row.{Row}
use Rattle.schema_table.specs.declared.row.Format.{Format}
use Rattle.schema_table.specs.Absence.{IsMissingRow, IsMissing}

below_length : {T : Type 0} (xs : List T) (i : ℕ) (x : T) → slice_get xs i ≡ Some x → i < length xs
below_length [] i x e = cc
below_length (y ∷ ys) zero x e = omega arith
below_length (y ∷ ys) (suc i) x e = omega (arith, below_length ys i x e)

module _ (rows : List Row) (table : Pairs) (format : Format) where
  abbrev pub HasNoneBefore : ℕ → Type 0
  HasNoneBefore number = (other : ℕ) → other < number → ¬ IsMissing rows table format other

  pub missing_at : (number : ℕ) (d : Row) → number < length rows → IsMissingRow table format (get_or rows number d) →
      IsMissing rows table format number
  missing_at number d lt missing =
      record { row = get_or rows number d; is_row = slice_get-get_or rows number d lt; missing = missing }

  pub none_more : (number : ℕ) (d : Row) → HasNoneBefore number → ¬ IsMissingRow table format (get_or rows number d) →
      HasNoneBefore (number + 1)
  none_more number d before here = below_more (λ other. ¬ IsMissing rows table format other) number before
      (λ m. here (subst (IsMissingRow table format)
      (sym (get_or_from_slice_get rows number m.row d m.is_row)) m.missing))

  pub none_at_all : (number : ℕ) → length rows ≤ number → HasNoneBefore number → (other : ℕ) →
      ¬ IsMissing rows table format other
  none_at_all number all before other m =
      let within : other < length rows = below_length rows other m.row m.is_row in
      let lt : other < number = omega arith in
      before other lt m
