-- What the row of a path says of the value there.
use Rattle.std.proofs.Common.{◌≡◌, ℕ, ◌<◌, List, length, get_or, Some, None, sym, ◌∙◌, subst}
use Rattle.std.proofs.lemmas.Option.{slice_get-get_or}
use Rattle.std.specs.List.{slice_get}
use Rattle.lua_value.specs.declared.key.Key.{Key}
use Rattle.lua_value.specs.Pairs.{Datum}
use Rattle.schema_table.specs.declared.row.Row.{Row}
use Rattle.schema_table.specs.declared.row.Format.{Format}
use Rattle.schema_table.specs.declared.fault.ShapeFault.TheVariants.{Unknown, TooNew, WrongShape, Missing, NoMemory}
use Rattle.schema_table.specs.Formats.{IsOlder}
use Rattle.schema_table.specs.Rows.{row_number, IsRowOf}
use Rattle.schema_table.specs.Shapes.{HasShape}
use Rattle.schema_table.specs.Visits.{IsOpened, IsGoneInto, IsTooNew, IsMisshapen}
use Rattle.schema_table.specs.Walk.{IsFaultlessAt}

-- a path has one row
pub same_row : (rows : List Row) (path : List Key) (n m : ℕ) (row other : Row) → IsRowOf rows path n row →
    IsRowOf rows path m other → row ≡ other
same_row rows path n m row other r o =
    let numbers : Some n ≡ Some m = sym r.first ∙ o.first in
    let number : n ≡ m = cc in
    let found : Some row ≡ Some other = sym r.there ∙ subst (λ k. slice_get rows k ≡ Some other) (sym number) o.there in
    cc

pub numbers_same : (rows : List Row) (path : List Key) (n m : ℕ) (row other : Row) → IsRowOf rows path n row →
    IsRowOf rows path m other → n ≡ m
numbers_same rows path n m row other r o = let numbers : Some n ≡ Some m = sym r.first ∙ o.first in cc

module _ (rows : List Row) (path : List Key) (number : ℕ) (row : Row) (is_row : IsRowOf rows path number row) where
  pub too_new : (format : Format) → IsOlder format row.since → IsTooNew rows format path number
  too_new format older = record { row = row; is_row = is_row; older = older }

  pub misshapen : (format : Format) (value : Datum) → ¬ IsOlder format row.since → ¬ HasShape row.shape value →
      IsMisshapen rows format path value number
  misshapen format value in_time other = record { row = row; is_row = is_row; in_time = in_time; other = other }

  pub faultless_at : (format : Format) (value : Datum) → ¬ IsOlder format row.since → HasShape row.shape value →
      IsFaultlessAt rows format path value
  faultless_at format value in_time shape (Unknown told) is = let clash : None ≡ Some number = sym is.no_row
      ∙ is_row.first in cc
  faultless_at format value in_time shape (TooNew m) is =
      in_time (subst (λ r. IsOlder format r.since)
      (sym (same_row rows path number m row is.row is_row is.is_row)) is.older)
  faultless_at format value in_time shape (WrongShape m) is =
      is.other (subst (λ r. HasShape r.shape value) (same_row rows path number m row is.row is_row is.is_row) shape)
  faultless_at format value in_time shape (Missing m) is = is
  faultless_at format value in_time shape NoMemory is = is

  pub gone_into : IsOpened rows path row.shape → IsGoneInto rows path
  gone_into opened = record { number = number; row = row; is_row = is_row; opened = opened }

  pub opened_of : IsGoneInto rows path → IsOpened rows path row.shape
  opened_of g = subst (λ r. IsOpened rows path r.shape)
      (sym (same_row rows path number g.number row g.row is_row g.is_row)) g.opened

pub row_is : (rows : List Row) (path : List Key) (number : ℕ) (d : Row) → Some number ≡ row_number rows path →
    number < length rows → IsRowOf rows path number (get_or rows number d)
row_is rows path number d e lt = record { first = sym e; there = slice_get-get_or rows number d lt }
