-- A check's answer holds in later formats, and there is one alone.
use Rattle.std.proofs.Common.{◌≡◌, ◌≢◌, ℕ, ◌<◌, ◌⊎◌, ◌≤◌, inl, inr, List, [], ◌∷◌, Result, Ok, Err, Some, refl, sym, ap}
use Rattle.std.proofs.Common.{◌∙◌, subst, arith}
use Rattle.std.proofs.lemmas.Bool.{cases_order, cases_lt}
use Rattle.std.specs.declared.cmp.Ordering.{Ordering}
use Rattle.std.specs.declared.cmp.Ordering.TheVariants.{Less, Equal, Greater}
use Rattle.std.specs.Ordering.{ordering_then, ordering_reverse}
use Rattle.std.specs.Cmp.{IsTotalOrder}
use Rattle.std.specs.Cmp.Lexicographic.{slice_cmp, lists_total}
use Rattle.lua_value.specs.declared.key.Key.{Key}
use Rattle.lua_value.specs.Key.{key_cmp}
use Rattle.lua_value.specs.Pairs.{Datum, Pairs, table_value}
use Rattle.lua_value.proofs.KeyOrder.{key_cmp-equal, key_cmp_total}
use Rattle.schema_table.specs.declared.row.Row.{Row}
use Rattle.schema_table.specs.declared.row.Format.{Format}
use Rattle.schema_table.specs.declared.row.Must.{Must}
use Rattle.schema_table.specs.declared.row.Must.TheVariants.{No, Always, BeforeThree}
use Rattle.schema_table.specs.declared.fault.ShapeFault.{ShapeFault}
use Rattle.schema_table.specs.declared.fault.ShapeFault.TheVariants.{Unknown, TooNew, WrongShape, Missing, NoMemory}
use Rattle.schema_table.specs.Formats.{rank, IsOlder, IsMandatory}
use Rattle.schema_table.specs.Paths.{at_path}
use Rattle.schema_table.specs.Visits.{IsFaultOf, IsFaultless, IsFirstFault}
use Rattle.schema_table.specs.Checks.{Fits, IsFirstMissing, Checks}
use Rattle.schema_table.specs.Walk.{IfTold, IsFirstReachedIn}
use Rattle.schema_table.proofs.Placed.{same_row, numbers_same}
use Rattle.schema_table.proofs.Reached.{first_fault}

mandatory_before : (must : Must) (format later : Format) → IsOlder format later → IsMandatory must later →
    IsMandatory must format
mandatory_before No format later older m = m
mandatory_before Always format later older m = m
mandatory_before BeforeThree format later older m = omega (arith, older, m)

module _ (rows : List Row) (table : Pairs) where
  -- a fault in a later format is one in the format, or the path is too new there
  faultless_later : (format later : Format) → IsOlder format later → IsFaultless rows table format →
      IsFaultless rows table later
  faultless_later format later older clear path value (Unknown told) v is = clear path value (Unknown told) v is
  faultless_later format later older clear path value (TooNew n) v is =
      clear path value (TooNew n) v (record {
        row = is.row;
        is_row = is.is_row;
        older =
            omega (arith, older, is.older);
      })
  faultless_later format later older clear path value (WrongShape n) v is =
      by_cases (cases_lt (rank format) (rank is.row.since))
    where
      by_cases : (rank format < rank is.row.since) ⊎ (rank is.row.since ≤ rank format) → ⊥
      by_cases (inl lt) = clear path value (TooNew n) v (record { row = is.row; is_row = is.is_row; older = lt })
      by_cases (inr le) = clear path value (WrongShape n) v
          (record { row = is.row; is_row = is.is_row; in_time = (λ lt. absurd (omega arith)); other = is.other })
  faultless_later format later older clear path value (Missing n) v is = is
  faultless_later format later older clear path value NoMemory v is = is

  pub fits_later : (format later : Format) → IsOlder format later → Fits rows table format → Fits rows table later
  fits_later format later older f = record {
    faultless = faultless_later format later older f.faultless;
    complete = λ number m. f.complete number (record {
      row = m.row;
      is_row = m.is_row;
      missing = record {
        mandatory = mandatory_before m.row.must format later older m.missing.mandatory;
        absent =
            m.missing.absent;
      };
    });
  }

module _ (rows : List Row) (format : Format) where
  -- a path at which a value stands has one fault at most
  one_fault : (path : List Key) (value : Datum) (f g : ShapeFault) → IsFaultOf rows format path value f →
      IsFaultOf rows format path value g → f ≡ g
  one_fault path value (Unknown a) (Unknown b) i j = ap Unknown (i.text ∙ sym j.text)
  one_fault path value (Unknown a) (TooNew m) i j = let clash = sym i.no_row ∙ j.is_row.first in cc
  one_fault path value (Unknown a) (WrongShape m) i j = let clash = sym i.no_row ∙ j.is_row.first in cc
  one_fault path value (TooNew n) (Unknown b) i j = let clash = sym j.no_row ∙ i.is_row.first in cc
  one_fault path value (TooNew n) (TooNew m) i j = ap TooNew (numbers_same rows path n m i.row j.row i.is_row j.is_row)
  one_fault path value (TooNew n) (WrongShape m) i j =
      absurd (j.in_time (subst (λ r. IsOlder format r.since)
      (same_row rows path n m i.row j.row i.is_row j.is_row) i.older))
  one_fault path value (WrongShape n) (Unknown b) i j = let clash = sym j.no_row ∙ i.is_row.first in cc
  one_fault path value (WrongShape n) (TooNew m) i j =
      absurd (i.in_time (subst (λ r. IsOlder format r.since)
      (same_row rows path m n j.row i.row j.is_row i.is_row) j.older))
  one_fault path value (WrongShape n) (WrongShape m) i j =
      ap WrongShape (numbers_same rows path n m i.row j.row i.is_row j.is_row)
  one_fault path value (Missing n) g i j = absurd i
  one_fault path value NoMemory g i j = absurd i
  one_fault path value (Unknown a) (Missing m) i j = absurd j
  one_fault path value (Unknown a) NoMemory i j = absurd j
  one_fault path value (TooNew n) (Missing m) i j = absurd j
  one_fault path value (TooNew n) NoMemory i j = absurd j
  one_fault path value (WrongShape n) (Missing m) i j = absurd j
  one_fault path value (WrongShape n) NoMemory i j = absurd j

paths_total : IsTotalOrder (slice_cmp key_cmp)
paths_total = lists_total key_cmp_total

one_path : (path other : List Key) → slice_cmp key_cmp path other ≡ Equal → path ≡ other
one_path [] [] e = refl
one_path [] (key ∷ other) e = cc
one_path (key ∷ path) [] e = cc
one_path (a ∷ path) (b ∷ other) e = by_cases (key_cmp a b) refl (one_path path other)
  where
    by_cases : (o : Ordering) → key_cmp a b ≡ o → (slice_cmp key_cmp path other ≡ Equal → path ≡ other) →
        a ∷ path ≡ b ∷ other
    by_cases Less o rest = let clash = ap (λ p. ordering_then p (slice_cmp key_cmp path other)) (sym o) ∙ e in cc
    by_cases Greater o rest = let clash = ap (λ p. ordering_then p (slice_cmp key_cmp path other)) (sym o) ∙ e in cc
    by_cases Equal o rest =
        let first = key_cmp-equal a b o in
        let later = rest (ap (λ p. ordering_then p (slice_cmp key_cmp path other)) (sym o) ∙ e) in
        λ i. first i ∷ later i

module _ (rows : List Row) (table : Pairs) (format : Format) where
  one_first : (f g : ShapeFault) → IsFirstFault rows table format f → IsFirstFault rows table format g → f ≡ g
  one_first f g a b = by_cases (slice_cmp key_cmp a.path b.path) refl
    where
      by_cases : (o : Ordering) → slice_cmp key_cmp a.path b.path ≡ o → f ≡ g
      by_cases Less o = absurd (b.earlier a.path a.value f a.visited o a.is)
      by_cases Greater o = absurd (a.earlier b.path b.value g b.visited (paths_total.antisymm b.path a.path
          ∙ ap ordering_reverse o) b.is)
      by_cases Equal o =
          let path = one_path a.path b.path o in
          let found : Some a.value ≡ Some b.value = sym a.visited.there ∙ ap (at_path (table_value table)) path
          ∙ b.visited.there in
          let value : a.value ≡ b.value = cc in
          one_fault rows format b.path b.value f g
          (subst (λ v. IsFaultOf rows format b.path v f) value
          (subst (λ p. IsFaultOf rows format p a.value f) path a.is)) b.is

  one_missing : (n m : ℕ) → IsFirstMissing rows table format n → IsFirstMissing rows table format m → n ≡ m
  one_missing n m a b = elim (cases_order n m) [
    | inl same ↦ same
    | inr (inl below) ↦ absurd (b.earlier n below a.missing)
    | inr (inr above) ↦ absurd (a.earlier m above b.missing)
  ]

  first_clash : (f : ShapeFault) → IsFaultless rows table format → ¬ IsFirstFault rows table format f
  first_clash f clear a = clear a.path a.value f a.visited a.is

  -- the fault of an answer is one of a visit or a missing row
  abbrev IsTold : ShapeFault → Type 0
  IsTold f = (IsFirstFault rows table format f) ⊎ ((n : ℕ) × (f ≡ Missing n) × IsFirstMissing rows table format n)

  told_of : (f : ShapeFault) → Checks rows table format (Err f) → f ≢ NoMemory → IsTold f
  told_of (Unknown told) a some = inl a
  told_of (TooNew n) a some = inl a
  told_of (WrongShape n) a some = inl a
  told_of (Missing n) a some = inr (n, refl, a)
  told_of NoMemory a some = absurd (some refl)

  fits_clash : (f : ShapeFault) → Fits rows table format → ¬ IsTold f
  fits_clash f fits (inl a) = first_clash f fits.faultless a
  fits_clash f fits (inr (n, e, a)) = fits.complete n a.missing

  one_told : (f g : ShapeFault) → IsTold f → IsTold g → f ≡ g
  one_told f g (inl a) (inl b) = one_first f g a b
  one_told f g (inl a) (inr (m, e, b)) = absurd (first_clash f b.faultless a)
  one_told f g (inr (n, e, a)) (inl b) = absurd (first_clash g a.faultless b)
  one_told f g (inr (n, e, a)) (inr (m, d, b)) = e ∙ ap Missing (one_missing n m a b) ∙ sym d

  pub one : (r s : Result (Unit {0}) ShapeFault) → Checks rows table format r → Checks rows table format s →
      r ≢ Err NoMemory → s ≢ Err NoMemory → r ≡ s
  one (Ok u) (Ok v) a b r s = refl
  one (Ok u) (Err g) a b r s = absurd (fits_clash g a (told_of g b (λ e. s (ap Err e))))
  one (Err f) (Ok v) a b r s = absurd (fits_clash f b (told_of f a (λ e. r (ap Err e))))
  one (Err f) (Err g) a b r s = ap Err (one_told f g (told_of f a (λ e. r (ap Err e)))
      (told_of g b (λ e. s (ap Err e))))

  -- the answer of a visit's fault
  pub visit_answer : (f : ShapeFault) → IfTold f (IsFirstReachedIn rows format [] table f) →
      Checks rows table format (Err f)
  visit_answer (Unknown told) a = first_fault rows format table (Unknown told) a
  visit_answer (TooNew n) a = first_fault rows format table (TooNew n) a
  visit_answer (WrongShape n) a = first_fault rows format table (WrongShape n) a
  visit_answer (Missing n) a = absurd a.is
  visit_answer NoMemory a = tt
