-- The first field with bad platforms, found field by field.
use Rattle.std.proofs.Common.{◌≡◌, ℕ, zero, suc, ◌+◌, ◌<◌, ◌≤◌, Bool, ◌||◌, List, [], ◌∷◌, length, get_or, Some}
use Rattle.std.proofs.Common.{refl, sym, ap, ◌∙◌, subst, arith}
use Rattle.std.proofs.lemmas.Option.{slice_get_within}
use Rattle.std.specs.Borrow.{Bor}
use Rattle.std.specs.List.{slice_get, list_any}
use borrow.Author.Count.{below_more}
use Rattle.lua_value.specs.Pairs.{Pairs}
use Rattle.schema_table.specs.Paths.{referents}
use Rattle.rockspec_table.specs.Platforms.{platform_fields, table_at, HasBadPlatforms, IsBadField, IsFirstBadField}

referent_at : (names : List (Bor (List ℕ))) (i : ℕ) (d : Bor (List ℕ)) → i < length names →
    slice_get (referents names) i ≡ Some (get_or names i d).now
referent_at [] i d lt = absurd (omega arith)
referent_at (name ∷ names) zero d lt = refl
referent_at (name ∷ names) (suc i) d lt = referent_at names i d (omega arith)

-- no field before a place has bad platforms
abbrev pub HasNoneBefore : (globals : Pairs) → ℕ → Type 0
HasNoneBefore globals i = (number : ℕ) (name : List ℕ) → number < i → ¬ IsBadField globals number name

module _ (globals : Pairs) (names : List (Bor (List ℕ))) (are : referents names ≡ platform_fields) (i : ℕ)
    (d : Bor (List ℕ)) (lt : i < length names) where
  here : slice_get platform_fields i ≡ Some (get_or names i d).now
  here = ap (λ list. slice_get list i) (sym are) ∙ referent_at names i d lt

  pub first_bad : HasNoneBefore globals i → HasBadPlatforms (table_at (get_or names i d).now globals) →
      IsFirstBadField globals (get_or names i d).now
  first_bad before bad = record { number = i; here = record { is = here; bad = bad }; first = before }

  pub none_more : HasNoneBefore globals i → ¬ HasBadPlatforms (table_at (get_or names i d).now globals) →
      HasNoneBefore globals (i + 1)
  none_more before good =
      λ number name below. below_more (λ number. (name : List ℕ) → ¬ IsBadField globals number name) i
      (λ number lt name. before number name lt)
      (λ name b. let same : Some name ≡ Some (get_or names i d).now = sym b.is ∙ here in
      let name_is : name ≡ (get_or names i d).now = cc in
      good (subst (λ n. HasBadPlatforms (table_at n globals)) name_is b.bad)) number below name

length-referents : (names : List (Bor (List ℕ))) → length (referents names) ≡ length names
length-referents [] = refl
length-referents (name ∷ names) = ap suc (length-referents names)

pub none_at_all : (globals : Pairs) (names : List (Bor (List ℕ))) → referents names ≡ platform_fields → (i : ℕ) →
    length names ≤ i → HasNoneBefore globals i → (number : ℕ) (name : List ℕ) → ¬ IsBadField globals number name
none_at_all globals names are i all before number name b =
    let within = slice_get_within platform_fields number name b.is in
    let same : length names ≡ length platform_fields = sym (length-referents names) ∙ ap length are in
    let lt : number < i = omega arith in
    before number name lt b

pub any_referent : (P : List ℕ → Bool) (names : List (Bor (List ℕ))) →
    list_any (λ (name : Bor (List ℕ)). P name.now) names ≡ list_any P (referents names)
any_referent P [] = refl
any_referent P (name ∷ names) = ap (λ b. P name.now || b) (any_referent P names)
