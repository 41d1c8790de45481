-- The lines of a list of values: no key is printed.
use Rattle.std.proofs.Common.{◌≡◌, ℕ, zero, suc, ◌+◌, ◌<◌, ◌≤◌, List, [], ◌∷◌, ◌++◌, length, refl, sym, ap, ◌∙◌, Bool, true, false, ◌||◌, ◌⊎◌, inl, inr, arith}
use Rattle.std.specs.List.{flat_map, AllByRecursion}
use Rattle.std.specs.Ordering.{is_eq, nat_cmp}
use Rattle.std.proofs.lemmas.Bool.{and_from, cases_eq, cond-true, lt-ltb}
use Rattle.std.proofs.lemmas.Cmp.{nat_cmp_total, tied_itself}
use Rattle.lua_value.specs.declared.key.Key.{Key}
use Rattle.lua_value.specs.declared.key.Key.TheVariants.{Int}
use Rattle.lua_value.specs.Key.{key_cmp}
use Rattle.lua_value.specs.Pairs.{Datum, keys}
use Rattle.lua_print.specs.Printed.{entry_key_text, has_key, is_position, key_text, reaches}
use Rattle.manifest_text.specs.Text.{list_of, numbered_from}
use Rattle.rock_manifest.proofs.Pieces.{has_no_feed}
use Rattle.tree_manifest.proofs.Lined.{entries_lines, value_lines}
use Rattle.tree_manifest.proofs.Plain.{ArePlain, IsPlain}

or_true : (b : Bool) → (b || true) ≡ true
or_true true = refl
or_true false = refl

either : (key : Key) (other : Key) (ks : List Key) → ((is_eq (key_cmp key other) ≡ true) ⊎ (has_key ks key ≡ true))
    → has_key (other ∷ ks) key ≡ true
either key other ks (inl here) = ap (λ t. t || has_key ks key) here
either key other ks (inr there) = ap (λ t. is_eq (key_cmp key other) || t) there ∙ or_true (is_eq (key_cmp key other))

has_number : (n k : ℕ) (values : List Datum) → n ≤ k → k < n + length values
    → has_key (keys (numbered_from n values)) (Int k) ≡ true
has_number n k [] low high = absurd (omega arith)
has_number n k (value ∷ values) low high =
    elim (cases_eq k n) [
      | inl same ↦ either (Int k) (Int n) (keys (numbered_from (suc n) values))
          (inl (ap (λ m. is_eq (nat_cmp k m)) (sym same) ∙ ap is_eq (tied_itself nat_cmp_total k)))
      | inr other ↦ either (Int k) (Int n) (keys (numbered_from (suc n) values))
          (inr (has_number (suc n) k values (omega arith) (omega arith)))
    ]

reaches_all : (values : List Datum) (k : ℕ) → k ≤ length values → reaches (keys (list_of values)) k ≡ true
reaches_all values zero within = refl
reaches_all values (suc k) within =
    and_from _ _ (has_number 1 (suc k) values (omega arith) (omega arith)) (reaches_all values k (omega arith))

position : (values : List Datum) (k : ℕ) → 1 ≤ k → k < 1 + length values
    → entry_key_text (keys (list_of values)) (Int k) ≡ []
position values k low high =
    cond-true (is_position (keys (list_of values)) (Int k)) [] (key_text (Int k))
    (and_from _ _ (lt-ltb 0 k (omega arith)) (reaches_all values k (omega arith)))

module _ (ks : List Key) where
  -- from n on, keys print nothing
  abbrev PrintNone : (n size : ℕ) → Type 0
  PrintNone n size = (k : ℕ) → n ≤ k → k < n + size → entry_key_text ks (Int k) ≡ []

  further : (n size : ℕ) → PrintNone n (suc size) → PrintNone (suc n) size
  further n size none k low high = none k (omega arith) (omega arith)

  numbered_lines : (indent : List ℕ) (n : ℕ) (values : List Datum) → PrintNone n (length values)
      → entries_lines indent ks (numbered_from n values) ≡ flat_map (λ v. value_lines indent (indent ++ []) v) values
  numbered_lines indent n [] none = refl
  numbered_lines indent n (value ∷ values) none =
      ap (λ (key : List ℕ). value_lines indent (indent ++ key) value ++ entries_lines indent ks
      (numbered_from (suc n) values)) (none n (omega arith) (omega arith))
      ∙ ap (λ (rest : List (List ℕ)). value_lines indent (indent ++ []) value ++ rest)
      (numbered_lines indent (suc n) values (further n (length values) none))

  numbered_plain : (n : ℕ) (values : List Datum) → PrintNone n (length values) → AllByRecursion IsPlain values
      → ArePlain ks (numbered_from n values)
  numbered_plain n [] none all = tt
  numbered_plain n (value ∷ values) none all = (
    ap has_no_feed (none n (omega arith) (omega arith)),
    all.0,
    numbered_plain (suc n) values (further n (length values) none) all.1,
  )

pub list_lines : (indent : List ℕ) (values : List Datum) → entries_lines indent (keys (list_of values)) (list_of values)
    ≡ flat_map (λ v. value_lines indent (indent ++ []) v) values
list_lines indent values = numbered_lines (keys (list_of values)) indent 1 values (position values)

pub list_plain : (values : List Datum) → AllByRecursion IsPlain values
    → ArePlain (keys (list_of values)) (list_of values)
list_plain values all = numbered_plain (keys (list_of values)) 1 values (position values) all
