-- The targets of entries, as they are collected.
use Rattle.std.proofs.Common.{◌≡◌, ◌≢◌, ℕ, zero, suc, ◌+◌, ◌<◌, ◌≤◌, List, [], ◌∷◌, ◌++◌, length, map, take, refl, sym, ap, ◌∙◌, Option, Some, None, Result, Ok, Err, option_map, arith, nat_lt, IsTrue, lt-ltb, append_assoc}
use Rattle.std.specs.Prelude.{slice_get, ◌↔◌}
use Rattle.std.proofs.lemmas.Bool.Decides.{nat_tests}
use Rattle.std.proofs.lemmas.List.{length-map, map-append, take_all}
use Rattle.std.proofs.lemmas.Option.{slice_get-map}
use Rattle.lua_value.specs.declared.key.Key.{Key}
use Rattle.lua_value.specs.Pairs.{Datum, Pairs, no_pairs, with_pair, count, listed}
use Rattle.build_targets.specs.declared.meanings.Listing.{Listing}
use Rattle.build_targets.specs.declared.target.Target.{Target}
use Rattle.build_plan.specs.Entries.{Entry, bytes_of, entries_of, meaning}
use Rattle.build_plan.specs.Plans.{blame}
use Rattle.build_plan.specs.Steps.{before, blamed_in, first_some, targets_of, texts_in}
use Rattle.build_plan.proofs.Firsts.{cons_none, found_now, none_append, some_append, stays_none, take_one_more}

-- ---- what a table lists

pub length-listed : (ps : Pairs) → length (listed ps) ≡ count ps
length-listed no_pairs = refl
length-listed (with_pair key value rest) = ap suc (length-listed rest)

-- a table has entries
pub some_pairs : (ps : Pairs) (size : ℕ) → size ≡ count ps → IsTrue (nat_lt 0 size) ↔ (ps ≢ no_pairs)
some_pairs no_pairs size same = (λ yes' _. let less : 0 < size = grind (arith, nat_tests) in absurd (omega arith), λ some. absurd (some refl))
some_pairs (with_pair key value rest) size same = (λ _ e. cc, λ _. let less : 0 < size = omega arith in lt-ltb 0 size less)

-- the entry of a pair
abbrev pub entry_of : Listing → Key × Datum → Entry
entry_of listing pair = record { listing = listing; key = pair.0; file = bytes_of pair.1 }

pub entry_there : (listing : Listing) (ps : Pairs) (at : ℕ) (pair : Key × Datum) → slice_get (listed ps) at ≡ Some pair → slice_get (entries_of listing ps) at ≡ Some (entry_of listing pair)
entry_there listing ps at pair is = slice_get-map (entry_of listing) (listed ps) at ∙ ap (option_map (entry_of listing)) is

pub text_there : (ps : Pairs) (at : ℕ) (pair : Key × Datum) → slice_get (listed ps) at ≡ Some pair → slice_get (texts_in ps) at ≡ Some (bytes_of pair.1)
text_there ps at pair is = slice_get-map (λ (p : Key × Datum). bytes_of p.1) (listed ps) at ∙ ap (option_map (λ (p : Key × Datum). bytes_of p.1)) is

pub whole_entries : (listing : Listing) (ps : Pairs) (n : ℕ) → count ps ≤ n → take n (entries_of listing ps) ≡ entries_of listing ps
whole_entries listing ps n past =
    let size = length-map (listed ps) (entry_of listing) ∙ length-listed ps in
    take_all n (entries_of listing ps) (omega arith)

pub whole_texts : (ps : Pairs) (n : ℕ) → count ps ≤ n → take n (texts_in ps) ≡ texts_in ps
whole_texts ps n past =
    let size = length-map (listed ps) (λ (p : Key × Datum). bytes_of p.1) ∙ length-listed ps in
    take_all n (texts_in ps) (omega arith)

-- ---- the targets of entries

before_append : (result : Result Target (List ℕ)) (xs ys : List Target) → before result (xs ++ ys) ≡ before result xs ++ ys
before_append (Ok target) xs ys = refl
before_append (Err text) xs ys = refl

pub targets_append : (xs ys : List Entry) → targets_of (xs ++ ys) ≡ targets_of xs ++ targets_of ys
targets_append [] ys = refl
targets_append (x ∷ xs) ys = ap (before (meaning x)) (targets_append xs ys) ∙ before_append (meaning x) (targets_of xs) (targets_of ys)

pub one_target : (entry : Entry) (target : Target) → meaning entry ≡ Ok target → targets_of (entry ∷ []) ≡ target ∷ []
one_target entry target means = ap (λ (r : Result Target (List ℕ)). before r []) means

abbrev pub blame_of : Entry → Option (List ℕ)
blame_of entry = blame (meaning entry)

-- one entry more
module _ (entries : List Entry) (at : ℕ) (entry : Entry) (is : slice_get entries at ≡ Some entry) where
  pub more_targets : (target : Target) → meaning entry ≡ Ok target → targets_of (take (at + 1) entries) ≡ targets_of (take at entries) ++ target ∷ []
  more_targets target means =
      ap targets_of (take_one_more entries at entry is) ∙ targets_append (take at entries) (entry ∷ [])
      ∙ ap (λ (l : List Target). targets_of (take at entries) ++ l) (one_target entry target means)

  pub more_pushed : (target : Target) (new old initial : List Target) → meaning entry ≡ Ok target → new ≡ old ++ target ∷ [] → old ≡ initial ++ targets_of (take at entries)
      → new ≡ initial ++ targets_of (take (at + 1) entries)
  more_pushed target new old initial means pushed so_far =
      pushed ∙ ap (λ (l : List Target). l ++ target ∷ []) so_far ∙ append_assoc initial (targets_of (take at entries)) (target ∷ [])
      ∙ ap (λ (l : List Target). initial ++ l) (sym (more_targets target means))

  pub more_unblamed : (target : Target) → meaning entry ≡ Ok target → blamed_in (take at entries) ≡ None → blamed_in (take (at + 1) entries) ≡ None
  more_unblamed target means none = stays_none blame_of entries at entry is none (ap blame means)

  pub blamed_now : (text : List ℕ) → meaning entry ≡ Err text → blamed_in (take at entries) ≡ None → blamed_in entries ≡ Some text
  blamed_now text means none = found_now blame_of entries at entry text is none (ap blame means)

pub blamed_append : (xs ys : List Entry) → blamed_in xs ≡ None → blamed_in (xs ++ ys) ≡ blamed_in ys
blamed_append xs ys none = ap first_some (map-append blame_of xs ys) ∙ none_append (map blame_of xs) (map blame_of ys) none

pub blamed_first : (xs ys : List Entry) (text : List ℕ) → blamed_in xs ≡ Some text → blamed_in (xs ++ ys) ≡ Some text
blamed_first xs ys text some = ap first_some (map-append blame_of xs ys) ∙ some_append (map blame_of xs) (map blame_of ys) text some

-- ---- entries that all have a meaning, and their targets, by their places

pub record IsMeantThere (entries : List Entry) (at : ℕ) (entry : Entry) : Type 0 where
  pub target : Target
  pub means : meaning entry ≡ Ok target
  pub there : slice_get (targets_of entries) at ≡ Some target

blame_none : (entry : Entry) (result : Result Target (List ℕ)) → meaning entry ≡ result → blame result ≡ None → (target : Target) × (meaning entry ≡ Ok target)
blame_none entry (Ok target) e none = (target, e)
blame_none entry (Err text) e none = absurd cc

pub means_some : (entry : Entry) → blame_of entry ≡ None → (target : Target) × (meaning entry ≡ Ok target)
means_some entry none = blame_none entry (meaning entry) refl none

first_meant : (entry : Entry) (entries : List Entry) (target : Target) → meaning entry ≡ Ok target → targets_of (entry ∷ entries) ≡ target ∷ targets_of entries
first_meant entry entries target means = ap (λ (r : Result Target (List ℕ)). before r (targets_of entries)) means

pub target_there : (entries : List Entry) → blamed_in entries ≡ None → (at : ℕ) (entry : Entry) → slice_get entries at ≡ Some entry → IsMeantThere entries at entry
target_there [] none at entry is = absurd cc
target_there (first ∷ entries) none zero entry is =
    let same : first ≡ entry = cc in
    let parts = cons_none (blame_of first) (map blame_of entries) none in
    let meant = means_some first parts.0 in
    record {
      target = meant.0;
      means = ap meaning (sym same) ∙ meant.1;
      there = ap (λ (l : List Target). slice_get l zero) (first_meant first entries meant.0 meant.1);
    }
target_there (first ∷ entries) none (suc at) entry is =
    let parts = cons_none (blame_of first) (map blame_of entries) none in
    let meant = means_some first parts.0 in
    let found = target_there entries parts.1 at entry is in
    record {
      target = found.target;
      means = found.means;
      there = ap (λ (l : List Target). slice_get l (suc at)) (first_meant first entries meant.0 meant.1) ∙ found.there;
    }

pub record IsMeantBy (entries : List Entry) (at : ℕ) (target : Target) : Type 0 where
  pub entry : Entry
  pub is : slice_get entries at ≡ Some entry
  pub means : meaning entry ≡ Ok target

pub entry_behind : (entries : List Entry) → blamed_in entries ≡ None → (at : ℕ) (target : Target) → slice_get (targets_of entries) at ≡ Some target → IsMeantBy entries at target
entry_behind [] none at target is = absurd cc
entry_behind (first ∷ entries) none zero target is =
    let parts = cons_none (blame_of first) (map blame_of entries) none in
    let meant = means_some first parts.0 in
    let there = sym (ap (λ (l : List Target). slice_get l zero) (first_meant first entries meant.0 meant.1)) ∙ is in
    let same : meant.0 ≡ target = cc in
    record { entry = first; is = refl; means = meant.1 ∙ ap Ok same }
entry_behind (first ∷ entries) none (suc at) target is =
    let parts = cons_none (blame_of first) (map blame_of entries) none in
    let meant = means_some first parts.0 in
    let found = entry_behind entries parts.1 at target (sym (ap (λ (l : List Target). slice_get l (suc at)) (first_meant first entries meant.0 meant.1)) ∙ is) in
    record { entry = found.entry; is = found.is; means = found.means }

-- ---- at the end of a walk

module _ (listing : Listing) (ps : Pairs) (at : ℕ) (past : count ps ≤ at) where
  pub whole_targets : (targets initial : List Target) → targets ≡ initial ++ targets_of (take at (entries_of listing ps)) → targets ≡ initial ++ targets_of (entries_of listing ps)
  whole_targets targets initial is = is ∙ ap (λ (l : List Entry). initial ++ targets_of l) (whole_entries listing ps at past)

  pub whole_unblamed : blamed_in (take at (entries_of listing ps)) ≡ None → blamed_in (entries_of listing ps) ≡ None
  whole_unblamed none = sym (ap blamed_in (whole_entries listing ps at past)) ∙ none

  pub whole_first : (f : Entry → Option (List ℕ)) → first_some (map f (take at (entries_of listing ps))) ≡ None → first_some (map f (entries_of listing ps)) ≡ None
  whole_first f none = sym (ap (λ (l : List Entry). first_some (map f l)) (whole_entries listing ps at past)) ∙ none

module _ (ps : Pairs) (at : ℕ) (past : count ps ≤ at) where
  pub whole_sources : (f : List ℕ → List ℕ) (folders : List (List ℕ)) → folders ≡ map f (take at (texts_in ps)) → folders ≡ map f (texts_in ps)
  whole_sources f folders is = is ∙ ap (map f) (whole_texts ps at past)

  pub whole_named : (f : List ℕ → Option (List ℕ)) → first_some (map f (take at (texts_in ps))) ≡ None → first_some (map f (texts_in ps)) ≡ None
  whole_named f none = sym (ap (λ (l : List (List ℕ)). first_some (map f l)) (whole_texts ps at past)) ∙ none
