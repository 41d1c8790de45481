-- The files that steps found: their paths are those that the steps make, and they are within the limits where no step
-- fails.
use Rattle.std.proofs.Common.{◌≡◌, ◌<◌, ◌≤◌, ◌+◌, ◌⊎◌, ◌&&◌, inl, inr, ⊎_elim, ℕ, zero, suc, Bool, true, false, List, [], ◌∷◌, Option, None, Some, get_or, length, map, take, refl, sym, ap, arith, slice_get, nat_le, nat_lt, cond}
use Rattle.std.proofs.lemmas.Bool.Decides.{nat_tests}
use Rattle.std.proofs.lemmas.List.{length-take, take_all}
use Rattle.std.proofs.lemmas.List.Elements.{All-cons, All-nil}
use Rattle.std.proofs.lemmas.List.Sums.{sum-map, sum_by-cons, sum_by_more}
use Rattle.std.proofs.lemmas.Option.{slice_get-get_or}
use Rattle.std.specs.Prelude.{unwrap_or}
use Rattle.std.specs.List.{All, cons_option, filter_map, sum_by}
use Rattle.std.specs.Option.{option_map}
use Rattle.rocks_text.specs.declared.item.Item.{Item}
use Rattle.rock_parts.specs.Parts.{item_in, item_made, own_in, own_made}
use Rattle.rock_parts.specs.declared.parts.Part.{Part}
use Rattle.rock_parts.specs.declared.parts.Part.TheVariants as parts
use Rattle.rock_parts.specs.declared.parts.Step.{Step}
use Rattle.rock_parts.specs.declared.parts.Step.TheVariants.{Read, NoFile}
use Rattle.rock_record.specs.declared.limits.TheConstants.{LONGEST_FILE, MOST_FILES, MOST_BYTES}
use Rattle.rock_files.specs.Gathering.{Found, NoneFails, fault_with, fits, item_of, own_of, path_of, size_of}

-- ---- their paths

keys_more : {K : Type 0} (o : Option K) (bytes : List ℕ) (files : List (K × List ℕ)) (made : List K) → map (λ (file : K × List ℕ). file.0) files ≡ made
    → map (λ (file : K × List ℕ). file.0) (cons_option (option_map (λ (k : K). (k, bytes)) o) files) ≡ cons_option o made
keys_more None bytes files made e = e
keys_more {K = K} (Some k) bytes files made e = ap (λ (ks : List K). k ∷ ks) e

pub item_keys : (found : List Found) → map (λ (file : Item × List ℕ). file.0) (filter_map item_of found) ≡ filter_map item_made (map (λ (one : Found). one.step) found)
item_keys [] = refl
item_keys (one ∷ found) = keys_more (item_made one.step) (unwrap_or one.bytes []) (filter_map item_of found) _ (item_keys found)

pub own_keys : (found : List Found) → map (λ (file : List ℕ × List ℕ). file.0) (filter_map own_of found) ≡ filter_map own_made (map (λ (one : Found). one.step) found)
own_keys [] = refl
own_keys (one ∷ found) = keys_more (own_made one.step) (unwrap_or one.bytes []) (filter_map own_of found) _ (own_keys found)

-- ---- their number and their bytes

one_kind : (step : Step) → (item_made step ≡ None) ⊎ (own_made step ≡ None)
one_kind (NoFile folder) = inl refl
one_kind (Read source) = by source.part refl
  where
    by : (part : Part) → source.part ≡ part → (item_made (Read source) ≡ None) ⊎ (own_made (Read source) ≡ None)
    by (parts.Item item) is = inr (ap own_in is)
    by (parts.Own path) is = inl (ap item_in is)

abbrev pub bytes_of : Found → ℕ
bytes_of one = length (unwrap_or one.bytes [])

abbrev pub size : {K : Type 0} → List (K × List ℕ) → ℕ
size files = sum_by (λ file. length file.1) files

module _ {K : Type 0} (bytes : List ℕ) (files : List (K × List ℕ)) where
  abbrev more : Option K → List (K × List ℕ)
  more o = cons_option (option_map (λ (k : K). (k, bytes)) o) files

  not_more : (o : Option K) → o ≡ None → more o ≡ files
  not_more o e = ap more e

  at_most_one : (o : Option K) → length (more o) ≤ length files + 1
  at_most_one None = omega arith
  at_most_one (Some k) = omega arith

  at_most_bytes : (o : Option K) → size (more o) ≤ size files + length bytes
  at_most_bytes None = omega arith
  at_most_bytes (Some k) = let cons = sum_by-cons (λ (file : K × List ℕ). length file.1) (k, bytes) files in omega (arith, cons)

pub few : (found : List Found) → length (filter_map item_of found) + length (filter_map own_of found) ≤ length found
few [] = omega arith
few (one ∷ found) =
    let bytes = unwrap_or one.bytes [] in
    let items = filter_map item_of found in
    let own = filter_map own_of found in
    let rest = few found in
    ⊎_elim
    (λ no_item.
    let same : length (more bytes items (item_made one.step)) ≡ length items = ap length (not_more bytes items (item_made one.step) no_item) in
    let most = at_most_one bytes own (own_made one.step) in
    omega (arith, same, most, rest))
    (λ no_own.
    let same : length (more bytes own (own_made one.step)) ≡ length own = ap length (not_more bytes own (own_made one.step) no_own) in
    let most = at_most_one bytes items (item_made one.step) in
    omega (arith, same, most, rest)) (one_kind one.step)

pub small : (found : List Found) → size (filter_map item_of found) + size (filter_map own_of found) ≤ sum_by bytes_of found
small [] = omega arith
small (one ∷ found) =
    let bytes = unwrap_or one.bytes [] in
    let items = filter_map item_of found in
    let own = filter_map own_of found in
    let rest = small found in
    let cons = sum_by-cons bytes_of one found in
    ⊎_elim
    (λ no_item.
    let same : size (more bytes items (item_made one.step)) ≡ size items = ap size (not_more bytes items (item_made one.step) no_item) in
    let most = at_most_bytes bytes own (own_made one.step) in
    omega (arith, same, most, rest, cons))
    (λ no_own.
    let same : size (more bytes own (own_made one.step)) ≡ size own = ap size (not_more bytes own (own_made one.step) no_own) in
    let most = at_most_bytes bytes items (item_made one.step) in
    omega (arith, same, most, rest, cons)) (one_kind one.step)

abbrev pub IsShort : List ℕ → Type 0
IsShort bytes = length bytes ≤ LONGEST_FILE

short_more : {K : Type 0} (o : Option K) (bytes : List ℕ) (files : List (K × List ℕ)) → IsShort bytes → All IsShort (map (λ (file : K × List ℕ). file.1) files)
    → All IsShort (map (λ (file : K × List ℕ). file.1) (cons_option (option_map (λ (k : K). (k, bytes)) o) files))
short_more None bytes files short all = all
short_more {K = K} (Some k) bytes files short all = All-cons IsShort bytes (map (λ (file : K × List ℕ). file.1) files) short all

abbrev AllShort : List Found → Type 0
AllShort found = (place : ℕ) (one : Found) → slice_get found place ≡ Some one → IsShort (unwrap_or one.bytes [])

pub short_items : (found : List Found) → AllShort found → All IsShort (map (λ (file : Item × List ℕ). file.1) (filter_map item_of found))
short_items [] all = All-nil IsShort
short_items (one ∷ found) all = short_more (item_made one.step) (unwrap_or one.bytes []) (filter_map item_of found) (all 0 one refl) (short_items found (λ place other is. all (suc place) other is))

pub short_own : (found : List Found) → AllShort found → All IsShort (map (λ (file : List ℕ × List ℕ). file.1) (filter_map own_of found))
short_own [] all = All-nil IsShort
short_own (one ∷ found) all = short_more (own_made one.step) (unwrap_or one.bytes []) (filter_map own_of found) (all 0 one refl) (short_own found (λ place other is. all (suc place) other is))

-- ---- where no step fails

both : (a b : Bool) → (a && b) ≡ true → (a ≡ true) × (b ≡ true)
both true true e = (refl, refl)
both true false e = cc
both false b e = cc

by_fit : (b : Bool) {F : Type 0} (fault : F) → cond b None (Some fault) ≡ None → b ≡ true
by_fit true fault e = refl
by_fit false fault e = cc

passes : (before : List Found) (path : List ℕ) (bytes : Option (List ℕ)) → fault_with before path bytes ≡ None → fits before (unwrap_or bytes []) ≡ true
passes before path None e = cc
passes before path (Some bytes) e = by_fit (fits before bytes) _ e

module _ (found : List Found) (none : NoneFails found) where
  fits_at : (place : ℕ) (one : Found) → slice_get found place ≡ Some one → fits (take place found) (unwrap_or one.bytes []) ≡ true
  fits_at place one is = passes (take place found) (path_of one.step) one.bytes (none place one is)

  pub all_short : AllShort found
  all_short place one is =
      let bytes = unwrap_or one.bytes [] in
      let rest = nat_lt (length (take place found)) MOST_FILES && nat_le (size_of (take place found) + length bytes) MOST_BYTES in
      let test : nat_le (length bytes) LONGEST_FILE ≡ true = (both (nat_le (length bytes) LONGEST_FILE) rest (fits_at place one is)).0 in
      grind (arith, nat_tests, test)

  behind : (place : ℕ) → place < length found → (length (take place found) < MOST_FILES) × (sum_by bytes_of (take place found) + bytes_of (get_or found place (record { step = NoFile []; bytes = None })) ≤ MOST_BYTES)
  behind place within =
      let d : Found = record { step = NoFile []; bytes = None } in
      let one = get_or found place d in
      let bytes = unwrap_or one.bytes [] in
      let count = nat_lt (length (take place found)) MOST_FILES in
      let whole = nat_le (size_of (take place found) + length bytes) MOST_BYTES in
      let rest : count && whole ≡ true = (both (nat_le (length bytes) LONGEST_FILE) (count && whole) (fits_at place one (slice_get-get_or found place d within))).1 in
      let sizes = sum-map bytes_of (take place found) in
      let few_before : nat_lt (length (take place found)) MOST_FILES ≡ true = (both count whole rest).0 in
      let few_bytes : nat_le (size_of (take place found) + length bytes) MOST_BYTES ≡ true = (both count whole rest).1 in
      (grind (arith, nat_tests, few_before), grind (arith, nat_tests, few_bytes, sizes))

  within_limits : (n : ℕ) → n ≡ length found → (length found ≤ MOST_FILES) × (sum_by bytes_of found ≤ MOST_BYTES)
  within_limits zero e = by found (sym e)
    where
      by : (all : List Found) → length all ≡ 0 → (length all ≤ MOST_FILES) × (sum_by bytes_of all ≤ MOST_BYTES)
      by [] e = (omega arith, omega arith)
      by (one ∷ all) e = absurd (omega (arith, e))
  within_limits (suc place) e =
      let d : Found = record { step = NoFile []; bytes = None } in
      let last = behind place (omega (arith, e)) in
      let count = length-take place found in
      let more_bytes = sum_by_more bytes_of found place d (omega (arith, e)) in
      let whole : take (place + 1) found ≡ found = take_all (place + 1) found (omega (arith, e)) in
      let all_bytes : sum_by bytes_of (take (place + 1) found) ≡ sum_by bytes_of found = ap (sum_by bytes_of) whole in
      (grind (arith, last.0, count, e), omega (arith, last.1, more_bytes, all_bytes))

  pub count_within : length found ≤ MOST_FILES
  count_within = (within_limits (length found) refl).0

  pub bytes_within : sum_by bytes_of found ≤ MOST_BYTES
  bytes_within = (within_limits (length found) refl).1
