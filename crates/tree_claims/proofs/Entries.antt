-- The entries of claims.
use Rattle.std.proofs.Common.{◌≡◌, ℕ, ◌+◌, ◌<◌, List, [], ◌∷◌, ◌++◌, length, get_or, take, map, refl, sym, ap, ◌∙◌, true, false, not, ◌&&◌, if◌then◌else◌, append_assoc}
use Rattle.std.specs.Cmp.{IsStrictWeakOrder}
use Rattle.std.specs.Cmp.Lexicographic.{slice_cmp}
use Rattle.std.specs.List.Sorted.{IsPermutation, IsSortedBy}
use Rattle.std.specs.Ordering.{eq_by_cmp, nat_cmp}
use Rattle.std.proofs.lemmas.Cmp.{nat_list_cmp_total}
use Rattle.std.proofs.lemmas.List.{append-nil, map-append, take_more}
use Rattle.std.proofs.lemmas.List.Concat.{flat_map-append}
use Rattle.std.proofs.lemmas.List.Sorted.{ranks_by, Contains-permutation, IsPermutation-sym}
use Rattle.std.proofs.lemmas.Map.Text.{is_eq-slice_cmp}
use Rattle.rocks_text.specs.declared.item.Item.{Item}
use Rattle.rocks_version.specs.declared.key.RockKey.{RockKey}
use Rattle.tree_paths.specs.Places.{plain_path, versioned_path}
use Rattle.tree_claims.specs.Claims.{Claim, claims_for, claims_of, claims_of_rock}
use Rattle.tree_claims.specs.Index.{entry_of, goes_before, may_stand, IsIndex}
use Rattle.tree_claims.specs.Rocks.{is_same_rock}
use Rattle.tree_claims.specs.declared.entry.Entry.{Entry}
use Rattle.tree_claims.proofs.Members.{contains_same, map_contains, map_from}

pub may_stand_is : (left right : Entry) → may_stand left right
    ≡ (eq_by_cmp (slice_cmp nat_cmp) left.path right.path
    && (if left.is_plain then right.is_plain else not right.is_plain
    && (eq_by_cmp (slice_cmp nat_cmp) left.key.name right.key.name && eq_by_cmp (slice_cmp nat_cmp) left.key.version right.key.version)))
unfolding may_stand
may_stand_is left right = rw (is_eq-slice_cmp left.path right.path, is_eq-slice_cmp left.key.name right.key.name, is_eq-slice_cmp left.key.version right.key.version) refl

pub same_rock_is : (left right : RockKey) → is_same_rock left right
    ≡ (eq_by_cmp (slice_cmp nat_cmp) left.name right.name && eq_by_cmp (slice_cmp nat_cmp) left.version right.version)
same_rock_is left right = rw (is_eq-slice_cmp left.name right.name, is_eq-slice_cmp left.version right.version) refl

pub goes_before_order : IsStrictWeakOrder goes_before
goes_before_order = ranks_by nat_list_cmp_total (λ (entry : Entry). entry.path)

pub entries_more : (key : RockKey) (items : List Item) (i : ℕ) (item : Item) (so_far : List Entry) → i < length items → item ≡ get_or items i item
    → so_far ≡ map entry_of (claims_of_rock key (take i items))
    → (so_far ++ record { path = plain_path item; key = key; is_plain = true } ∷ []) ++ record { path = versioned_path item key; key = key; is_plain = false } ∷ []
    ≡ map entry_of (claims_of_rock key (take (i + 1) items))
entries_more key items i item so_far within is same =
    let more = take_more items i item within ∙ ap (λ (x : Item). take i items ++ x ∷ []) (sym is) in
    let claims = ap (claims_of_rock key) more ∙ flat_map-append (claims_for key) (take i items) (item ∷ []) in
    let both = ap (map entry_of) claims ∙ map-append entry_of (claims_of_rock key (take i items)) (claims_for key item) in
    append_assoc so_far (record { path = plain_path item; key = key; is_plain = true } ∷ []) (record { path = versioned_path item key; key = key; is_plain = false } ∷ [])
    ∙ ap (λ (l : List Entry). l ++ map entry_of (claims_for key item)) same ∙ sym both

pub claims_more : (rocks : List (RockKey × List Item)) (i : ℕ) (rock : RockKey × List Item) (so_far more : List Entry) → i < length rocks → rock ≡ get_or rocks i rock
    → so_far ≡ map entry_of (claims_of (take i rocks)) → more ≡ map entry_of (claims_of_rock rock.0 rock.1) → so_far ++ more ≡ map entry_of (claims_of (take (i + 1) rocks))
claims_more rocks i rock so_far more within is same these =
    let longer = take_more rocks i rock within ∙ ap (λ (r : RockKey × List Item). take i rocks ++ r ∷ []) (sym is) in
    let claims = ap claims_of longer ∙ flat_map-append (λ (r : RockKey × List Item). claims_of_rock r.0 r.1) (take i rocks) (rock ∷ []) in
    let last = append-nil (claims_of_rock rock.0 rock.1) in
    (λ j. same j ++ these j) ∙ sym (ap (map entry_of) (claims ∙ ap (λ (l : List Claim). claims_of (take i rocks) ++ l) last) ∙ map-append entry_of (claims_of (take i rocks)) (claims_of_rock rock.0 rock.1))

pub index_from : (claims : List Claim) (entries sorted : List Entry) → entries ≡ map entry_of claims → IsPermutation entries sorted → IsSortedBy goes_before sorted → IsIndex claims sorted
index_from claims entries sorted same moved up = record {
  whole = λ claim has. Contains-permutation entries sorted (entry_of claim) moved (contains_same (map entry_of claims) entries (entry_of claim) (sym same) (map_contains entry_of claims claim has));
  sound = λ entry has. map_from entry_of claims entry (contains_same entries (map entry_of claims) entry same (Contains-permutation sorted entries entry (IsPermutation-sym entries sorted moved) has));
  in_order = up;
}
