-- What is held after a rock is added or dropped.
use Rattle.std.proofs.Common.{◌≡◌, ℕ, ◌+◌, ◌≤◌, List, [], ◌∷◌, ◌++◌, length, map, refl, sym, ap, subst, ◌∙◌, Bool, true, false, not, cond, ◌||◌, if◌then◌else◌, IsTrue, ⊎_elim, arith}
use Rattle.std.specs.Prelude.{◌↔◌, filter, insert}
use Rattle.std.specs.List.{Contains, list_any, position_or_len, prefix_len}
use Rattle.std.proofs.Math.Numerals.{one-add}
use Rattle.std.proofs.lemmas.List.Elements.{Contains-append_cases, Contains-append_left, Contains-append_right}
use Rattle.std.proofs.lemmas.List.Kept.{IsSortedBy-filter}
use Rattle.std.proofs.lemmas.List.Sorted.{Contains-permutation, IsPermutation-sym}
use Rattle.std.proofs.lemmas.List.Sums.{prefix_len-le-length}
use Rattle.rocks_text.specs.declared.item.Item.{Item}
use Rattle.rocks_version.specs.Keys.{is_before}
use Rattle.rocks_version.specs.declared.key.RockKey.{RockKey}
use Rattle.tree_claims.specs.Claims.{Claim, claims_of, claims_of_rock, IsClean}
use Rattle.tree_claims.specs.Index.{entry_of, goes_before, AreMerged, IsHeld, IsIndex}
use Rattle.tree_claims.specs.Rocks.{HasRock, in_item_order, is_same_rock, with_rock, without_rock}
use Rattle.tree_claims.specs.declared.entry.Entry.{Entry}
use Rattle.tree_claims.proofs.Entries.{goes_before_order}
use Rattle.tree_claims.proofs.FoundClash.{rock_claims_key}
use Rattle.tree_claims.proofs.Members.{cons_behind, cons_cases, cons_here, filter_contains, filter_from, nil_none}
use Rattle.tree_claims.proofs.RockSets.{Rock, added_from, added_has, claims_from, dropped_from, has_claims, is_same, listed_with, listed_without, same_rock}

-- ---- whether a rock is there

has_rock_if : (key : RockKey) (rocks : List Rock) → list_any (λ rock. is_same_rock rock.0 key) rocks ≡ true → HasRock key rocks
has_rock_if key [] h = cc
has_rock_if key (rock ∷ rocks) h =
    elim (is_same_rock rock.0 key) as (λ b. is_same_rock rock.0 key ≡ b → (b || list_any (λ (r : Rock). is_same_rock r.0 key) rocks) ≡ true → HasRock key (rock ∷ rocks)) [
      | true ↦ λ same _. subst (λ (k : RockKey). HasRock k (rock ∷ rocks)) (same_rock rock.0 key same) (cons_here rock.0 (map (λ (r : Rock). r.0) rocks))
      | false ↦ λ _ more. cons_behind rock.0 (map (λ (r : Rock). r.0) rocks) key (has_rock_if key rocks more)
    ] refl h

or_right : (a b : Bool) → b ≡ true → (a || b) ≡ true
or_right true b h = refl
or_right false b h = h

any_rock_if : (key : RockKey) (rocks : List Rock) → HasRock key rocks → list_any (λ rock. is_same_rock rock.0 key) rocks ≡ true
any_rock_if key [] h = absurd (nil_none key h)
any_rock_if key (rock ∷ rocks) h =
    ⊎_elim (λ e. ap (λ (b : Bool). b || list_any (λ (r : Rock). is_same_rock r.0 key) rocks) (is_same rock.0 key e))
    (λ more. or_right (is_same_rock rock.0 key) (list_any (λ (r : Rock). is_same_rock r.0 key) rocks) (any_rock_if key rocks more))
    (cons_cases rock.0 (map (λ (r : Rock). r.0) rocks) key h)

pub tells_rock : (key : RockKey) (held rocks : List Rock) (answer : Bool) → held ≡ rocks → answer ≡ list_any (λ rock. is_same_rock rock.0 key) held → IsTrue answer ↔ HasRock key rocks
tells_rock key held rocks answer same tells =
    (λ is. subst (HasRock key) same (has_rock_if key held (sym tells ∙ is)), λ has. tells ∙ any_rock_if key held (subst (HasRock key) (sym same) has))

-- ---- where a rock goes

pub with_is_insert : (key : RockKey) (items : List Item) (rocks : List Rock) → with_rock key items rocks ≡ insert rocks (position_or_len (λ rock. is_before key rock.0) rocks) (key, items)
with_is_insert key items [] = refl
with_is_insert key items (rock ∷ rocks) =
    let n = prefix_len (λ (r : Rock). not (is_before key r.0)) rocks in
    elim (is_before key rock.0) as (λ b. (if b then (key, items) ∷ rock ∷ rocks else rock ∷ with_rock key items rocks) ≡ insert (rock ∷ rocks) (cond (not b) (1 + n) 0) (key, items)) [
      | true ↦ refl
      | false ↦ rw (one-add n) (ap (λ (l : List Rock). rock ∷ l) (with_is_insert key items rocks))
    ]

pub place_within : (key : RockKey) (rocks : List Rock) → position_or_len (λ rock. is_before key rock.0) rocks ≤ length rocks
place_within key rocks = prefix_len-le-length (λ (r : Rock). not (is_before key r.0)) rocks

-- what is put where a rock goes, as it is read there
pub put_there : (key k : RockKey) (items list : List Item) (held seen room new : List Rock) (at : ℕ) → new ≡ insert room at (k, list) → room ≡ held → at ≡ position_or_len (λ rock. is_before key rock.0) seen → seen ≡ held
    → k ≡ key → list ≡ items → new ≡ with_rock key items held
put_there key k items list held seen room new at put same place also keys lists =
    let where_it_goes = place ∙ ap (position_or_len (λ (rock : Rock). is_before key rock.0)) also in
    put ∙ (λ i. insert (same i) (where_it_goes i) (keys i, lists i)) ∙ sym (with_is_insert key items held)

pub room_within : (key : RockKey) (held seen room : List Rock) (at : ℕ) → room ≡ held → at ≡ position_or_len (λ rock. is_before key rock.0) seen → seen ≡ held → at ≤ length room
room_within key held seen room at same place also =
    let within = place_within key held in
    let where_it_goes = place ∙ ap (position_or_len (λ (rock : Rock). is_before key rock.0)) also in
    let sizes = ap (λ (l : List Rock). length l) same in
    omega arith

pub held_by : (rocks seen : List Rock) (index entries : List Entry) → rocks ≡ seen → index ≡ entries → IsHeld seen entries → IsHeld rocks index
held_by rocks seen index entries e f h = subst (λ (l : List Rock). IsHeld l index) (sym e) (subst (λ (l : List Entry). IsHeld seen l) (sym f) h)

-- ---- a rock more

merged_whole : (rocks : List Rock) (key : RockKey) (items : List Item) (index own both : List Entry) → IsIndex (claims_of rocks) index → IsIndex (claims_of_rock key items) own → AreMerged index own both
    → (claim : Claim) → Contains (claims_of ((key, items) ∷ rocks)) claim → Contains both (entry_of claim)
merged_whole rocks key items index own both old new merged claim has =
    Contains-permutation (index ++ own) both (entry_of claim) merged.same
    (⊎_elim (λ here. Contains-append_right index own (entry_of claim) (new.whole claim here)) (λ there. Contains-append_left index own (entry_of claim) (old.whole claim there))
    (Contains-append_cases (claims_of_rock key items) (claims_of rocks) claim has))

merged_sound : (rocks : List Rock) (key : RockKey) (items : List Item) (index own both : List Entry) → IsIndex (claims_of rocks) index → IsIndex (claims_of_rock key items) own → AreMerged index own both
    → (entry : Entry) → Contains both entry → (claim : Claim) × Contains (claims_of ((key, items) ∷ rocks)) claim × (entry ≡ entry_of claim)
merged_sound rocks key items index own both old new merged entry has =
    ⊎_elim (λ there. let found = old.sound entry there in (found.0, Contains-append_right (claims_of_rock key items) (claims_of rocks) found.0 found.1, found.2))
    (λ here. let found = new.sound entry here in (found.0, Contains-append_left (claims_of_rock key items) (claims_of rocks) found.0 found.1, found.2))
    (Contains-append_cases index own entry (Contains-permutation both (index ++ own) entry (IsPermutation-sym (index ++ own) both merged.same) has))

pub held_with : (rocks : List Rock) (key : RockKey) (items : List Item) (index own both : List Entry) → IsHeld rocks index → ¬ (HasRock key rocks) → IsClean ((key, items) ∷ rocks)
    → IsIndex (claims_of_rock key items) own → AreMerged index own both → IsHeld (with_rock key (in_item_order items) rocks) both
held_with rocks key items index own both held absent clean new merged = record {
  listed = listed_with rocks key (in_item_order items) held.listed absent;
  clean = record { share = λ left right has_left has_right met. clean.share left right (added_from rocks key items left has_left) (added_from rocks key items right has_right) met };
  indexed = record {
    whole = λ claim has. merged_whole rocks key items index own both held.indexed new merged claim (added_from rocks key items claim has);
    sound = λ entry has. let found = merged_sound rocks key items index own both held.indexed new merged entry has in (found.0, added_has rocks key items found.0 found.1, found.2);
    in_order = merged.in_order;
  };
}

-- ---- a rock less

claim_rock_kept : (rocks : List Rock) (key : RockKey) (claim : Claim) → Contains (claims_of (without_rock key rocks)) claim → not (is_same_rock claim.key key) ≡ true
claim_rock_kept rocks key claim has =
    let found = claims_from (without_rock key rocks) claim has in
    let passes = (filter_from (λ (rock : Rock). not (is_same_rock rock.0 key)) rocks found.0 found.1).1 in
    ap (λ (k : RockKey). not (is_same_rock k key)) (rock_claims_key found.0.0 found.0.1 claim found.2) ∙ passes

claim_stays : (rocks : List Rock) (key : RockKey) (claim : Claim) → Contains (claims_of rocks) claim → not (is_same_rock claim.key key) ≡ true → Contains (claims_of (without_rock key rocks)) claim
claim_stays rocks key claim has kept =
    let found = claims_from rocks claim has in
    let same = rock_claims_key found.0.0 found.0.1 claim found.2 in
    has_claims (without_rock key rocks) found.0 claim
    (filter_contains (λ (rock : Rock). not (is_same_rock rock.0 key)) rocks found.0 found.1 (ap (λ (k : RockKey). not (is_same_rock k key)) (sym same) ∙ kept)) found.2

pub held_without : (rocks : List Rock) (key : RockKey) (index : List Entry) → IsHeld rocks index → IsHeld (without_rock key rocks) (filter (λ entry. not (is_same_rock entry.key key)) index)
held_without rocks key index held = record {
  listed = listed_without rocks key held.listed;
  clean = record { share = λ left right has_left has_right met. held.clean.share left right (dropped_from rocks key left has_left) (dropped_from rocks key right has_right) met };
  indexed = record {
    whole = λ claim has. filter_contains (λ (entry : Entry). not (is_same_rock entry.key key)) index (entry_of claim) (held.indexed.whole claim (dropped_from rocks key claim has)) (claim_rock_kept rocks key claim has);
    sound = λ entry has.
        let inside = filter_from (λ (e : Entry). not (is_same_rock e.key key)) index entry has in
        let found = held.indexed.sound entry inside.0 in
        (found.0, claim_stays rocks key found.0 found.1 (ap (λ (e : Entry). not (is_same_rock e.key key)) (sym found.2) ∙ inside.1), found.2);
    in_order = IsSortedBy-filter goes_before goes_before_order (λ (entry : Entry). not (is_same_rock entry.key key)) index held.indexed.in_order;
  };
}
