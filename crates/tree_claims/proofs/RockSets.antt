-- Sets of rocks with a rock more or less.
use Rattle.std.proofs.Common.{◌≡◌, List, [], ◌∷◌, map, refl, sym, subst, ◌∙◌, Bool, true, false, not, cond, ◌&&◌, IsTrue, inl, inr, ⊎_elim, arith}
use Rattle.std.specs.Prelude.{◌⊎◌}
use Rattle.std.specs.List.{AllByRecursion, Contains}
use Rattle.std.specs.Str.{bytes_eq}
use Rattle.std.proofs.lemmas.List.Elements.{Contains-append_left, Contains-append_right, Contains-append_cases}
use Rattle.std.proofs.lemmas.List.Sorted.{Contains-permutation, IsPermutation-sym}
use Rattle.std.proofs.lemmas.Slice.Eq.{bytes_eq-Decides}
use Rattle.rocks_text.specs.declared.item.Item.{Item}
use Rattle.rocks_version.specs.Keys.{is_before}
use Rattle.rocks_version.specs.declared.key.RockKey.{RockKey}
use Rattle.rocks_version.proofs.OrderLaws.{listing_connected, listing_transitive}
use Rattle.tree_claims.specs.Claims.{Claim, claims_for, claims_of, claims_of_rock}
use Rattle.tree_claims.specs.Rocks.{HasRock, IsListed, is_same_rock, in_item_order, with_rock, without_rock}
use Rattle.tree_claims.proofs.ItemOrder.{same_items}
use Rattle.tree_claims.proofs.Members.{cons_behind, cons_cases, cons_here, filter_from, flat_contains, flat_from}

abbrev pub Rock : Type 0
Rock = RockKey × List Item

and_both : (a b : Bool) → (a && b) ≡ true → (a ≡ true) × (b ≡ true)
and_both true b h = (refl, h)
and_both false b h = cc

both_and : (a b : Bool) → a ≡ true → b ≡ true → (a && b) ≡ true
both_and a b h g = rw (h, g) refl

pub same_rock : (left right : RockKey) → is_same_rock left right ≡ true → left ≡ right
same_rock left right h =
    let parts = and_both (bytes_eq left.name right.name) (bytes_eq left.version right.version) h in
    let names = (bytes_eq-Decides left.name right.name).0 parts.0 in
    let versions = (bytes_eq-Decides left.version right.version).0 parts.1 in
    λ i. record { name = names i; version = versions i }

pub is_same : (left right : RockKey) → left ≡ right → is_same_rock left right ≡ true
is_same left right e =
    both_and (bytes_eq left.name right.name) (bytes_eq left.version right.version)
    ((bytes_eq-Decides left.name right.name).1 (λ i. (e i).name)) ((bytes_eq-Decides left.version right.version).1 (λ i. (e i).version))

-- ---- a rock more

cond_both : {X : Type 0} (P : X → Type 0) (b : Bool) (x y : X) → (b ≡ true → P x) → (b ≡ false → P y) → P (cond b x y)
cond_both P true x y h g = h refl
cond_both P false x y h g = g refl

with_from : (key : RockKey) (items : List Item) (rocks : List Rock) (rock : Rock) → Contains (with_rock key items rocks) rock → ((key, items) ≡ rock) ⊎ Contains rocks rock
with_from key items [] rock has = cons_cases (key, items) [] rock has
with_from key items (first ∷ rocks) rock has =
    cond_both (λ (l : List Rock). Contains l rock → ((key, items) ≡ rock) ⊎ Contains (first ∷ rocks) rock) (is_before key first.0) ((key, items) ∷ first ∷ rocks) (first ∷ with_rock key items rocks)
    (λ _ h. cons_cases (key, items) (first ∷ rocks) rock h)
    (λ _ h. ⊎_elim (λ e. inr (subst (λ (r : Rock). Contains (first ∷ rocks) r) e (cons_here first rocks)))
    (λ more. ⊎_elim inl (λ behind. inr (cons_behind first rocks rock behind)) (with_from key items rocks rock more)) (cons_cases first (with_rock key items rocks) rock h)) has

with_new : (key : RockKey) (items : List Item) (rocks : List Rock) → Contains (with_rock key items rocks) (key, items)
with_new key items [] = cons_here (key, items) []
with_new key items (first ∷ rocks) =
    cond_both (λ (l : List Rock). Contains l (key, items)) (is_before key first.0) ((key, items) ∷ first ∷ rocks) (first ∷ with_rock key items rocks)
    (λ _. cons_here (key, items) (first ∷ rocks)) (λ _. cons_behind first (with_rock key items rocks) (key, items) (with_new key items rocks))

with_old : (key : RockKey) (items : List Item) (rocks : List Rock) (rock : Rock) → Contains rocks rock → Contains (with_rock key items rocks) rock
with_old key items [] rock has = cons_behind (key, items) [] rock has
with_old key items (first ∷ rocks) rock has =
    cond_both (λ (l : List Rock). Contains l rock) (is_before key first.0) ((key, items) ∷ first ∷ rocks) (first ∷ with_rock key items rocks)
    (λ _. cons_behind (key, items) (first ∷ rocks) rock has)
    (λ _. ⊎_elim (λ e. subst (λ (r : Rock). Contains (first ∷ with_rock key items rocks) r) e (cons_here first (with_rock key items rocks)))
    (λ more. cons_behind first (with_rock key items rocks) rock (with_old key items rocks rock more)) (cons_cases first rocks rock has))

-- ---- its claims

abbrev of_rock : Rock → List Claim
of_rock rock = claims_of_rock rock.0 rock.1

pub claims_from : (rocks : List Rock) (claim : Claim) → Contains (claims_of rocks) claim → (rock : Rock) × Contains rocks rock × Contains (claims_of_rock rock.0 rock.1) claim
claims_from rocks claim has = flat_from of_rock rocks claim has

pub has_claims : (rocks : List Rock) (rock : Rock) (claim : Claim) → Contains rocks rock → Contains (claims_of_rock rock.0 rock.1) claim → Contains (claims_of rocks) claim
has_claims rocks rock claim among has = flat_contains of_rock rocks rock claim among has

same_claims : (key : RockKey) (items others : List Item) (claim : Claim) → ((item : Item) → Contains items item → Contains others item) → Contains (claims_of_rock key items) claim → Contains (claims_of_rock key others) claim
same_claims key items others claim same has =
    let found = flat_from (claims_for key) items claim has in
    flat_contains (claims_for key) others found.0 claim (same found.0 found.1) found.2

pub added_from : (rocks : List Rock) (key : RockKey) (items : List Item) (claim : Claim) → Contains (claims_of (with_rock key (in_item_order items) rocks)) claim → Contains (claims_of ((key, items) ∷ rocks)) claim
added_from rocks key items claim has =
    let found = claims_from (with_rock key (in_item_order items) rocks) claim has in
    ⊎_elim (λ e.
    let here = subst (λ (r : Rock). Contains (claims_of_rock r.0 r.1) claim) (sym e) found.2 in
    let moved = IsPermutation-sym items (in_item_order items) (same_items items) in
    Contains-append_left (claims_of_rock key items) (claims_of rocks) claim (same_claims key (in_item_order items) items claim (λ item h. Contains-permutation (in_item_order items) items item moved h) here))
    (λ old. Contains-append_right (claims_of_rock key items) (claims_of rocks) claim (has_claims rocks found.0 claim old found.2))
    (with_from key (in_item_order items) rocks found.0 found.1)

pub added_has : (rocks : List Rock) (key : RockKey) (items : List Item) (claim : Claim) → Contains (claims_of ((key, items) ∷ rocks)) claim → Contains (claims_of (with_rock key (in_item_order items) rocks)) claim
added_has rocks key items claim has =
    ⊎_elim (λ here. has_claims (with_rock key (in_item_order items) rocks) (key, in_item_order items) claim (with_new key (in_item_order items) rocks)
    (same_claims key items (in_item_order items) claim (λ item h. Contains-permutation items (in_item_order items) item (same_items items) h) here))
    (λ old. let found = claims_from rocks claim old in has_claims (with_rock key (in_item_order items) rocks) found.0 claim (with_old key (in_item_order items) rocks found.0 found.1) found.2)
    (Contains-append_cases (claims_of_rock key items) (claims_of rocks) claim has)

pub dropped_from : (rocks : List Rock) (key : RockKey) (claim : Claim) → Contains (claims_of (without_rock key rocks)) claim → Contains (claims_of rocks) claim
dropped_from rocks key claim has =
    let found = claims_from (without_rock key rocks) claim has in
    has_claims rocks found.0 claim (filter_from (λ (rock : Rock). not (is_same_rock rock.0 key)) rocks found.0 found.1).0 found.2

-- ---- the order of rocks

all_for : {X : Type 0} (P : X → Type 0) (xs : List X) → ((x : X) → Contains xs x → P x) → AllByRecursion P xs
all_for P [] h = tt
all_for P (x ∷ xs) h = (h x (cons_here x xs), all_for P xs (λ y has. h y (cons_behind x xs y has)))

of_all : {X : Type 0} (P : X → Type 0) (xs : List X) (x : X) → AllByRecursion P xs → Contains xs x → P x
of_all P [] x all (k, within, is) = absurd (omega arith)
of_all P (y ∷ xs) x all has = ⊎_elim (λ e. subst P e all.0) (λ more. of_all P xs x all.1 more) (cons_cases y xs x has)

behind_it : (key : RockKey) (first : RockKey) → ¬ (key ≡ first) → is_before key first ≡ false → IsTrue (is_before first key)
behind_it key first other not_before =
    ⊎_elim (λ e. absurd (other e)) (⊎_elim (λ h. let clash = sym h ∙ not_before in absurd cc) (λ h. h)) (listing_connected key first)

pub listed_with : (rocks : List Rock) (key : RockKey) (items : List Item) → IsListed rocks → ¬ (HasRock key rocks) → IsListed (with_rock key items rocks)
listed_with [] key items up absent = (tt, tt)
listed_with (first ∷ rocks) key items up absent =
    cond_both IsListed (is_before key first.0) ((key, items) ∷ first ∷ rocks) (first ∷ with_rock key items rocks)
    (λ before. ((before, all_for (λ (other : Rock). IsTrue (is_before key other.0)) rocks (λ other has. listing_transitive key first.0 other.0 before (of_all (λ (rock : Rock). IsTrue (is_before first.0 rock.0)) rocks other up.0 has))), up))
    (λ not_before. (
      all_for (λ (other : Rock). IsTrue (is_before first.0 other.0)) (with_rock key items rocks) (λ other has.
          ⊎_elim (λ e. subst (λ (r : Rock). IsTrue (is_before first.0 r.0)) e (behind_it key first.0 (λ e. absent (subst (λ (k : RockKey). Contains (map (λ (rock : Rock). rock.0) (first ∷ rocks)) k) (sym e) (cons_here first.0 (map (λ (rock : Rock). rock.0) rocks)))) not_before))
          (of_all (λ (rock : Rock). IsTrue (is_before first.0 rock.0)) rocks other up.0) (with_from key items rocks other has)),
      listed_with rocks key items up.1 (λ has. absent (cons_behind first.0 (map (λ (rock : Rock). rock.0) rocks) key has)),
    ))

pub listed_without : (rocks : List Rock) (key : RockKey) → IsListed rocks → IsListed (without_rock key rocks)
listed_without [] key up = tt
listed_without (first ∷ rocks) key up =
    cond_both IsListed (not (is_same_rock first.0 key)) (first ∷ without_rock key rocks) (without_rock key rocks)
    (λ _. (
      all_for (λ (other : Rock). IsTrue (is_before first.0 other.0)) (without_rock key rocks) (λ other has.
          of_all (λ (rock : Rock). IsTrue (is_before first.0 rock.0)) rocks other up.0 (filter_from (λ (rock : Rock). not (is_same_rock rock.0 key)) rocks other has).0),
      listed_without rocks key up.1,
    ))
    (λ _. listed_without rocks key up.1)
