-- The first of some texts, and what a walk through a list finds.
use Rattle.std.proofs.Common.{◌≡◌, ◌≢◌, ℕ, zero, suc, ◌+◌, ◌<◌, List, [], ◌∷◌, ◌++◌, map, take, refl, sym, ap, ◌∙◌, subst, Option, Some, None, arith, add-one}
use Rattle.std.specs.Prelude.{slice_get}
use Rattle.std.proofs.lemmas.List.{take_more}
use Rattle.std.proofs.lemmas.Option.{get_or_from_slice_get, slice_get_within}
use Rattle.build_plan.specs.Steps.{first_some}

pub cons_none : (o : Option (List ℕ)) (os : List (Option (List ℕ))) → first_some (o ∷ os) ≡ None → (o ≡ None) × (first_some os ≡ None)
cons_none None os h = (refl, h)
cons_none (Some text) os h = absurd cc

pub none_cons : (o : Option (List ℕ)) (os : List (Option (List ℕ))) → o ≡ None → first_some os ≡ None → first_some (o ∷ os) ≡ None
none_cons None os e h = h
none_cons (Some text) os e h = absurd cc

pub none_append : (xs ys : List (Option (List ℕ))) → first_some xs ≡ None → first_some (xs ++ ys) ≡ first_some ys
none_append [] ys h = refl
none_append (None ∷ xs) ys h = none_append xs ys h
none_append (Some text ∷ xs) ys h = absurd cc

pub some_append : (xs ys : List (Option (List ℕ))) (text : List ℕ) → first_some xs ≡ Some text → first_some (xs ++ ys) ≡ Some text
some_append [] ys text h = absurd cc
some_append (None ∷ xs) ys text h = some_append xs ys text h
some_append (Some first ∷ xs) ys text h = h

-- ---- by places

pub record IsFirstAt (os : List (Option (List ℕ))) (text : List ℕ) : Type 0 where
  pub place : ℕ
  pub is : slice_get os place ≡ Some (Some text)
  pub first : (earlier : ℕ) (other : List ℕ) → earlier < place → slice_get os earlier ≢ Some (Some other)

later : (os : List (Option (List ℕ))) (place : ℕ) → ((earlier : ℕ) (other : List ℕ) → earlier < place → slice_get os earlier ≢ Some (Some other))
    → (earlier : ℕ) (other : List ℕ) → earlier < suc place → slice_get (None ∷ os) earlier ≢ Some (Some other)
later os place none zero other below at = cc
later os place none (suc earlier) other below at = none earlier other (omega arith) at

pub first_at : (os : List (Option (List ℕ))) (text : List ℕ) → first_some os ≡ Some text → IsFirstAt os text
first_at [] text h = absurd cc
first_at (None ∷ os) text h = let found = first_at os text h in record { place = suc found.place; is = found.is; first = later os found.place found.first }
first_at (Some first ∷ os) text h = record { place = zero; is = ap Some h; first = λ earlier other below at. absurd (omega arith) }

pub none_at : (os : List (Option (List ℕ))) → first_some os ≡ None → (place : ℕ) (text : List ℕ) → slice_get os place ≢ Some (Some text)
none_at [] h place text at = cc
none_at (None ∷ os) h zero text at = cc
none_at (None ∷ os) h (suc place) text at = none_at os h place text at
none_at (Some first ∷ os) h place text at = absurd cc

-- ---- a walk through a list

module _ {X : Type 0} (f : X → Option (List ℕ)) where
  stays : (xs : List X) (k : ℕ) (x : X) → slice_get xs k ≡ Some x → first_some (map f (take k xs)) ≡ None → f x ≡ None → first_some (map f (take (suc k) xs)) ≡ None
  stays [] k x at none here = absurd cc
  stays (y ∷ ys) zero x at none here = let same : y ≡ x = cc in none_cons (f y) [] (ap f same ∙ here) refl
  stays (y ∷ ys) (suc k) x at none here =
      let parts = cons_none (f y) (map f (take k ys)) none in
      none_cons (f y) (map f (take (suc k) ys)) parts.0 (stays ys k x at parts.1 here)

  pub stays_none : (xs : List X) (k : ℕ) (x : X) → slice_get xs k ≡ Some x → first_some (map f (take k xs)) ≡ None → f x ≡ None → first_some (map f (take (k + 1) xs)) ≡ None
  stays_none xs k x at none here = rw add-one (stays xs k x at none here)

  pub found_now : (xs : List X) (k : ℕ) (x : X) (text : List ℕ) → slice_get xs k ≡ Some x → first_some (map f (take k xs)) ≡ None → f x ≡ Some text → first_some (map f xs) ≡ Some text
  found_now [] k x text at none here = absurd cc
  found_now (y ∷ ys) zero x text at none here =
      let same : y ≡ x = cc in
      subst (λ (o : Option (List ℕ)). first_some (o ∷ map f ys) ≡ Some text) (sym (ap f same ∙ here)) refl
  found_now (y ∷ ys) (suc k) x text at none here =
      let parts = cons_none (f y) (map f (take k ys)) none in
      subst (λ (o : Option (List ℕ)). first_some (o ∷ map f ys) ≡ Some text) (sym parts.0) (found_now ys k x text at parts.1 here)

-- one element more
pub take_one_more : {X : Type 0} (xs : List X) (k : ℕ) (x : X) → slice_get xs k ≡ Some x → take (k + 1) xs ≡ take k xs ++ x ∷ []
take_one_more {X} xs k x at = take_more xs k x (slice_get_within xs k x at) ∙ ap (λ (y : X). take k xs ++ y ∷ []) (get_or_from_slice_get xs k x x at)
