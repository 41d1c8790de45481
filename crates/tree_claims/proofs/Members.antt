-- What lists contain.
use Rattle.std.proofs.Common.{◌≡◌, zero, suc, List, [], ◌∷◌, ◌++◌, map, refl, sym, ap, subst, ◌∙◌, inl, inr, ⊎_elim, arith, Bool, true, false, cond}
use Rattle.std.specs.Prelude.{◌⊎◌, filter}
use Rattle.std.specs.List.{flat_map, Contains, Any}
use Rattle.std.proofs.lemmas.List.Elements.{Contains-append_left, Contains-append_right, Contains-append_cases}

pub cons_cases : {X : Type 0} (x : X) (xs : List X) (y : X) → Contains (x ∷ xs) y → (x ≡ y) ⊎ Contains xs y
cons_cases x xs y (zero, within, is) = inl is
cons_cases x xs y (suc k, within, is) = inr (k, omega arith, is)

pub cons_here : {X : Type 0} (x : X) (xs : List X) → Contains (x ∷ xs) x
cons_here x xs = (0, omega arith, refl)

pub cons_behind : {X : Type 0} (x : X) (xs : List X) (y : X) → Contains xs y → Contains (x ∷ xs) y
cons_behind x xs y (k, within, is) = (suc k, omega arith, is)

pub nil_none : {X : Type 0} (y : X) → Contains [] y → ⊥
nil_none y (k, within, is) = absurd (omega arith)

pub contains_same : {X : Type 0} (xs ys : List X) (y : X) → xs ≡ ys → Contains xs y → Contains ys y
contains_same {X} xs ys y e h = subst (λ (l : List X). Contains l y) e h

pub map_contains : {X Y : Type 0} (f : X → Y) (xs : List X) (x : X) → Contains xs x → Contains (map f xs) (f x)
map_contains f [] x h = absurd (nil_none x h)
map_contains {X} {Y} f (x ∷ xs) y h = ⊎_elim (λ e. subst (λ (z : Y). Contains (map f (x ∷ xs)) z) (ap f e) (cons_here (f x) (map f xs))) (λ more. cons_behind (f x) (map f xs) (f y) (map_contains f xs y more)) (cons_cases x xs y h)

pub map_from : {X Y : Type 0} (f : X → Y) (xs : List X) (y : Y) → Contains (map f xs) y → (x : X) × Contains xs x × (y ≡ f x)
map_from f [] y h = absurd (nil_none y h)
map_from f (x ∷ xs) y h = ⊎_elim (λ e. (x, cons_here x xs, sym e)) (λ more. let found = map_from f xs y more in (found.0, cons_behind x xs found.0 found.1, found.2)) (cons_cases (f x) (map f xs) y h)

pub flat_contains : {X Y : Type 0} (f : X → List Y) (xs : List X) (x : X) (y : Y) → Contains xs x → Contains (f x) y → Contains (flat_map f xs) y
flat_contains f [] x y h g = absurd (nil_none x h)
flat_contains {X} f (z ∷ xs) x y h g =
    ⊎_elim (λ e. Contains-append_left (f z) (flat_map f xs) y (subst (λ (w : X). Contains (f w) y) (sym e) g))
    (λ more. Contains-append_right (f z) (flat_map f xs) y (flat_contains f xs x y more g)) (cons_cases z xs x h)

pub flat_from : {X Y : Type 0} (f : X → List Y) (xs : List X) (y : Y) → Contains (flat_map f xs) y → (x : X) × Contains xs x × Contains (f x) y
flat_from f [] y h = absurd (nil_none y h)
flat_from f (x ∷ xs) y h =
    ⊎_elim (λ here. (x, cons_here x xs, here)) (λ more. let found = flat_from f xs y more in (found.0, cons_behind x xs found.0 found.1, found.2))
    (Contains-append_cases (f x) (flat_map f xs) y h)

pub filter_contains : {X : Type 0} (p : X → Bool) (xs : List X) (x : X) → Contains xs x → p x ≡ true → Contains (filter p xs) x
filter_contains p [] x h is = absurd (nil_none x h)
filter_contains {X} p (y ∷ xs) x h is =
    elim (p y) as (λ b. p y ≡ b → Contains (cond b (y ∷ filter p xs) (filter p xs)) x) [
      | true ↦ λ _. ⊎_elim (λ e. subst (λ (z : X). Contains (y ∷ filter p xs) z) e (cons_here y (filter p xs))) (λ more. cons_behind y (filter p xs) x (filter_contains p xs x more is)) (cons_cases y xs x h)
      | false ↦ λ no'. ⊎_elim (λ e. let clash = sym is ∙ ap p (sym e) ∙ no' in absurd cc) (λ more. filter_contains p xs x more is) (cons_cases y xs x h)
    ] refl

pub filter_from : {X : Type 0} (p : X → Bool) (xs : List X) (x : X) → Contains (filter p xs) x → Contains xs x × (p x ≡ true)
filter_from p [] x h = absurd (nil_none x h)
filter_from {X} p (y ∷ xs) x h =
    elim (p y) as (λ b. p y ≡ b → Contains (cond b (y ∷ filter p xs) (filter p xs)) x → Contains (y ∷ xs) x × (p x ≡ true)) [
      | true ↦ λ yes' has. ⊎_elim (λ e. (subst (λ (z : X). Contains (y ∷ xs) z) e (cons_here y xs), ap p (sym e) ∙ yes')) (λ more. let found = filter_from p xs x more in (cons_behind y xs x found.0, found.1)) (cons_cases y (filter p xs) x has)
      | false ↦ λ no' has. let found = filter_from p xs x has in (cons_behind y xs x found.0, found.1)
    ] refl h

-- ---- `Any`, by what the list contains

pub any_from : {X : Type 0} (P : X → Type 0) (xs : List X) (x : X) → Contains xs x → P x → Any P xs
any_from P xs x (k, within, is) h = (k, x, within, is, h)

pub any_some : {X : Type 0} (P : X → Type 0) (xs : List X) → Any P xs → (x : X) × Contains xs x × P x
any_some P xs (k, x, within, is, h) = (x, (k, within, is), h)

pub any_left : {X : Type 0} (P : X → Type 0) (xs ys : List X) → Any P xs → Any P (xs ++ ys)
any_left P xs ys any = let found = any_some P xs any in any_from P (xs ++ ys) found.0 (Contains-append_left xs ys found.0 found.1) found.2
