-- Lists that rise by a total order: what keeps them so.
use Rattle.std.proofs.Common.{◌≡◌, List, [], ◌∷◌, ◌++◌, map, cond, Bool, true, false}
use Rattle.std.specs.List.{filter, AllByRecursion, Contains}
use Rattle.std.specs.List.Sorted.{IsStrictlySortedBy}
use Rattle.std.specs.declared.cmp.Ordering.{Ordering}
use Rattle.std.specs.declared.cmp.Ordering.TheVariants.{Less}
use Rattle.providers.specs.Lists.{Rises}
use Rattle.tree_claims.proofs.Members.{cons_behind, cons_here}
use Rattle.tree_model.proofs.Rows.{all_append, all_from, all_mapped}

pub rises_if_sorted : {X : Type 0} (cmp : X → X → Ordering) (xs : List X) → IsStrictlySortedBy cmp xs → Rises cmp xs
unfolding IsStrictlySortedBy
rises_if_sorted cmp [] up = tt
rises_if_sorted cmp (x ∷ xs) up = (up.0, rises_if_sorted cmp xs up.1)

pub sorted_if_rises : {X : Type 0} (cmp : X → X → Ordering) (xs : List X) → Rises cmp xs → IsStrictlySortedBy cmp xs
unfolding IsStrictlySortedBy
sorted_if_rises cmp [] up = tt
sorted_if_rises cmp (x ∷ xs) up = (up.0, sorted_if_rises cmp xs up.1)

pub rises_mapped : {X Y : Type 0} (cmp : X → X → Ordering) (by : Y → Y → Ordering) (f : X → Y) → ((x y : X) → cmp x y ≡ Less → by (f x) (f y) ≡ Less) → (xs : List X) → Rises cmp xs → Rises by (map f xs)
rises_mapped {X = X} cmp by f keeps [] up = tt
rises_mapped {X = X} cmp by f keeps (x ∷ xs) up = (all_mapped (λ z. by (f x) z ≡ Less) f xs (weaker xs up.0), rises_mapped cmp by f keeps xs up.1)
  where
    weaker : (l : List X) → AllByRecursion (λ y. cmp x y ≡ Less) l → AllByRecursion (λ y. by (f x) (f y) ≡ Less) l
    weaker [] all = tt
    weaker (y ∷ l) all = (keeps x y all.0, weaker l all.1)

all_filtered : {X Y : Type 0} (P : Y → Type 0) (f : X → Y) (test : X → Bool) (xs : List X) → AllByRecursion P (map f xs) → AllByRecursion P (map f (filter test xs))
all_filtered P f test [] all = tt
all_filtered {X} P f test (x ∷ xs) all = elim (test x) as (λ b. AllByRecursion P (map f (cond b (x ∷ filter test xs) (filter test xs)))) [
  | true ↦ (all.0, all_filtered P f test xs all.1)
  | false ↦ all_filtered P f test xs all.1
]

pub rises_filtered : {X Y : Type 0} (cmp : Y → Y → Ordering) (f : X → Y) (test : X → Bool) (xs : List X) → Rises cmp (map f xs) → Rises cmp (map f (filter test xs))
rises_filtered cmp f test [] up = tt
rises_filtered cmp f test (x ∷ xs) up = elim (test x) as (λ b. Rises cmp (map f (cond b (x ∷ filter test xs) (filter test xs)))) [
  | true ↦ (all_filtered (λ y. cmp (f x) y ≡ Less) f test xs up.0, rises_filtered cmp f test xs up.1)
  | false ↦ rises_filtered cmp f test xs up.1
]

pub rises_append : {X : Type 0} (cmp : X → X → Ordering) (xs ys : List X) → Rises cmp xs → Rises cmp ys → ((x y : X) → Contains xs x → Contains ys y → cmp x y ≡ Less) → Rises cmp (xs ++ ys)
rises_append cmp [] ys up up_too below = up_too
rises_append cmp (x ∷ xs) ys up up_too below = (
  all_append (λ z. cmp x z ≡ Less) xs ys up.0 (all_from (λ z. cmp x z ≡ Less) ys (λ y has. below x y (cons_here x xs) has)),
  rises_append cmp xs ys up.1 up_too (λ z y has has_too. below z y (cons_behind x xs z has) has_too),
)
