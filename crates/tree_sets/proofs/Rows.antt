-- Rows of files: what stands in them, and that their paths differ.
use Rattle.std.proofs.Common.{◌≢◌, zero, suc, List, [], ◌∷◌, ◌++◌, map, refl, subst, arith}
use Rattle.std.proofs.lemmas.List.Elements.{Contains-append_right}
use Rattle.std.specs.List.{flat_map, AllByRecursion, Contains}
use Rattle.tree_claims.proofs.Members.{flat_from}
use Rattle.tree_sets.specs.Trees.{File, HaveOwnPaths}

-- no file of a row has this one's path
abbrev pub IsNowhere : File → List File → Type 0
IsNowhere file files = AllByRecursion (λ other. other.0 ≢ file.0) files

-- ---- what stands in a row

pub behind : {X : Type 0} (first : X) (xs : List X) (x : X) → Contains xs x → Contains (first ∷ xs) x
behind first xs x among = Contains-append_right (first ∷ []) xs x among

pub all_at : {X : Type 0} (P : X → Type 0) (xs : List X) (x : X) → AllByRecursion P xs → Contains xs x → P x
all_at P [] x all (k, within, is) = absurd (omega arith)
all_at P (y ∷ xs) x all (zero, within, is) = subst P is all.0
all_at P (y ∷ xs) x all (suc k, within, is) = all_at P xs x all.1 (k, omega arith, is)

pub all_from : {X : Type 0} (P : X → Type 0) (xs : List X) → ((x : X) → Contains xs x → P x) → AllByRecursion P xs
all_from P [] each = tt
all_from P (x ∷ xs) each = (each x (0, omega arith, refl), all_from P xs (λ y among. each y (behind x xs y among)))

pub all_mapped : {X Y : Type 0} (P : Y → Type 0) (f : X → Y) (xs : List X) → AllByRecursion (λ x. P (f x)) xs → AllByRecursion P (map f xs)
all_mapped P f [] all = tt
all_mapped P f (x ∷ xs) all = (all.0, all_mapped P f xs all.1)

pub all_append : {X : Type 0} (P : X → Type 0) (xs ys : List X) → AllByRecursion P xs → AllByRecursion P ys → AllByRecursion P (xs ++ ys)
all_append P [] ys front back = back
all_append P (x ∷ xs) ys front back = (front.0, all_append P xs ys front.1 back)

-- ---- paths of their own

-- a row behind another, of which no file has the path of one of the other
pub own_append : (files more : List File) → HaveOwnPaths files → HaveOwnPaths more
    → ((file other : File) → Contains files file → Contains more other → other.0 ≢ file.0) → HaveOwnPaths (files ++ more)
own_append [] more own rest apart = rest
own_append (file ∷ files) more own rest apart =
    let elsewhere = all_from (λ other. other.0 ≢ file.0) more (λ other among. apart file other (0, omega arith, refl) among) in (
      all_append (λ other. other.0 ≢ file.0) files more own.0 elsewhere,
      own_append files more own.1 rest (λ next other among. apart next other (behind file files next among)),
    )

-- this holds of each element and each behind it
abbrev pub Pairwise : {X : Type 0} → (X → X → Type 0) → List X → Type 0
Pairwise R [] = Unit {0}
Pairwise R (x ∷ xs) = AllByRecursion (R x) xs × Pairwise R xs

-- rows behind each other, each with paths of its own, of which no two have one in common
pub own_flat : {X : Type 0} (row : X → List File) (R : X → X → Type 0)
    → ((x y : X) (file other : File) → R x y → Contains (row x) file → Contains (row y) other → other.0 ≢ file.0)
    → (xs : List X) → AllByRecursion (λ x. HaveOwnPaths (row x)) xs → Pairwise R xs → HaveOwnPaths (flat_map row xs)
own_flat row R apart [] own pairs = tt
own_flat row R apart (x ∷ xs) own pairs =
    own_append (row x) (flat_map row xs) own.0 (own_flat row R apart xs own.1 pairs.1)
    (λ file other among there.
    let found = flat_from row xs other there in
    apart x found.0 file other (all_at (R x) xs found.0 pairs.0 found.1) among found.2)

-- a row of files of which no two have one path
pub own_mapped : {X : Type 0} (place : X → File) (xs : List X) → Pairwise (λ x y. (place y).0 ≢ (place x).0) xs → HaveOwnPaths (map place xs)
own_mapped place [] pairs = tt
own_mapped place (x ∷ xs) pairs = (all_mapped (λ other. other.0 ≢ (place x).0) place xs pairs.0, own_mapped place xs pairs.1)
