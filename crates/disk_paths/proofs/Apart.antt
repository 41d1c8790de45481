-- Names that ascend: what is below a folder stands behind it, and first among what begins with its name.
use Rattle.std.proofs.Common.{◌≡◌, ◌≤◌, ◌<◌, ◌-◌, ◌↔◌, ℕ, List, [], ◌∷◌, ◌++◌, length, map, take, drop, get_or, refl, sym, subst, ap, ◌∙◌, arith, true, false}
use Rattle.std.specs.Bool.{nat_eq}
use Rattle.std.specs.declared.cmp.Ordering.{Ordering}
use Rattle.std.specs.declared.cmp.Ordering.TheVariants.{Less, Equal, Greater}
use Rattle.std.specs.Ordering.{MatchOrdering, nat_cmp, ordering_then}
use Rattle.std.specs.List.{AllByRecursion, starts_with}
use Rattle.std.specs.List.Sorted.{IsStrictlySortedBy}
use Rattle.std.proofs.lemmas.Bool.Decides.{Decides-eqb}
use Rattle.std.proofs.lemmas.Cmp.{ranked}
use Rattle.std.proofs.lemmas.List.{take_all}
use Rattle.std.proofs.lemmas.Map.Keys.{sorted_head, sorted_tail}
use Rattle.std.proofs.lemmas.Slice.Eq.{starts_is}
use Rattle.rocks_text.specs.Files.{path_cmp}
use Rattle.rocks_text.specs.Paths.{IsFolderOf}
use Rattle.disk_paths.specs.Listings.{HasNoneBelow}

-- where both ways round the first bytes leave a path less, they are the same byte
same_first : (x y : ℕ) (o u p q : Ordering) → MatchOrdering o (x < y) (x ≡ y) (y < x) → MatchOrdering u (y < x) (y ≡ x) (x < y) → ordering_then o p ≡ Less → ordering_then u q ≡ Less → (x ≡ y) × (p ≡ Less) × (q ≡ Less)
same_first x y Less Less p q a b h k = let low : x < y = a in let high : y < x = b in absurd (omega arith)
same_first x y Less Equal p q a b h k = let low : x < y = a in let high : y ≡ x = b in absurd (omega arith)
same_first x y Less Greater p q a b h k = let never : Greater ≡ Less = k in absurd cc
same_first x y Equal Less p q a b h k = let low : x ≡ y = a in let high : y < x = b in absurd (omega arith)
same_first x y Equal Equal p q a b h k = (a, h, k)
same_first x y Equal Greater p q a b h k = let low : x ≡ y = a in let high : x < y = b in absurd (omega arith)
same_first x y Greater u p q a b h k = let never : Greater ≡ Less = h in absurd cc

-- what stands between a path and another that begins with it begins with it too
pub between : (a n r : List ℕ) → path_cmp a n ≡ Less → path_cmp n (a ++ r) ≡ Less → (s : List ℕ) × (n ≡ a ++ s)
between [] n r low high = (n, refl)
between (x ∷ a) [] r low high = let never : Greater ≡ Less = low in absurd cc
between (x ∷ a) (y ∷ n) r low high =
    let first = same_first x y (nat_cmp x y) (nat_cmp y x) (path_cmp a n) (path_cmp n (a ++ r)) (ranked x y (nat_cmp x y) refl) (ranked y x (nat_cmp y x) refl) low high in
    let rest = between a n r first.1 first.2 in
    (rest.0, ap (λ byte. byte ∷ n) (sym first.0) ∙ ap (λ bytes. x ∷ bytes) rest.1)

-- a path is less than what begins with it and goes on
pub less_than_longer : (a : List ℕ) (b : ℕ) (r : List ℕ) → path_cmp a (a ++ b ∷ r) ≡ Less
less_than_longer [] b r = refl
less_than_longer (x ∷ a) b r = tied x (nat_cmp x x) (path_cmp a (a ++ b ∷ r)) (ranked x x (nat_cmp x x) refl) (less_than_longer a b r)
  where
    tied : (x : ℕ) (o p : Ordering) → MatchOrdering o (x < x) (x ≡ x) (x < x) → p ≡ Less → ordering_then o p ≡ Less
    tied x Less p a h = refl
    tied x Equal p a h = h
    tied x Greater p a h = let never : x < x = a in absurd (omega arith)

-- no path is less than another that is less than it
pub never_both : (a b : List ℕ) → path_cmp a b ≡ Less → path_cmp b a ≡ Less → ⊥
never_both [] [] low high = let never : Equal ≡ Less = low in cc
never_both [] (y ∷ b) low high = let never : Greater ≡ Less = high in cc
never_both (x ∷ a) [] low high = let never : Greater ≡ Less = low in cc
never_both (x ∷ a) (y ∷ b) low high =
    let first = same_first x y (nat_cmp x y) (nat_cmp y x) (path_cmp a b) (path_cmp b a) (ranked x y (nat_cmp x y) refl) (ranked y x (nat_cmp y x) refl) low high in
    never_both a b first.1 first.2

all_more : (P Q : List ℕ → Type 0) → ((path : List ℕ) → P path → Q path) → (paths : List (List ℕ)) → AllByRecursion P paths → AllByRecursion Q paths
all_more P Q more [] all = tt
all_more P Q more (path ∷ paths) all = (more path all.0, all_more P Q more paths all.1)

-- where the next path doesn't begin with a folder's name, none of the later ones is below the folder
pub none_behind : (folder first : List ℕ) (paths : List (List ℕ)) → IsStrictlySortedBy path_cmp (folder ∷ first ∷ paths) → starts_with nat_eq first folder ≡ false → HasNoneBelow (first ∷ paths) folder
none_behind folder first paths sorted other =
    let starts = starts_is Decides-eqb first folder (starts_with nat_eq first folder) refl in
    let low = (sorted_head path_cmp folder (first ∷ paths) sorted).0 in
    let never : (rest : List ℕ) → first ≡ folder ++ rest → ⊥ = λ rest is. (let yes = starts.1 rest is in let no : false ≡ true = sym other ∙ yes in cc) in (
      λ below. never (47 ∷ below.0) below.1,
      all_more (λ path. path_cmp first path ≡ Less) (λ path. IsFolderOf folder path → ⊥)
          (λ path high below. let found = between folder first (47 ∷ below.0) low (subst (λ p. path_cmp first p ≡ Less) below.1 high) in never found.0 found.1)
          paths (sorted_head path_cmp first paths (sorted_tail path_cmp folder (first ∷ paths) sorted)),
    )

-- the same of a list that is seen through its paths
pub none_from : {X : Type 0} (bytes : X → List ℕ) (names : List X) (first : X) (folder : List ℕ) → 1 ≤ length names → first ≡ get_or names 0 first → IsStrictlySortedBy path_cmp (folder ∷ map bytes names) → starts_with nat_eq (bytes first) folder ≡ false → HasNoneBelow (map bytes names) folder
none_from bytes [] first folder some is sorted other = absurd (omega arith)
none_from bytes (name ∷ names) first folder some is sorted other = none_behind folder (bytes name) (map bytes names) sorted (subst (λ n. starts_with nat_eq (bytes n) folder ≡ false) is other)

-- no path is that of a folder of a later one
abbrev pub AreApart : (paths : List (List ℕ)) → Type 0
AreApart [] = Unit {0}
AreApart (path ∷ paths) = HasNoneBelow paths path × AreApart paths

with_first : (first : List ℕ) (paths folders : List (List ℕ)) → AllByRecursion (λ path. path_cmp first path ≡ Less) folders → AllByRecursion (HasNoneBelow paths) folders → AllByRecursion (HasNoneBelow (first ∷ paths)) folders
with_first first paths [] low all = tt
with_first first paths (folder ∷ folders) low all =
    (((λ below. never_both first folder low.0 (subst (λ p. path_cmp folder p ≡ Less) (sym below.1) (less_than_longer folder 47 below.0))), all.0), with_first first paths folders low.1 all.1)

without_first : (first : List ℕ) (paths folders : List (List ℕ)) → AllByRecursion (HasNoneBelow (first ∷ paths)) folders → AllByRecursion (HasNoneBelow paths) folders
without_first first paths [] all = tt
without_first first paths (folder ∷ folders) all = (all.0.1, without_first first paths folders all.1)

not_below_itself : (path : List ℕ) → IsFolderOf path path → ⊥
not_below_itself path below =
    let less = subst (λ p. path_cmp path p ≡ Less) (sym below.1) (less_than_longer path 47 below.0) in
    never_both path path less less

-- among paths that ascend it is enough to look at the later ones
pub apart_as_all : (paths : List (List ℕ)) → IsStrictlySortedBy path_cmp paths → AreApart paths ↔ AllByRecursion (HasNoneBelow paths) paths
apart_as_all [] sorted = (λ _. tt, λ _. tt)
apart_as_all (path ∷ paths) sorted =
    let rest = apart_as_all paths (sorted_tail path_cmp path paths sorted) in (
      λ apart. ((not_below_itself path, apart.0), with_first path paths paths (sorted_head path_cmp path paths sorted) (rest.0 apart.1)),
      λ all. (all.0.1, rest.1 (without_first path paths paths all.1)),
    )

-- What holds of names that are seen through their paths holds of those behind the first.
all_but_first : {X : Type 0} (name : X) (names : List X) → take (length (name ∷ names) - 1) names ≡ names
all_but_first name names = take_all (length (name ∷ names) - 1) names (omega arith)

pub sorted_behind : {X : Type 0} (bytes : X → List ℕ) (names : List X) (folder : List ℕ) → 1 ≤ length names → IsStrictlySortedBy path_cmp (folder ∷ map bytes names) → IsStrictlySortedBy path_cmp (folder ∷ map bytes (take (length names - 1) (drop 1 names)))
unfolding IsStrictlySortedBy
sorted_behind bytes [] folder some sorted = absurd (omega arith)
sorted_behind bytes (name ∷ names) folder some sorted =
    subst (λ behind. IsStrictlySortedBy path_cmp (folder ∷ map bytes behind)) (sym (all_but_first name names)) (sorted.0.1, sorted.1.1)

pub sorted_rest : {X : Type 0} (bytes : X → List ℕ) (names : List X) → 1 ≤ length names → IsStrictlySortedBy path_cmp (map bytes names) → IsStrictlySortedBy path_cmp (map bytes (take (length names - 1) (drop 1 names)))
sorted_rest bytes [] some sorted = absurd (omega arith)
sorted_rest bytes (name ∷ names) some sorted =
    subst (λ behind. IsStrictlySortedBy path_cmp (map bytes behind)) (sym (all_but_first name names)) (sorted_tail path_cmp (bytes name) (map bytes names) sorted)

pub apart_first : {X : Type 0} (bytes : X → List ℕ) (names : List X) (first : X) → 1 ≤ length names → first ≡ get_or names 0 first → AreApart (map bytes names) → HasNoneBelow (map bytes (take (length names - 1) (drop 1 names))) (bytes first)
apart_first bytes [] first some is apart = absurd (omega arith)
apart_first bytes (name ∷ names) first some is apart =
    subst (λ behind. HasNoneBelow (map bytes behind) (bytes first)) (sym (all_but_first name names)) (subst (λ n. HasNoneBelow (map bytes names) (bytes n)) (sym is) apart.0)

pub apart_behind : {X : Type 0} (bytes : X → List ℕ) (names : List X) (first : X) (Q : Type 0) → 1 ≤ length names → first ≡ get_or names 0 first → HasNoneBelow (map bytes (take (length names - 1) (drop 1 names))) (bytes first)
    → (AreApart (map bytes names) ↔ Q) → (AreApart (map bytes (take (length names - 1) (drop 1 names))) ↔ Q)
apart_behind bytes [] first Q some is none question = absurd (omega arith)
apart_behind bytes (name ∷ names) first Q some is none question =
    let same = all_but_first name names in
    let lone : HasNoneBelow (map bytes names) (bytes name) = subst (λ n. HasNoneBelow (map bytes names) (bytes n)) is (subst (λ behind. HasNoneBelow (map bytes behind) (bytes first)) same none) in
    subst (λ behind. AreApart (map bytes behind) ↔ Q) (sym same) ((λ rest. question.0 (lone, rest)), (λ q. (question.1 q).1))

pub apart_none : {X : Type 0} (bytes : X → List ℕ) (names : List X) → length names < 1 → AreApart (map bytes names)
apart_none bytes [] few = tt
apart_none bytes (name ∷ names) few = absurd (omega arith)
