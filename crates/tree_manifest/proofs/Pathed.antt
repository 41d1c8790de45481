-- A table of paths in order, as the list of its paths.
use Rattle.std.proofs.Common.{◌≡◌, ℕ, List, [], ◌∷◌, ◌++◌, refl, sym, ap, ◌∙◌, subst, map, append_assoc, append-nil}
use Rattle.std.specs.List.{AllByRecursion}
use Rattle.std.specs.List.Sorted.{IsStrictlySortedBy}
use Rattle.std.specs.declared.cmp.Ordering.TheVariants.{Less}
use Rattle.lua_value.specs.declared.key.Key.TheVariants.{Text}
use Rattle.lua_value.specs.Pairs.{Pairs, table_value, no_pairs, with_pair, put}
use Rattle.lua_value.proofs.Puts.{put-after}
use Rattle.rocks_text.specs.Files.{path_cmp}
use Rattle.rocks_version.specs.declared.key.RockKey.{RockKey}
use Rattle.manifest_text.specs.Text.{keys_pairs, provided_pairs, with_provided}

abbrev pub Paths : Type 0
Paths = List (List ℕ × List RockKey)

abbrev pub path_pairs : Paths → Pairs
path_pairs [] = no_pairs
path_pairs (path ∷ paths) = with_pair (Text path.0) (table_value (keys_pairs path.1)) (path_pairs paths)

abbrev AreBelow : Paths → List ℕ → Type 0
AreBelow paths path = AllByRecursion (λ other. path_cmp other.0 path ≡ Less) paths

put_last : (paths : Paths) (path : List ℕ × List RockKey) → AreBelow paths path.0
    → put (Text path.0) (table_value (keys_pairs path.1)) (path_pairs paths) ≡ path_pairs (paths ++ path ∷ [])
put_last [] path below = refl
put_last (first ∷ paths) path below =
    put-after (Text path.0) (table_value (keys_pairs path.1)) (Text first.0) (table_value (keys_pairs first.1))
    (path_pairs paths) below.0
    ∙ ap (with_pair (Text first.0) (table_value (keys_pairs first.1))) (put_last paths path below.1)

first_below : (path : List ℕ) (front : Paths) (next : List ℕ × List RockKey) (back : Paths)
    → AllByRecursion (λ other. path_cmp path other ≡ Less) (map (λ p. p.0) (front ++ next ∷ back))
    → path_cmp path next.0 ≡ Less
first_below path [] next back all = all.0
first_below path (other ∷ front) next back all = first_below path front next back all.1

are_below : (front : Paths) (path : List ℕ × List RockKey) (back : Paths)
    → IsStrictlySortedBy path_cmp (map (λ p. p.0) (front ++ path ∷ back)) → AreBelow front path.0
unfolding IsStrictlySortedBy
are_below [] path back sorted = tt
are_below (first ∷ front) path back sorted =
    (first_below first.0 front path back sorted.0, are_below front path back sorted.1)

further : (done paths : Paths) → IsStrictlySortedBy path_cmp (map (λ p. p.0) (done ++ paths))
    → with_provided paths (path_pairs done) ≡ path_pairs (done ++ paths)
further done [] sorted = ap path_pairs (sym (append-nil done))
further done (path ∷ paths) sorted =
    let moved : (done ++ path ∷ []) ++ paths ≡ done ++ path ∷ paths = append_assoc done (path ∷ []) paths in
    ap (with_provided paths) (put_last done path (are_below done path paths sorted))
    ∙ further (done ++ path ∷ []) paths
    (subst (λ (l : Paths). IsStrictlySortedBy path_cmp (map (λ p. p.0) l)) (sym moved) sorted)
    ∙ ap path_pairs moved

pub paths_in_order : (paths : Paths) → IsStrictlySortedBy path_cmp (map (λ p. p.0) paths)
    → provided_pairs paths ≡ path_pairs paths
paths_in_order paths sorted = further [] paths sorted
