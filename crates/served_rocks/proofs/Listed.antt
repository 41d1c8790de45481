-- What a folder lists is there.
use Rattle.std.proofs.Common.{◌≡◌, ℕ, Bool, true, false, List, [], ◌∷◌, ◌++◌, ◌||◌, Option, None, Some, is_some, refl, sym, ap, ◌∙◌, cond}
use Rattle.std.proofs.lemmas.List.Elements.{All-contains, All-from_recursion}
use Rattle.std.proofs.lemmas.Map.Text.{is_eq-slice_cmp}
use Rattle.std.proofs.lemmas.Slice.Eq.{bytes_eq-Decides}
use Rattle.std.specs.Prelude.{IsSome}
use Rattle.std.specs.List.{AllByRecursion, Contains, list_any}
use Rattle.std.specs.Ordering.{eq_by_cmp}
use Rattle.std.specs.FinMap.{get, keys, contains_key, contains_key-keys}
use Rattle.rocks_text.specs.Files.{Files, path_cmp}
use Rattle.rocks_text.specs.Paths.{joined}
use Rattle.rocks_outside.specs.Shelf.{paths_below}
use Rattle.rocks_outside.proofs.Listings.{all_below}
use Rattle.served_rocks.specs.Search.{earliest_with}

-- a path is equal to itself by the order of paths
ties : (p q : List ℕ) → p ≡ q → eq_by_cmp path_cmp p q ≡ true
ties p q e = is_eq-slice_cmp p q ∙ (bytes_eq-Decides p q).1 e

some_there : (o : Option (List ℕ)) → is_some o ≡ true → IsSome o
some_there None e = cc
some_there (Some x) e = e

-- each key is one that the files contain
key_there : (files : Files) (ks : List (List ℕ)) (found : (k : List ℕ) → list_any (eq_by_cmp path_cmp k) ks ≡ true → IsSome (get files k)) → AllByRecursion (λ k. IsSome (get files k)) ks
key_there files [] found = tt
key_there files (k ∷ ks) found =
    (found k (rw (ties k k refl) refl), key_there files ks (λ q e. found q (later (eq_by_cmp path_cmp q k) _ e)))
  where
    later : (a b : Bool) → b ≡ true → (a || b) ≡ true
    later true b e = refl
    later false b e = e

each_there : (files : Files) → AllByRecursion (λ k. IsSome (get files k)) (keys files)
each_there files = key_there files (keys files) (λ k e. some_there (get files k) (contains_key-keys files k ∙ e))

pub below_there : (files : Files) (folder path : List ℕ) → Contains (paths_below folder files) path → IsSome (get files (joined folder path))
below_there files folder path among =
    let IsHeld : List ℕ → Type 0 = λ rest. IsSome (get files (folder ++ 47 ∷ rest)) in
    All-contains IsHeld (paths_below folder files) path (All-from_recursion IsHeld (paths_below folder files) (all_below (λ k. IsSome (get files k)) folder (keys files) (each_there files))) among

pub found_there : (servers : List Files) (files : Files) (path : List ℕ) → earliest_with path servers ≡ Some files → IsSome (get files path)
found_there [] files path is = cc
found_there (first ∷ servers) files path is =
    elim (contains_key first path) as (λ b. contains_key first path ≡ b → cond b (Some first) (earliest_with path servers) ≡ Some files → IsSome (get files path)) [
      | true ↦ λ has here. let same : first ≡ files = cc in some_there (get files path) (ap (λ f. contains_key f path) (sym same) ∙ has)
      | false ↦ λ has later. found_there servers files path later
    ] refl is
