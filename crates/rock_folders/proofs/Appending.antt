-- What was found among paths, and one more path.
use Rattle.std.proofs.Common.{◌≡◌, ◌<◌, ◌+◌, ℕ, List, [], ◌∷◌, ◌++◌, length, get_or, take, refl, Option, Some, None, inl, inr, append-nil}
use Rattle.std.specs.Option.{option_to_list}
use Rattle.std.proofs.lemmas.List.{take_more}
use Rattle.rocks_version.specs.declared.key.RockKey.{RockKey}
use Rattle.rock_folders.specs.Found.{AreFound, IsKeyAt, IsRecordAt}

-- one more path that is a record's
pub found_more : (paths : List (List ℕ)) (found : List RockKey) (path : List ℕ) (key : RockKey) → AreFound paths found → IsRecordAt path key
    → AreFound (paths ++ path ∷ []) (found ++ key ∷ [])
found_more [] [] path key are is = inl (is, refl)
found_more [] (first ∷ found) path key are is = absurd cc
found_more (first ∷ paths) [] path key are is = inr (are.0, found_more paths [] path key are.1 is)
found_more (first ∷ paths) (one ∷ found) path key (inl here) is = inl (here.0, found_more paths found path key here.1 is)
found_more (first ∷ paths) (one ∷ found) path key (inr later) is = inr (later.0, found_more paths (one ∷ found) path key later.1 is)

-- one more path that is none
pub found_same : (paths : List (List ℕ)) (found : List RockKey) (path : List ℕ) → AreFound paths found → IsKeyAt path None
    → AreFound (paths ++ path ∷ []) found
found_same [] [] path are none = (none, refl)
found_same [] (first ∷ found) path are none = absurd cc
found_same (first ∷ paths) [] path are none = (are.0, found_same paths [] path are.1 none)
found_same (first ∷ paths) (one ∷ found) path (inl here) none = inl (here.0, found_same paths found path here.1 none)
found_same (first ∷ paths) (one ∷ found) path (inr later) none = inr (later.0, found_same paths (one ∷ found) path later.1 none)

-- the paths up to the next one
pub found_next : (paths : List (List ℕ)) (n : ℕ) (path : List ℕ) (found : List RockKey) (key : Option RockKey) (now : List RockKey) → n < length paths
    → path ≡ get_or paths n path → AreFound (take n paths) found → IsKeyAt path key → now ≡ found ++ option_to_list key
    → AreFound (take (n + 1) paths) now
found_next paths n path found (Some key) now within is are at is_now =
    rw (take_more paths n path within, ← is, is_now) (found_more (take n paths) found path key are at)
found_next paths n path found None now within is are at is_now =
    rw (take_more paths n path within, ← is, is_now, append-nil found) (found_same (take n paths) found path are at)
