-- What a listing with the empty prefix says of all files.
use Rattle.std.proofs.Common.{◌≡◌, ℕ, List, [], ◌∷◌, length, map, refl, ap, ◌∙◌, sym, arith, IfSome, Option, None, Some, ◌<◌, slice_index_or}
use Rattle.std.specs.List.{filter, starts_with}
use Rattle.std.specs.Bool.{nat_eq}
use Rattle.std.specs.FinMap.{keys, empty, entries, empty_of_len, len-entries}
use Rattle.rocks_text.specs.Files.{Files}
use Rattle.rocks_outside.specs.Device.{paths_from}

kept : (paths : List (List ℕ)) → filter (λ path. starts_with nat_eq path []) paths ≡ paths
kept [] = refl
kept (path ∷ paths) = ap (λ (more : List (List ℕ)). path ∷ more) (kept paths)

-- every path begins with the empty text
pub paths_from_nothing : (files : Files) → paths_from [] files ≡ keys files
paths_from_nothing files = kept (keys files)

none : {A B : Type 0} (f : A → B) (xs : List A) → map f xs ≡ [] → length xs ≡ 0
none f [] e = refl
none f (x ∷ xs) e = cc

-- files without a path are no files
pub no_paths : (files : Files) → keys files ≡ [] → files ≡ empty
no_paths files e = empty_of_len files (len-entries files ∙ none _ (entries files) e)

-- a device that tells its files and lists none has none
pub told_none : (files : Option Files) (paths : List (List ℕ)) → IfSome files (λ all. paths ≡ paths_from [] all) → length paths ≡ 0 → IfSome files (λ all. all ≡ empty)
told_none None paths listed e = tt
told_none (Some all) [] listed e = no_paths all (sym (listed ∙ paths_from_nothing all))
told_none (Some all) (path ∷ paths) listed e = absurd (omega arith)

-- the first path of a listing is the least
pub told_first : (files : Option Files) (paths : List (List ℕ)) (first : List ℕ) → IfSome files (λ all. paths ≡ paths_from [] all) → first ≡ slice_index_or paths 0 first → 0 < length paths → IfSome files (λ all. (more : List (List ℕ)) × (keys all ≡ first ∷ more))
told_first None paths first listed e some = tt
told_first (Some all) [] first listed e some = absurd (omega arith)
told_first (Some all) (path ∷ paths) first listed e some = (paths, sym (paths_from_nothing all) ∙ sym listed ∙ ap (λ (p : List ℕ). p ∷ paths) (sym e))
