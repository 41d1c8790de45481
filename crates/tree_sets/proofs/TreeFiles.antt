-- What stands at a path in a tree, by its files.
use Rattle.std.proofs.Common.{◌≡◌, ◌≢◌, ℕ, zero, suc, true, false, List, [], ◌∷◌, Some, cond, refl, sym, ap, ◌∙◌, arith}
use Rattle.std.proofs.lemmas.Cmp.{nat_list_cmp_total}
use Rattle.std.specs.FinMap.{get, get-from_entries}
use Rattle.std.specs.FinMap.Entries.{find}
use Rattle.std.specs.List.{Contains}
use Rattle.std.specs.Ordering.{eq_by_cmp}
use Rattle.rocks_text.specs.Files.{path_cmp}
use Rattle.rock_record.specs.declared.rock.Rock.{Rock}
use Rattle.tree_sets.proofs.PathTies.{tied, ties, untied}
use Rattle.tree_sets.proofs.OwnPaths.{own_paths}
use Rattle.tree_sets.proofs.Rows.{all_at, behind}
use Rattle.tree_sets.specs.Sets.{CanStand}
use Rattle.tree_sets.specs.Trees.{tree_files, tree_of, File, HaveOwnPaths}

pair_is : (file : File) (path bytes : List ℕ) → file.0 ≡ path → file.1 ≡ bytes → file ≡ (path, bytes)
pair_is (p, b) path bytes first second = rw (first, second) refl

found_among : (files : List File) (path bytes : List ℕ) → find path_cmp path files ≡ Some bytes → Contains files (path, bytes)
found_among [] path bytes is = absurd cc
found_among (file ∷ files) path bytes is = elim (eq_by_cmp path_cmp path file.0) as (λ t. eq_by_cmp path_cmp path file.0 ≡ t → cond t (Some file.1) (find path_cmp path files) ≡ Some bytes → Contains (file ∷ files) (path, bytes)) [
  | true ↦ λ t found. let second : file.1 ≡ bytes = cc in (0, omega arith, pair_is file path bytes (sym (tied path file.0 t)) second)
  | false ↦ λ t found. behind file files (path, bytes) (found_among files path bytes found)
] refl is

among_found : (files : List File) (path bytes : List ℕ) → HaveOwnPaths files → Contains files (path, bytes) → find path_cmp path files ≡ Some bytes
among_found [] path bytes own (k, within, is) = absurd (omega arith)
among_found (file ∷ files) path bytes own (zero, within, is) =
    let first : path ≡ file.0 = sym (ap (λ (f : File). f.0) is) in
    let second : file.1 ≡ bytes = ap (λ (f : File). f.1) is in
    let here : eq_by_cmp path_cmp path file.0 ≡ true = ties path file.0 first in
    rw here (ap Some second)
among_found (file ∷ files) path bytes own (suc k, within, is) =
    let inside : Contains files (path, bytes) = (k, omega arith, is) in
    let apart : path ≢ file.0 = all_at (λ other. other.0 ≢ file.0) files (path, bytes) own.0 inside in
    let other : eq_by_cmp path_cmp path file.0 ≡ false = untied path file.0 apart in
    rw other (among_found files path bytes own.1 inside)

-- what a tree has at a path is one of its files
pub only : (set : List Rock) (path bytes : List ℕ) → get (tree_of set) path ≡ Some bytes → Contains (tree_files set) (path, bytes)
only set path bytes is = found_among (tree_files set) path bytes (sym (get-from_entries nat_list_cmp_total (tree_files set) path) ∙ is)

-- and each of its files stands there
pub each : (set : List Rock) (path bytes : List ℕ) → CanStand set → Contains (tree_files set) (path, bytes) → get (tree_of set) path ≡ Some bytes
each set path bytes stands among =
    get-from_entries nat_list_cmp_total (tree_files set) path ∙ among_found (tree_files set) path bytes (own_paths set stands) among
