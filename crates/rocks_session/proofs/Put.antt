-- Files that are put one after another over no files, each at a path of its own, make the map of them.
use Rattle.std.proofs.Common.{◌≡◌, ◌≢◌, ℕ, cond, List, [], ◌∷◌, Option, None, Some, refl, sym, ap, ◌∙◌}
use Rattle.std.proofs.lemmas.List.{append-nil}
use Rattle.std.specs.List.{AllByRecursion}
use Rattle.std.specs.Ordering.{eq_by_cmp}
use Rattle.std.specs.Cmp.Lexicographic.{nat_list_cmp_total}
use Rattle.std.specs.FinMap.{get, insert, empty, from_entries, find, get-insert, get-empty, get-from_entries, same_map, slice_cmp-IsAntisymmetric, nat_cmp-IsAntisymmetric}
use Rattle.rocks_text.specs.Files.{Files, path_cmp}
use Rattle.tree_model.proofs.PathTies.{by_bool, tied, untied}
use Rattle.rock_record.specs.declared.rock.Rock.{Rock}
use Rattle.tree_model.specs.Tree.{files_of, tree_of, HaveOwnPaths}
use Rattle.rocks_session.specs.Installing.{put_all, File}

-- the first if there is one
abbrev or_else : Option (List ℕ) → Option (List ℕ) → Option (List ℕ)
or_else None other = other
or_else (Some x) other = Some x

-- a path that none of the others has isn't found among them
not_found : (q : List ℕ) (files : List File) → AllByRecursion (λ other. other.0 ≢ q) files → find path_cmp q files ≡ None
not_found q [] all = refl
not_found q (file ∷ files) all = rw (untied q file.0 (λ e. all.0 (sym e))) (not_found q files all.1)

step_found : (q : List ℕ) (file : File) (files : List File) (rest : Option (List ℕ)) → AllByRecursion (λ other. other.0 ≢ file.0) files
    → or_else (find path_cmp q files) (cond (eq_by_cmp path_cmp q file.0) (Some file.1) rest) ≡ or_else (find path_cmp q (file ∷ files)) rest
step_found q file files rest all = by_bool (eq_by_cmp path_cmp q file.0)
    (λ e.
    let none : find path_cmp q files ≡ None = ap (λ p. find path_cmp p files) (tied q file.0 e) ∙ not_found file.0 files all in
    rw (e, none) refl)
    (λ e. rw e refl)

get-put_all : (files : List File) (over : Files) (q : List ℕ) → HaveOwnPaths files → get (put_all files over) q ≡ or_else (find path_cmp q files) (get over q)
get-put_all [] over q own = refl
get-put_all (file ∷ files) over q own =
    get-put_all files (insert over file.0 file.1) q own.1
    ∙ ap (or_else (find path_cmp q files)) (get-insert nat_list_cmp_total over file.0 file.1 q)
    ∙ step_found q file files (get over q) own.0

or_none : (o : Option (List ℕ)) → or_else o None ≡ o
or_none None = refl
or_none (Some x) = refl

pub put_all-own : (files : List File) → HaveOwnPaths files → put_all files empty ≡ from_entries files
put_all-own files own = same_map nat_list_cmp_total (slice_cmp-IsAntisymmetric nat_cmp-IsAntisymmetric) _ _ (λ q.
    get-put_all files empty q own ∙ ap (or_else (find path_cmp q files)) (get-empty path_cmp q) ∙ or_none (find path_cmp q files) ∙ sym (get-from_entries nat_list_cmp_total files q))

-- the files of one rock are its tree
pub tree_of_one : (rock : Rock) → HaveOwnPaths (files_of rock) → put_all (files_of rock) empty ≡ tree_of (rock ∷ [])
tree_of_one rock own = put_all-own (files_of rock) own ∙ ap from_entries (sym (append-nil (files_of rock)))
