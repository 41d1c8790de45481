-- Files without some of their paths.
use Rattle.std.proofs.Common.{◌≡◌, ◌≢◌, ℕ, Bool, true, false, not, cond, List, [], ◌∷◌, Option, Some, None, refl, sym, ap, subst, ◌∙◌}
use Rattle.std.specs.Prelude.{◌||◌, ◌&&◌, is_some}
use Rattle.std.specs.List.{filter, list_any, starts_with}
use Rattle.std.specs.Bool.{nat_eq}
use Rattle.std.specs.FinMap.{FinMap, get, remove, retain_keys, keys, same_map, slice_cmp-IsAntisymmetric, nat_cmp-IsAntisymmetric, get-remove, get-retain_keys, contains_key-keys}
use Rattle.std.specs.Ordering.{eq_by_cmp, is_eq}
use Rattle.std.proofs.lemmas.Cmp.{nat_list_cmp_total}
use Rattle.std.proofs.lemmas.Map.Text.{is_eq-slice_cmp}
use Rattle.std.proofs.lemmas.Slice.Eq.{bytes_eq-Decides}
use Rattle.rocks_text.specs.Files.{Files, path_cmp}
use Rattle.rocks_outside.specs.Device.{paths_from}
use Rattle.tree_moves.specs.Moves.{old_folder, settled_old}
use Rattle.tree_moves.specs.Performing.{removed_all}

-- ---- paths

pub tied : (p q : List ℕ) → eq_by_cmp path_cmp p q ≡ true → p ≡ q
tied p q e = (bytes_eq-Decides p q).0 (sym (is_eq-slice_cmp p q) ∙ e)

pub ties : (p q : List ℕ) → p ≡ q → eq_by_cmp path_cmp p q ≡ true
ties p q e = is_eq-slice_cmp p q ∙ (bytes_eq-Decides p q).1 e

by_bool : {P : Type 0} (b : Bool) → (b ≡ true → P) → (b ≡ false → P) → P
by_bool true here there = here refl
by_bool false here there = there refl

pub untied : (p q : List ℕ) → p ≢ q → eq_by_cmp path_cmp p q ≡ false
untied p q other = by_bool (eq_by_cmp path_cmp p q) (λ e. absurd (other (tied p q e))) (λ e. e)

-- files that answer alike are equal
pub same_files : (m n : Files) → ((q : List ℕ) → get m q ≡ get n q) → m ≡ n
same_files m n alike = same_map nat_list_cmp_total (slice_cmp-IsAntisymmetric nat_cmp-IsAntisymmetric) m n alike

-- ---- removals

united : (b c : Bool) (found : Option (List ℕ)) → cond c None (cond b None found) ≡ cond (b || c) None found
united true true found = refl
united true false found = refl
united false c found = refl

at_removed : (paths : List (List ℕ)) (files : Files) (q : List ℕ) → get (removed_all paths files) q ≡ cond (list_any (eq_by_cmp path_cmp q) paths) None (get files q)
at_removed [] files q = refl
at_removed (path ∷ paths) files q =
    at_removed paths (remove files path) q
    ∙ ap (cond (list_any (eq_by_cmp path_cmp q) paths) None) (get-remove nat_list_cmp_total files path q)
    ∙ united (eq_by_cmp path_cmp q path) (list_any (eq_by_cmp path_cmp q) paths) (get files q)

module _ (test : List ℕ → Bool) (q : List ℕ) where
  kept_test : (first : List ℕ) (e t : Bool) (more : List (List ℕ)) → eq_by_cmp path_cmp q first ≡ e → test first ≡ t
      → list_any (eq_by_cmp path_cmp q) (filter test more) ≡ (list_any (eq_by_cmp path_cmp q) more && test q)
      → list_any (eq_by_cmp path_cmp q) (filter test (first ∷ more)) ≡ (list_any (eq_by_cmp path_cmp q) (first ∷ more) && test q)
  kept_test first true true more here passes rest = let same : test q ≡ true = ap test (tied q first here) ∙ passes in rw (passes, here, same) refl
  kept_test first true false more here fails rest =
      let same : test q ≡ false = ap test (tied q first here) ∙ fails in
      let none : list_any (eq_by_cmp path_cmp q) (filter test more) ≡ false = rest ∙ ap (λ (b : Bool). list_any (eq_by_cmp path_cmp q) more && b) same ∙ never (list_any (eq_by_cmp path_cmp q) more) in
      rw (fails, here, same) none
    where
      never : (b : Bool) → (b && false) ≡ false
      never true = refl
      never false = refl
  kept_test first false true more there passes rest = rw (passes, there) rest
  kept_test first false false more there fails rest = rw (fails, there) rest

  any_kept : (paths : List (List ℕ)) → list_any (eq_by_cmp path_cmp q) (filter test paths) ≡ (list_any (eq_by_cmp path_cmp q) paths && test q)
  any_kept [] = refl
  any_kept (path ∷ paths) = kept_test path (eq_by_cmp path_cmp q path) (test path) paths refl refl (any_kept paths)

without_found : (found : Option (List ℕ)) (t : Bool) → cond (is_some found && t) None found ≡ cond (not t) found None
without_found None true = refl
without_found None false = refl
without_found (Some bytes) true = refl
without_found (Some bytes) false = refl

pub settles : (files : Files) → removed_all (paths_from old_folder files) files ≡ settled_old files
settles files =
    let test = λ (path : List ℕ). starts_with nat_eq path old_folder in
    same_files (removed_all (paths_from old_folder files) files) (settled_old files) (λ q.
    at_removed (paths_from old_folder files) files q
    ∙ ap (λ (b : Bool). cond b None (get files q)) (any_kept test q (keys files) ∙ ap (λ (b : Bool). b && test q) (sym (contains_key-keys files q)))
    ∙ without_found (get files q) (test q)
    ∙ sym (get-retain_keys files (λ path. not (test path)) q (λ other tie. ap (λ (p : List ℕ). not (test p)) (sym (tied q other (ap is_eq tie))))))
