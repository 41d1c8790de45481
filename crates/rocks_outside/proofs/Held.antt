-- An ordered map read as files.
use Rattle.std.proofs.Common.{◌≡◌, ℕ, List, [], ◌∷◌, refl, sym, ap, subst, ◌∙◌, cond, true, false, Bool}
use Rattle.std.specs.Prelude.{Some, None, IsTrue, T, not, ◌&&◌}
use Rattle.std.specs.Bool.{Decides, nat_eq}
use Rattle.std.specs.BTreeMap as tree
use Rattle.std.specs.BTreeMap.{BTreeMap, is_at}
use Rattle.std.specs.Map.{lookup, keys_of}
use Rattle.std.specs.Cmp.{IsTotalOrder, eq_by_cmp_equiv}
use Rattle.std.specs.Cmp.Lexicographic.{nat_list_cmp_total}
use Rattle.std.specs.Ordering.{eq_by_cmp, is_lt}
use Rattle.std.specs.declared.cmp.Ordering.TheVariants.{Less}
use Rattle.std.specs.List.{filter, starts_with, AllByRecursion}
use Rattle.std.specs.List.Sorted.{IsStrictlySortedBy}
use Rattle.std.specs.FinMap.{IsAntisymmetric, nat_cmp-IsAntisymmetric, slice_cmp-IsAntisymmetric, find, is_sorted, get, insert, remove, empty, entries, keys, from_entries, from_sorted, get-from_entries, get-from_sorted, entries-from_sorted, get-insert, get-remove, same_map}
use Rattle.std.specs.FinMap.Entries.{below_all}
use Rattle.std.proofs.lemmas.Map.Keys.{sorted_head, sorted_tail}
use Rattle.std.proofs.lemmas.List.Kept.{IsStrictlySortedBy-filter}
use Rattle.std.proofs.lemmas.Map.Text.{is_eq-slice_cmp}
use Rattle.std.proofs.lemmas.Slice.Eq.{bytes_eq-Decides}
use Rattle.rocks_text.specs.Files.{Files, path_cmp}
use Rattle.rocks_outside.specs.Held.{files_of}
use Rattle.rocks_outside.specs.Device.{renamed, IsAscending, IsListing}

pub total : IsTotalOrder path_cmp
total = nat_list_cmp_total

pub exact : IsAntisymmetric path_cmp
exact = slice_cmp-IsAntisymmetric nat_cmp-IsAntisymmetric

pub same_path : (x y : List ℕ) → Decides (eq_by_cmp path_cmp x y) (x ≡ y)
same_path x y =
    let ties = is_eq-slice_cmp x y in
    let same = bytes_eq-Decides x y in
    (λ h. same.0 (sym ties ∙ h), λ h. ties ∙ same.1 h)

-- what `!=` answers
pub told_apart : (x y : List ℕ) (e : Bool) → Decides e (x ≡ y) → (not e ≡ true → x ≡ y → ⊥) × (not e ≡ false → x ≡ y)
told_apart x y true same = (λ no. cc, λ _. same.0 refl)
told_apart x y false same = (λ _ is. let yes = same.1 is in cc, λ no. cc)

pub find_as_lookup : (q : List ℕ) (es : List (List ℕ × List ℕ)) → find path_cmp q es ≡ lookup (is_at (path_cmp q)) es
find_as_lookup q [] = refl
find_as_lookup q (e ∷ es) = ap (cond (eq_by_cmp path_cmp q e.0) (Some e.1)) (find_as_lookup q es)

-- what the files have at a path is what the map has there
pub get-files_of : (m : BTreeMap (List ℕ) (List ℕ)) (q : List ℕ) → get (files_of m) q ≡ tree.get path_cmp m q
unfolding files_of
get-files_of m q = get-from_entries total m.entries q ∙ find_as_lookup q m.entries

pub same_files : (m n : Files) → ((q : List ℕ) → get m q ≡ get n q) → m ≡ n
same_files m n h = same_map total exact m n h

pub files_of-empty : (m : BTreeMap (List ℕ) (List ℕ)) → m.entries ≡ [] → files_of m ≡ empty
unfolding files_of
files_of-empty m e = ap (from_entries {R = path_cmp}) e

pub files_of-unchanged : (m n : BTreeMap (List ℕ) (List ℕ)) → n.entries ≡ m.entries → files_of n ≡ files_of m
unfolding files_of
files_of-unchanged m n e = ap (from_entries {R = path_cmp}) e

pub files_of-insert : (m n : BTreeMap (List ℕ) (List ℕ)) (k v : List ℕ) → tree.Updates path_cmp m n k (Some v) → files_of n ≡ insert (files_of m) k v
files_of-insert m n k v up = same_files _ _ (λ q.
    get-files_of n q ∙ up.0 q
    ∙ ap (λ b. cond b (Some v) (tree.get path_cmp m q)) ((eq_by_cmp_equiv total).symm k q)
    ∙ ap (cond (eq_by_cmp path_cmp q k) (Some v)) (sym (get-files_of m q))
    ∙ sym (get-insert total (files_of m) k v q))

pub files_of-remove : (m n : BTreeMap (List ℕ) (List ℕ)) (k : List ℕ) → tree.UpdatesBy path_cmp (path_cmp k) m n None → files_of n ≡ remove (files_of m) k
files_of-remove m n k up = same_files _ _ (λ q.
    get-files_of n q ∙ up.0 q
    ∙ ap (λ b. cond b None (tree.get path_cmp m q)) ((eq_by_cmp_equiv total).symm k q)
    ∙ ap (cond (eq_by_cmp path_cmp q k) None) (sym (get-files_of m q))
    ∙ sym (get-remove total (files_of m) k q))

-- ---- a rename

commuted : {X : Type 0} (a b : Bool) (x y z : X) → (a ≡ true → b ≡ true → ⊥) → cond a x (cond b y z) ≡ cond b y (cond a x z)
commuted true true x y z apart = absurd (apart refl refl)
commuted true false x y z apart = refl
commuted false b x y z apart = refl

shadowed : {X : Type 0} (b : Bool) (x y z : X) → cond b x z ≡ cond b x (cond b y z)
shadowed true x y z = refl
shadowed false x y z = refl

pub insert-remove-apart : (files : Files) (from to bytes : List ℕ) → (from ≡ to → ⊥) → remove (insert files to bytes) from ≡ insert (remove files from) to bytes
insert-remove-apart files from to bytes apart = same_files _ _ (λ q.
    get-remove total (insert files to bytes) from q
    ∙ ap (cond (eq_by_cmp path_cmp q from) None) (get-insert total files to bytes q)
    ∙ commuted (eq_by_cmp path_cmp q from) (eq_by_cmp path_cmp q to) None (Some bytes) (get files q) (λ f t. apart (sym ((same_path q from).0 f) ∙ (same_path q to).0 t))
    ∙ ap (cond (eq_by_cmp path_cmp q to) (Some bytes)) (sym (get-remove total files from q))
    ∙ sym (get-insert total (remove files from) to bytes q))

pub insert-remove-same : (files : Files) (at bytes : List ℕ) → insert files at bytes ≡ insert (remove files at) at bytes
insert-remove-same files at bytes = same_files _ _ (λ q.
    get-insert total files at bytes q
    ∙ shadowed (eq_by_cmp path_cmp q at) (Some bytes) None (get files q)
    ∙ ap (cond (eq_by_cmp path_cmp q at) (Some bytes)) (sym (get-remove total files at q))
    ∙ sym (get-insert total (remove files at) at bytes q))

pub renamed_none : (files : Files) (from to : List ℕ) → get files from ≡ None → renamed from to files ≡ files
renamed_none files from to none = rw none

pub renamed_apart : (files : Files) (from to bytes : List ℕ) → get files from ≡ Some bytes → (from ≡ to → ⊥) → remove (insert files to bytes) from ≡ renamed from to files
renamed_apart files from to bytes some apart = rw some (insert-remove-apart files from to bytes apart)

pub renamed_same : (files : Files) (from to bytes : List ℕ) → get files from ≡ Some bytes → from ≡ to → insert files to bytes ≡ renamed from to files
renamed_same files from to bytes some same = rw (some, same) (insert-remove-same files to bytes)

-- ---- the keys, in order

less : (r : _) → r ≡ Less → T (is_lt r)
less r e = subst (λ o. T (is_lt o)) (sym e) tt

below_from_head : (k : List ℕ) (es : List (List ℕ × List ℕ)) → AllByRecursion (λ y. path_cmp k y ≡ Less) (keys_of es) → T (below_all path_cmp k es)
below_from_head k [] h = tt
below_from_head k (e ∷ es) h = rw h.0 (below_from_head k es h.1)

both : (a b : Bool) → T a → T b → T (a && b)
both true b p q = q
both false b p q = p

pub is_sorted-from_keys : (es : List (List ℕ × List ℕ)) → IsStrictlySortedBy path_cmp (keys_of es) → T (is_sorted path_cmp es)
is_sorted-from_keys [] h = tt
is_sorted-from_keys (e ∷ es) h =
    both _ _ (below_from_head e.0 es (sorted_head path_cmp e.0 (keys_of es) h)) (is_sorted-from_keys es (sorted_tail path_cmp e.0 (keys_of es) h))

pub entries-files_of : (m : BTreeMap (List ℕ) (List ℕ)) → tree.IsOrdered path_cmp m → entries (files_of m) ≡ m.entries
entries-files_of m ordered =
    let sorted = is_sorted-from_keys m.entries ordered in
    let same : files_of m ≡ from_sorted m.entries = same_files _ _ (λ q.
    get-files_of m q ∙ sym (find_as_lookup q m.entries) ∙ sym (get-from_sorted path_cmp m.entries q sorted)) in
    ap entries same ∙ entries-from_sorted path_cmp m.entries sorted

pub keys-files_of : (m : BTreeMap (List ℕ) (List ℕ)) → tree.IsOrdered path_cmp m → keys (files_of m) ≡ tree.keys m
keys-files_of m ordered = ap keys_of (entries-files_of m ordered)

pub ascending_from_sorted : (paths : List (List ℕ)) → IsStrictlySortedBy path_cmp paths → IsAscending paths
ascending_from_sorted [] h = tt
ascending_from_sorted (path ∷ []) h = tt
ascending_from_sorted (path ∷ next ∷ paths) h =
    ((sorted_head path_cmp path (next ∷ paths) h).0, ascending_from_sorted (next ∷ paths) (sorted_tail path_cmp path (next ∷ paths) h))

-- what is below a path is below all paths above that one
below_later : (path next : List ℕ) (paths : List (List ℕ)) → path_cmp path next ≡ Less → AllByRecursion (λ other. path_cmp next other ≡ Less) paths → AllByRecursion (λ other. path_cmp path other ≡ Less) paths
below_later path next [] below all = tt
below_later path next (other ∷ paths) below all = (total.trans path next other below all.0, below_later path next paths below all.1)

pub sorted_from_ascending : (paths : List (List ℕ)) → IsAscending paths → IsStrictlySortedBy path_cmp paths
unfolding IsStrictlySortedBy
sorted_from_ascending [] ascending = tt
sorted_from_ascending (path ∷ []) ascending = (tt, tt)
sorted_from_ascending (path ∷ next ∷ paths) ascending =
    let behind = sorted_from_ascending (next ∷ paths) ascending.1 in
    ((ascending.0, below_later path next paths ascending.0 behind.0), behind)

pub all_pass-filter : (test : List ℕ → Bool) (paths : List (List ℕ)) → AllByRecursion (λ path. IsTrue (test path)) (filter test paths)
all_pass-filter test [] = tt
all_pass-filter test (path ∷ paths) =
    elim (test path) as (λ b. test path ≡ b → AllByRecursion (λ path. IsTrue (test path)) (cond b (path ∷ filter test paths) (filter test paths))) [
      | true ↦ λ yes. (yes, all_pass-filter test paths)
      | false ↦ λ no. all_pass-filter test paths
    ] refl

-- what passes, of paths in order, is a listing
pub form_of_filter : (prefix : List ℕ) (all paths : List (List ℕ)) → paths ≡ filter (λ path. starts_with nat_eq path prefix) all → IsStrictlySortedBy path_cmp all → IsListing prefix paths
form_of_filter prefix all paths e sorted = subst (IsListing prefix) (sym e) (record {
  ascending = ascending_from_sorted _ (IsStrictlySortedBy-filter path_cmp (λ path. starts_with nat_eq path prefix) all sorted);
  prefixed = all_pass-filter (λ path. starts_with nat_eq path prefix) all;
})
