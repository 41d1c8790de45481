-- The paths below a folder of an ordered map, as a listing.
use Rattle.std.proofs.Common.{◌≡◌, ℕ, List, [], ◌∷◌, ◌++◌, refl, sym, ap, subst, ◌∙◌, append_assoc}
use Rattle.std.specs.Prelude.{Some, None, IsTrue, IsSome}
use Rattle.std.specs.BTreeMap as tree
use Rattle.std.specs.BTreeMap.{BTreeMap}
use Rattle.std.specs.FinMap.{get}
use Rattle.std.specs.Cmp.{tied_itself, nat_cmp_total}
use Rattle.std.specs.declared.cmp.Ordering.TheVariants.{Less}
use Rattle.std.specs.List.{All, filter_map, cons_option, AllByRecursion}
use Rattle.std.specs.List.Sorted.{IsStrictlySortedBy}
use Rattle.std.proofs.lemmas.List.Elements.{recursion_from_All, All-from_recursion, All-contains}
use Rattle.rocks_text.specs.Files.{Files, path_cmp, HasNoFileAsFolder}
use Rattle.rocks_text.specs.Paths.{below, IsFolderOf}
use Rattle.rocks_text.specs.Texts.{is_file_path}
use Rattle.rocks_text.proofs.Below.{below_some}
use Rattle.rocks_outside.specs.Shelf.{IsFolderListing}
use Rattle.rocks_outside.specs.Device.{IsAscending}
use Rattle.rocks_outside.specs.Held.{files_of}
use Rattle.rocks_outside.proofs.Held.{get-files_of, ascending_from_sorted}

cmp-append : (folder a b : List ℕ) → path_cmp (folder ++ a) (folder ++ b) ≡ path_cmp a b
cmp-append [] a b = refl
cmp-append (x ∷ folder) a b = rw (tied_itself nat_cmp_total x) (cmp-append folder a b)

less_below : (folder first r : List ℕ) → first ≡ folder ++ 47 ∷ r → (paths : List (List ℕ)) → AllByRecursion (λ y. path_cmp first y ≡ Less) paths → AllByRecursion (λ y. path_cmp r y ≡ Less) (filter_map (below folder) paths)
less_below folder first r e [] h = tt
less_below folder first r e (path ∷ paths) h =
    let more = less_below folder first r e paths h.1 in
    elim (below folder path) as (λ o. below folder path ≡ o → AllByRecursion (λ y. path_cmp r y ≡ Less) (cons_option o (filter_map (below folder) paths))) [
      | None ↦ λ is. more
      | Some s ↦ λ is. (sym (cmp-append folder (47 ∷ r) (47 ∷ s)) ∙ ap (λ x. path_cmp x (folder ++ 47 ∷ s)) (sym e) ∙ ap (path_cmp first) (sym (below_some folder path s is)) ∙ h.0, more)
    ] refl

pub sorted_below : (folder : List ℕ) (paths : List (List ℕ)) → IsStrictlySortedBy path_cmp paths → IsStrictlySortedBy path_cmp (filter_map (below folder) paths)
unfolding IsStrictlySortedBy
sorted_below folder [] h = tt
sorted_below folder (path ∷ paths) h =
    let more = sorted_below folder paths h.1 in
    elim (below folder path) as (λ o. below folder path ≡ o → IsStrictlySortedBy path_cmp (cons_option o (filter_map (below folder) paths))) [
      | None ↦ λ is. more
      | Some r ↦ λ is. (less_below folder path r (below_some folder path r is) paths h.0, more)
    ] refl

-- what holds of all paths holds of those below a folder, made whole again
pub all_below : (P : List ℕ → Type 0) (folder : List ℕ) (paths : List (List ℕ)) → AllByRecursion P paths → AllByRecursion (λ rest. P (folder ++ 47 ∷ rest)) (filter_map (below folder) paths)
all_below P folder [] h = tt
all_below P folder (path ∷ paths) h =
    let more = all_below P folder paths h.1 in
    elim (below folder path) as (λ o. below folder path ≡ o → AllByRecursion (λ rest. P (folder ++ 47 ∷ rest)) (cons_option o (filter_map (below folder) paths))) [
      | None ↦ λ is. more
      | Some r ↦ λ is. (subst P (below_some folder path r is) h.0, more)
    ] refl

pub all_push : (P : List ℕ → Type 0) (xs : List (List ℕ)) (y : List ℕ) → AllByRecursion P xs → P y → AllByRecursion P (xs ++ y ∷ [])
all_push P [] y h p = (p, tt)
all_push P (x ∷ xs) y h p = (h.0, all_push P xs y h.1 p)

-- ---- a listing of a folder

two_files : (files : Files) (folder path other : List ℕ) → HasNoFileAsFolder files → IsSome (get files (folder ++ 47 ∷ path)) → IsSome (get files (folder ++ 47 ∷ other)) → IsFolderOf path other → ⊥
two_files files folder path other apart is_path is_other below =
    apart (folder ++ 47 ∷ path) (folder ++ 47 ∷ other) is_path is_other
    (below.0, ap (λ r. folder ++ 47 ∷ r) below.1 ∙ sym (append_assoc folder (47 ∷ path) (47 ∷ below.0)))

pub folder_listing : (m : BTreeMap (List ℕ) (List ℕ)) (folder : List ℕ) (paths : List (List ℕ)) → paths ≡ filter_map (below folder) (tree.keys m) → tree.IsOrdered path_cmp m → All (λ k. IsSome (tree.get path_cmp m k)) (tree.keys m) → HasNoFileAsFolder (files_of m) → AllByRecursion (λ rest. IsTrue (is_file_path (folder ++ 47 ∷ rest))) paths → IsFolderListing folder paths
folder_listing m folder paths e ordered found apart good =
    let HasFile : List ℕ → Type 0 = λ k. IsSome (get (files_of m) k) in
    let each : AllByRecursion HasFile (tree.keys m) = recursion_from_All HasFile (tree.keys m) (λ k d l. rw get-files_of (found k d l)) in
    let IsHeld : List ℕ → Type 0 = λ rest. HasFile (folder ++ 47 ∷ rest) in
    let held : All IsHeld paths = All-from_recursion IsHeld paths (subst (AllByRecursion IsHeld) (sym e) (all_below HasFile folder (tree.keys m) each)) in
    record {
      ascending = subst IsAscending (sym e) (ascending_from_sorted _ (sorted_below folder (tree.keys m) ordered));
      are_paths = good;
      apart = λ path other p o below. two_files (files_of m) folder path other apart (All-contains IsHeld paths path held p) (All-contains IsHeld paths other held o) below;
    }

-- a turn of the listing that adds a path
pub listed_more : (folder path rest : List ℕ) (left next paths now all : List (List ℕ)) → left ≡ path ∷ next → below folder path ≡ Some rest → now ≡ paths ++ rest ∷ [] → paths ++ filter_map (below folder) left ≡ all → now ++ filter_map (below folder) next ≡ all
listed_more folder path rest left next paths now all turn is added so_far =
    let F : List (List ℕ) → List (List ℕ) = filter_map (below folder) in
    ap (λ l. l ++ F next) added ∙ append_assoc paths (rest ∷ []) (F next)
    ∙ sym (ap (λ l. paths ++ l) (ap F turn ∙ ap (λ o. cons_option o (F next)) is)) ∙ so_far
