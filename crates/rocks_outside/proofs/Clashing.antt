-- Where a new file may stand.
use Rattle.std.proofs.Common.{◌≡◌, ℕ, List, [], ◌∷◌, ◌++◌, length, refl, sym, ap, subst, ◌∙◌, cond, true, false, Bool, arith, length-append, inl, inr}
use Rattle.std.specs.declared.alloc.AllocError.{AllocError}
use Rattle.std.specs.Prelude.{if◌then◌else◌, Result, Ok, Err, IfOk, OnErr, Option, Some, None, IsSome, is_some, ◌||◌, ◌⊎◌, ◌↔◌}
use Rattle.std.specs.BTreeMap as tree
use Rattle.std.specs.BTreeMap.{BTreeMap, is_at}
use Rattle.std.specs.Map.{lookup, keys_of}
use Rattle.std.specs.List.{list_any}
use Rattle.std.specs.Ordering.{eq_by_cmp}
use Rattle.std.specs.FinMap.{empty, get, insert, get-empty, get-insert}
use Rattle.rocks_text.specs.Files.{Files, path_cmp, HasNoFileAsFolder}
use Rattle.rocks_text.specs.Paths.{below, IsFolderOf}
use Rattle.rocks_text.proofs.Below.{below_is, below_some}
use Rattle.rocks_outside.specs.Held.{files_of, is_in_the_way, Clashes}
use Rattle.rocks_outside.proofs.Held.{total, same_path, get-files_of}

or_left : (a b : Bool) → a ≡ true → (a || b) ≡ true
or_left true b h = refl
or_left false b h = cc

or_right : (a b : Bool) → b ≡ true → (a || b) ≡ true
or_right true b h = refl
or_right false b h = h

either : (a b : Bool) → (a || b) ≡ true → (a ≡ true) ⊎ (b ≡ true)
either true b h = inl refl
either false b h = inr h

-- ---- the test of one held path

some_rest : (o : Option (List ℕ)) → is_some o ≡ true → (rest : List ℕ) × (o ≡ Some rest)
some_rest None h = cc
some_rest (Some rest) h = (rest, refl)

folder_from_test : (folder path : List ℕ) → is_some (below folder path) ≡ true → IsFolderOf folder path
folder_from_test folder path h = let some = some_rest (below folder path) h in (some.0, below_some folder path some.0 some.1)

test_from_folder : (folder path : List ℕ) → IsFolderOf folder path → is_some (below folder path) ≡ true
test_from_folder folder path h = rw (below_is folder path h.0 h.1)

way_from_test : (path held : List ℕ) → is_in_the_way path held ≡ true → IsFolderOf path held ⊎ IsFolderOf held path
way_from_test path held h =
    elim (either (is_some (below path held)) (is_some (below held path)) h) [
      | inl here ↦ inl (folder_from_test path held here)
      | inr here ↦ inr (folder_from_test held path here)
    ]

test_from_way : (path held : List ℕ) → IsFolderOf path held ⊎ IsFolderOf held path → is_in_the_way path held ≡ true
test_from_way path held (inl h) = or_left _ _ (test_from_folder path held h)
test_from_way path held (inr h) = or_right _ _ (test_from_folder held path h)

-- ---- the test of all held paths

later_some : (b : Bool) (v : List ℕ) (o : Option (List ℕ)) → IsSome o → IsSome (cond b (Some v) o)
later_some true v o h = refl
later_some false v o h = h

found_any : (test : List ℕ → Bool) (es : List (List ℕ × List ℕ)) → list_any test (keys_of es) ≡ true → (k : List ℕ) × IsSome (lookup (is_at (path_cmp k)) es) × (test k ≡ true)
found_any test [] h = cc
found_any test (e ∷ es) h =
    elim (either (test e.0) (list_any test (keys_of es)) h) [
      | inl here ↦ (e.0, rw ((same_path e.0 e.0).1 refl), here)
      | inr more ↦ let found = found_any test es more in (found.0, later_some (is_at (path_cmp found.0) e.0) e.1 _ found.1, found.2)
    ]

any_found : (test : List ℕ → Bool) (es : List (List ℕ × List ℕ)) (k : List ℕ) → IsSome (lookup (is_at (path_cmp k)) es) → test k ≡ true → list_any test (keys_of es) ≡ true
any_found test [] k some passes = cc
any_found test (e ∷ es) k some passes =
    elim (is_at (path_cmp k) e.0) as (λ b. is_at (path_cmp k) e.0 ≡ b → IsSome (cond b (Some e.1) (lookup (is_at (path_cmp k)) es)) → (test e.0 || list_any test (keys_of es)) ≡ true) [
      | true ↦ λ same some. or_left _ _ (ap test (sym ((same_path k e.0).0 same)) ∙ passes)
      | false ↦ λ apart some. or_right _ _ (any_found test es k some passes)
    ] refl some

pub clash_from_any : (m : BTreeMap (List ℕ) (List ℕ)) (path : List ℕ) → list_any (is_in_the_way path) (tree.keys m) ≡ true → Clashes path (files_of m)
clash_from_any m path h =
    let found = found_any (is_in_the_way path) m.entries h in
    (found.0, rw get-files_of found.1, way_from_test path found.0 found.2)

pub any_from_clash : (m : BTreeMap (List ℕ) (List ℕ)) (path : List ℕ) → Clashes path (files_of m) → list_any (is_in_the_way path) (tree.keys m) ≡ true
any_from_clash m path h = any_found (is_in_the_way path) m.entries h.0 (rw get-files_of at h.1) (test_from_way path h.0 h.2)

-- ---- a new file that clashes with none

longer : (path rest : List ℕ) → path ≡ path ++ 47 ∷ rest → ⊥
longer path rest e = omega (arith, ap length e, length-append path (47 ∷ rest))

pub apart-insert : (files : Files) (path bytes : List ℕ) → HasNoFileAsFolder files → (Clashes path files → ⊥) → HasNoFileAsFolder (insert files path bytes)
apart-insert files path bytes apart free folder other is_folder is_other below =
    let at_folder = rw (get-insert total files path bytes folder) at is_folder in
    let at_other = rw (get-insert total files path bytes other) at is_other in
    cases (eq_by_cmp path_cmp folder path) (eq_by_cmp path_cmp other path) refl refl at_folder at_other
  where
    cases : (a b : Bool) → eq_by_cmp path_cmp folder path ≡ a → eq_by_cmp path_cmp other path ≡ b → IsSome (cond a (Some bytes) (get files folder)) → IsSome (cond b (Some bytes) (get files other)) → ⊥
    cases true true a b f o = longer folder below.0 ((same_path folder path).0 a ∙ sym ((same_path other path).0 b) ∙ below.1)
    cases true false a b f o = free (other, o, inl (subst (λ x. IsFolderOf x other) ((same_path folder path).0 a) below))
    cases false true a b f o = free (folder, f, inr (subst (λ x. IsFolderOf folder x) ((same_path other path).0 b) below))
    cases false false a b f o = apart folder other f o below

-- what `put` leaves
pub apart_after : (r : Result Bool AllocError) (old new : Files) (path bytes : List ℕ) → IfOk r (λ taken. (taken ≡ false) ↔ Clashes path old) → IfOk r (λ taken. new ≡ (if taken then insert old path bytes else old)) → OnErr r (new ≡ old) → HasNoFileAsFolder old → HasNoFileAsFolder new
apart_after (Ok true) old new path bytes refused put err apart = subst HasNoFileAsFolder (sym put) (apart-insert old path bytes apart (λ clash. let no = refused.1 clash in cc))
apart_after (Ok false) old new path bytes refused put err apart = subst HasNoFileAsFolder (sym put) apart
apart_after (Err e) old new path bytes refused put err apart = subst HasNoFileAsFolder (sym err) apart

pub apart-empty : HasNoFileAsFolder empty
apart-empty folder path is_folder is_path below = let none = rw (get-empty {X = List ℕ} path_cmp folder) at is_folder in cc
