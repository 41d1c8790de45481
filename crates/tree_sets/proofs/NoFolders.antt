-- No file of a tree is a folder of another.
use Rattle.std.proofs.Common.{◌≡◌, ◌≢◌, ℕ, ◌==◌, ◌&&◌, Bool, true, false, not, List, ◌∷◌, ◌++◌, codes, length, Option, Some, None, IsSome, refl, sym, ap, subst, ◌∙◌, arith, inl, inr, ⊎_elim, append_assoc, bytes_eq}
use Rattle.std.specs.Prelude.{◌⊎◌}
use Rattle.std.proofs.lemmas.List.{append_cancel_left, length-append}
use Rattle.std.proofs.lemmas.List.Folds.{list_all-append}
use Rattle.std.proofs.lemmas.Slice.Eq.{bytes_eq-Decides}
use Rattle.std.specs.FinMap.{get}
use Rattle.std.specs.List.{Contains}
use Rattle.rocks_text.specs.Files.{HasNoFileAsFolder}
use Rattle.rocks_text.specs.Paths.{joined, IsFolderOf}
use Rattle.rocks_text.specs.declared.item.Item.{Item}
use Rattle.rocks_version.specs.Keys.{rockspec_name}
use Rattle.rocks_version.specs.declared.key.RockKey.{RockKey}
use Rattle.rock_record.specs.Made.{items_of, own_paths_of}
use Rattle.rock_record.specs.declared.rock.Rock.{Rock}
use Rattle.tree_claims.proofs.Members.{map_contains}
use Rattle.tree_claims.specs.Claims.{claim_path, path_of, Claim, Form, IsPlain, IsVersioned}
use Rattle.tree_paths.specs.Places.{flat_name, own_path, place_of as kind_place, plain_path, rock_folder}
use Rattle.tree_sets.proofs.Folders.{cut_alike, folders_apart, form_elsewhere, has_no_slash, inner, manifest_outside, own_path_is, placed_elsewhere, uncut, IsSlashless}
use Rattle.tree_sets.proofs.ItemPlaces.{claimed_at, placed}
use Rattle.tree_sets.proofs.RockFiles.{file_of, tree_file, IsItemFile}
use Rattle.tree_sets.proofs.SetKeys.{entry_in, one_rock, paths_in, slashless_in}
use Rattle.tree_sets.proofs.TreeFiles.{only}
use Rattle.tree_sets.specs.Places.{place_of}
use Rattle.tree_sets.specs.Sets.{entries_of, entry_of, CanStand}
use Rattle.tree_sets.specs.Trees.{manifest_path, rock_files, tree_files, tree_of, File}
use Rattle.tree_sets.specs.declared.entry.IndexEntry.{IndexEntry}

-- no path is a folder of itself
not_in_itself : (path rest : List ℕ) → path ≢ path ++ 47 ∷ rest
not_in_itself path rest same =
    let longer = length-append path (47 ∷ rest) in
    let alike = ap length same in
    absurd (omega (arith, longer, alike))

-- ---- paths below an item

-- nothing below an item's path is in the folder of all rocks
form_below : (form : Form) (item : Item) (key : RockKey) (rest path : List ℕ) → path_of form item key ++ 47 ∷ rest ≢ codes "lib/luarocks/rocks-5.4/" ++ path
form_below IsPlain item key rest path same =
    placed_elsewhere item.kind (item.path ++ 47 ∷ rest) path (sym (append_assoc (kind_place item.kind) item.path (47 ∷ rest)) ∙ same)
form_below IsVersioned item key rest path same =
    let name = flat_name key ++ (codes "-" ++ item.path) in
    placed_elsewhere item.kind (name ++ 47 ∷ rest) path (sym (append_assoc (kind_place item.kind) name (47 ∷ rest)) ∙ same)

plain_is : (form : Form) (item : Item) (key : RockKey) → form ≡ IsPlain → path_of form item key ≡ plain_path item
plain_is IsPlain item key is = refl
plain_is IsVersioned item key is = absurd cc

-- ---- what stands in a rock's folder

-- the name of the rockspec, of the record or of an own file
abbrev IsOwnName : Rock → List ℕ → Type 0
IsOwnName rock name = (name ≡ rockspec_name rock.key.name rock.key.version) ⊎ ((name ≡ codes "rock_manifest") ⊎ Contains (own_paths_of rock) name)

rockspec_slashless : (key : RockKey) → IsSlashless key → has_no_slash (rockspec_name key.name key.version) ≡ true
rockspec_slashless key none =
    let ending = key.version ++ codes ".rockspec" in
    list_all-append (λ b. not (b == 47)) key.name (codes "-" ++ ending)
    ∙ ap (λ (b : Bool). b && has_no_slash ending) none.0
    ∙ list_all-append (λ b. not (b == 47)) key.version (codes ".rockspec")
    ∙ ap (λ (b : Bool). b && has_no_slash (codes ".rockspec")) none.1

-- a file in the rock's folder, with its name
abbrev IsNamed : Rock → List ℕ → Type 0
IsNamed rock path = (name : List ℕ) × IsOwnName rock name × (path ≡ own_path rock.key name)

named_or_item : (entries : List IndexEntry) (rock : Rock) (file : File) → Contains (rock_files entries rock) file → IsNamed rock file.0 ⊎ IsItemFile entries rock file
named_or_item entries rock file has =
    ⊎_elim (λ e. inl (rockspec_name rock.key.name rock.key.version, inl refl, ap (λ (f : File). f.0) e))
    (⊎_elim (λ e. inl (codes "rock_manifest", inr (inl refl), ap (λ (f : File). f.0) e))
    (⊎_elim (λ own. inl (own.0.0, inr (inr (map_contains (λ (f : File). f.0) rock.own own.0 own.1)), ap (λ (f : File). f.0) own.2))
    (λ item. inr (item.0.0, map_contains (λ (f : Item × List ℕ). f.0) rock.items item.0 item.1, ap (λ (f : File). f.0) item.2))))
    (file_of entries rock file has)

-- below a path in the folder is a path in the folder
below_own : (key : RockKey) (name rest : List ℕ) → own_path key name ++ 47 ∷ rest ≡ own_path key (name ++ 47 ∷ rest)
below_own key name rest = append_assoc (rock_folder key.name key.version) name (47 ∷ rest)

not_both : (a b : Bool) → (a && not b) ≡ true → b ≡ true → ⊥
not_both true true h g = cc h
not_both true false h g = cc g
not_both false b h g = cc h

module _ (set : List Rock) (stands : CanStand set) where
  names_apart : (rock : Rock) (folder name : List ℕ) → Contains set rock → IsOwnName rock folder → IsOwnName rock name → ¬ (IsFolderOf folder name)
  names_apart rock folder name among first (inl is) (rest, within) =
      uncut (rockspec_name rock.key.name rock.key.version) folder rest (rockspec_slashless rock.key (slashless_in set stands rock among)) (sym is ∙ within)
  names_apart rock folder name among first (inr (inl is)) (rest, within) = uncut (codes "rock_manifest") folder rest refl (sym is ∙ within)
  names_apart rock folder name among (inl is) (inr (inr has)) below =
      ((entry_in set stands rock among).own_beside name has).1.1 (subst (λ (f : List ℕ). IsFolderOf f name) is below)
  names_apart rock folder name among (inr (inl is)) (inr (inr has)) below =
      ((entry_in set stands rock among).own_beside name has).0.1 (subst (λ (f : List ℕ). IsFolderOf f name) is below)
  names_apart rock folder name among (inr (inr too)) (inr (inr has)) below = (entry_in set stands rock among).own_apart folder name too has below

  -- no rock has the name `manifest`
  no_manifest_name : (rock : Rock) → Contains set rock → codes "manifest" ≢ rock.key.name
  no_manifest_name rock among same =
      not_both _ (bytes_eq rock.key.name (codes "manifest")) (paths_in set stands rock among).name
      ((bytes_eq-Decides rock.key.name (codes "manifest")).1 (sym same))

  -- ---- pairs of files

  abbrev IsPlacedItem : List ℕ → Type 0
  IsPlacedItem path = (rock : Rock) × Contains set rock × ((item : Item) × Contains (items_of rock) item × (path ≡ place_of (entries_of set) rock.key item))

  abbrev IsNamedFile : List ℕ → Type 0
  IsNamedFile path = (rock : Rock) × Contains set rock × IsNamed rock path

  abbrev IsTreePath : List ℕ → Type 0
  IsTreePath path = IsPlacedItem path ⊎ (IsNamedFile path ⊎ (path ≡ manifest_path))

  tree_path : (file : File) → Contains (tree_files set) file → IsTreePath file.0
  tree_path file has =
      ⊎_elim
      (λ found. ⊎_elim (λ named. inr (inl (found.0, found.1, named))) (λ item. inl (found.0, found.1, item)) (named_or_item (entries_of set) found.0 file found.2))
      (λ at. inr (inr at))
      (tree_file set file has)

  two_items : (folder path : List ℕ) → IsPlacedItem folder → IsPlacedItem path → ¬ (IsFolderOf folder path)
  two_items folder path (x, x_in, (item, has, is)) (y, y_in, (other, too, also)) (rest, within) =
      let left = placed (entries_of set) x.key item in
      let right = placed (entries_of set) y.key other in
      let mine : Claim = record { key = x.key; item = item; form = left.0 } in
      let its : Claim = record { key = y.key; item = other; form = right.0 } in
      let folder_is : folder ≡ claim_path mine = is ∙ left.1 in
      let path_is : path ≡ claim_path its = also ∙ right.1 in
      let below : claim_path its ≡ joined (claim_path mine) rest = sym path_is ∙ within ∙ ap (λ (p : List ℕ). joined p rest) folder_is in
      let same : claim_path mine ≡ claim_path its =
      ⊎_elim (λ e. ap claim_path e)
      (λ plain. plain_is left.0 item x.key plain.0 ∙ ap plain_path plain.2 ∙ sym (plain_is right.0 other y.key plain.1))
      (stands.index.clean.share mine its
      (claimed_at (entries_of set) (entry_of x) item left.0 (map_contains entry_of set x x_in) has)
      (claimed_at (entries_of set) (entry_of y) other right.0 (map_contains entry_of set y y_in) too)
      (inr (inl (rest, below)))) in
      not_in_itself (claim_path mine) rest (same ∙ below)

  -- an item's path is no folder of a path in the folder of all rocks
  item_above : (folder path : List ℕ) → IsPlacedItem folder → (inside : List ℕ) → path ≡ codes "lib/luarocks/rocks-5.4/" ++ inside → ¬ (IsFolderOf folder path)
  item_above folder path (x, x_in, (item, has, is)) inside at (rest, within) =
      let left = placed (entries_of set) x.key item in
      form_below left.0 item x.key rest inside (ap (λ (p : List ℕ). joined p rest) (sym (is ∙ left.1)) ∙ sym within ∙ at)

  -- and none of its folders is there
  item_below : (folder path : List ℕ) → IsPlacedItem path → (inside : List ℕ) → folder ≡ codes "lib/luarocks/rocks-5.4/" ++ inside → ¬ (IsFolderOf folder path)
  item_below folder path (y, y_in, (item, has, is)) inside at (rest, within) =
      let right = placed (entries_of set) y.key item in
      form_elsewhere right.0 item y.key (inside ++ 47 ∷ rest)
      (sym (is ∙ right.1) ∙ within ∙ ap (λ (p : List ℕ). joined p rest) at ∙ append_assoc (codes "lib/luarocks/rocks-5.4/") inside (47 ∷ rest))

  two_named : (folder path : List ℕ) → IsNamedFile folder → IsNamedFile path → ¬ (IsFolderOf folder path)
  two_named folder path (x, x_in, (name, named, is)) (y, y_in, (other, also, at)) (rest, within) =
      let same : own_path y.key other ≡ own_path x.key (name ++ 47 ∷ rest) = sym at ∙ within ∙ ap (λ (p : List ℕ). joined p rest) is ∙ below_own x.key name rest in
      let apart = folders_apart y.key x.key other (name ++ 47 ∷ rest) (slashless_in set stands y y_in) (slashless_in set stands x x_in) same in
      let one : y ≡ x = one_rock set stands y x y_in x_in apart.0 in
      names_apart x name other x_in named (subst (λ (r : Rock). IsOwnName r other) one also) (rest, apart.1)

  manifest_above : (path : List ℕ) → IsNamedFile path → ¬ (IsFolderOf manifest_path path)
  manifest_above path (y, y_in, (name, named, at)) (rest, within) =
      let inside : codes "manifest" ++ 47 ∷ rest ≡ inner y.key name =
      append_cancel_left (codes "lib/luarocks/rocks-5.4/") (codes "manifest" ++ 47 ∷ rest) (inner y.key name) (sym within ∙ at ∙ own_path_is y.key name) in
      no_manifest_name y y_in
      (cut_alike (codes "manifest") y.key.name rest (y.key.version ++ 47 ∷ name) refl (slashless_in set stands y y_in).0 inside).0

  manifest_below : (folder : List ℕ) → IsNamedFile folder → ¬ (IsFolderOf folder manifest_path)
  manifest_below folder (x, x_in, (name, named, is)) (rest, within) =
      manifest_outside x.key (name ++ 47 ∷ rest) (within ∙ ap (λ (p : List ℕ). joined p rest) is ∙ below_own x.key name rest)

  apart : (folder path : List ℕ) → IsTreePath folder → IsTreePath path → ¬ (IsFolderOf folder path)
  apart folder path (inl x) (inl y) below = two_items folder path x y below
  apart folder path (inl x) (inr (inl y)) below = item_above folder path x (inner y.0.key y.2.0) (y.2.2 ∙ own_path_is y.0.key y.2.0) below
  apart folder path (inl x) (inr (inr at)) below = item_above folder path x (codes "manifest") at below
  apart folder path (inr (inl x)) (inl y) below = item_below folder path y (inner x.0.key x.2.0) (x.2.2 ∙ own_path_is x.0.key x.2.0) below
  apart folder path (inr (inr is)) (inl y) below = item_below folder path y (codes "manifest") is below
  apart folder path (inr (inl x)) (inr (inl y)) below = two_named folder path x y below
  apart folder path (inr (inl x)) (inr (inr at)) below = manifest_below folder x (subst (IsFolderOf folder) at below)
  apart folder path (inr (inr is)) (inr (inl y)) below = manifest_above path y (subst (λ (f : List ℕ). IsFolderOf f path) is below)
  apart folder path (inr (inr is)) (inr (inr at)) (rest, within) = not_in_itself folder rest (is ∙ sym at ∙ within)

  some_is : (found : Option (List ℕ)) → IsSome found → (bytes : List ℕ) × (found ≡ Some bytes)
  some_is None some = let wrong = some in absurd cc
  some_is (Some bytes) some = (bytes, refl)

  pub no_folders : HasNoFileAsFolder (tree_of set)
  no_folders folder path some also below =
      let first = some_is (get (tree_of set) folder) some in
      let second = some_is (get (tree_of set) path) also in
      apart folder path (tree_path (folder, first.0) (only set folder first.0 first.1)) (tree_path (path, second.0) (only set path second.0 second.1)) below
