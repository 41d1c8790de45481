-- Which paths of a set's items and files can be one.
use Rattle.std.proofs.Common.{◌≡◌, ◌≢◌, ℕ, Bool, true, false, cond, List, [], ◌∷◌, refl, sym, ap, ◌∙◌, inl, inr, ⊎_elim}
use Rattle.std.specs.Prelude.{◌⊎◌}
use Rattle.std.specs.List.{Contains}
use Rattle.rocks_text.specs.declared.item.Item.{Item}
use Rattle.rocks_version.specs.declared.key.RockKey.{RockKey}
use Rattle.rock_record.specs.Made.{items_of}
use Rattle.rock_record.specs.declared.rock.Rock.{Rock}
use Rattle.tree_claims.proofs.Members.{map_contains}
use Rattle.tree_claims.specs.Claims.{path_of, Claim, Form, IsPlain, IsVersioned}
use Rattle.tree_paths.specs.Places.{plain_path, versioned_path}
use Rattle.tree_sets.proofs.Folders.{form_in_no_folder, form_no_manifest}
use Rattle.tree_sets.proofs.ItemPlaces.{claimed_at, placed}
use Rattle.tree_sets.proofs.OwnPaths.{no_manifest, rocks_apart}
use Rattle.tree_sets.proofs.RockFiles.{folder_or_item}
use Rattle.tree_sets.specs.Places.{place_among, place_of, providers_of}
use Rattle.tree_sets.specs.Sets.{entries_of, entry_of, CanStand}
use Rattle.tree_sets.specs.Trees.{manifest_path, rock_files}
use Rattle.tree_sets.specs.declared.entry.IndexEntry.{IndexEntry}
use Rattle.tree_change.specs.Change.{is_first, is_holder}

-- ---- who holds the plain path

place_first : (keys : List RockKey) (key : RockKey) (item : Item) → is_first key keys ≡ true → place_among keys key item ≡ plain_path item
place_first [] key item is = absurd cc
place_first (first ∷ others) key item is = ap (λ (b : Bool). cond b (plain_path item) (versioned_path item key)) is

place_later : (keys : List RockKey) (key : RockKey) (item : Item) → is_first key keys ≡ false → place_among keys key item ≡ versioned_path item key
place_later [] key item is = refl
place_later (first ∷ others) key item is = ap (λ (b : Bool). cond b (plain_path item) (versioned_path item key)) is

pub holds : (among : List IndexEntry) (key : RockKey) (item : Item) → is_holder among key item ≡ true → place_of among key item ≡ plain_path item
holds among key item is = place_first (providers_of among item) key item is

pub holds_not : (among : List IndexEntry) (key : RockKey) (item : Item) → is_holder among key item ≡ false → place_of among key item ≡ versioned_path item key
holds_not among key item is = place_later (providers_of among item) key item is

-- ---- paths in one set

not_versioned : IsVersioned ≡ IsPlain → ⊥
not_versioned e = cc

-- the path is another rock's, or the manifest's
abbrev pub IsForeign : List Rock → RockKey → List ℕ → Type 0
IsForeign set key path =
    ((rock : Rock) × Contains set rock × (rock.key ≢ key) × ((bytes : List ℕ) × Contains (rock_files (entries_of set) rock) (path, bytes)))
    ⊎ (path ≡ manifest_path)

module _ (set : List Rock) (stands : CanStand set) where
  -- a versioned path is only that of the same item of the same rock
  pub one_versioned : (x y : Rock) (item other : Item) (form : Form) → Contains set x → Contains set y → Contains (items_of x) item → Contains (items_of y) other
      → versioned_path item x.key ≡ path_of form other y.key → (x.key ≡ y.key) × (item ≡ other) × (form ≡ IsVersioned)
  one_versioned x y item other form x_in y_in has too same =
      let mine : Claim = record { key = x.key; item = item; form = IsVersioned } in
      let its : Claim = record { key = y.key; item = other; form = form } in
      ⊎_elim
      (λ e. (ap (λ (c : Claim). c.key) e, ap (λ (c : Claim). c.item) e, sym (ap (λ (c : Claim). c.form) e)))
      (λ plain. absurd (not_versioned plain.0))
      (stands.index.clean.share mine its
      (claimed_at (entries_of set) (entry_of x) item IsVersioned (map_contains entry_of set x x_in) has)
      (claimed_at (entries_of set) (entry_of y) other form (map_contains entry_of set y y_in) too) (inl same))

  pub versioned_not_plain : (x y : Rock) (item other : Item) → Contains set x → Contains set y → Contains (items_of x) item → Contains (items_of y) other
      → versioned_path item x.key ≢ plain_path other
  versioned_not_plain x y item other x_in y_in has too same =
      not_versioned (sym (one_versioned x y item other IsPlain x_in y_in has too same).2)

  -- no file of another rock has the path of a rock's file
  pub foreign_not_file : (rock : Rock) (path bytes : List ℕ) (foreign : List ℕ) → Contains set rock → Contains (rock_files (entries_of set) rock) (path, bytes)
      → IsForeign set rock.key foreign → foreign ≢ path
  foreign_not_file rock path bytes foreign among has (inl other) same =
      rocks_apart set stands rock other.0 (path, bytes) (foreign, other.3.0) among other.1 (λ e. other.2 (sym e)) has other.3.1 same
  foreign_not_file rock path bytes foreign among has (inr at) same = no_manifest set stands rock (path, bytes) has (sym same ∙ at)

  -- nor a versioned path of its items
  pub foreign_not_versioned : (rock : Rock) (item : Item) (foreign : List ℕ) → Contains set rock → Contains (items_of rock) item
      → IsForeign set rock.key foreign → versioned_path item rock.key ≢ foreign
  foreign_not_versioned rock item foreign among has (inr at) same = form_no_manifest IsVersioned item rock.key (same ∙ at)
  foreign_not_versioned rock item foreign among has (inl other) same =
      ⊎_elim
      (λ own. form_in_no_folder IsVersioned item rock.key other.0.key own.0 (same ∙ own.1))
      (λ its.
      let at = placed (entries_of set) other.0.key its.0 in
      other.2 (sym (one_versioned rock other.0 item its.0 at.0 among other.1 has its.1 (same ∙ its.2 ∙ at.1)).0))
      (folder_or_item (entries_of set) other.0 (foreign, other.3.0) other.3.1)
