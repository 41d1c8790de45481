-- The files of the tree of a set have paths of their own.
use Rattle.std.proofs.Common.{◌≡◌, ◌≢◌, ℕ, List, [], ◌∷◌, ◌++◌, map, codes, sym, ◌∙◌, ⊎_elim}
use Rattle.std.proofs.lemmas.List.{append_cancel_left}
use Rattle.std.specs.List.{flat_map, Contains}
use Rattle.rocks_text.specs.Files.{path_cmp}
use Rattle.rocks_text.specs.Items.{item_cmp}
use Rattle.rocks_text.specs.declared.item.Item.{Item}
use Rattle.rocks_version.proofs.OrderLaws.{key_total}
use Rattle.rocks_version.specs.Keys.{listing_cmp, rockspec_name}
use Rattle.rocks_version.specs.declared.key.RockKey.{RockKey}
use Rattle.rock_manifest.proofs.Orders.{item_total, path_total}
use Rattle.rock_manifest.specs.Text.{record_text}
use Rattle.rock_record.specs.Made.{items_of}
use Rattle.rock_record.specs.Rocks.{record_of}
use Rattle.rock_record.specs.declared.rock.Rock.{Rock}
use Rattle.tree_claims.proofs.Members.{map_contains}
use Rattle.tree_paths.specs.Places.{own_path, rock_folder}
use Rattle.tree_sets.proofs.Folders.{folders_apart, form_in_no_folder, form_no_manifest, manifest_outside, record_is_no_rockspec}
use Rattle.tree_sets.proofs.ItemPlaces.{one_place, placed}
use Rattle.tree_sets.proofs.RockFiles.{folder_or_item, manifest_at, mapped_from, of_rocks}
use Rattle.tree_sets.proofs.Rows.{IsNowhere, all_append, all_from, all_mapped, own_append, own_flat, own_mapped}
use Rattle.tree_sets.proofs.SetKeys.{entry_in, rocks_listed, slashless_in}
use Rattle.tree_sets.proofs.SortedLists.{sorted_pairs}
use Rattle.tree_sets.specs.Places.{place_of}
use Rattle.tree_sets.specs.Sets.{entry_of, entries_of, CanStand}
use Rattle.tree_sets.specs.Trees.{item_file, manifest_file, manifest_path, own_file, rock_files, tree_files, File, HaveOwnPaths}
use Rattle.tree_sets.specs.declared.entry.IndexEntry.{IndexEntry}

pub own_path_apart : (key : RockKey) (path other : List ℕ) → own_path key path ≡ own_path key other → path ≡ other
own_path_apart key path other same = append_cancel_left (rock_folder key.name key.version) path other same

-- no place is in a rock's folder
pub place_in_no_folder : (entries : List IndexEntry) (key other : RockKey) (item : Item) (path : List ℕ) → place_of entries key item ≢ own_path other path
place_in_no_folder entries key other item path same =
    let at = placed entries key item in
    form_in_no_folder at.0 item key other path (sym at.1 ∙ same)

-- and none is the manifest's path
pub place_no_manifest : (entries : List IndexEntry) (key : RockKey) (item : Item) → place_of entries key item ≢ manifest_path
place_no_manifest entries key item same =
    let at = placed entries key item in
    form_no_manifest at.0 item key (sym at.1 ∙ same)

-- ---- the files of one rock

-- this path in the rock's folder is no item's
items_elsewhere : (entries : List IndexEntry) (key : RockKey) (path bytes : List ℕ) (items : List (Item × List ℕ))
    → IsNowhere (own_path key path, bytes) (map (item_file entries key) items)
items_elsewhere entries key path bytes items =
    all_mapped (λ other. other.0 ≢ own_path key path) (item_file entries key) items
    (all_from (λ file. (item_file entries key file).0 ≢ own_path key path) items (λ file among. place_in_no_folder entries key key file.0 path))

-- where no own file has that path in the rock
own_elsewhere : (key : RockKey) (path bytes : List ℕ) (own : List File) → ((other : List ℕ) → Contains (map (λ file. file.0) own) other → other ≢ path)
    → IsNowhere (own_path key path, bytes) (map (own_file key) own)
own_elsewhere key path bytes own apart =
    all_mapped (λ other. other.0 ≢ own_path key path) (own_file key) own
    (all_from (λ file. (own_file key file).0 ≢ own_path key path) own
    (λ file among same. apart file.0 (map_contains (λ (f : File). f.0) own file among) (own_path_apart key file.0 path same)))

before_them : (entries : List IndexEntry) (rock : Rock) (path bytes : List ℕ) → ((other : List ℕ) → Contains (map (λ file. file.0) rock.own) other → other ≢ path)
    → IsNowhere (own_path rock.key path, bytes) (map (own_file rock.key) rock.own ++ map (item_file entries rock.key) rock.items)
before_them entries rock path bytes apart =
    all_append (λ other. other.0 ≢ own_path rock.key path) (map (own_file rock.key) rock.own) (map (item_file entries rock.key) rock.items)
    (own_elsewhere rock.key path bytes rock.own apart) (items_elsewhere entries rock.key path bytes rock.items)

-- ---- a set

module _ (set : List Rock) (stands : CanStand set) where
  item_of : (rock : Rock) (file : Item × List ℕ) → Contains rock.items file → Contains (items_of rock) file.0
  item_of rock file among = map_contains (λ (f : Item × List ℕ). f.0) rock.items file among

  pub places_differ : (x y : Rock) (item other : Item) → Contains set x → Contains set y → Contains (items_of x) item → Contains (items_of y) other
      → place_of (entries_of set) x.key item ≡ place_of (entries_of set) y.key other → (x.key ≡ y.key) × (item ≡ other)
  places_differ x y item other x_in y_in has too same =
      one_place (entries_of set) stands.index.clean (entry_of x) (entry_of y) item other (map_contains entry_of set x x_in) (map_contains entry_of set y y_in) has too same

  own_items : (rock : Rock) → Contains set rock → HaveOwnPaths (map (item_file (entries_of set) rock.key) rock.items)
  own_items rock among =
      own_mapped (item_file (entries_of set) rock.key) rock.items
      (sorted_pairs item_cmp item_total (λ (file : Item × List ℕ). file.0) (λ x y. (item_file (entries_of set) rock.key y).0 ≢ (item_file (entries_of set) rock.key x).0)
      rock.items (entry_in set stands rock among).items
      (λ x y here there differ same. differ (sym (places_differ rock rock y.0 x.0 among among (item_of rock y there) (item_of rock x here) same).1)))

  own_files : (rock : Rock) → Contains set rock → HaveOwnPaths (map (own_file rock.key) rock.own)
  own_files rock among =
      own_mapped (own_file rock.key) rock.own
      (sorted_pairs path_cmp path_total (λ (file : File). file.0) (λ x y. (own_file rock.key y).0 ≢ (own_file rock.key x).0)
      rock.own (entry_in set stands rock among).own
      (λ x y here there differ same. differ (sym (own_path_apart rock.key y.0 x.0 same))))

  own_and_items : (rock : Rock) → Contains set rock → HaveOwnPaths (map (own_file rock.key) rock.own ++ map (item_file (entries_of set) rock.key) rock.items)
  own_and_items rock among =
      own_append (map (own_file rock.key) rock.own) (map (item_file (entries_of set) rock.key) rock.items) (own_files rock among) (own_items rock among)
      (λ file other mine its same.
      let left = mapped_from (own_file rock.key) rock.own file mine in
      let right = mapped_from (item_file (entries_of set) rock.key) rock.items other its in
      place_in_no_folder (entries_of set) rock.key rock.key right.0.0 left.0.0 (sym right.2 ∙ same ∙ left.2))

  rock_own : (rock : Rock) → Contains set rock → HaveOwnPaths (rock_files (entries_of set) rock)
  rock_own rock among =
      let beside = (entry_in set stands rock among).own_beside in
      let name = rockspec_name rock.key.name rock.key.version in
      let record_name = codes "rock_manifest" in (
        (
          λ same. record_is_no_rockspec rock.key.name rock.key.version (own_path_apart rock.key record_name name same),
          before_them (entries_of set) rock name rock.rockspec (λ path has. (beside path has).1.0),
        ),
        (
          before_them (entries_of set) rock record_name (record_text (record_of rock)) (λ path has. (beside path has).0.0),
          own_and_items rock among,
        ),
      )

  -- two rocks have no path in common
  pub rocks_apart : (x y : Rock) (file other : File) → Contains set x → Contains set y → x.key ≢ y.key
      → Contains (rock_files (entries_of set) x) file → Contains (rock_files (entries_of set) y) other → other.0 ≢ file.0
  rocks_apart x y file other x_in y_in differ has too same =
      ⊎_elim
      (λ mine. ⊎_elim
      (λ its. differ (sym (folders_apart y.key x.key its.0 mine.0 (slashless_in set stands y y_in) (slashless_in set stands x x_in) (sym its.1 ∙ same ∙ mine.1)).0))
      (λ its. place_in_no_folder (entries_of set) y.key x.key its.0 mine.0 (sym its.2 ∙ same ∙ mine.1))
      (folder_or_item (entries_of set) y other too))
      (λ mine. ⊎_elim
      (λ its. place_in_no_folder (entries_of set) x.key y.key mine.0 its.0 (sym mine.2 ∙ sym same ∙ its.1))
      (λ its. differ (sym (places_differ y x its.0 mine.0 y_in x_in its.1 mine.1 (sym its.2 ∙ same ∙ mine.2)).0))
      (folder_or_item (entries_of set) y other too))
      (folder_or_item (entries_of set) x file has)

  rocks_own : HaveOwnPaths (flat_map (rock_files (entries_of set)) set)
  rocks_own =
      own_flat (rock_files (entries_of set)) (λ x y. Contains set x × Contains set y × (x.key ≢ y.key))
      (λ x y file other apart. rocks_apart x y file other apart.0 apart.1 apart.2) set
      (all_from (λ rock. HaveOwnPaths (rock_files (entries_of set) rock)) set rock_own)
      (sorted_pairs listing_cmp key_total (λ (rock : Rock). rock.key) (λ x y. Contains set x × Contains set y × (x.key ≢ y.key)) set
      (rocks_listed set stands.index.listed) (λ x y x_in y_in differ. (x_in, y_in, differ)))

  -- no rock has a file at the manifest's path
  pub no_manifest : (rock : Rock) (file : File) → Contains (rock_files (entries_of set) rock) file → file.0 ≢ manifest_path
  no_manifest rock file has same =
      ⊎_elim (λ inside. manifest_outside rock.key inside.0 (sym same ∙ inside.1))
      (λ item. place_no_manifest (entries_of set) rock.key item.0 (sym item.2 ∙ same)) (folder_or_item (entries_of set) rock file has)

manifest_own : (entries : List IndexEntry) → HaveOwnPaths (manifest_file entries)
manifest_own [] = tt
manifest_own (entry ∷ entries) = (tt, tt)

pub own_paths : (set : List Rock) → CanStand set → HaveOwnPaths (tree_files set)
own_paths set stands =
    own_append (flat_map (rock_files (entries_of set)) set) (manifest_file (entries_of set)) (rocks_own set stands) (manifest_own (entries_of set))
    (λ file other here there same.
    let found = of_rocks set file here in
    no_manifest set stands found.0 file found.2 (sym same ∙ manifest_at (entries_of set) other there))
