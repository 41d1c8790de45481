-- What stands in the tree of a set: each file of its rocks, and at the path of a record only the record of that rock.
use Rattle.std.proofs.Common.{◌≡◌, ℕ, List, Some, codes, sym, ap, ⊎_elim}
use Rattle.std.specs.FinMap.{get}
use Rattle.std.specs.List.{Contains}
use Rattle.rocks_text.specs.declared.item.Item.{Item}
use Rattle.rocks_version.specs.Keys.{rockspec_name}
use Rattle.rocks_version.specs.declared.key.RockKey.{RockKey}
use Rattle.rock_manifest.specs.Text.{record_text}
use Rattle.rock_record.specs.Rocks.{record_of}
use Rattle.rock_record.specs.declared.rock.Rock.{Rock}
use Rattle.tree_claims.proofs.Members.{map_contains}
use Rattle.tree_paths.specs.Places.{own_path}
use Rattle.tree_sets.proofs.Folders.{folders_apart, manifest_outside, record_is_no_rockspec, IsSlashless}
use Rattle.tree_sets.proofs.OwnPaths.{place_in_no_folder}
use Rattle.tree_sets.proofs.RockFiles.{file_of, item_in, own_in, record_in, rock_file_in, rockspec_in, tree_file, IsFileOf}
use Rattle.tree_sets.proofs.SetKeys.{entry_in, slashless_in}
use Rattle.tree_sets.proofs.TreeFiles.{each, only}
use Rattle.tree_sets.specs.Places.{place_of}
use Rattle.tree_sets.specs.Sets.{entries_of, CanStand}
use Rattle.tree_sets.specs.Trees.{item_file, own_file, record_path, rockspec_path, tree_of, File}

module _ (set : List Rock) (stands : CanStand set) where
  pub rockspec_stands : (rock : Rock) → Contains set rock → get (tree_of set) (rockspec_path rock.key) ≡ Some rock.rockspec
  rockspec_stands rock among =
      each set (rockspec_path rock.key) rock.rockspec stands
      (rock_file_in set rock (rockspec_path rock.key, rock.rockspec) among (rockspec_in (entries_of set) rock))

  pub record_stands : (rock : Rock) → Contains set rock → get (tree_of set) (record_path rock.key) ≡ Some (record_text (record_of rock))
  record_stands rock among =
      each set (record_path rock.key) (record_text (record_of rock)) stands
      (rock_file_in set rock (record_path rock.key, record_text (record_of rock)) among (record_in (entries_of set) rock))

  pub own_stands : (rock : Rock) (own : File) → Contains set rock → Contains rock.own own → get (tree_of set) (own_path rock.key own.0) ≡ Some own.1
  own_stands rock own among has =
      each set (own_path rock.key own.0) own.1 stands (rock_file_in set rock (own_file rock.key own) among (own_in (entries_of set) rock own has))

  pub item_stands : (rock : Rock) (item : Item × List ℕ) → Contains set rock → Contains rock.items item
      → get (tree_of set) (place_of (entries_of set) rock.key item.0) ≡ Some item.1
  item_stands rock item among has =
      each set (place_of (entries_of set) rock.key item.0) item.1 stands
      (rock_file_in set rock (item_file (entries_of set) rock.key item) among (item_in (entries_of set) rock item has))

  -- the rock that this is the record of
  abbrev HasRecord : RockKey → List ℕ → Type 0
  HasRecord key bytes = (rock : Rock) × Contains set rock × (rock.key ≡ key) × (bytes ≡ record_text (record_of rock))

  record_among : (key : RockKey) (bytes : List ℕ) → IsSlashless key → (rock : Rock) → Contains set rock
      → IsFileOf (entries_of set) rock (record_path key, bytes) → HasRecord key bytes
  record_among key bytes none rock among file =
      let slashless = slashless_in set stands rock among in
      let record_name = codes "rock_manifest" in
      let name = rockspec_name rock.key.name rock.key.version in
      ⊎_elim
      (λ e. absurd (record_is_no_rockspec rock.key.name rock.key.version (folders_apart key rock.key record_name name none slashless (ap (λ (f : File). f.0) e)).1))
      (⊎_elim
      (λ e. (rock, among, sym (folders_apart key rock.key record_name record_name none slashless (ap (λ (f : File). f.0) e)).0, ap (λ (f : File). f.1) e))
      (⊎_elim
      (λ own. absurd (((entry_in set stands rock among).own_beside own.0.0 (map_contains (λ (f : File). f.0) rock.own own.0 own.1)).0.0
      (sym (folders_apart key rock.key record_name own.0.0 none slashless (ap (λ (f : File). f.0) own.2)).1)))
      (λ item. absurd (place_in_no_folder (entries_of set) rock.key key item.0.0 record_name (sym (ap (λ (f : File). f.0) item.2)))))) file

  -- what stands at the path of a rock's record is the record of that rock, which is one of the set
  pub which_record : (key : RockKey) (bytes : List ℕ) → IsSlashless key → get (tree_of set) (record_path key) ≡ Some bytes
      → (rock : Rock) × Contains set rock × (rock.key ≡ key) × (bytes ≡ record_text (record_of rock))
  which_record key bytes none is =
      let file : File = (record_path key, bytes) in
      ⊎_elim (λ found. record_among key bytes none found.0 found.1 (file_of (entries_of set) found.0 file found.2))
      (λ at. absurd (manifest_outside key (codes "rock_manifest") (sym at)))
      (tree_file set file (only set (record_path key) bytes is))
