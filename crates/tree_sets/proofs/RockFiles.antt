-- The files of a rock in a tree.
use Rattle.std.proofs.Common.{◌≡◌, ℕ, List, [], ◌∷◌, ◌++◌, map, codes, sym, ap, inl, inr, ⊎_elim}
use Rattle.std.proofs.lemmas.List.Elements.{Contains-append_cases, Contains-append_left, Contains-append_right}
use Rattle.std.specs.Prelude.{◌⊎◌}
use Rattle.std.specs.List.{flat_map, Contains}
use Rattle.rocks_text.specs.declared.item.Item.{Item}
use Rattle.rock_manifest.specs.Text.{record_text}
use Rattle.rock_record.specs.Made.{items_of}
use Rattle.rock_record.specs.Rocks.{record_of}
use Rattle.rock_record.specs.declared.rock.Rock.{Rock}
use Rattle.rocks_version.specs.Keys.{rockspec_name}
use Rattle.tree_claims.proofs.Members.{cons_behind, cons_cases, cons_here, flat_contains, flat_from, map_contains, map_from, nil_none}
use Rattle.tree_paths.specs.Places.{own_path}
use Rattle.tree_sets.specs.Places.{place_of}
use Rattle.tree_sets.specs.Sets.{entries_of}
use Rattle.tree_sets.specs.Trees.{item_file, manifest_file, manifest_path, own_file, record_path, rock_files, rockspec_path, tree_files, File}
use Rattle.tree_sets.specs.declared.entry.IndexEntry.{IndexEntry}

-- the rockspec, the record, an own file or an item of the rock
abbrev pub IsFileOf : List IndexEntry → Rock → File → Type 0
IsFileOf entries rock file =
    (file ≡ (rockspec_path rock.key, rock.rockspec))
    ⊎ ((file ≡ (record_path rock.key, record_text (record_of rock)))
    ⊎ (((own : File) × Contains rock.own own × (file ≡ own_file rock.key own))
    ⊎ ((item : Item × List ℕ) × Contains rock.items item × (file ≡ item_file entries rock.key item))))

abbrev behind_both : List IndexEntry → Rock → List File
behind_both entries rock = map (own_file rock.key) rock.own ++ map (item_file entries rock.key) rock.items

pub file_of : (entries : List IndexEntry) (rock : Rock) (file : File) → Contains (rock_files entries rock) file → IsFileOf entries rock file
file_of entries rock file among =
    let rockspec : File = (rockspec_path rock.key, rock.rockspec) in
    let whole : File = (record_path rock.key, record_text (record_of rock)) in
    ⊎_elim (λ e. inl (sym e)) (λ more.
    ⊎_elim (λ e. inr (inl (sym e))) (λ rest.
    ⊎_elim (λ own. inr (inr (inl (map_from (own_file rock.key) rock.own file own))))
    (λ item. inr (inr (inr (map_from (item_file entries rock.key) rock.items file item))))
    (Contains-append_cases (map (own_file rock.key) rock.own) (map (item_file entries rock.key) rock.items) file rest))
    (cons_cases whole (behind_both entries rock) file more))
    (cons_cases rockspec (whole ∷ behind_both entries rock) file among)

-- a file in the rock's folder, or an item at its place
abbrev pub IsFolderFile : Rock → File → Type 0
IsFolderFile rock file = (path : List ℕ) × (file.0 ≡ own_path rock.key path)

abbrev pub IsItemFile : List IndexEntry → Rock → File → Type 0
IsItemFile entries rock file = (item : Item) × Contains (items_of rock) item × (file.0 ≡ place_of entries rock.key item)

path_is : (file other : File) → file ≡ other → file.0 ≡ other.0
path_is file other e = ap (λ (f : File). f.0) e

pub folder_or_item : (entries : List IndexEntry) (rock : Rock) (file : File) → Contains (rock_files entries rock) file
    → IsFolderFile rock file ⊎ IsItemFile entries rock file
folder_or_item entries rock file among =
    ⊎_elim (λ e. inl (rockspec_name rock.key.name rock.key.version, path_is file (rockspec_path rock.key, rock.rockspec) e))
    (⊎_elim (λ e. inl (codes "rock_manifest", path_is file (record_path rock.key, record_text (record_of rock)) e))
    (⊎_elim (λ own. inl (own.0.0, path_is file (own_file rock.key own.0) own.2))
    (λ item. inr (item.0.0, map_contains (λ (f : Item × List ℕ). f.0) rock.items item.0 item.1, path_is file (item_file entries rock.key item.0) item.2))))
    (file_of entries rock file among)

-- the path of a file that is one of these, at its place
pub mapped_from : {X : Type 0} (place : X → File) (xs : List X) (file : File) → Contains (map place xs) file → (x : X) × Contains xs x × (file.0 ≡ (place x).0)
mapped_from place xs file among = let found = map_from place xs file among in (found.0, found.1, path_is file (place found.0) found.2)

-- ---- what a tree has

abbrev rocks_part : List Rock → List File
rocks_part set = flat_map (rock_files (entries_of set)) set

pub manifest_at : (entries : List IndexEntry) (file : File) → Contains (manifest_file entries) file → file.0 ≡ manifest_path
manifest_at [] file among = absurd (nil_none file among)
manifest_at (entry ∷ entries) file among =
    ⊎_elim (λ e. sym (ap (λ (f : File). f.0) e)) (λ more. absurd (nil_none file more)) (cons_cases _ [] file among)

pub of_rocks : (set : List Rock) (file : File) → Contains (flat_map (rock_files (entries_of set)) set) file
    → (rock : Rock) × Contains set rock × Contains (rock_files (entries_of set) rock) file
of_rocks set file among = flat_from (rock_files (entries_of set)) set file among

-- a file of a tree is a rock's, or at the manifest's path
pub tree_file : (set : List Rock) (file : File) → Contains (tree_files set) file
    → ((rock : Rock) × Contains set rock × Contains (rock_files (entries_of set) rock) file) ⊎ (file.0 ≡ manifest_path)
tree_file set file among =
    ⊎_elim (λ of_rocks. inl (flat_from (rock_files (entries_of set)) set file of_rocks)) (λ at. inr (manifest_at (entries_of set) file at))
    (Contains-append_cases (rocks_part set) (manifest_file (entries_of set)) file among)

pub rock_file_in : (set : List Rock) (rock : Rock) (file : File) → Contains set rock → Contains (rock_files (entries_of set) rock) file → Contains (tree_files set) file
rock_file_in set rock file among has =
    Contains-append_left (rocks_part set) (manifest_file (entries_of set)) file (flat_contains (rock_files (entries_of set)) set rock file among has)

pub rockspec_in : (entries : List IndexEntry) (rock : Rock) → Contains (rock_files entries rock) (rockspec_path rock.key, rock.rockspec)
rockspec_in entries rock = cons_here (rockspec_path rock.key, rock.rockspec) ((record_path rock.key, record_text (record_of rock)) ∷ behind_both entries rock)

pub record_in : (entries : List IndexEntry) (rock : Rock) → Contains (rock_files entries rock) (record_path rock.key, record_text (record_of rock))
record_in entries rock =
    let whole : File = (record_path rock.key, record_text (record_of rock)) in
    cons_behind (rockspec_path rock.key, rock.rockspec) (whole ∷ behind_both entries rock) whole (cons_here whole (behind_both entries rock))

in_both : (entries : List IndexEntry) (rock : Rock) (file : File) → Contains (behind_both entries rock) file → Contains (rock_files entries rock) file
in_both entries rock file among =
    let whole : File = (record_path rock.key, record_text (record_of rock)) in
    cons_behind (rockspec_path rock.key, rock.rockspec) (whole ∷ behind_both entries rock) file (cons_behind whole (behind_both entries rock) file among)

pub own_in : (entries : List IndexEntry) (rock : Rock) (own : File) → Contains rock.own own → Contains (rock_files entries rock) (own_file rock.key own)
own_in entries rock own among =
    in_both entries rock (own_file rock.key own)
    (Contains-append_left (map (own_file rock.key) rock.own) (map (item_file entries rock.key) rock.items) (own_file rock.key own) (map_contains (own_file rock.key) rock.own own among))

pub item_in : (entries : List IndexEntry) (rock : Rock) (item : Item × List ℕ) → Contains rock.items item → Contains (rock_files entries rock) (item_file entries rock.key item)
item_in entries rock item among =
    in_both entries rock (item_file entries rock.key item)
    (Contains-append_right (map (own_file rock.key) rock.own) (map (item_file entries rock.key) rock.items) (item_file entries rock.key item) (map_contains (item_file entries rock.key) rock.items item among))
