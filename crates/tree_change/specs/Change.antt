-- Which moves change the tree of one set into that of another. (This project's own.)
use Rattle.std.specs.Prelude.{ℕ, suc, Bool, false, ◌&&◌, not, List, [], ◌∷◌, ◌++◌, map, if◌then◌else◌}
use Rattle.std.specs.List.{filter, flat_map}
use Rattle.std.specs.FinMap.{entries, from_entries, keys, values}
use Rattle.rocks_text.specs.Files.{path_cmp}
use Rattle.rocks_text.specs.declared.item.Item.{Item}
use Rattle.rocks_version.specs.Keys.{is_before}
use Rattle.rocks_version.specs.declared.key.RockKey.{RockKey}
use Rattle.rock_record.specs.declared.rock.Rock.{Rock}
use Rattle.tree_claims.specs.Rocks.{is_same_rock}
use Rattle.tree_paths.specs.Places.{own_path, plain_path, versioned_path}
use Rattle.tree_sets.specs.Places.{place_of, providers_of}
use Rattle.tree_sets.specs.Sets.{entries_of}
use Rattle.tree_sets.specs.Trees.{manifest_file, manifest_path, record_path, rock_files, rockspec_path, File}
use Rattle.tree_sets.specs.declared.entry.IndexEntry.{IndexEntry}
use Rattle.tree_model.specs.Held.{changed, is_among, without}
use Rattle.tree_moves.specs.Moves.{new_path, old_path}
use Rattle.tree_moves.specs.declared.lists.Move.{Move}
use Rattle.tree_moves.specs.declared.lists.MoveLists.{MoveLists}
use Rattle.tree_moves.specs.declared.lists.Staged.{Staged}

-- ---- sets

-- the rocks with one more, which stands before those that it is listed before
abbrev pub with_rock : Rock → List Rock → List Rock
with_rock added [] = added ∷ []
with_rock added (rock ∷ rocks) = if is_before added.key rock.key then added ∷ rock ∷ rocks else rock ∷ with_rock added rocks

abbrev pub with_rocks : List Rock → List Rock → List Rock
with_rocks [] rocks = rocks
with_rocks (added ∷ more) rocks = with_rocks more (with_rock added rocks)

-- the set without some rocks and with others
abbrev pub changed_set : (added : List Rock) (removed : List RockKey) → List Rock → List Rock
changed_set added removed set = with_rocks added (filter (λ rock. not (is_among removed rock.key)) set)

-- ---- what goes away

-- the paths of a rock's files in a tree
abbrev pub entry_paths : List IndexEntry → IndexEntry → List (List ℕ)
entry_paths among entry =
    rockspec_path entry.key
    ∷ record_path entry.key
    ∷ (map (own_path entry.key) entry.own ++ map (place_of among entry.key) entry.items)

-- the path of the manifest, where there is a rock
abbrev pub manifest_paths : List IndexEntry → List (List ℕ)
manifest_paths [] = []
manifest_paths (entry ∷ more) = manifest_path ∷ []

-- the files of the removed rocks, and the old manifest
abbrev pub going : (removed : List RockKey) → List IndexEntry → List (List ℕ)
going removed before = flat_map (entry_paths before) (filter (λ entry. is_among removed entry.key) before) ++ manifest_paths before

abbrev pub as_key : List ℕ → List ℕ × Unit {0}
as_key path = (path, tt)

-- paths in byte order, each once
abbrev pub in_order : List (List ℕ) → List (List ℕ)
in_order paths = keys (from_entries {R = path_cmp} (map as_key paths))

-- each goes to `old/` under a number
abbrev pub to_old : ℕ → List (List ℕ) → List Move
to_old n [] = []
to_old n (path ∷ paths) = record { from = path; to = old_path n } ∷ to_old (suc n) paths

-- ---- what comes

-- the files of the added rocks, and the new manifest
abbrev pub coming : (added : List Rock) → List IndexEntry → List File
coming added after = flat_map (rock_files after) added ++ manifest_file after

-- files in byte order of their paths
abbrev pub files_in_order : List File → List File
files_in_order files = entries (from_entries {R = path_cmp} files)

-- each waits in `new/` under a number, and goes from there to its path
abbrev pub staged_from : ℕ → List File → List Staged
staged_from n [] = []
staged_from n (file ∷ files) = record { at = new_path n; bytes = file.1 } ∷ staged_from (suc n) files

abbrev pub from_new : ℕ → List File → List Move
from_new n [] = []
from_new n (file ∷ files) = record { from = new_path n; to = file.0 } ∷ from_new (suc n) files

-- ---- what holds another path

abbrev pub is_first : RockKey → List RockKey → Bool
is_first key [] = false
is_first key (first ∷ others) = is_same_rock first key

-- the rock holds the item's plain path
abbrev pub is_holder : List IndexEntry → RockKey → Item → Bool
is_holder among key item = is_first key (providers_of among item)

-- a holder's file goes to its versioned path, where another rock comes first
abbrev pub demotion : RockKey → Item → Move
demotion key item = record { from = plain_path item; to = versioned_path item key }

abbrev pub demotions_of : (before after : List IndexEntry) → IndexEntry → List Move
demotions_of before after entry =
    map (demotion entry.key) (filter (λ item. is_holder before entry.key item && not (is_holder after entry.key item)) entry.items)

-- the file of a rock that comes first now goes to the plain path
abbrev pub promotion : RockKey → Item → Move
promotion key item = record { from = versioned_path item key; to = plain_path item }

abbrev pub promotions_of : (before after : List IndexEntry) → IndexEntry → List Move
promotions_of before after entry =
    map (promotion entry.key) (filter (λ item. not (is_holder before entry.key item) && is_holder after entry.key item) entry.items)

-- ---- the lists

abbrev pub from_of : Move → List ℕ × Move
from_of move = (move.from, move)

abbrev pub to_of : Move → List ℕ × Move
to_of move = (move.to, move)

-- moves in byte order of where they come from, or go to
abbrev pub by_source : List Move → List Move
by_source moves = values (from_entries {R = path_cmp} (map from_of moves))

abbrev pub by_target : List Move → List Move
by_target moves = values (from_entries {R = path_cmp} (map to_of moves))

-- The moves of a change: what goes away and who has to leave a plain path go aside; then what comes and who gets a plain path
-- go to their places.
abbrev pub lists_between : (added : List Rock) (removed : List RockKey) (before after : List IndexEntry) → MoveLists
lists_between added removed before after = record {
  staged = staged_from 0 (files_in_order (coming added after));
  aside = by_source (to_old 0 (in_order (going removed before)) ++ flat_map (demotions_of before after) (without removed before));
  place = by_target (from_new 0 (files_in_order (coming added after)) ++ flat_map (promotions_of before after) (without removed before));
}

abbrev pub lists_of : (added : List Rock) (removed : List RockKey) (before : List IndexEntry) → MoveLists
lists_of added removed before = lists_between added removed before (changed (entries_of added) removed before)
