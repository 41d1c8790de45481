-- Sets of rocks. A set is the list of its rocks in the order in which rocks are listed. (This project's own.)
use Rattle.std.specs.Prelude.{ℕ, ◌+◌, List, length, map}
use Rattle.std.specs.List.{All, sum}
use Rattle.std.specs.List.Sorted.{IsStrictlySortedBy}
use Rattle.rocks_text.specs.Files.{path_cmp}
use Rattle.rocks_text.specs.Items.{item_cmp}
use Rattle.rocks_text.specs.declared.item.Item.{Item}
use Rattle.rocks_version.specs.Keys.{listing_cmp, rockspec_name}
use Rattle.rocks_version.specs.declared.key.RockKey.{RockKey}
use Rattle.rock_record.specs.Made.{AreItemsApart, ArePathsApart, AreBesideBoth}
use Rattle.rock_record.specs.Rocks.{HasPaths}
use Rattle.rock_record.specs.declared.rock.Rock.{Rock}
use Rattle.tree_claims.specs.Claims.{IsClean}
use Rattle.tree_sets.specs.declared.entry.IndexEntry.{IndexEntry}

-- ---- rocks without their bytes

-- a rock without the bytes of its files
abbrev pub entry_of : Rock → IndexEntry
entry_of rock = record {
  key = rock.key;
  dependencies = rock.dependencies;
  items = map (λ file. file.0) rock.items;
  own = map (λ file. file.0) rock.own;
}

abbrev pub entries_of : List Rock → List IndexEntry
entries_of set = map entry_of set

abbrev pub keys_in : List IndexEntry → List RockKey
keys_in entries = map (λ entry. entry.key) entries

-- rocks with their items
abbrev pub claimed : List IndexEntry → List (RockKey × List Item)
claimed entries = map (λ entry. (entry.key, entry.items)) entries

-- how many items and own files the rocks have
abbrev pub files_in : List IndexEntry → ℕ
files_in entries = sum (map (λ entry. length entry.items + length entry.own) entries)

-- ---- which sets can stand in a tree

-- items and own files are in order, each once; none stands in another's way, and no own file in that of the record or
-- of the rockspec
pub record IsEntry (entry : IndexEntry) : Type 0 where
  pub items : IsStrictlySortedBy item_cmp entry.items
  pub own : IsStrictlySortedBy path_cmp entry.own
  pub items_apart : AreItemsApart entry.items
  pub own_apart : ArePathsApart entry.own
  pub own_beside : AreBesideBoth (rockspec_name entry.key.name entry.key.version) entry.own

-- each rock is listed before all that stand behind it
abbrev pub AreListed : List RockKey → Type 0
AreListed keys = IsStrictlySortedBy listing_cmp keys

-- rocks in their order, each once, whose files can stand beside each other
pub record IsIndex (entries : List IndexEntry) : Type 0 where
  pub listed : AreListed (keys_in entries)
  pub each : All IsEntry entries
  pub clean : IsClean (claimed entries)

-- the same of rocks with the bytes of their files
pub record CanStand (set : List Rock) : Type 0 where
  pub index : IsIndex (entries_of set)
  -- what the types of its parts promise of every rock
  pub paths : All HasPaths set
