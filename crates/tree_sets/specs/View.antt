-- What the manifest of a set says. (LuaRocks's tree manifest.)
use Rattle.std.specs.Prelude.{ℕ, List, map}
use Rattle.std.specs.List.{filter, flat_map}
use Rattle.std.specs.FinMap.{from_entries, keys}
use Rattle.rocks_text.specs.Items.{item_cmp}
use Rattle.rocks_text.specs.declared.item.Item.{Item}
use Rattle.rocks_text.specs.declared.item.Kind.{Kind}
use Rattle.rocks_text.specs.declared.item.Kind.TheVariants.{Lua, Lib, Bin}
use Rattle.rocks_version.specs.declared.key.RockKey.{RockKey}
use Rattle.rock_manifest.specs.Text.{is_kind}
use Rattle.manifest_text.specs.declared.view.ManifestView.{ManifestView}
use Rattle.manifest_text.specs.declared.view.ViewRock.{ViewRock}
use Rattle.tree_sets.specs.Needs.{met_by}
use Rattle.tree_sets.specs.Places.{providers_of}
use Rattle.tree_sets.specs.Sets.{keys_in}
use Rattle.tree_sets.specs.declared.entry.IndexEntry.{IndexEntry}

-- an item as one of a finite map's keys
abbrev pub as_key : Item → Item × Unit {0}
as_key item = (item, tt)

-- the items that some rock has, in order, each once
abbrev pub items_in : List IndexEntry → List Item
items_in entries = keys (from_entries {R = item_cmp} (map as_key (flat_map (λ entry. entry.items) entries)))

-- the paths of the items of one kind, each with the rocks that have it
abbrev pub provided : Kind → List IndexEntry → List (List ℕ × List RockKey)
provided kind entries =
    map (λ item. (item.path, providers_of entries item)) (filter (λ item. is_kind item.kind kind) (items_in entries))

-- a rock, and for each dependency the rock that meets it
abbrev pub view_rock : List RockKey → IndexEntry → ViewRock
view_rock keys entry = record { key = entry.key; dependencies = map (λ wanted. (wanted, met_by keys wanted)) entry.dependencies }

abbrev pub view_of : List IndexEntry → ManifestView
view_of entries = record {
  commands = provided Bin entries;
  libs = provided Lib entries;
  modules = provided Lua entries;
  rocks = map (view_rock (keys_in entries)) entries;
}
