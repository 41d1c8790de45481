-- The keys of a set's rocks.
use Rattle.std.proofs.Common.{◌≡◌, List, [], ◌∷◌, map, refl, ap, subst}
use Rattle.std.proofs.lemmas.List.Elements.{All-contains}
use Rattle.std.specs.List.{Contains}
use Rattle.rocks_version.proofs.OrderLaws.{key_total}
use Rattle.rocks_version.specs.Keys.{listing_cmp}
use Rattle.rock_record.specs.Rocks.{HasPaths}
use Rattle.rock_record.specs.declared.rock.Rock.{Rock}
use Rattle.tree_claims.proofs.Members.{map_contains}
use Rattle.tree_sets.proofs.Folders.{IsSlashless, name_slashless, version_slashless}
use Rattle.tree_sets.proofs.SortedLists.{one_of_key}
use Rattle.tree_sets.specs.Sets.{entry_of, entries_of, keys_in, AreListed, IsEntry, CanStand}
use Rattle.tree_sets.specs.declared.entry.IndexEntry.{IndexEntry}

pub keys_of_set : (set : List Rock) → keys_in (entries_of set) ≡ map (λ rock. rock.key) set
keys_of_set [] = refl
keys_of_set (rock ∷ set) = ap (λ keys. rock.key ∷ keys) (keys_of_set set)

pub rocks_listed : (set : List Rock) → AreListed (keys_in (entries_of set)) → AreListed (map (λ rock. rock.key) set)
rocks_listed set listed = subst AreListed (keys_of_set set) listed

-- a set has one rock of each key
pub one_rock : (set : List Rock) → CanStand set → (x y : Rock) → Contains set x → Contains set y → x.key ≡ y.key → x ≡ y
one_rock set stands = one_of_key listing_cmp key_total (λ (rock : Rock). rock.key) set (rocks_listed set stands.index.listed)

-- and entries have one of each key
pub one_entry : (entries : List IndexEntry) → AreListed (keys_in entries) → (x y : IndexEntry) → Contains entries x → Contains entries y → x.key ≡ y.key → x ≡ y
one_entry entries listed = one_of_key listing_cmp key_total (λ (entry : IndexEntry). entry.key) entries listed

pub paths_in : (set : List Rock) → CanStand set → (rock : Rock) → Contains set rock → HasPaths rock
paths_in set stands rock among = All-contains HasPaths set rock stands.paths among

pub slashless_in : (set : List Rock) → CanStand set → (rock : Rock) → Contains set rock → IsSlashless rock.key
slashless_in set stands rock among =
    let paths = paths_in set stands rock among in
    (name_slashless rock.key.name paths.name, version_slashless rock.key.version paths.version)

pub entry_in : (set : List Rock) → CanStand set → (rock : Rock) → Contains set rock → IsEntry (entry_of rock)
entry_in set stands rock among =
    All-contains IsEntry (entries_of set) (entry_of rock) stands.index.each (map_contains entry_of set rock among)
