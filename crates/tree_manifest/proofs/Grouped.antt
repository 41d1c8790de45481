-- A table of rocks by their names and versions, as the list of its names with the versions of each.
use Rattle.std.proofs.Common.{◌≢◌, ℕ, List, [], ◌∷◌, ◌++◌, map}
use Rattle.std.specs.List.{AllByRecursion}
use Rattle.lua_value.specs.declared.key.Key.TheVariants.{Text}
use Rattle.lua_value.specs.Pairs.{Datum, Pairs, table_value, no_pairs, with_pair}
use Rattle.manifest_text.specs.declared.view.ViewRock.{ViewRock}
use Rattle.rocks_constraint.specs.Wanted.{Wanted}
use Rattle.rocks_version.specs.declared.key.RockKey.{RockKey}

abbrev pub Needs : Type 0
Needs = List (Wanted × RockKey)

abbrev pub Versions : Type 0
Versions = List (List ℕ × Needs)

abbrev pub Groups : Type 0
Groups = List (List ℕ × Versions)

abbrev pub rock_at : List ℕ → List ℕ × Needs → ViewRock
rock_at name version = record { key = record { name = name; version = version.0 }; dependencies = version.1 }

-- the rocks, name by name
abbrev pub rocks_of : Groups → List ViewRock
rocks_of [] = []
rocks_of (group ∷ groups) = map (rock_at group.0) group.1 ++ rocks_of groups

-- each name has a version
abbrev pub AreSome : Groups → Type 0
AreSome groups = AllByRecursion (λ group. group.1 ≢ []) groups

-- the tables of versions and of names, where the value of a rock is told by what it needs
abbrev pub version_pairs : (Needs → Datum) → Versions → Pairs
version_pairs value [] = no_pairs
version_pairs value (version ∷ versions) =
    with_pair (Text version.0) (value version.1) (version_pairs value versions)

abbrev pub group_pairs : (Needs → Datum) → Groups → Pairs
group_pairs value [] = no_pairs
group_pairs value (group ∷ groups) =
    with_pair (Text group.0) (table_value (version_pairs value group.1)) (group_pairs value groups)
