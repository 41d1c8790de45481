-- What the steps in making a rock make.
use Rattle.std.specs.Prelude.{ℕ, List, Option, None, Some}
use Rattle.std.specs.List.{filter_map}
use Rattle.rocks_text.specs.declared.item.Item.{Item}
use Rattle.rock_parts.specs.declared.parts.Part.{Part}
use Rattle.rock_parts.specs.declared.parts.Part.TheVariants as parts
use Rattle.rock_parts.specs.declared.parts.Step.{Step}
use Rattle.rock_parts.specs.declared.parts.Step.TheVariants.{Read, NoFile}

abbrev pub item_in : Part → Option Item
item_in (parts.Item item) = Some item
item_in (parts.Own path) = None

abbrev pub own_in : Part → Option (List ℕ)
own_in (parts.Item item) = None
own_in (parts.Own path) = Some path

-- the item that a step makes, if it makes one
abbrev pub item_made : Step → Option Item
item_made (Read source) = item_in source.part
item_made (NoFile folder) = None

-- the same of an own file
abbrev pub own_made : Step → Option (List ℕ)
own_made (Read source) = own_in source.part
own_made (NoFile folder) = None

abbrev pub items_made : List Step → List Item
items_made steps = filter_map item_made steps

abbrev pub own_paths_made : List Step → List (List ℕ)
own_paths_made steps = filter_map own_made steps
