-- Which paths the rocks of a set claim in a tree, and which sets can stand there. (This project's own.)
use Rattle.std.specs.Prelude.{ℕ, ◌≡◌, ◌⊎◌, List, [], ◌∷◌}
use Rattle.std.specs.List.{flat_map, Contains}
use Rattle.rocks_text.specs.declared.item.Item.{Item}
use Rattle.rocks_version.specs.declared.key.RockKey.{RockKey}
use Rattle.tree_paths.specs.Conflicts.{Conflicts}
use Rattle.tree_paths.specs.Places.{plain_path, versioned_path}

-- which of an item's two paths
pub data Form : Type 0 where
  IsPlain : Form
  IsVersioned : Form

-- a rock claims a path for an item
pub record Claim : Type 0 where
  pub key : RockKey
  pub item : Item
  pub form : Form

abbrev pub path_of : Form → Item → RockKey → List ℕ
path_of IsPlain item key = plain_path item
path_of IsVersioned item key = versioned_path item key

abbrev pub claim_path : Claim → List ℕ
claim_path claim = path_of claim.form claim.item claim.key

-- both paths of an item
abbrev pub claims_for : RockKey → Item → List Claim
claims_for key item =
    record { key = key; item = item; form = IsPlain } ∷ record { key = key; item = item; form = IsVersioned } ∷ []

abbrev pub claims_of_rock : RockKey → List Item → List Claim
claims_of_rock key items = flat_map (claims_for key) items

-- both paths of each item of each rock
abbrev pub claims_of : List (RockKey × List Item) → List Claim
claims_of rocks = flat_map (λ rock. claims_of_rock rock.0 rock.1) rocks

-- a claim stands beside itself, and plain paths of one item beside each other
abbrev pub MayShare : Claim → Claim → Type 0
MayShare left right = (left ≡ right) ⊎ ((left.form ≡ IsPlain) × (right.form ≡ IsPlain) × (left.item ≡ right.item))

-- The rocks can stand beside each other in one tree: claims whose paths conflict may share them.
pub record IsClean (rocks : List (RockKey × List Item)) : Type 0 where
  pub share : (left right : Claim) → Contains (claims_of rocks) left → Contains (claims_of rocks) right
      → Conflicts (claim_path left) (claim_path right) → MayShare left right
