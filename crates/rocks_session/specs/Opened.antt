-- Which set a tree stands for. (This project's own.)
use Rattle.std.specs.Prelude.{◌≡◌, List, [], Option, IfSome}
use Rattle.rocks_text.specs.Files.{Files}
use Rattle.rocks_outside.specs.Device.{DeviceState}
use Rattle.rock_record.specs.declared.rock.Rock.{Rock}
use Rattle.tree_model.specs.Tree.{tree_of}
use Rattle.rocks_session.specs.Step.{keys_of}
use Rattle.rocks_version.specs.declared.key.RockKey.{RockKey}

-- The files, where they are told, are those of the set. Until the records of rocks are written, only the empty set
-- opens.
pub record Opens (found : Option Files) (set : List Rock) : Type 0 where
  pub empty : set ≡ []
  pub files : IfSome found (λ files. files ≡ tree_of set)

-- a tree that was opened has the keys of the set
abbrev pub IsTreeOf : List Rock → List RockKey → Type 0
IsTreeOf set keys = keys ≡ keys_of set

-- the tree in hand and the device stand for the set
pub record IsOpenAs (set : List Rock) (keys : List RockKey) (device : DeviceState) : Type 0 where
  pub tree : IsTreeOf set keys
  pub opens : Opens device.files set
