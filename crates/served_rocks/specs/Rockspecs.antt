-- Which rockspec the servers of a shelf serve for a rock, or why none.
use Rattle.std.specs.Prelude.{ℕ, ◌≡◌, ◌<◌, ◌≤◌, ◌+◌, ◌⊎◌, ◌&&◌, Bool, List, length, if◌then◌else◌, Option, None, Some, IfSome, Result, Ok, Err, slice_get}
use Rattle.std.specs.FinMap.{get}
use Rattle.std.specs.Str.{bytes_eq}
use Rattle.rocks_text.specs.Files.{Files}
use Rattle.rocks_outside.specs.Shelf.{ShelfState}
use Rattle.rocks_outside.specs.declared.fault.ShelfError.TheVariants.{Failed as Stopped, NoMemory}
use Rattle.rocks_version.specs.declared.key.RockKey.{RockKey}
use Rattle.rock_build.specs.Contents.{rockspec_of, unpacked_rockspec}
use Rattle.rockspec.specs.Specs.{HasSpec, IsSpec}
use Rattle.rockspec.specs.declared.fault.SpecFault.{SpecFault}
use Rattle.rockspec.specs.declared.fault.SpecFault.TheVariants as specs
use Rattle.rockspec.specs.declared.read.Rockspec.{Rockspec}
use Rattle.rockspec.specs.declared.read.TheConstants.{LONGEST_ROCKSPEC}
use Rattle.rocks_reply.specs.declared.reply.Refusal.{Refusal}
use Rattle.rocks_reply.specs.declared.reply.Refusal.TheVariants.{NoRock, NoRockspec, Spec, NotTheRock}
use Rattle.served_rocks.specs.Search.{earliest_with}
use Rattle.served_rocks.specs.declared.fault.Unserved.{Unserved}
use Rattle.served_rocks.specs.declared.fault.Unserved.TheVariants.{Refused, Failed}
use Rattle.served_rocks.specs.declared.rockspecs.Origin.{Origin}
use Rattle.served_rocks.specs.declared.rockspecs.Origin.TheVariants.{Unpacked, Sources}
use Rattle.served_rocks.specs.declared.rockspecs.Served.{Served}

-- where a server has the rockspec
abbrev pub spec_path : Origin → RockKey → List ℕ
spec_path Unpacked key = unpacked_rockspec key
spec_path Sources key = rockspec_of key

-- the refusal where none has it
abbrev pub absent : Origin → RockKey → Refusal
absent Unpacked key = NoRock key
absent Sources key = NoRockspec key

-- the rockspec is of this rock
abbrev pub is_of_rock : RockKey → Rockspec → Bool
is_of_rock key spec = bytes_eq key.name spec.key.name && bytes_eq key.version spec.key.version

-- what is told of a rockspec that is longer than the limit
abbrev pub spec_too_large : SpecFault
spec_too_large = specs.TooLarge (LONGEST_ROCKSPEC + 1)

-- the rockspec that was read, if it is of the rock
abbrev pub matching : RockKey → Result Rockspec SpecFault → Result Rockspec Refusal
matching key (Ok spec) = if is_of_rock key spec then Ok spec else Err (NotTheRock key)
matching key (Err fault) = Err (Spec key fault)

-- what bytes come to that are to be the rockspec of a rock
abbrev pub IsChecked : RockKey → (bytes : List ℕ) → Result Rockspec Refusal → Type 0
IsChecked key bytes checked =
    ((LONGEST_ROCKSPEC < length bytes) × (checked ≡ Err (Spec key spec_too_large)))
    ⊎ ((length bytes ≤ LONGEST_ROCKSPEC)
    × ((read : Result Rockspec SpecFault) × HasSpec bytes read × (checked ≡ matching key read)))

-- the rockspec is of another rock, but where memory ran out
abbrev pub IsMismatch : RockKey → Rockspec → Unserved → Type 0
IsMismatch key spec (Refused refusal) = (matching key (Ok spec) ≡ Err refusal) × (refusal ≡ NotTheRock key)
IsMismatch key spec (Failed Stopped) = ⊥
IsMismatch key spec (Failed NoMemory) = Unit {0}

-- a refusal that bytes may come to
abbrev pub IsSpecRefusal : RockKey → Refusal → Type 0
IsSpecRefusal key refusal = ((fault : SpecFault) × (refusal ≡ Spec key fault)) ⊎ (refusal ≡ NotTheRock key)

-- the bytes come to a refusal, but where memory ran out
abbrev pub HasNoSpec : RockKey → (bytes : List ℕ) → Unserved → Type 0
HasNoSpec key bytes (Refused refusal) = IsChecked key bytes (Err refusal) × IsSpecRefusal key refusal
HasNoSpec key bytes (Failed Stopped) = ⊥
HasNoSpec key bytes (Failed NoMemory) = Unit {0}

-- the rockspec on the earliest server that has it
pub record IsServedBy (origin : Origin) (key : RockKey) (servers : List Files) (served : Served) : Type 0 where
  pub files : Files
  pub earliest : earliest_with (spec_path origin key) servers ≡ Some files
  pub at : slice_get servers served.server ≡ Some files
  pub bytes : get files (spec_path origin key) ≡ Some served.bytes
  pub checked : IsChecked key served.bytes (Ok served.spec)

-- a rockspec of the rock, and where the shelf tells, that of the earliest server
pub record IsServed (origin : Origin) (key : RockKey) (shelf : ShelfState) (served : Served) : Type 0 where
  pub server : served.server < shelf.servers
  pub spec : IsSpec served.bytes served.spec
  pub of_rock : served.spec.key ≡ key
  pub told : IfSome shelf.holds (λ servers. IsServedBy origin key servers served)

-- a rockspec on the earliest server that has it, with this refusal
pub record IsRefusedBy (origin : Origin) (key : RockKey) (servers : List Files) (refusal : Refusal) : Type 0 where
  pub files : Files
  pub bytes : List ℕ
  pub earliest : earliest_with (spec_path origin key) servers ≡ Some files
  pub at : get files (spec_path origin key) ≡ Some bytes
  pub checked : IsChecked key bytes (Err refusal)

-- no server has the rockspec, or the earliest that has it has none of the rock
abbrev pub IsRefused : Origin → RockKey → List Files → Refusal → Type 0
IsRefused origin key servers refusal =
    ((earliest_with (spec_path origin key) servers ≡ None) × (refusal ≡ absent origin key))
    ⊎ IsRefusedBy origin key servers refusal

-- a refusal that reading a rockspec may have, whatever the servers hold
abbrev pub IsOwnRefusal : Origin → RockKey → Refusal → Type 0
IsOwnRefusal origin key refusal = (refusal ≡ absent origin key) ⊎ IsSpecRefusal key refusal

abbrev pub IsUnserved : Origin → RockKey → Option (List Files) → Unserved → Type 0
IsUnserved origin key holds (Refused refusal) =
    IsOwnRefusal origin key refusal × IfSome holds (λ servers. IsRefused origin key servers refusal)
IsUnserved origin key holds (Failed error) = Unit {0}
