-- Which rock the servers of a shelf serve for a key, or why none.
use Rattle.std.specs.Prelude.{ℕ, ◌≡◌, ◌⊎◌, List, Option, None, Some, IfSome, Result, Ok, Err}
use Rattle.std.specs.FinMap.{get}
use Rattle.rocks_text.specs.Files.{Files}
use Rattle.rocks_version.specs.declared.key.RockKey.{RockKey}
use Rattle.build_plan.specs.declared.fault.PlanFault.{PlanFault}
use Rattle.build_plan.specs.declared.plan.BuildPlan.{BuildPlan}
use Rattle.build_plan.specs.declared.plan.BuildPlan.TheVariants as plans
use Rattle.rock_build.specs.Contents.{IsContents, IsUnpacked, IsWellMade}
use Rattle.rock_files.specs.declared.fault.BuildFault.{BuildFault}
use Rattle.rock_record.specs.declared.rock.Rock.{Rock}
use Rattle.rockspec.specs.declared.read.Rockspec.{Rockspec}
use Rattle.rocks_reply.specs.declared.reply.BuildFailed.TheVariants.{Plan, Build as OfFiles}
use Rattle.rocks_reply.specs.declared.reply.Refusal.{Refusal}
use Rattle.rocks_reply.specs.declared.reply.Refusal.TheVariants.{Build}
use Rattle.served_rocks.specs.Rockspecs.{absent, spec_path, IsChecked, IsOwnRefusal}
use Rattle.served_rocks.specs.Search.{earliest_with}
use Rattle.served_rocks.specs.declared.fault.Unserved.{Unserved}
use Rattle.served_rocks.specs.declared.fault.Unserved.TheVariants.{Refused, Failed}
use Rattle.served_rocks.specs.declared.rockspecs.Origin.{Origin}
use Rattle.served_rocks.specs.declared.rockspecs.Origin.TheVariants.{Unpacked, Sources}

-- a rock that was made, or the refusal that tells why not
abbrev pub built : RockKey → Result Rock BuildFault → Result Rock Refusal
built key (Ok rock) = Ok rock
built key (Err fault) = Err (Build key (OfFiles fault))

-- what the sources beside a rockspec make by its plan
abbrev pub IsPlanned : RockKey → Files → (bytes : List ℕ) → Rockspec → BuildPlan → Result Rock Refusal → Type 0
IsPlanned key files bytes spec (plans.Build recipe) made =
    (result : Result Rock BuildFault) × IsContents spec bytes recipe files result × (made ≡ built key result)
IsPlanned key files bytes spec (plans.Refused fault) made = made ≡ Err (Build key (Plan fault))

-- what a server's files make of a rockspec
abbrev pub IsMade : Origin → RockKey → Files → (bytes : List ℕ) → Rockspec → Result Rock Refusal → Type 0
IsMade Unpacked key files bytes spec made =
    (result : Result Rock BuildFault) × IsUnpacked spec bytes files result × (made ≡ built key result)
IsMade Sources key files bytes spec made = IsPlanned key files bytes spec spec.plan made

abbrev pub IsMadeOf : Origin → RockKey → Files → (bytes : List ℕ) → Result Rockspec Refusal → Result Rock Refusal → Type 0
IsMadeOf origin key files bytes (Ok spec) made = IsMade origin key files bytes spec made
IsMadeOf origin key files bytes (Err refusal) made = made ≡ Err refusal

-- what a server makes of a key whose rockspec it has
pub record IsFetchedFrom (origin : Origin) (key : RockKey) (files : Files) (made : Result Rock Refusal) : Type 0 where
  pub bytes : List ℕ
  pub at : get files (spec_path origin key) ≡ Some bytes
  pub checked : Result Rockspec Refusal
  pub is_checked : IsChecked key bytes checked
  pub makes : IsMadeOf origin key files bytes checked made

abbrev pub IsFetchedBy : Origin → RockKey → Option Files → Result Rock Refusal → Type 0
IsFetchedBy origin key None made = made ≡ Err (absent origin key)
IsFetchedBy origin key (Some files) made = IsFetchedFrom origin key files made

-- the rock of a key that the servers make, by the earliest that has its rockspec, or why they make none
abbrev pub IsFetched : Origin → RockKey → List Files → Result Rock Refusal → Type 0
IsFetched origin key servers made = IsFetchedBy origin key (earliest_with (spec_path origin key) servers) made

-- a refusal that may come, whatever the servers hold: `Build` with a plan's fault comes for sources alone
abbrev pub IsBuildRefusal : Origin → RockKey → Refusal → Type 0
IsBuildRefusal Unpacked key refusal = (fault : BuildFault) × (refusal ≡ Build key (OfFiles fault))
IsBuildRefusal Sources key refusal =
    ((fault : BuildFault) × (refusal ≡ Build key (OfFiles fault))) ⊎ ((fault : PlanFault) × (refusal ≡ Build key (Plan fault)))

abbrev pub IsFetchRefusal : Origin → RockKey → Refusal → Type 0
IsFetchRefusal origin key refusal = IsOwnRefusal origin key refusal ⊎ IsBuildRefusal origin key refusal

-- the rock is well made, and where the shelf tells, it is the one that the servers make
pub record IsRock (origin : Origin) (key : RockKey) (holds : Option (List Files)) (rock : Rock) : Type 0 where
  pub key_is : rock.key ≡ key
  pub well_made : IsWellMade rock
  pub told : IfSome holds (λ servers. IsFetched origin key servers (Ok rock))

abbrev pub IsNoRock : Origin → RockKey → Option (List Files) → Unserved → Type 0
IsNoRock origin key holds (Refused refusal) =
    IsFetchRefusal origin key refusal × IfSome holds (λ servers. IsFetched origin key servers (Err refusal))
IsNoRock origin key holds (Failed error) = Unit {0}
