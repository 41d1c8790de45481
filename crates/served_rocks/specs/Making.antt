-- What is told of a rock that was made, or wasn't.
use Rattle.std.specs.Prelude.{◌≡◌, Result, Ok, Err}
use Rattle.build_plan.specs.declared.fault.PlanFault.{PlanFault}
use Rattle.build_plan.specs.declared.plan.BuildPlan.{BuildPlan}
use Rattle.build_plan.specs.declared.plan.BuildPlan.TheVariants as plans
use Rattle.rock_files.specs.declared.fault.BuildFault.{BuildFault}
use Rattle.rock_files.specs.declared.fault.BuildFault.TheVariants.{NoSourceFolder, MissingFile, TooLarge, BadTarget, ShelfFault, NoMemory as Unbuilt}
use Rattle.rock_record.specs.declared.rock.Rock.{Rock}
use Rattle.rocks_outside.specs.declared.fault.ShelfError.TheVariants.{Failed as Stopped, NoMemory}
use Rattle.rocks_reply.specs.declared.reply.BuildFailed.TheVariants.{Plan, Build as OfFiles}
use Rattle.rocks_reply.specs.declared.reply.Refusal.TheVariants.{Build}
use Rattle.rocks_version.specs.declared.key.RockKey.{RockKey}
use Rattle.served_rocks.specs.declared.fault.Unserved.{Unserved}
use Rattle.served_rocks.specs.declared.fault.Unserved.TheVariants.{Refused, Failed}

abbrev pub IsRefusedPlan : BuildPlan → Type 0
IsRefusedPlan (plans.Build recipe) = ⊥
IsRefusedPlan (plans.Refused fault) = Unit {0}

-- a plan's fault is told, but where memory ran out
abbrev pub IsUnplanned : RockKey → BuildPlan → Result Rock Unserved → Type 0
IsUnplanned key plan (Ok rock) = ⊥
IsUnplanned key plan (Err (Refused refusal)) =
    (fault : PlanFault) × (plan ≡ plans.Refused fault) × (refusal ≡ Build key (Plan fault))
IsUnplanned key plan (Err (Failed Stopped)) = ⊥
IsUnplanned key plan (Err (Failed NoMemory)) = Unit {0}

-- the fault is one of the files, and neither the shelf's nor want of memory
abbrev pub IsOfFiles : BuildFault → Type 0
IsOfFiles NoSourceFolder = Unit {0}
IsOfFiles (MissingFile path) = Unit {0}
IsOfFiles (TooLarge path) = Unit {0}
IsOfFiles (BadTarget path) = Unit {0}
IsOfFiles ShelfFault = ⊥
IsOfFiles Unbuilt = ⊥

-- the rock that was made, or its fault as it is told, but where memory ran out
abbrev pub IsBuiltOf : RockKey → Result Rock BuildFault → Result Rock Unserved → Type 0
IsBuiltOf key made (Ok rock) = made ≡ Ok rock
IsBuiltOf key made (Err (Refused refusal)) =
    (fault : BuildFault) × (made ≡ Err fault) × IsOfFiles fault × (refusal ≡ Build key (OfFiles fault))
IsBuiltOf key made (Err (Failed Stopped)) = made ≡ Err ShelfFault
IsBuiltOf key made (Err (Failed NoMemory)) = Unit {0}
