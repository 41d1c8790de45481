-- How answers are told. (This project's own.)
use Rattle.std.specs.Prelude.{ℕ, List, ◌++◌, codes}
use Rattle.build_plan.specs.Texts.{plan_fault_text}
use Rattle.lua_text.specs.Texts.{fault_text}
use Rattle.rock_files.specs.Texts.{build_fault_text}
use Rattle.rockspec.specs.Texts.{spec_fault_text}
use Rattle.rocks_constraint.specs.Printed.{printed}
use Rattle.rocks_version.specs.declared.key.RockKey.{RockKey}
use Rattle.rocks_reply.specs.declared.reply.BuildFailed.{BuildFailed}
use Rattle.rocks_reply.specs.declared.reply.BuildFailed.TheVariants.{Plan, Build as Files}
use Rattle.rocks_reply.specs.declared.reply.Refusal.{Refusal}
use Rattle.rocks_reply.specs.declared.reply.Refusal.TheVariants.{Provided, NoRock, NoFile, Lua, NoRockspec, Spec, NotTheRock, Build, Unmet}

-- `NAME VERSION`
abbrev pub key_text : RockKey → List ℕ
key_text key = key.name ++ codes " " ++ key.version

-- how the fault of a build is told
abbrev pub build_failed_text : BuildFailed → List ℕ
build_failed_text (Plan fault) = plan_fault_text fault
build_failed_text (Files fault) = build_fault_text fault

-- a refusal of a rock, with its code, the rock and a fault
abbrev pub fault_line : (code : List ℕ) → RockKey → (fault : List ℕ) → List ℕ
fault_line code key fault = codes "refused " ++ code ++ codes " " ++ key_text key ++ codes " " ++ fault ++ codes "\n"

-- the one line of a refused reply
abbrev pub refusal_text : Refusal → List ℕ
refusal_text Provided = codes "refused Provided\n"
refusal_text (NoRock key) = codes "refused NoRock " ++ key_text key ++ codes "\n"
refusal_text (NoFile path) = codes "refused NoFile " ++ path ++ codes "\n"
refusal_text (Lua fault) = codes "refused Lua " ++ fault_text fault ++ codes "\n"
refusal_text (NoRockspec key) = codes "refused NoRockspec " ++ key_text key ++ codes "\n"
refusal_text (Spec key fault) = fault_line (codes "Spec") key (spec_fault_text fault)
refusal_text (NotTheRock key) = codes "refused NotTheRock " ++ key_text key ++ codes "\n"
refusal_text (Build key fault) = fault_line (codes "Build") key (build_failed_text fault)
refusal_text (Unmet dependency) = codes "refused Unmet " ++ printed dependency.name dependency.constraints ++ codes "\n"

-- the lines of the reply to a command that added a rock
abbrev pub added_text : RockKey → List ℕ
added_text key = codes "+ " ++ key_text key ++ codes "\nok\n"
