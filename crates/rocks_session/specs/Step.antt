-- What a command does to a set of rocks, and what it replies. (This project's own.)
use Rattle.std.specs.Prelude.{ℕ, ◌&&◌, not, Bool, true, false, ◌≡◌, ◌<◌, ◌≤◌, ◌==◌, ◌+◌, ◌-◌, ◌⊎◌, List, ◌∷◌, ◌++◌, length, map, codes, if◌then◌else◌, Option, None, Some, Result, Ok, Err}
use Rattle.std.specs.List.{find, list_any}
use Rattle.std.specs.Str.{bytes_eq}
use Rattle.std.specs.declared.cmp.Ordering.{Ordering}
use Rattle.std.specs.declared.cmp.Ordering.TheVariants.{Less, Equal, Greater}
use Rattle.lua_lexer.specs.declared.fault.LexFault.TheVariants.{TooLong}
use Rattle.lua_print.specs.Printed.{globals_text}
use Rattle.lua_text.specs.Outcomes.{HasOutcome}
use Rattle.lua_text.specs.declared.fault.EvalFailed.{EvalFailed}
use Rattle.lua_text.specs.declared.fault.EvalFailed.TheVariants.{Lex}
use Rattle.lua_value.specs.Pairs.{Pairs}
use Rattle.rocks_text.specs.Files.{Files}
use Rattle.build_plan.specs.declared.plan.BuildPlan.{BuildPlan}
use Rattle.build_plan.specs.declared.plan.BuildPlan.TheVariants as plans
use Rattle.rockspec.specs.declared.read.Rockspec.{Rockspec}
use Rattle.schema_table.specs.declared.row.Format.{Format}
use Rattle.schema_table.specs.declared.row.Format.TheVariants.{One, OneOne, Three}
use Rattle.rocks_constraint.specs.Meets.{meets_all}
use Rattle.rocks_constraint.specs.Wanted.{Wanted}
use Rattle.rocks_version.specs.Orders.{version_cmp}
use Rattle.rocks_version.specs.declared.key.RockKey.{RockKey}
use Rattle.rock_build.specs.Contents.{IsWellMade}
use Rattle.rock_record.specs.declared.rock.Rock.{Rock}
use Rattle.tree_model.specs.Tree.{file_count}
use Rattle.rocks_command.specs.declared.command.Command.{Command}
use Rattle.rocks_command.specs.declared.command.Command.TheVariants.{Add, Compare, Eval, Install, Lint}
use Rattle.rocks_reply.specs.Texts.{added_text, key_text, refusal_text}
use Rattle.rocks_reply.specs.declared.reply.Refusal.{Refusal}
use Rattle.rocks_reply.specs.declared.reply.BuildFailed.TheVariants.{Plan}
use Rattle.rocks_reply.specs.declared.reply.Refusal.TheVariants.{Provided, NoFile, Lua, Build, Unmet}
use Rattle.served_rocks.specs.Fetched.{IsFetched, IsFetchRefusal}
use Rattle.served_rocks.specs.Rockspecs.{IsChecked, IsOwnRefusal, absent, spec_path}
use Rattle.served_rocks.specs.Search.{earliest_at}
use Rattle.served_rocks.specs.declared.rockspecs.Origin.{Origin}
use Rattle.served_rocks.specs.declared.rockspecs.Origin.TheVariants.{Unpacked, Sources}
use Rattle.rocks_session.specs.declared.eval.TheConstants.{LONGEST_TEXT}

-- the keys of a set
abbrev pub keys_of : List Rock → List RockKey
keys_of set = map (λ rock. rock.key) set

-- what a command leaves and says
pub record Outcome : Type 0 where
  pub set : List Rock
  pub refusal : Option Refusal
  pub text : List ℕ

-- a refused command keeps the set
abbrev pub refused : List Rock → Refusal → Outcome
refused set refusal = record { set = set; refusal = Some refusal; text = refusal_text refusal }

-- ---- `add` and `install`

-- what Lua itself provides
abbrev pub lua_key : RockKey
lua_key = record { name = codes "lua"; version = codes "5.4-1" }

-- the rock with this key meets the dependency
abbrev pub is_met_by : Wanted → RockKey → Bool
is_met_by wanted key = bytes_eq wanted.name key.name && meets_all key.version wanted.constraints

-- the first dependency of a rock that is met by neither Lua nor the rock itself nor the rocks that are installed
abbrev pub unmet : (installed : List RockKey) → RockKey → List Wanted → Option Wanted
unmet installed key needed = find (λ wanted. not (list_any (is_met_by wanted) (lua_key ∷ key ∷ installed))) needed

-- the rock joins the set
abbrev pub joined_by : List Rock → Rock → Outcome
joined_by set rock = record { set = rock ∷ set; refusal = None; text = added_text rock.key }

abbrev pub joined_unless : List Rock → Rock → Option Wanted → Outcome
joined_unless set rock None = joined_by set rock
joined_unless set rock (Some wanted) = refused set (Unmet wanted)

-- a rock that was fetched joins the set, if all that it needs is met
abbrev pub joined : List Rock → Result Rock Refusal → Outcome
joined set (Ok rock) = joined_unless set rock (unmet (keys_of set) rock.key rock.dependencies)
joined set (Err refusal) = refused set refusal

-- the key names Lua itself
abbrev pub is_lua : RockKey → Bool
is_lua key = bytes_eq key.name (codes "lua")

-- the answer to `add` and `install`
abbrev pub Joins : Origin → List Files → List Rock → RockKey → Outcome → Type 0
Joins origin servers set key outcome =
    ((is_lua key ≡ true) × (outcome ≡ refused set Provided))
    ⊎ ((is_lua key ≡ false)
    × ((made : Result Rock Refusal) × IsFetched origin key servers made × (outcome ≡ joined set made)))

-- ---- `eval`

-- the set is kept, and what a text comes to is told
abbrev pub told : List Rock → Result Pairs EvalFailed → Outcome
told set (Ok globals) = record { set = set; refusal = None; text = globals_text globals ++ codes "ok\n" }
told set (Err fault) = refused set (Lua fault)

-- the refusal of a text that is longer than the limit
abbrev pub too_long : Refusal
too_long = Lua (Lex (TooLong (LONGEST_TEXT + 1)))

-- The answer to `eval`, by the bytes at the path on the earliest server that has it. The set is kept.
abbrev pub Evaluates : List Rock → (path : List ℕ) → Option (List ℕ) → Outcome → Type 0
Evaluates set path None outcome = outcome ≡ refused set (NoFile path)
Evaluates set path (Some text) outcome =
    ((LONGEST_TEXT < length text) × (outcome ≡ refused set too_long))
    ⊎ ((length text ≤ LONGEST_TEXT) × ((read : Result Pairs EvalFailed) × HasOutcome text read × (outcome ≡ told set read)))

-- ---- `compare`

-- the sign between two versions
abbrev pub sign_of : Ordering → List ℕ
sign_of Less = codes "<"
sign_of Equal = codes "="
sign_of Greater = codes ">"

-- the lines of the reply to `compare`
abbrev pub compared_text : (left right : List ℕ) → List ℕ
compared_text left right = left ++ codes " " ++ sign_of (version_cmp left right) ++ codes " " ++ right ++ codes "\nok\n"

-- the set is kept, and how two versions compare is told
abbrev pub compared : List Rock → (left right : List ℕ) → Outcome
compared set left right = record { set = set; refusal = None; text = compared_text left right }

-- ---- `lint`

-- the name of a rockspec's format
abbrev pub format_text : Format → List ℕ
format_text One = codes "1.0"
format_text OneOne = codes "1.1"
format_text Three = codes "3.0"

-- the lines of the reply to `lint` of a rockspec that is fine
abbrev pub linted_text : RockKey → Format → List ℕ
linted_text key format = key_text key ++ codes " " ++ format_text format ++ codes "\nok\n"

-- the set is kept, and what comes of the rockspec's build is told
abbrev pub planned : List Rock → RockKey → Format → BuildPlan → Outcome
planned set key format (plans.Build recipe) = record { set = set; refusal = None; text = linted_text key format }
planned set key format (plans.Refused fault) = refused set (Build key (Plan fault))

-- the set is kept, and what a rockspec that was to be this rock's comes to is told
abbrev pub linted : List Rock → RockKey → Result Rockspec Refusal → Outcome
linted set key (Ok spec) = planned set key spec.format spec.plan
linted set key (Err refusal) = refused set refusal

-- The answer to `lint`, by the bytes of the rockspec on the earliest server that has it. The set is kept.
abbrev pub Lints : List Rock → RockKey → Option (List ℕ) → Outcome → Type 0
Lints set key None outcome = outcome ≡ refused set (absent Sources key)
Lints set key (Some bytes) outcome =
    (checked : Result Rockspec Refusal) × IsChecked key bytes checked × (outcome ≡ linted set key checked)

-- ---- commands

-- the command that takes a rock from there
abbrev pub command_from : Origin → RockKey → Command
command_from Unpacked key = Add key
command_from Sources key = Install key

-- an outcome of one command over what the servers hold
abbrev pub IsStep : List Files → List Rock → Command → Outcome → Type 0
IsStep servers set (Add key) outcome = Joins Unpacked servers set key outcome
IsStep servers set (Install key) outcome = Joins Sources servers set key outcome
IsStep servers set (Eval path) outcome = Evaluates set path (earliest_at path servers) outcome
IsStep servers set (Compare left right) outcome = outcome ≡ compared set left right
IsStep servers set (Lint key) outcome = Lints set key (earliest_at (spec_path Sources key) servers) outcome

-- a command that reads no rockspec
abbrev pub ReadsNoRockspec : Command → Type 0
ReadsNoRockspec (Add key) = ⊥
ReadsNoRockspec (Install key) = ⊥
ReadsNoRockspec (Eval path) = Unit {0}
ReadsNoRockspec (Compare left right) = Unit {0}
ReadsNoRockspec (Lint key) = ⊥

-- an outcome that `add` and `install` can have, whatever the servers hold: a rock of the key that is well made and needs
-- nothing that isn't met, or a refusal with its own values
abbrev pub CanJoin : Origin → List Rock → RockKey → Outcome → Type 0
CanJoin origin set key outcome =
    ((is_lua key ≡ true) × (outcome ≡ refused set Provided))
    ⊎ ((is_lua key ≡ false)
    × (((rock : Rock) × (rock.key ≡ key) × IsWellMade rock × (outcome ≡ joined set (Ok rock)))
    ⊎ ((refusal : Refusal) × IsFetchRefusal origin key refusal × (outcome ≡ refused set refusal))))

-- an outcome that the command can have, whatever the servers hold
abbrev pub IsOutcomeOf : Command → List Rock → Outcome → Type 0
IsOutcomeOf (Add key) set outcome = CanJoin Unpacked set key outcome
IsOutcomeOf (Install key) set outcome = CanJoin Sources set key outcome
IsOutcomeOf (Eval path) set outcome =
    (outcome ≡ refused set (NoFile path)) ⊎ ((read : Result Pairs EvalFailed) × (outcome ≡ told set read))
IsOutcomeOf (Compare left right) set outcome = outcome ≡ compared set left right
IsOutcomeOf (Lint key) set outcome =
    ((spec : Rockspec) × (outcome ≡ linted set key (Ok spec)))
    ⊎ ((refusal : Refusal) × IsOwnRefusal Sources key refusal × (outcome ≡ refused set refusal))

-- how often a device's clock rises for files that are new: once for each, and once to make all of them durable
abbrev pub ticks_for : ℕ → ℕ
ticks_for count = if count == 0 then 0 else count + 1

-- the same for an outcome
abbrev pub ticks : List Rock → Outcome → ℕ
ticks before outcome = ticks_for (file_count outcome.set - file_count before)
