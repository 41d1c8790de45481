-- How the faults of builds are told (this project's own): the name of the fault and a blank before its text, which
-- has the escapes of a printed text and no quotes.
use Rattle.std.specs.Prelude.{ℕ, List, ◌++◌, codes, flat_map}
use Rattle.lua_print.specs.Quoted.{escaped}
use Rattle.build_plan.specs.declared.fault.PlanFault.{PlanFault}
use Rattle.build_plan.specs.declared.fault.PlanFault.TheVariants.{BuildType, NoModules, External, Patches, NeedsCompiler, BadTarget, TwoForOne}

-- a name, a blank and a text with its escapes
abbrev pub named_text : (name text : List ℕ) → List ℕ
named_text name text = name ++ (codes " " ++ flat_map escaped text)

abbrev pub plan_fault_text : PlanFault → List ℕ
plan_fault_text (BuildType told) = named_text (codes "BuildType") told
plan_fault_text NoModules = codes "NoModules"
plan_fault_text External = codes "External"
plan_fault_text Patches = codes "Patches"
plan_fault_text (NeedsCompiler name) = named_text (codes "NeedsCompiler") name
plan_fault_text (BadTarget text) = named_text (codes "BadTarget") text
plan_fault_text (TwoForOne path) = named_text (codes "TwoForOne") path
