-- The faults of a rockspec, by the step that finds them. No public clause cites this.
use Rattle.std.specs.Prelude.{◌≤◌}
use Rattle.lua_text.specs.declared.fault.EvalFailed.{EvalFailed}
use Rattle.lua_text.specs.declared.fault.EvalFailed.TheVariants as failed
use Rattle.lua_value.specs.Pairs.{Pairs}
use Rattle.rockspec_table.specs.declared.fault.TableFault.{TableFault}
use Rattle.rockspec_table.specs.declared.fault.TableFault.TheVariants as table
use Rattle.rockspec.specs.declared.fault.SpecFault.{SpecFault}
use Rattle.rockspec.specs.declared.fault.SpecFault.TheVariants as spec
use Rattle.rockspec.specs.Fields.{HasFieldFault}
use Rattle.rockspec.specs.Specs.{fault_rank}

abbrev pub fault_of_text : EvalFailed → SpecFault
fault_of_text (failed.Lex fault) = spec.Lex fault
fault_of_text (failed.Syntax fault) = spec.Syntax fault
fault_of_text (failed.Eval fault) = spec.Eval fault

abbrev pub fault_of_table : TableFault → SpecFault
fault_of_table table.BadFormat = spec.BadFormat
fault_of_table (table.BadPlatforms field) = spec.BadPlatforms field
fault_of_table (table.Shape fault) = spec.Shape fault
fault_of_table table.NoMemory = spec.NoMemory

abbrev pub HasNoFieldFault : (fields : Pairs) → Type 0
HasNoFieldFault fields = (fault : SpecFault) → ¬ HasFieldFault fields fault

-- of all faults of the fields this comes first
pub record IsFirstOfFields (fields : Pairs) (fault : SpecFault) : Type 0 where
  pub has : HasFieldFault fields fault
  pub first : (other : SpecFault) → HasFieldFault fields other → fault_rank fault ≤ fault_rank other
