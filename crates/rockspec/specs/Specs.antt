-- Which bytes are which rockspec, and the first fault of others.
use Rattle.std.specs.Prelude.{◌≡◌, ◌≤◌, ◌<◌, ℕ, List, length, codes, Result, Ok, Err}
use Rattle.build_plan.specs.Plans.{HasPlan}
use Rattle.lua_text.specs.declared.fault.EvalFailed.TheVariants as failed
use Rattle.lua_text.specs.Outcomes.{HasOutcome}
use Rattle.lua_value.specs.Pairs.{Pairs}
use Rattle.rocks_version.specs.Keys.{rockspec_name}
use Rattle.rockspec_table.specs.declared.fault.TableFault.{TableFault}
use Rattle.rockspec_table.specs.declared.fault.TableFault.TheVariants as table
use Rattle.rockspec_table.specs.Fields.{HasFields, IsTableFault}
use Rattle.schema_table.specs.declared.row.Format.{Format}
use Rattle.rockspec.specs.declared.fault.SpecFault.{SpecFault}
use Rattle.rockspec.specs.declared.fault.SpecFault.TheVariants as spec
use Rattle.rockspec.specs.declared.read.Rockspec.{Rockspec}
use Rattle.rockspec.specs.declared.read.TheConstants.{LONGEST_ROCKSPEC}
use Rattle.rockspec.specs.Fields.{rock_name, rock_version, texts_at, AreRead, HasFieldFault}

-- the bytes are a Lua text whose globals are these fields
pub record AreFieldsOf (bytes : List ℕ) (format : Format) (fields : Pairs) : Type 0 where
  pub globals : Pairs
  pub read : HasOutcome bytes (Ok globals)
  pub are : HasFields globals format fields

-- the bytes are a Lua text whose globals aren't the fields of a rockspec, with this fault
pub record HaveBadTable (bytes : List ℕ) (fault : TableFault) : Type 0 where
  pub globals : Pairs
  pub read : HasOutcome bytes (Ok globals)
  pub bad : IsTableFault globals fault

-- the bytes are a Lua text whose fields have this fault
pub record HaveBadField (bytes : List ℕ) (fault : SpecFault) : Type 0 where
  pub format : Format
  pub fields : Pairs
  pub are : AreFieldsOf bytes format fields
  pub bad : HasFieldFault fields fault

-- the bytes have this fault, whatever others they have
abbrev pub HasSpecFault : (bytes : List ℕ) → SpecFault → Type 0
HasSpecFault bytes (spec.TooLarge n) = (n ≡ length bytes) × (LONGEST_ROCKSPEC < length bytes)
HasSpecFault bytes (spec.Lex fault) = HasOutcome bytes (Err (failed.Lex fault))
HasSpecFault bytes (spec.Syntax fault) = HasOutcome bytes (Err (failed.Syntax fault))
HasSpecFault bytes (spec.Eval fault) = HasOutcome bytes (Err (failed.Eval fault))
HasSpecFault bytes spec.BadFormat = HaveBadTable bytes table.BadFormat
HasSpecFault bytes (spec.BadPlatforms field) = HaveBadTable bytes (table.BadPlatforms field)
HasSpecFault bytes (spec.Shape fault) = HaveBadTable bytes (table.Shape fault)
HasSpecFault bytes spec.BadName = HaveBadField bytes spec.BadName
HasSpecFault bytes spec.BadVersion = HaveBadField bytes spec.BadVersion
HasSpecFault bytes (spec.BadDependency which fault) = HaveBadField bytes (spec.BadDependency which fault)
HasSpecFault bytes spec.Platform = HaveBadField bytes spec.Platform
HasSpecFault bytes spec.NoMemory = ⊥

-- the order of faults
abbrev pub fault_rank : SpecFault → ℕ
fault_rank (spec.TooLarge n) = 0
fault_rank (spec.Lex fault) = 1
fault_rank (spec.Syntax fault) = 2
fault_rank (spec.Eval fault) = 3
fault_rank spec.BadFormat = 4
fault_rank (spec.BadPlatforms field) = 5
fault_rank (spec.Shape fault) = 6
fault_rank spec.BadName = 7
fault_rank spec.BadVersion = 8
fault_rank (spec.BadDependency which fault) = 9
fault_rank spec.Platform = 10
fault_rank spec.NoMemory = 11

-- of all faults of the bytes this comes first
pub record IsFirstSpecFault (bytes : List ℕ) (fault : SpecFault) : Type 0 where
  pub has : HasSpecFault bytes fault
  pub first : (other : SpecFault) → HasSpecFault bytes other → fault_rank fault ≤ fault_rank other

-- what the fields of a format say
pub record Says (format : Format) (fields : Pairs) (rockspec : Rockspec) : Type 0 where
  pub in_format : rockspec.format ≡ format
  pub name : rockspec.key.name ≡ rock_name fields
  pub version : rockspec.key.version ≡ rock_version fields
  pub dependencies : AreRead (texts_at (codes "dependencies") fields) rockspec.dependencies
  pub plan : HasPlan (rockspec_name rockspec.key.name rockspec.key.version) fields rockspec.plan

-- the bytes have no fault and are this rockspec
pub record IsSpec (bytes : List ℕ) (rockspec : Rockspec) : Type 0 where
  pub faultless : (fault : SpecFault) → ¬ HasSpecFault bytes fault
  pub format : Format
  pub fields : Pairs
  pub are : AreFieldsOf bytes format fields
  pub says : Says format fields rockspec

-- what bytes come to
abbrev pub HasSpec : (bytes : List ℕ) → Result Rockspec SpecFault → Type 0
HasSpec bytes (Ok rockspec) = IsSpec bytes rockspec
HasSpec bytes (Err fault) = IsFirstSpecFault bytes fault
