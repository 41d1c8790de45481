-- How the faults of rockspecs are told (this project's own): the name of the fault, then its values, with a blank
-- before each. Of a fault with an inner one of the text, of its tokens, of its chunk or of its shape the inner one
-- alone is told.
use Rattle.std.specs.Prelude.{ℕ, List, ◌++◌, codes}
use Rattle.build_plan.specs.Texts.{named_text}
use Rattle.lua_text.specs.Texts.{numbered, lex_text, syntax_text, eval_text}
use Rattle.rocks_constraint.specs.declared.fault.DependencyFault.{DependencyFault}
use Rattle.rocks_constraint.specs.declared.fault.DependencyFault.TheVariants as dependency
use Rattle.rockspec_table.specs.Rows.{row_path}
use Rattle.schema_table.specs.declared.fault.ShapeFault.{ShapeFault}
use Rattle.schema_table.specs.declared.fault.ShapeFault.TheVariants as shape
use Rattle.rockspec.specs.declared.fault.SpecFault.{SpecFault}
use Rattle.rockspec.specs.declared.fault.SpecFault.TheVariants as spec

-- the name of a fault, a blank and the path of a row
abbrev pub of_row : (name : List ℕ) → ℕ → List ℕ
of_row name number = name ++ (codes " " ++ row_path number)

abbrev pub shape_text : ShapeFault → List ℕ
shape_text (shape.Unknown path) = named_text (codes "Unknown") path
shape_text (shape.TooNew row) = of_row (codes "TooNew") row
shape_text (shape.WrongShape row) = of_row (codes "WrongShape") row
shape_text (shape.Missing row) = of_row (codes "Missing") row
shape_text shape.NoMemory = codes "NoMemory"

abbrev pub dependency_text : DependencyFault → List ℕ
dependency_text (dependency.BadOperator place) = numbered (codes "BadOperator") place
dependency_text (dependency.BadDependency place) = numbered (codes "BadDependency") place
dependency_text dependency.NoMemory = codes "NoMemory"

abbrev pub spec_fault_text : SpecFault → List ℕ
spec_fault_text (spec.TooLarge length) = numbered (codes "TooLarge") length
spec_fault_text (spec.Lex fault) = lex_text fault
spec_fault_text (spec.Syntax fault) = syntax_text fault
spec_fault_text (spec.Eval fault) = eval_text fault
spec_fault_text spec.BadFormat = codes "BadFormat"
spec_fault_text (spec.BadPlatforms field) = named_text (codes "BadPlatforms") field
spec_fault_text (spec.Shape fault) = shape_text fault
spec_fault_text spec.BadName = codes "BadName"
spec_fault_text spec.BadVersion = codes "BadVersion"
spec_fault_text (spec.BadDependency which fault) =
    numbered (codes "BadDependency") which ++ (codes " " ++ dependency_text fault)
spec_fault_text spec.Platform = codes "Platform"
spec_fault_text spec.NoMemory = codes "NoMemory"
