-- The order of formats (this project's own).
use Rattle.std.specs.Prelude.{ℕ, ◌<◌}
use Rattle.schema_table.specs.declared.row.Format.{Format}
use Rattle.schema_table.specs.declared.row.Format.TheVariants.{One, OneOne, Three}
use Rattle.schema_table.specs.declared.row.Must.{Must}
use Rattle.schema_table.specs.declared.row.Must.TheVariants.{No, Always, BeforeThree}

-- the place of a format in their order
abbrev pub rank : Format → ℕ
rank One = 0
rank OneOne = 1
rank Three = 2

abbrev pub IsOlder : Format → Format → Type 0
IsOlder format other = rank format < rank other

-- what has to be there has to be there in this format
abbrev pub IsMandatory : Must → Format → Type 0
IsMandatory No format = ⊥
IsMandatory Always format = Unit {0}
IsMandatory BeforeThree format = IsOlder format Three
