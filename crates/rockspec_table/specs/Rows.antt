-- The rows of rockspecs (LuaRocks documentation, rockspec format; which fields are served is this project's own).
use Rattle.std.specs.Prelude.{◌≡◌, ℕ, List, [], ◌∷◌, ◌++◌, codes, map, slice_get, Option, Some, None, Result}
use Rattle.std.specs.List.{join_with_byte}
use Rattle.lua_value.specs.Pairs.{Pairs}
use Rattle.schema_table.specs.declared.row.Row.{Row}
use Rattle.schema_table.specs.declared.row.Format.{Format}
use Rattle.schema_table.specs.declared.row.Format.TheVariants.{One, Three}
use Rattle.schema_table.specs.declared.row.Must.{Must}
use Rattle.schema_table.specs.declared.row.Must.TheVariants.{No, Always, BeforeThree}
use Rattle.schema_table.specs.declared.row.Shape.{Shape}
use Rattle.schema_table.specs.declared.row.Shape.TheVariants.{Text, Bool, Texts, Mixed, Named, Closed, Open}
use Rattle.schema_table.specs.declared.fault.ShapeFault.{ShapeFault}
use Rattle.schema_table.specs.Checks.{Checks}
use Rattle.schema_table.specs.Rows.{parts_of}

-- what a row says: of which path, of which shape it is, from which format on it may be there, and when it has to be
pub record Rule : Type 0 where
  pub path : List (List ℕ)
  pub shape : Shape
  pub since : Format
  pub must : Must

abbrev pub rule_of : Row → Rule
rule_of row = record { path = parts_of row; shape = row.shape; since = row.since; must = row.must }

-- a path that may be there in every format
abbrev pub may_be : List (List ℕ) → Shape → Rule
may_be path shape = record { path = path; shape = shape; since = One; must = No }

-- a path that may be there from 3.0 on
abbrev pub in_three : List (List ℕ) → Shape → Rule
in_three path shape = record { path = path; shape = shape; since = Three; must = No }

-- a path that has to be there
abbrev pub must_be : List (List ℕ) → Shape → Must → Rule
must_be path shape must = record { path = path; shape = shape; since = One; must = must }

-- a path of one part, of two and of three
abbrev pub one : List ℕ → List (List ℕ)
one part = part ∷ []

abbrev pub two : (part other : List ℕ) → List (List ℕ)
two part other = part ∷ other ∷ []

abbrev pub three : (part other third : List ℕ) → List (List ℕ)
three part other third = part ∷ other ∷ third ∷ []

abbrev pub package_rules : List Rule
package_rules =
    may_be (one (codes "rockspec_format")) Text
    ∷ must_be (one (codes "package")) Text Always
    ∷ must_be (one (codes "version")) Text Always
    ∷ []

abbrev pub description_rules : List Rule
description_rules =
    may_be (one (codes "description")) Closed
    ∷ may_be (two (codes "description") (codes "summary")) Text
    ∷ may_be (two (codes "description") (codes "detailed")) Text
    ∷ may_be (two (codes "description") (codes "homepage")) Text
    ∷ may_be (two (codes "description") (codes "license")) Text
    ∷ may_be (two (codes "description") (codes "maintainer")) Text
    ∷ in_three (two (codes "description") (codes "labels")) Texts
    ∷ in_three (two (codes "description") (codes "issues_url")) Text
    ∷ []

abbrev pub dependency_rules : List Rule
dependency_rules =
    may_be (one (codes "supported_platforms")) Texts
    ∷ may_be (one (codes "dependencies")) Texts
    ∷ in_three (one (codes "build_dependencies")) Texts
    ∷ in_three (one (codes "test_dependencies")) Texts
    ∷ may_be (one (codes "external_dependencies")) Open
    ∷ may_be (two (codes "external_dependencies") (codes "*")) Open
    ∷ []

abbrev pub source_rules : List Rule
source_rules =
    must_be (one (codes "source")) Open Always
    ∷ must_be (two (codes "source") (codes "url")) Text Always
    ∷ may_be (two (codes "source") (codes "md5")) Text
    ∷ may_be (two (codes "source") (codes "file")) Text
    ∷ may_be (two (codes "source") (codes "dir")) Text
    ∷ may_be (two (codes "source") (codes "tag")) Text
    ∷ may_be (two (codes "source") (codes "branch")) Text
    ∷ may_be (two (codes "source") (codes "module")) Text
    ∷ may_be (two (codes "source") (codes "cvs_tag")) Text
    ∷ may_be (two (codes "source") (codes "cvs_module")) Text
    ∷ []

abbrev pub build_rules : List Rule
build_rules =
    must_be (one (codes "build")) Open BeforeThree
    ∷ must_be (two (codes "build") (codes "type")) Text BeforeThree
    ∷ may_be (two (codes "build") (codes "modules")) Named
    ∷ may_be (two (codes "build") (codes "install")) Closed
    ∷ may_be (three (codes "build") (codes "install") (codes "lua")) Mixed
    ∷ may_be (three (codes "build") (codes "install") (codes "lib")) Mixed
    ∷ may_be (three (codes "build") (codes "install") (codes "bin")) Mixed
    ∷ may_be (three (codes "build") (codes "install") (codes "conf")) Mixed
    ∷ may_be (two (codes "build") (codes "copy_directories")) Texts
    ∷ may_be (two (codes "build") (codes "patches")) Named
    ∷ []

abbrev pub other_rules : List Rule
other_rules =
    may_be (one (codes "hooks")) Open
    ∷ may_be (one (codes "deploy")) Open
    ∷ may_be (two (codes "deploy") (codes "wrap_bin_scripts")) Bool
    ∷ in_three (one (codes "test")) Open
    ∷ []

-- all of them, numbered from 0 in this order
abbrev pub rockspec_rules : List Rule
rockspec_rules =
    package_rules ++ (description_rules ++ (dependency_rules ++ (source_rules ++ (build_rules ++ other_rules))))

-- the path of a rule, with a dot between its parts
abbrev pub rule_path : Option Rule → List ℕ
rule_path None = []
rule_path (Some rule) = join_with_byte 46 rule.path

-- the path of the row of this number; none has another number
abbrev pub row_path : ℕ → List ℕ
row_path number = rule_path (slice_get rockspec_rules number)

-- the rows say just that
abbrev pub AreRockspecRows : List Row → Type 0
AreRockspecRows rows = map rule_of rows ≡ rockspec_rules

-- the table has this answer by these rows
pub record ChecksRockspec (table : Pairs) (format : Format) (answer : Result (Unit {0}) ShapeFault) : Type 0 where
  pub rows : List Row
  pub are : AreRockspecRows rows
  pub checks : Checks rows table format answer
