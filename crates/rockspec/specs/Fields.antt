-- What the fields of a rockspec say (LuaRocks documentation, rockspec format).
use Rattle.std.specs.Prelude.{◌≡◌, ℕ, suc, Bool, false, ◌&&◌, ◌||◌, not, ◌^◌, ◌-◌, min, List, [], ◌∷◌, ◌++◌, map, codes, Option, Some, None}
use Rattle.std.specs.Bool.{nat_eq}
use Rattle.std.specs.List.{list_any, list_all, starts_with}
use Rattle.std.specs.Str.{bytes_eq}
use Rattle.lua_value.specs.declared.key.Key.TheVariants.{Text}
use Rattle.lua_value.specs.Pairs.{Datum, Pairs, value_at, listed}
use Rattle.build_plan.specs.Entries.{bytes_of}
use Rattle.rockspec_table.specs.Platforms.{table_at}
use Rattle.rocks_constraint.specs.declared.constraint.Constraint.{Constraint}
use Rattle.rocks_constraint.specs.declared.fault.DependencyFault.{DependencyFault}
use Rattle.rocks_constraint.specs.Faults.{HasFault}
use Rattle.rocks_constraint.specs.Grammar.{IsDependency}
use Rattle.rocks_constraint.specs.Wanted.{Wanted}
use Rattle.rocks_text.specs.Texts.{is_name, lowered}
use Rattle.rocks_version.specs.Texts.{is_rock_version}
use Rattle.rockspec.specs.declared.fault.SpecFault.{SpecFault}
use Rattle.rockspec.specs.declared.fault.SpecFault.TheVariants as spec

-- the text at a text key; where there is none, the empty one
abbrev pub text_said : Option Datum → List ℕ
text_said None = []
text_said (Some value) = bytes_of value

abbrev pub text_at : (name : List ℕ) → Pairs → List ℕ
text_at name fields = text_said (value_at (Text name) fields)

-- the texts of the list at a text key
abbrev pub texts_at : (name : List ℕ) → Pairs → List (List ℕ)
texts_at name fields = map (λ pair. bytes_of pair.1) (listed (table_at name fields))

-- the name of the rock: the package in lower case
abbrev pub rock_name : (fields : Pairs) → List ℕ
rock_name fields = lowered (text_at (codes "package") fields)

abbrev pub rock_version : (fields : Pairs) → List ℕ
rock_version fields = text_at (codes "version") fields

-- the texts of the three lists of dependencies, in turn
abbrev pub dependency_texts : (fields : Pairs) → List (List ℕ)
dependency_texts fields =
    texts_at (codes "dependencies") fields
    ++ (texts_at (codes "build_dependencies") fields ++ texts_at (codes "test_dependencies") fields)

-- a text is some dependency
pub record IsSomeDependency (text : List ℕ) : Type 0 where
  pub name : List ℕ
  pub constraints : List Constraint
  pub is : IsDependency text name constraints

-- a text is the dependency
abbrev pub Reads : List ℕ → Wanted → Type 0
Reads text wanted = IsDependency text wanted.name wanted.constraints

-- texts are the dependencies, each the one at its place
abbrev pub AreRead : List (List ℕ) → List Wanted → Type 0
AreRead [] [] = Unit {0}
AreRead [] (wanted ∷ more) = ⊥
AreRead (text ∷ texts) [] = ⊥
AreRead (text ∷ texts) (wanted ∷ more) = Reads text wanted × AreRead texts more

-- a number as a fault tells it, which is 4,294,967,295 at most
abbrev pub told : ℕ → ℕ
told number = min number (2 ^ 32 - 1)

-- the place of the first of the texts that is no dependency, and its fault
pub data IsFirstBad : List (List ℕ) → ℕ → DependencyFault → Type 0 where
  here : (text : List ℕ) (texts : List (List ℕ)) (fault : DependencyFault)
      → HasFault text fault → IsFirstBad (text ∷ texts) 0 fault
  later : (text : List ℕ) (texts : List (List ℕ)) (place : ℕ) (fault : DependencyFault)
      → IsSomeDependency text → IsFirstBad texts place fault → IsFirstBad (text ∷ texts) (suc place) fault

-- a fault tells of the first bad one
pub record IsToldBad (texts : List (List ℕ)) (which : ℕ) (fault : DependencyFault) : Type 0 where
  pub place : ℕ
  pub first : IsFirstBad texts place fault
  pub is : which ≡ told place

-- one of the texts is this one
abbrev pub has_text : List (List ℕ) → List ℕ → Bool
has_text texts text = list_any (bytes_eq text) texts

-- an entry that denies a platform
abbrev pub denies : List ℕ → Bool
denies entry = starts_with nat_eq entry (codes "!")

-- Neither `unix` nor `linux` is denied, and one of them is listed or nothing is.
abbrev pub are_supported : List (List ℕ) → Bool
are_supported entries =
    not (has_text entries (codes "!unix") || has_text entries (codes "!linux"))
    && (has_text entries (codes "unix") || has_text entries (codes "linux") || list_all denies entries)

abbrev pub is_supported : (fields : Pairs) → Bool
is_supported fields = are_supported (texts_at (codes "supported_platforms") fields)

-- the fields have this fault, whatever others they have
abbrev pub HasFieldFault : (fields : Pairs) → SpecFault → Type 0
HasFieldFault fields (spec.TooLarge n) = ⊥
HasFieldFault fields (spec.Lex f) = ⊥
HasFieldFault fields (spec.Syntax f) = ⊥
HasFieldFault fields (spec.Eval f) = ⊥
HasFieldFault fields spec.BadFormat = ⊥
HasFieldFault fields (spec.BadPlatforms f) = ⊥
HasFieldFault fields (spec.Shape f) = ⊥
HasFieldFault fields spec.BadName = is_name (rock_name fields) ≡ false
HasFieldFault fields spec.BadVersion = is_rock_version (rock_version fields) ≡ false
HasFieldFault fields (spec.BadDependency which fault) = IsToldBad (dependency_texts fields) which fault
HasFieldFault fields spec.Platform = is_supported fields ≡ false
HasFieldFault fields spec.NoMemory = ⊥
