-- What names stand for (Lua 5.4 manual, sections 2.2, 3.2 and 3.5, as far as served).
use denote.Ref.{Bor}
use Rattle.std.specs.Prelude.{ℕ, List, [], ◌∷◌, Option, Some, None, option_map, if◌then◌else◌}
use Rattle.std.specs.List.{list_any}
use Rattle.std.specs.Str.{bytes_eq}
use Rattle.lua_syntax.specs.declared.tree.Named.{Named}
use Rattle.lua_value.specs.declared.key.Key.TheVariants.{Text}
use Rattle.lua_value.specs.declared.table.Value.{Value}
use Rattle.lua_value.specs.View.{datum}
use Rattle.lua_value.specs.Pairs.{Datum, Pairs, nil, value_at}
use Rattle.lua_scope.specs.Locals.{latest}

-- a value, or nil where there is none
abbrev pub or_nil : Option Datum → Datum
or_nil None = nil
or_nil (Some value) = value

-- what a borrowed value is, or nil where there is none
abbrev pub shown : Option (Bor Value) → Datum
shown value = or_nil (option_map (λ borrowed. datum borrowed.now) value)

abbrev given_by : Option Datum → Datum → Datum
given_by None other = other
given_by (Some value) other = value

-- the latest local of the name, or else the global, or nil
abbrev pub given : List (List ℕ × Datum) → Pairs → List ℕ → Datum
given locals globals name = given_by (latest name locals) (or_nil (value_at (Text name) globals))

-- the names, each with its value: the first with the first and so on; missing values are nil, and surplus ones are
-- dropped
abbrev pub paired : List Named → List Datum → List (List ℕ × Datum)
paired [] values = []
paired (named ∷ names) [] = (named.name, nil) ∷ paired names []
paired (named ∷ names) (value ∷ values) = (named.name, value) ∷ paired names values

-- where a name stands that is one of those before it, or of these
abbrev pub twice : List (List ℕ) → List Named → Option ℕ
twice before [] = None
twice before (named ∷ names) =
    if list_any (bytes_eq named.name) before then Some named.place else twice (named.name ∷ before) names
