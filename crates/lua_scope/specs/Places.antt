-- The places of locals in their list, and the index of them.
use Rattle.std.specs.Prelude.{◌≡◌, ℕ, suc, List, [], ◌∷◌, Option, Some, None, All, option_map, if◌then◌else◌}
use Rattle.std.specs.Option.{option_or}
use Rattle.std.specs.Str.{bytes_eq}
use Rattle.std.specs.Ordering.{nat_cmp}
use Rattle.std.specs.Cmp.Lexicographic.{slice_cmp}
use Rattle.std.specs.BTreeMap.{BTreeMap, get}
use Rattle.lua_value.specs.declared.table.Value.{Value}
use Rattle.lua_value.specs.Ordered.{IsServed}
use Rattle.lua_value.specs.Pairs.{Datum}
use Rattle.lua_scope.specs.Views.{locals_of}

-- where the latest local of that name stands, counted from 0
abbrev pub latest_place : List ℕ → List (List ℕ × Datum) → Option ℕ
latest_place name [] = None
latest_place name (local ∷ rest) =
    option_or (option_map suc (latest_place name rest)) (if bytes_eq local.0 name then Some 0 else None)

-- every value is one that is served, and the index has the place of each name's latest local
pub record IsIndexed (list : List (List ℕ × Value)) (index : BTreeMap (List ℕ) ℕ) : Type 0 where
  pub served : All (λ local. IsServed local.1) (locals_of list)
  pub places : (name : List ℕ) → get (slice_cmp nat_cmp) index name ≡ latest_place name (locals_of list)
