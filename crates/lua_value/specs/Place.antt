-- Where a key stands in a list of entries in key order, or would go.
use Rattle.std.specs.Prelude.{◌≡◌, ℕ, ◌<◌, ◌≤◌, List, length}
use Rattle.std.specs.List.{AllWithin, HoldsAt}
use Rattle.std.specs.declared.cmp.Ordering.TheVariants.{Less, Equal, Greater}
use Rattle.lua_value.specs.declared.key.Key.{Key}
use Rattle.lua_value.specs.declared.table.Value.{Value}
use Rattle.lua_value.specs.Key.{key_cmp}

-- the entry at place i has the key
abbrev pub IsPlaceOf : Key → List (Key × Value) → ℕ → Type 0
IsPlaceOf key es i = (i < length es) × HoldsAt (λ e. key_cmp e.0 key ≡ Equal) es i

-- the keys before place i are smaller, and those from it on are greater
abbrev pub IsGapFor : Key → List (Key × Value) → ℕ → Type 0
IsGapFor key es i =
    (i ≤ length es) × AllWithin (λ e. key_cmp e.0 key ≡ Less) es 0 i × AllWithin (λ e. key_cmp e.0 key ≡ Greater) es i (length es)
