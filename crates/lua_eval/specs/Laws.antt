-- What the laws of chunks speak of.
use Rattle.std.specs.Prelude.{◌≡◌, ◌⊎◌, ℕ, ◌+◌, ◌≤◌, List, [], ◌∷◌}
use Rattle.std.specs.List.{AllByRecursion}
use Rattle.lua_syntax.specs.declared.tree.LuaChunk.{LuaChunk}
use Rattle.lua_syntax.specs.declared.tree.Named.{Named}
use Rattle.lua_syntax.specs.declared.tree.Statement.{Statement}
use Rattle.lua_syntax.specs.declared.tree.Statement.TheVariants as statements
use Rattle.lua_syntax.specs.Trees.{trees}
use Rattle.lua_value.specs.declared.key.Key.TheVariants.{Text}
use Rattle.lua_value.specs.Depth.{value_depth, depth}
use Rattle.lua_value.specs.Ordered.{IsServed, IsOrdered}
use Rattle.lua_value.specs.Pairs.{Datum, Pairs, no_pairs, with_pair}
use Rattle.lua_eval.specs.declared.weight.TheConstants.{HEAVIEST, DEEPEST}
use Rattle.lua_eval.specs.Finding.{AreIntegersAmong}
use Rattle.lua_eval.specs.Values.{State}
use Rattle.lua_eval.specs.Weights.{weight}

-- ---- integers

-- every integer in the statement is at most 9,223,372,036,854,775,807
abbrev pub IsServedStatement : Statement → Type 0
IsServedStatement (statements.Assign names values) = AreIntegersAmong (trees values)
IsServedStatement (statements.Local names values) = AreIntegersAmong (trees values)

-- so it is in each statement of the chunk
abbrev pub IsServedChunk : LuaChunk → Type 0
IsServedChunk chunk = AllByRecursion IsServedStatement chunk.statements

-- ---- states

-- what a table's values weigh together, its keys left out
abbrev pub values_weight : Pairs → ℕ
values_weight no_pairs = 0
values_weight (with_pair key value rest) = weight value + values_weight rest

-- a value that is served, in which no more tables stand within one another than may
abbrev pub IsKeptValue : Datum → Type 0
IsKeptValue value = IsServed value × (value_depth value ≤ DEEPEST)

-- Every local's value is served and not too deep, and so are the globals. The globals' values weigh no more than the
-- sum of weights, and that is not above the limit.
pub record IsKept (state : State) : Type 0 where
  pub locals : AllByRecursion (λ local. IsKeptValue local.1) state.locals
  pub ordered : IsOrdered state.globals
  pub shallow : depth state.globals ≤ DEEPEST
  pub weighed : values_weight state.globals ≤ state.sum
  pub light : state.sum ≤ HEAVIEST

-- ---- names

-- each key is a text with bytes of this kind
abbrev pub EachKey : (List ℕ → Type 0) → Pairs → Type 0
EachKey P no_pairs = Unit {0}
EachKey P (with_pair key value rest) = ((bytes : List ℕ) × (key ≡ Text bytes) × P bytes) × EachKey P rest

-- one of these names is this one
abbrev pub IsOneOf : List Named → List ℕ → Type 0
IsOneOf [] name = ⊥
IsOneOf (named ∷ rest) name = (named.name ≡ name) ⊎ IsOneOf rest name

-- one of the statements assigns the name, and is no `local`
abbrev pub IsAssigned : List Statement → List ℕ → Type 0
IsAssigned [] name = ⊥
IsAssigned (statements.Assign names values ∷ rest) name = IsOneOf names name ⊎ IsAssigned rest name
IsAssigned (statements.Local names values ∷ rest) name = IsAssigned rest name
