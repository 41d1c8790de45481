-- What the functions that run statements take and answer.
use Rattle.std.specs.Prelude.{◌≡◌, ◌⊎◌, ℕ, Option, Some}
use Rattle.lua_eval.specs.declared.fault.EvalFault.{EvalFault}
use Rattle.lua_eval.specs.declared.fault.EvalFault.TheVariants.{TwiceName, NoMemory}
use Rattle.lua_eval.specs.declared.scope.Scope.{Scope}
use Rattle.lua_eval.specs.Values.{State}

-- the state that a scope and a sum of weights stand for
abbrev pub state_of : Scope → ℕ → State
state_of scope sum = record { locals = scope.locals; globals = scope.globals; sum = sum }

-- the fault of a name that stands twice, or memory ran out
abbrev pub IsTwice : Option ℕ → EvalFault → Type 0
IsTwice found fault = (fault ≡ NoMemory) ⊎ ((place : ℕ) × (found ≡ Some place) × (fault ≡ TwiceName place))
