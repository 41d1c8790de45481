-- How a dependency is written. (LuaRocks.)
use Rattle.std.specs.Prelude.{ℕ, List, [], ◌∷◌, ◌++◌, codes}
use Rattle.std.specs.List.{flat_map}
use Rattle.rocks_constraint.specs.declared.constraint.Constraint.{Constraint}
use Rattle.rocks_constraint.specs.declared.constraint.Operator.{Operator}
use Rattle.rocks_constraint.specs.declared.constraint.Operator.TheVariants.{Eq, Ne, Lt, Gt, Le, Ge, Near}

abbrev pub operator_text : Operator → List ℕ
operator_text Eq = codes "=="
operator_text Ne = codes "~="
operator_text Lt = codes "<"
operator_text Gt = codes ">"
operator_text Le = codes "<="
operator_text Ge = codes ">="
operator_text Near = codes "~>"

-- a blank, the operator, a blank and the version
abbrev pub constraint_text : Constraint → List ℕ
constraint_text c = (32 ∷ operator_text c.operator) ++ 32 ∷ c.version

-- the constraints with a comma behind each but the last
abbrev pub constraints_text : List Constraint → List ℕ
constraints_text [] = []
constraints_text (c ∷ cs) = constraint_text c ++ flat_map (λ d. 44 ∷ constraint_text d) cs

-- the name, and the constraints behind it
abbrev pub printed : List ℕ → List Constraint → List ℕ
printed name constraints = name ++ constraints_text constraints
