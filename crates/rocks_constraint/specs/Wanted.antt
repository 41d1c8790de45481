-- What a dependency says.
use Rattle.std.specs.Prelude.{ℕ, List}
use Rattle.rocks_constraint.specs.declared.constraint.Constraint.{Constraint}

-- a package, and the constraints on its version
pub record Wanted : Type 0 where
  pub name : List ℕ
  pub constraints : List Constraint
