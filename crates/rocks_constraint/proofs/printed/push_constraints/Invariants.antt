use Rattle.std.proofs.Common.{◌≡◌, ◌∷◌, ◌++◌, drop, string_bytes}
use Rattle.std.specs.List.{flat_map}
use Rattle.rocks_constraint.specs.Printed.{constraint_text, constraints_text}
use Rattle.rocks_constraint.proofs.printed.push_constraints.Given as goal

-- what is written and what is left to write are the whole
abbrev pub invariant-loop-constraint : goal.invariant-loop-constraint
invariant-loop-constraint l =
    string_bytes l.text ++ flat_map (λ c. 44 ∷ constraint_text c) (drop l.constraint-index l.others)
    ≡ string_bytes l.fn.text ++ constraints_text l.fn.constraints
