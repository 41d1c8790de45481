-- What a text is read as, or told to be.
use Rattle.std.proofs.Common.{◌≡◌, ◌≢◌, refl, ℕ, ◌<◌, List, length, sym, ap, subst, ◌∙◌, inl, inr}
use Rattle.std.specs.Prelude.{◌⊎◌}
use Rattle.rocks_constraint.specs.declared.constraint.Constraint.{Constraint}
use Rattle.rocks_constraint.specs.declared.constraint.TheConstants.{LONGEST}
use Rattle.rocks_constraint.specs.declared.fault.DependencyFault.{DependencyFault}
use Rattle.rocks_constraint.specs.declared.fault.DependencyFault.TheVariants.{BadDependency, NoMemory}
use Rattle.rocks_constraint.specs.declared.reader.Wrong.{Wrong}
use Rattle.rocks_constraint.specs.declared.reader.Wrong.TheVariants as wrongs
use Rattle.rocks_constraint.specs.Faults.{fault_at, limited, wrong, too_long, HasFault, IsWrong}
use Rattle.rocks_constraint.specs.Grammar.{IsRead}
use Rattle.rocks_constraint.proofs.FaultLaws.{read_clean}

module _ (text bytes : List ℕ) (same : bytes ≡ text) where
  pub long_fault : (name : List ℕ) (constraints : List Constraint) → LONGEST < length text → IsRead bytes name constraints → HasFault text (BadDependency LONGEST)
  long_fault name constraints long read = too_long text name constraints long (subst (λ (t : List ℕ). IsRead t name constraints) same read)

  pub wrong_fault : (part : Wrong) (fault : DependencyFault) → fault ≡ limited (length text) (fault_at part) → (part ≡ wrongs.NoMemory) ⊎ IsWrong bytes (fault_at part)
      → (fault ≡ NoMemory) ⊎ HasFault text fault
  wrong_fault part fault is cases =
      elim cases [
        | inl memory ↦ inl (is ∙ ap (λ (w : Wrong). limited (length text) (fault_at w)) memory)
        | inr bad ↦ inr (subst (λ (f : DependencyFault). HasFault text f) (sym is) (wrong text (fault_at part) (subst (λ (t : List ℕ). IsWrong t (fault_at part)) same bad)))
      ]

-- what has a wrong part is read as nothing
pub unread : (text : List ℕ) (part : Wrong) → part ≢ wrongs.NoMemory → (part ≡ wrongs.NoMemory) ⊎ IsWrong text (fault_at part)
    → (name : List ℕ) (constraints : List Constraint) → ¬ (IsRead text name constraints)
unread text part other (inl memory) name constraints read = other memory
unread text part other (inr bad) name constraints read = read_clean text name constraints refl read bad
