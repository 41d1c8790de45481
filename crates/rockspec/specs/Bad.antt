-- Dependencies that can't be read, among texts that stand behind others. No public clause cites this.
use Rattle.std.specs.Prelude.{◌≡◌, ◌+◌, ℕ, List, [], ◌∷◌}
use Rattle.rocks_constraint.specs.declared.fault.DependencyFault.{DependencyFault}
use Rattle.rocks_constraint.specs.declared.fault.DependencyFault.TheVariants as dependency
use Rattle.rockspec.specs.declared.fault.SpecFault.{SpecFault}
use Rattle.rockspec.specs.declared.fault.SpecFault.TheVariants as spec
use Rattle.rockspec.specs.Fields.{told, IsFirstBad, IsSomeDependency}

-- each text is a dependency
abbrev pub AreGood : List (List ℕ) → Type 0
AreGood [] = Unit {0}
AreGood (text ∷ texts) = IsSomeDependency text × AreGood texts

-- the fault of a rockspec by that of a dependency
abbrev pub told_bad : ℕ → DependencyFault → SpecFault
told_bad number (dependency.BadOperator place) = spec.BadDependency (told number) (dependency.BadOperator place)
told_bad number (dependency.BadDependency place) = spec.BadDependency (told number) (dependency.BadDependency place)
told_bad number dependency.NoMemory = spec.NoMemory

-- the fault tells the first text that is bad, by its number behind so many others
pub record IsBadFrom (texts : List (List ℕ)) (before : ℕ) (fault : SpecFault) : Type 0 where
  pub place : ℕ
  pub of_dependency : DependencyFault
  pub first : IsFirstBad texts place of_dependency
  pub is : fault ≡ told_bad (before + place) of_dependency
