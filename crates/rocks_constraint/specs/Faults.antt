-- Why a text is no dependency: its first part that is wrong. (This project's own.)
use Rattle.std.specs.Prelude.{◌≡◌, ℕ, suc, false, ◌+◌, ◌<◌, ◌||◌, nat_le, nat_lt, if◌then◌else◌, List, length, IsTrue, Some, None}
use Rattle.rocks_text.specs.Texts.{is_name, lowered}
use Rattle.rocks_version.specs.Faults.{fault_of}
use Rattle.rocks_version.specs.Texts.{is_version_byte}
use Rattle.rocks_version.specs.declared.fault.VersionFault.{VersionFault}
use Rattle.rocks_version.specs.declared.fault.VersionFault.TheVariants as versions
use Rattle.rocks_constraint.specs.declared.constraint.Constraint.{Constraint}
use Rattle.rocks_constraint.specs.declared.constraint.Operator.{Operator}
use Rattle.rocks_constraint.specs.declared.constraint.TheConstants.{LONGEST, MOST_CONSTRAINTS}
use Rattle.rocks_constraint.specs.declared.fault.DependencyFault.{DependencyFault}
use Rattle.rocks_constraint.specs.declared.fault.DependencyFault.TheVariants.{BadOperator, BadDependency, NoMemory}
use Rattle.rocks_constraint.specs.declared.reader.Wrong.{Wrong}
use Rattle.rocks_constraint.specs.declared.reader.Wrong.TheVariants as wrongs
use Rattle.rocks_constraint.specs.Alphabet.{is_blank, may_part, is_operator_byte, operator_of, IsCut}
use Rattle.rocks_constraint.specs.Grammar.{IsConstraintAt, IsRead}

-- where the fault of a version lies in it
abbrev pub version_place : VersionFault → ℕ
version_place (versions.BadVersion place) = place
version_place (versions.NumberTooLong place) = place
version_place versions.NoMemory = 0

abbrev pub place_of : DependencyFault → ℕ
place_of (BadOperator place) = place
place_of (BadDependency place) = place
place_of NoMemory = 0

-- the fault that a reader tells by a place of any size
abbrev pub fault_at : Wrong → DependencyFault
fault_at (wrongs.Operator place) = BadOperator place
fault_at (wrongs.Other place) = BadDependency place
fault_at wrongs.NoMemory = NoMemory

-- An operator stands at the front, but the run behind it and its blanks is no version; that run may have no byte.
pub record LacksVersion (text : List ℕ) (behind : ℕ) : Type 0 where
  pub operator_run : List ℕ
  pub from_blanks : List ℕ
  pub blanks : List ℕ
  pub from_version : List ℕ
  pub run : List ℕ
  pub rest : List ℕ
  pub operator : Operator
  pub fault : VersionFault
  pub cut_operator : IsCut is_operator_byte text operator_run from_blanks
  pub is_operator : operator_of operator_run ≡ Some operator
  pub cut_blanks : IsCut is_blank from_blanks blanks from_version
  pub cut_version : IsCut is_version_byte from_version run rest
  pub no_version : fault_of run ≡ Some fault
  pub place : behind ≡ length operator_run + length blanks + version_place fault

-- What stands at the front of a text, at a place, is no constraint: its operator bytes are none, or it lacks a version.
pub data IsNoConstraint : (place : ℕ) → List ℕ → DependencyFault → Type 0 where
  no_operator : (place : ℕ) (text run rest : List ℕ)
      → IsCut is_operator_byte text run rest → operator_of run ≡ None → IsNoConstraint place text (BadOperator place)
  no_version : (place behind : ℕ) (text : List ℕ) → LacksVersion text behind → IsNoConstraint place text (BadDependency (place + behind))

-- What stands at a place behind so many constraints and is no gap is one constraint too many, or none.
pub data IsWrongAt : (count place : ℕ) → List ℕ → DependencyFault → Type 0 where
  too_many : (count place : ℕ) (text : List ℕ) → count ≡ MOST_CONSTRAINTS → 0 < length text
      → IsWrongAt count place text (BadDependency place)
  no_constraint : (count place : ℕ) (text : List ℕ) (fault : DependencyFault) → count < MOST_CONSTRAINTS → 0 < length text
      → IsNoConstraint place text fault → IsWrongAt count place text fault

-- Behind the name and so many constraints, at a place of the text, the first part that is no gap is wrong, or it is a
-- constraint and the first wrong part comes later.
pub data HasWrongTail : (count place : ℕ) → List ℕ → DependencyFault → Type 0 where
  here : (count place : ℕ) (text gap behind : List ℕ) (fault : DependencyFault)
      → IsCut (may_part count) text gap behind
      → IsWrongAt count (place + length gap) behind fault
      → HasWrongTail count place text fault
  later : (count place next : ℕ) (text gap behind rest : List ℕ) (constraint : Constraint) (fault : DependencyFault)
      → count < MOST_CONSTRAINTS
      → IsCut (may_part count) text gap behind
      → IsConstraintAt behind constraint rest
      → next + length rest ≡ place + length text
      → HasWrongTail (suc count) next rest fault
      → HasWrongTail count place text fault

-- the first wrong part of a text of any length: the run behind the first blanks, or what stands behind that
pub data IsWrong : List ℕ → DependencyFault → Type 0 where
  no_name : (text blanks from_name run behind : List ℕ)
      → IsCut is_blank text blanks from_name
      → IsCut is_version_byte from_name run behind
      → is_name (lowered run) ≡ false
      → IsWrong text (BadDependency (length blanks))
  behind_name : (place : ℕ) (text blanks from_name run behind : List ℕ) (fault : DependencyFault)
      → IsCut is_blank text blanks from_name
      → IsCut is_version_byte from_name run behind
      → IsTrue (is_name (lowered run))
      → place ≡ length blanks + length run
      → HasWrongTail 0 place behind fault
      → IsWrong text fault

-- The fault of a text of that length whose first wrong part has this one: where the text is too long and that part
-- stands no earlier, it is that it is too long.
abbrev pub limited : ℕ → DependencyFault → DependencyFault
limited size NoMemory = NoMemory
limited size (BadOperator place) = if nat_le size LONGEST || nat_lt place LONGEST then BadOperator place else BadDependency LONGEST
limited size (BadDependency place) = if nat_le size LONGEST || nat_lt place LONGEST then BadDependency place else BadDependency LONGEST

-- the fault of a text: that of its first wrong part, or that it is too long
pub data HasFault : List ℕ → DependencyFault → Type 0 where
  wrong : (text : List ℕ) (fault : DependencyFault) → IsWrong text fault → HasFault text (limited (length text) fault)
  too_long : (text name : List ℕ) (constraints : List Constraint) → LONGEST < length text
      → IsRead text name constraints → HasFault text (BadDependency LONGEST)
