-- Which texts are dependencies. (LuaRocks; the limits are this project's own.)
use Rattle.std.specs.Prelude.{◌≡◌, ℕ, suc, ◌<◌, ◌≤◌, List, [], ◌∷◌, length, IsTrue, Some}
use Rattle.rocks_text.specs.Texts.{is_name, lowered}
use Rattle.rocks_version.specs.Texts.{is_version, is_version_byte}
use Rattle.rocks_constraint.specs.declared.constraint.Constraint.{Constraint}
use Rattle.rocks_constraint.specs.declared.constraint.TheConstants.{LONGEST, MOST_CONSTRAINTS}
use Rattle.rocks_constraint.specs.Alphabet.{is_blank, may_part, is_operator_byte, operator_of, IsCut}

-- A constraint stands at the front of the text: a run of operator bytes, blanks, and a run that is a version.
pub record IsConstraintAt (text : List ℕ) (constraint : Constraint) (rest : List ℕ) : Type 0 where
  pub operator_run : List ℕ
  pub behind : List ℕ
  pub blanks : List ℕ
  pub from_version : List ℕ
  pub cut_operator : IsCut is_operator_byte text operator_run behind
  pub operator : operator_of operator_run ≡ Some constraint.operator
  pub cut_blanks : IsCut is_blank behind blanks from_version
  pub cut_version : IsCut is_version_byte from_version constraint.version rest
  pub version : IsTrue (is_version constraint.version)

-- What stands behind the name and so many constraints is a mix of blanks and, behind a constraint, commas; and then
-- nothing, or one constraint more and what stands behind that.
pub data IsTail : ℕ → List ℕ → List Constraint → Type 0 where
  ended : (count : ℕ) (text : List ℕ) → IsCut (may_part count) text text [] → IsTail count text []
  goes_on : (count : ℕ) (text gap behind rest : List ℕ) (constraint : Constraint) (constraints : List Constraint)
      → count < MOST_CONSTRAINTS
      → IsCut (may_part count) text gap behind
      → IsConstraintAt behind constraint rest
      → IsTail (suc count) rest constraints
      → IsTail count text (constraint ∷ constraints)

-- The text is blanks, the longest run of a name's bytes, and the constraints behind it.
pub record IsRead (text name : List ℕ) (constraints : List Constraint) : Type 0 where
  pub blanks : List ℕ
  pub from_name : List ℕ
  pub run : List ℕ
  pub behind : List ℕ
  pub cut_blanks : IsCut is_blank text blanks from_name
  pub cut_name : IsCut is_version_byte from_name run behind
  pub lowers : name ≡ lowered run
  pub is_one : IsTrue (is_name name)
  pub tail : IsTail 0 behind constraints

-- The text is such a one, and short enough.
abbrev pub IsDependency : (text name : List ℕ) → List Constraint → Type 0
IsDependency text name constraints = (length text ≤ LONGEST) × IsRead text name constraints
