-- The bytes of a dependency's text, and its operators. (LuaRocks.)
use Rattle.std.specs.Prelude.{◌≡◌, ℕ, Bool, false, ◌==◌, ◌&&◌, ◌||◌, nat_lt, List, [], ◌∷◌, ◌++◌, codes, IsTrue, if◌then◌else◌, Option, Some, None}
use Rattle.std.specs.List.{list_all}
use Rattle.std.specs.Str.{bytes_eq}
use Rattle.rocks_constraint.specs.declared.constraint.Operator.{Operator}
use Rattle.rocks_constraint.specs.declared.constraint.Operator.TheVariants.{Eq, Ne, Lt, Gt, Le, Ge, Near}

-- a space or a tab
abbrev pub is_blank : ℕ → Bool
is_blank b = b == 32 || b == 9

-- Behind so many constraints a blank may stand, and a comma where there is one constraint or more.
abbrev pub may_part : ℕ → ℕ → Bool
may_part count b = is_blank b || (nat_lt 0 count && b == 44)

-- one of `= ~ < > !`
abbrev pub is_operator_byte : ℕ → Bool
is_operator_byte b = b == 61 || b == 126 || b == 60 || b == 62 || b == 33

-- the operator that a run of such bytes writes, if it writes one; no bytes write `==`
unfoldable pub operator_of : List ℕ → Option Operator
operator_of run =
    if bytes_eq run (codes "") then Some Eq
    else (if bytes_eq run (codes "=") then Some Eq
    else (if bytes_eq run (codes "==") then Some Eq
    else (if bytes_eq run (codes "~=") then Some Ne
    else (if bytes_eq run (codes "!=") then Some Ne
    else (if bytes_eq run (codes "<") then Some Lt
    else (if bytes_eq run (codes ">") then Some Gt
    else (if bytes_eq run (codes "<=") then Some Le
    else (if bytes_eq run (codes ">=") then Some Ge
    else (if bytes_eq run (codes "~>") then Some Near
    else None)))))))))

-- the text does not begin with a byte that passes the test
abbrev pub BeginsOtherwise : (ℕ → Bool) → List ℕ → Type 0
BeginsOtherwise test [] = Unit {0}
BeginsOtherwise test (b ∷ bs) = test b ≡ false

-- The text is a run of bytes that pass the test, and what is left behind the longest such run.
pub record IsCut (test : ℕ → Bool) (text run rest : List ℕ) : Type 0 where
  pub whole : text ≡ run ++ rest
  pub passes : IsTrue (list_all test run)
  pub longest : BeginsOtherwise test rest
