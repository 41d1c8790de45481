-- Concatenations (Lua 5.4 manual, section 3.4.6, as far as served).
use Rattle.std.specs.Prelude.{ℕ, List, [], ◌∷◌, ◌++◌, Option, Some, None, Result, Ok, Err}
use Rattle.std.specs.Fmt.{decimal}
use Rattle.lua_value.specs.Pairs.{Datum, nil, truth_value, int_value, text_value, table_value}
use Rattle.lua_eval.specs.declared.fault.EvalFault.{EvalFault}
use Rattle.lua_eval.specs.declared.fault.EvalFault.TheVariants.{ConcatOf}
use Rattle.lua_eval.specs.declared.fault.ValueKind.{ValueKind}
use Rattle.lua_eval.specs.declared.fault.ValueKind.TheVariants as kinds

abbrev pub kind_of : Datum → ValueKind
kind_of nil = kinds.Nil
kind_of (truth_value b) = kinds.Bool
kind_of (int_value n) = kinds.Int
kind_of (text_value bytes) = kinds.Text
kind_of (table_value ps) = kinds.Table

-- what comes next, unless there is a fault
abbrev pub and_then : {A B : Type 0} → Result A EvalFault → (A → Result B EvalFault) → Result B EvalFault
and_then (Ok found) next = next found
and_then (Err fault) next = Err fault

-- a text is joined as it is, and an integer in decimal
abbrev pub text_of : Datum → Option (List ℕ)
text_of nil = None
text_of (truth_value b) = None
text_of (int_value n) = Some (decimal n)
text_of (text_value bytes) = Some bytes
text_of (table_value ps) = None

abbrev pub join_texts : (place : ℕ) (left right : Datum) → Option (List ℕ) → Option (List ℕ) → Result Datum EvalFault
join_texts place left right None right_text = Err (ConcatOf place (kind_of left))
join_texts place left right (Some left_text) None = Err (ConcatOf place (kind_of right))
join_texts place left right (Some left_text) (Some right_text) = Ok (text_value (left_text ++ right_text))

-- two values joined by the operator at this place; the fault speaks of the left one first
abbrev pub join_two : (place : ℕ) (left right : Datum) → Result Datum EvalFault
join_two place left right = join_texts place left right (text_of left) (text_of right)

-- The values joined from the right, with the places of the operators. In a chunk there is one value more than
-- operators.
abbrev pub join : List Datum → List ℕ → Result Datum EvalFault
join [] places = Ok nil
join (value ∷ []) places = Ok value
join (value ∷ other ∷ values) [] = Ok value
join (value ∷ other ∷ values) (place ∷ places) = and_then (join (other ∷ values) places) (join_two place value)
