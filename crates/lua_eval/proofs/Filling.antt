-- How a field leads from one table that is being made to the next.
use Rattle.std.proofs.Common.{◌≡◌, ◌||◌, ℕ, ◌+◌, Bool, true, false, cond, List, ◌∷◌, Option, Some, Result, Ok, Err, refl, sym, ap, ◌∙◌}
use Rattle.std.specs.Prelude.{is_some}
use Rattle.std.specs.List.{list_any}
use Rattle.std.specs.Ordering.{is_eq}
use Rattle.lua_syntax.specs.Trees.{Tree, Fields, with_position, with_key}
use Rattle.lua_value.specs.declared.key.Key.{Key}
use Rattle.lua_value.specs.declared.key.Key.TheVariants.{Int}
use Rattle.lua_value.specs.Key.{key_cmp}
use Rattle.lua_value.specs.Pairs.{Datum, Pairs, value_at, put}
use Rattle.lua_value.proofs.Puts.{value_at-put}
use Rattle.lua_eval.specs.declared.fault.EvalFault.{EvalFault}
use Rattle.lua_eval.specs.declared.fault.EvalFault.TheVariants.{TwiceKey}
use Rattle.lua_eval.specs.Finding.{AreGiven, taken}
use Rattle.lua_eval.specs.Joins.{and_then}
use Rattle.lua_eval.specs.Values.{find, fill, key_of, unused, with_value}

-- what comes behind an unused key and a value, in two steps or in one
in_steps : (b : Bool) (r : Result (Datum × ℕ) EvalFault) (place : ℕ) (key : Key) (made : Pairs) (next : Key → Pairs → ℕ → Result (Pairs × ℕ) EvalFault) → and_then (cond b (Err (TwiceKey place)) (Ok key)) (λ k. and_then r (λ found. next k (with_value k found.0 made) found.1)) ≡ and_then {A = Pairs × ℕ} (and_then {A = Key} (cond b (Err (TwiceKey place)) (Ok key)) (λ k. and_then {B = Pairs × ℕ} r (λ found. Ok (with_value k found.0 made, found.1)))) (λ m. next key m.0 m.1)
in_steps true r place key made next = refl
in_steps false (Ok found) place key made next = refl
in_steps false (Err fault) place key made next = refl

-- a positional field is one whose key is known
pub fill-position : (names : List ℕ → Datum) (place : ℕ) (value : Tree) (rest : Fields) (next : ℕ) (before : List Key) (made : Pairs) (sum : ℕ) → fill names (with_position place value rest) next before made sum ≡ and_then (taken names place (Int next) value before made sum) (λ m. fill names rest (next + 1) (Int next ∷ before) m.0 m.1)
fill-position names place value rest next before made sum = in_steps (list_any (λ other. is_eq (key_cmp (Int next) other)) before) (find names value sum) place (Int next) made (λ k m s. fill names rest (next + 1) (k ∷ before) m s)

-- so is a field whose key was found
pub fill-key : (names : List ℕ → Datum) (place : ℕ) (key value : Tree) (rest : Fields) (next : ℕ) (before : List Key) (made : Pairs) (sum : ℕ) (found : Datum) (now : ℕ) (known : Key) → find names key sum ≡ Ok (found, now) → key_of place found ≡ Ok known → fill names (with_key place key value rest) next before made sum ≡ and_then (taken names place known value before made now) (λ m. fill names rest next (known ∷ before) m.0 m.1)
fill-key names place key value rest next before made sum found now known e is =
    ap (λ r. and_then {A = Datum × ℕ} r (λ f. and_then (key_of place f.0) (λ k. and_then (unused place before k) (λ u. and_then (find names value f.1) (λ v. fill names rest next (u ∷ before) (with_value u v.0 made) v.1))))) e
    ∙ ap (λ r. and_then r (λ k. and_then (unused place before k) (λ u. and_then (find names value now) (λ v. fill names rest next (u ∷ before) (with_value u v.0 made) v.1)))) is
    ∙ in_steps (list_any (λ other. is_eq (key_cmp known other)) before) (find names value now) place known made (λ k m s. fill names rest next (k ∷ before) m s)

-- a field that is taken
pub taken-found : (names : List ℕ → Datum) (place : ℕ) (key : Key) (value : Tree) (before : List Key) (made : Pairs) (sum : ℕ) (found : Datum) (now : ℕ) → unused place before key ≡ Ok key → find names value sum ≡ Ok (found, now) → taken names place key value before made sum ≡ Ok (with_value key found made, now)
taken-found names place key value before made sum found now free e =
    ap (λ r. and_then {B = Pairs × ℕ} r (λ k. and_then (find names value sum) (λ f. Ok (with_value k f.0 made, f.1)))) free
    ∙ ap (λ r. and_then {B = Pairs × ℕ} r (λ f. Ok (with_value key f.0 made, f.1))) e

or_swapped : (a b c : Bool) → (a || (b || c)) ≡ (b || (a || c))
or_swapped true true c = refl
or_swapped true false c = refl
or_swapped false true c = refl
or_swapped false false c = refl

some_put : (b : Bool) (value : Datum) (old : Option Datum) → is_some (cond b (Some value) old) ≡ (b || is_some old)
some_put true value old = refl
some_put false value old = refl

-- a key that gets a value is given
pub given-made : (key : Key) (value : Datum) (before : List Key) (made without_value : Pairs) → AreGiven before made without_value → AreGiven (key ∷ before) (put key value made) without_value
given-made key value before made without_value are = λ other. let b = is_eq (key_cmp other key) in
    ap (λ c. b || c) (are other) ∙ or_assoc b (is_some (value_at other made)) (is_some (value_at other without_value))
    ∙ ap (λ c. c || is_some (value_at other without_value)) (sym (some_put b value (value_at other made)) ∙ ap is_some (sym (value_at-put other key value made)))
  where
    or_assoc : (a b c : Bool) → (a || (b || c)) ≡ ((a || b) || c)
    or_assoc true b c = refl
    or_assoc false b c = refl

-- and so is one that gets none
pub given-without : (key : Key) (value : Datum) (before : List Key) (made without_value : Pairs) → AreGiven before made without_value → AreGiven (key ∷ before) made (put key value without_value)
given-without key value before made without_value are = λ other. let b = is_eq (key_cmp other key) in
    ap (λ c. b || c) (are other) ∙ or_swapped b (is_some (value_at other made)) (is_some (value_at other without_value))
    ∙ ap (λ c. is_some (value_at other made) || c) (sym (some_put b value (value_at other without_value)) ∙ ap is_some (sym (value_at-put other key value without_value)))
