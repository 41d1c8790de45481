-- The text of a table that isn't empty, and of its globals one by one.
use Rattle.std.proofs.Common.{◌≡◌, ◌≢◌, ℕ, zero, suc, ◌+◌, cond, List, [], ◌∷◌, ◌++◌, Some, Result, Ok, Err, OnOk, refl, sym, ap, ◌∙◌, append_assoc, codes}
use Rattle.std.specs.Prelude.{is_ok}
use Rattle.std.specs.List.{slice_get}
use Rattle.lua_value.specs.declared.key.Key.{Key}
use Rattle.lua_value.specs.Pairs.{Datum, Pairs, no_pairs, with_pair, count, listed, keys}
use Rattle.lua_print.specs.Printed.{value_text, entries_text, table_text, deeper, name_text, globals_text, IsNameKey, HasNames}
use Rattle.lua_value.proofs.Left.{left, left-entry}

table_text-some : (indent : List ℕ) (ps : Pairs) → count ps ≢ 0 → table_text indent ps ≡ ((123 ∷ 10 ∷ entries_text (deeper indent) (keys ps) ps) ++ indent) ++ 125 ∷ []
table_text-some indent no_pairs h = absurd (h refl)
table_text-some indent (with_pair key value rest) h = refl

pub table_text-none : (indent : List ℕ) (ps : Pairs) → count ps ≡ 0 → codes "{}" ≡ table_text indent ps
table_text-none indent no_pairs h = refl
table_text-none indent (with_pair key value rest) h = cc

-- the pieces of a table, one after another
pub pieces : (out indent within a b c : List ℕ) (ps : Pairs) → count ps ≢ 0 → within ≡ deeper indent → a ≡ out ++ 123 ∷ 10 ∷ [] → b ≡ a ++ entries_text within (keys ps) ps → c ≡ b ++ indent → c ++ 125 ∷ [] ≡ out ++ table_text indent ps
pieces out indent within a b c ps some w ea eb ec =
    rw (ec, eb, ea, w) (simp append_assoc)
    ∙ ap (λ text. out ++ text) (sym (table_text-some indent ps some))

-- what the last of several appends leaves, if it is done
pub on_last : {E : Type 0} (r : Result (Unit {0}) E) (new old more all : List ℕ) → new ≡ cond (is_ok r) (old ++ more) old → old ++ more ≡ all → OnOk r (new ≡ all)
on_last (Ok u) new old more all e f = e ∙ f
on_last (Err x) new old more all e f = tt

pub names_at : (ps : Pairs) (i : ℕ) (x : Key × Datum) → HasNames ps → slice_get (listed ps) i ≡ Some x → IsNameKey x.0
names_at no_pairs i x h at = cc
names_at (with_pair key value rest) zero x h at = let same : (key, value) ≡ x = cc in rw (← same) h.0
names_at (with_pair key value rest) (suc i) x h at = names_at rest i x h.1 at

-- the globals from a place on begin with the one there
pub globals_text-left : (ps : Pairs) (i : ℕ) (x : Key × Datum) → slice_get (listed ps) i ≡ Some x → globals_text (left i ps) ≡ (name_text x.0 ++ codes " = " ++ value_text [] x.1 ++ 10 ∷ []) ++ globals_text (left (i + 1) ps)
globals_text-left ps i x at =
    ap globals_text (left-entry ps i x at) ∙ sym (append_assoc (name_text x.0 ++ codes " = " ++ value_text [] x.1) (10 ∷ []) (globals_text (left (i + 1) ps)))
