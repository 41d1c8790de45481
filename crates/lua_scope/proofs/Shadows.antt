-- What declaring a local, and giving one a value, does to the latest of each name.
use Rattle.std.proofs.Common.{◌≡◌, ◌≢◌, ℕ, List, [], ◌∷◌, ◌++◌, Bool, true, false, cond, Option, Some, None, IsSome, is_some, refl, sym, ap, ◌∙◌}
use Rattle.std.proofs.lemmas.Slice.Eq.{bytes_eq-Decides}
use Rattle.std.specs.Option.{option_or}
use Rattle.std.specs.Str.{bytes_eq}
use Rattle.lua_value.specs.Pairs.{Datum}
use Rattle.lua_scope.specs.Locals.{latest, reset}

-- names that differ do not compare as equal
bytes_eq-other : (a b : List ℕ) → a ≢ b → bytes_eq a b ≡ false
bytes_eq-other a b ne = by_test (bytes_eq a b) (bytes_eq-Decides a b).0
  where
    by_test : (t : Bool) → (t ≡ true → a ≡ b) → t ≡ false
    by_test true h = absurd (ne (h refl))
    by_test false h = refl

bytes_eq-itself : (a : List ℕ) → bytes_eq a a ≡ true
bytes_eq-itself a = (bytes_eq-Decides a a).1 refl

latest-push : (q name : List ℕ) (value : Datum) (locals : List (List ℕ × Datum)) → latest q (locals ++ (name, value) ∷ []) ≡ cond (bytes_eq name q) (Some value) (latest q locals)
latest-push q name value [] = refl
latest-push q name value (local ∷ rest) =
    ap (λ o. option_or o (cond (bytes_eq local.0 q) (Some local.1) None)) (latest-push q name value rest)
    ∙ by_name (bytes_eq name q) (latest q rest) (cond (bytes_eq local.0 q) (Some local.1) None)
  where
    by_name : (b : Bool) (o p : Option Datum) → option_or (cond b (Some value) o) p ≡ cond b (Some value) (option_or o p)
    by_name true o p = refl
    by_name false o p = refl

-- a local that was just declared is the latest of its name
pub latest-push_name : (name : List ℕ) (value : Datum) (locals : List (List ℕ × Datum)) → latest name (locals ++ (name, value) ∷ []) ≡ Some value
latest-push_name name value locals =
    latest-push name name value locals ∙ ap (λ b. cond b (Some value) (latest name locals)) (bytes_eq-itself name)

-- and hides none of another name
pub latest-push_other : (q name : List ℕ) (value : Datum) (locals : List (List ℕ × Datum)) → q ≢ name → latest q (locals ++ (name, value) ∷ []) ≡ latest q locals
latest-push_other q name value locals ne =
    latest-push q name value locals
    ∙ ap (λ b. cond b (Some value) (latest q locals)) (bytes_eq-other name q (λ e. ne (sym e)))

-- ---- giving a value to a later local, to the first one, or to none
reset-later : (name : List ℕ) (value : Datum) (local : List ℕ × Datum) (rest : List (List ℕ × Datum)) → is_some (latest name rest) ≡ true → reset name value (local ∷ rest) ≡ local ∷ reset name value rest
reset-later name value local rest e = rw e refl

reset-first : (name : List ℕ) (value : Datum) (local : List ℕ × Datum) (rest : List (List ℕ × Datum)) → is_some (latest name rest) ≡ false → bytes_eq local.0 name ≡ true → reset name value (local ∷ rest) ≡ (local.0, value) ∷ rest
reset-first name value local rest e f = rw (e, f) refl

reset-none : (name : List ℕ) (value : Datum) (local : List ℕ × Datum) (rest : List (List ℕ × Datum)) → is_some (latest name rest) ≡ false → bytes_eq local.0 name ≡ false → reset name value (local ∷ rest) ≡ local ∷ rest
reset-none name value local rest e f = rw (e, f) refl

-- a local that was given a value has it
pub latest-reset_name : (name : List ℕ) (value : Datum) (locals : List (List ℕ × Datum)) → IsSome (latest name locals) → latest name (reset name value locals) ≡ Some value
latest-reset_name name value [] h = cc
latest-reset_name name value (local ∷ rest) h =
    by_cases (latest-reset_name name value rest) (latest name rest) refl (bytes_eq local.0 name) refl h
  where
    by_cases : (IsSome (latest name rest) → latest name (reset name value rest) ≡ Some value) → (o : Option Datum) → latest name rest ≡ o → (b : Bool) → bytes_eq local.0 name ≡ b → IsSome (option_or o (cond b (Some local.1) None)) → latest name (reset name value (local ∷ rest)) ≡ Some value
    by_cases later (Some old) e b f s =
        ap (latest name) (reset-later name value local rest (ap is_some e))
        ∙ ap (λ o. option_or o (cond (bytes_eq local.0 name) (Some local.1) None)) (later (ap is_some e))
    by_cases later None e true f s =
        ap (latest name) (reset-first name value local rest (ap is_some e) f)
        ∙ (λ i. option_or (e i) (cond (f i) (Some value) None))
    by_cases later None e false f s = cc

-- the locals of other names keep their values
pub latest-reset_other : (q name : List ℕ) (value : Datum) (locals : List (List ℕ × Datum)) → q ≢ name → latest q (reset name value locals) ≡ latest q locals
latest-reset_other q name value [] ne = refl
latest-reset_other q name value (local ∷ rest) ne =
    by_cases (latest-reset_other q name value rest ne) (is_some (latest name rest)) refl (bytes_eq local.0 name) refl
  where
    by_cases : latest q (reset name value rest) ≡ latest q rest → (t : Bool) → is_some (latest name rest) ≡ t → (b : Bool) → bytes_eq local.0 name ≡ b → latest q (reset name value (local ∷ rest)) ≡ latest q (local ∷ rest)
    by_cases later true e b f =
        ap (latest q) (reset-later name value local rest e)
        ∙ ap (λ o. option_or o (cond (bytes_eq local.0 q) (Some local.1) None)) later
    by_cases later false e true f =
        let same : local.0 ≡ name = (bytes_eq-Decides local.0 name).0 f in
        let apart : bytes_eq local.0 q ≡ false = bytes_eq-other local.0 q (λ g. ne (sym g ∙ same)) in
        ap (latest q) (reset-first name value local rest e f)
        ∙ (λ i. option_or (latest q rest) (cond (apart i) (Some value) None))
        ∙ sym (λ i. option_or (latest q rest) (cond (apart i) (Some local.1) None))
    by_cases later false e false f = ap (latest q) (reset-none name value local rest e f)
