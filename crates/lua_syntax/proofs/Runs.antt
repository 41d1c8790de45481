-- The machine's runs over lists of tokens.
use Rattle.std.proofs.Common.{◌≡◌, List, [], ◌∷◌, ◌++◌, Option, Some, None, refl, sym, ap, subst, ◌∙◌}
use Rattle.lua_lexer.specs.declared.token.Token.{Token}
use Rattle.lua_syntax.specs.States.{State, step, step_on, run}

-- from nowhere the tokens lead nowhere
pub run-none : (tokens : List Token) → run None tokens ≡ None
unfolding run
run-none [] = refl
run-none (token ∷ tokens) = run-none tokens

-- tokens behind others go on from where those lead
pub run-append : (at : Option State) (a b : List Token) → run at (a ++ b) ≡ run (run at a) b
unfolding run
run-append at [] b = refl
run-append at (token ∷ tokens) b = run-append (step_on at token) tokens b

-- and so from one state over another
pub run_on : (at : Option State) (state : State) (end : Option State) (a b : List Token) → run at a ≡ Some state → run (Some state) b ≡ end → run at (a ++ b) ≡ end
run_on at state end a b e f = run-append at a b ∙ subst (λ (from : Option State). run from b ≡ end) (sym e) f

-- one token is one step
pub run-one : (state : State) (token : Token) → run (Some state) (token ∷ []) ≡ step state token
unfolding run
run-one state token = refl

-- a token first is a step first
pub run-cons : (state next : State) (token : Token) (tokens : List Token) → step state token ≡ Some next → run (Some state) (token ∷ tokens) ≡ run (Some next) tokens
unfolding run
run-cons state next token tokens e = ap (λ (at : Option State). run at tokens) e
