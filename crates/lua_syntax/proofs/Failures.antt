-- Where a reader stops, seen from further up.
use Rattle.std.proofs.Common.{◌≡◌, ◌⊎◌, inl, inr, ℕ, List, [], ◌∷◌, ◌++◌, Some, refl, sym, ap, subst, ◌∙◌, append_assoc}
use Rattle.lua_lexer.specs.declared.token.Token.{Token}
use Rattle.lua_syntax.specs.declared.fault.SyntaxFault.{SyntaxFault}
use Rattle.lua_syntax.specs.Brackets.{open_behind, IsLow}
use Rattle.lua_syntax.specs.Failing.{IsRefused, IsDeep, Fails, IsFailure}
use Rattle.lua_syntax.specs.States.{State, run}
use Rattle.lua_syntax.proofs.Levels.{open_behind-append, low-append}
use Rattle.lua_syntax.proofs.Runs.{run-append}

pub fails_at : (depth : ℕ) (state : State) (tokens : List Token) (token : Token) (rest : List Token) (fault : SyntaxFault)
    → tokens ≡ token ∷ rest → IsRefused state token fault → Fails depth state tokens fault
unfolding run
fails_at depth state tokens token rest fault cut why =
    record { front = []; token = token; rest = rest; cut = cut; next = state; runs = refl; low = tt; why = inl why }

pub deep_at : (depth : ℕ) (state : State) (tokens : List Token) (token : Token) (rest : List Token) (fault : SyntaxFault)
    → tokens ≡ token ∷ rest → IsDeep depth state token fault → Fails depth state tokens fault
unfolding run
deep_at depth state tokens token rest fault cut why =
    record { front = []; token = token; rest = rest; cut = cut; next = state; runs = refl; low = tt; why = inr why }

-- what fails behind a front, fails with it
pub fails_behind : (depth : ℕ) (state : State) (tokens front rest : List Token) (mid : State) (fault : SyntaxFault)
    → tokens ≡ front ++ rest → run (Some state) front ≡ Some mid → IsLow depth front → Fails (open_behind depth front) mid rest fault
    → Fails depth state tokens fault
fails_behind depth state tokens front rest mid fault cut runs low f = record {
  front = front ++ f.front;
  token = f.token;
  rest = f.rest;
  cut = cut ∙ ap (λ (l : List Token). front ++ l) f.cut ∙ sym (append_assoc front f.front (f.token ∷ f.rest));
  next = f.next;
  runs = run-append (Some state) front f.front ∙ ap (λ (at : _). run at f.front) runs ∙ f.runs;
  low = low-append depth front f.front low f.low;
  why = subst (λ (d : ℕ). IsRefused f.next f.token fault ⊎ IsDeep d f.next f.token fault) (sym (open_behind-append depth front f.front)) f.why;
}

pub failure_behind : (depth : ℕ) (state : State) (tokens front rest : List Token) (mid : State) (fault : SyntaxFault)
    → tokens ≡ front ++ rest → run (Some state) front ≡ Some mid → IsLow depth front → IsFailure (open_behind depth front) mid rest fault
    → IsFailure depth state tokens fault
failure_behind depth state tokens front rest mid fault cut runs low (inl none) = inl none
failure_behind depth state tokens front rest mid fault cut runs low (inr f) = inr (fails_behind depth state tokens front rest mid fault cut runs low f)

-- behind a front that closes what it opens
pub failure_behind_level : (depth : ℕ) (state : State) (tokens front rest : List Token) (mid : State) (fault : SyntaxFault)
    → tokens ≡ front ++ rest → run (Some state) front ≡ Some mid → IsLow depth front → open_behind depth front ≡ depth → IsFailure depth mid rest fault
    → IsFailure depth state tokens fault
failure_behind_level depth state tokens front rest mid fault cut runs low level f =
    failure_behind depth state tokens front rest mid fault cut runs low (subst (λ (d : ℕ). IsFailure d mid rest fault) (sym level) f)
