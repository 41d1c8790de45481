-- A list of tokens that derives no chunk has one fault, and it is what a reader that stops says.
use Rattle.std.proofs.Common.{◌≡◌, ◌⊎◌, inl, inr, ℕ, ◌+◌, ◌-◌, ◌≤◌, Bool, true, false, List, [], ◌∷◌, ◌++◌, Option, Some, None, refl, sym, ap, subst, ◌∙◌, append_assoc, arith}
use Rattle.std.proofs.lemmas.List.{append-nil}
use Rattle.std.proofs.Math.Nat.{eq-or-lt_of_le}
use Rattle.std.specs.Prelude.{IsTrue, if◌then◌else◌}
use Rattle.lua_lexer.specs.declared.token.Token.{Token}
use Rattle.lua_lexer.specs.declared.token.TokenKind.{TokenKind}
use Rattle.lua_lexer.specs.declared.token.TokenKind.TheVariants as kinds
use Rattle.lua_lexer.specs.TokenLists.{EndsOnce}
use Rattle.lua_syntax.specs.declared.fault.SyntaxFault.{SyntaxFault}
use Rattle.lua_syntax.specs.declared.fault.SyntaxFault.TheVariants as faults
use Rattle.lua_syntax.specs.declared.fault.Unserved.{Unserved}
use Rattle.lua_syntax.specs.declared.tree.LuaChunk.{LuaChunk}
use Rattle.lua_syntax.specs.Brackets.{is_opening, is_closing, open_after, open_behind, IsLow, IsShallow}
use Rattle.lua_syntax.specs.Chunks.{IsChunk, Derives, Begins}
use Rattle.lua_syntax.specs.Failing.{positions_of, IsRefused, IsDeep, Fails}
use Rattle.lua_syntax.specs.Faults.{IsUnserved, StandsFirst, IsWrong, IsTooDeep, HasFault}
use Rattle.lua_syntax.specs.Refusals.{refusal_by, refusal}
use Rattle.lua_syntax.specs.States.{in_paren, within, State, statement_start, behind_whole, behind_prefix, finished, on_statement, on_operand, on_end, on_whole, on_prefix, on_field, on_field_name, on_names, on_local_names, on_only_name, on_assign, step_by, step, step_on, run}
use Rattle.lua_syntax.proofs.Completions.{begins}
use Rattle.lua_syntax.proofs.Failures.{fails_at, deep_at, fails_behind}
use Rattle.lua_syntax.proofs.Levels.{low_shallow, low_open, open_behind-append}
use Rattle.lua_syntax.proofs.Positions.{first_unserved, refusal_is, unserved_known, unserved_stands}
use Rattle.lua_syntax.proofs.Runs.{run-one, run-cons, run_on}
use Rattle.lua_syntax.proofs.TakenChunks.{begun_taken, derived_so}

-- where the machine begins
abbrev at_start : Option State
at_start = Some (statement_start [])

-- ---- a failure of the machine is a fault

-- a token that the machine refuses begins no chunk
refused_begins : (front : List Token) (state : State) (token : Token) → run at_start front ≡ Some state → step state token ≡ None → Begins (front ++ token ∷ []) → ⊥
refused_begins front state token runs refused begun =
    let taken = begun_taken (front ++ token ∷ []) begun in
    let nowhere : run at_start (front ++ token ∷ []) ≡ None = run_on at_start state None front (token ∷ []) runs (run-one state token ∙ refused) in
    let e : Some taken.0 ≡ None = sym taken.1 ∙ nowhere in cc

-- a token that it takes begins one
taken_begins : (front : List Token) (state next : State) (token : Token) → run at_start front ≡ Some state → step state token ≡ Some next → Begins (front ++ token ∷ [])
taken_begins front state next token runs taken = begins (front ++ token ∷ []) next (run_on at_start state (Some next) front (token ∷ []) runs (run-one state token ∙ taken))

-- the fault of a token that is refused
refused_fault : (tokens front : List Token) (state : State) (token : Token) → IsWrong tokens front token → run at_start front ≡ Some state
    → (first : Option Unserved) → first_unserved (positions_of state) token.kind ≡ first → HasFault tokens (refusal_by first token (faults.Expected token.place))
refused_fault tokens front state token wrong runs None known =
    (front, token, wrong, λ which unserved. let e : first_unserved (positions_of state) token.kind ≡ Some which = unserved_known front state token.kind which runs unserved in cc, refl)
refused_fault tokens front state token wrong runs (Some which) known = (front, token, wrong, unserved_stands front state token.kind which runs known, refl)

-- why the machine fails behind a front
failed_fault : (tokens front : List Token) (state : State) (token : Token) (fault : SyntaxFault) → StandsFirst tokens front token → run at_start front ≡ Some state → open_behind 0 front ≤ 100
    → IsRefused state token fault ⊎ IsDeep (open_behind 0 front) state token fault → HasFault tokens fault
failed_fault tokens front state token fault stands runs most (inl why) =
    let wrong : IsWrong tokens front token = record { stands = stands; wrong = refused_begins front state token runs why.refused } in
    subst (HasFault tokens) (sym (why.is ∙ refusal_is (positions_of state) token))
    (refused_fault tokens front state token wrong runs (first_unserved (positions_of state) token.kind) refl)
failed_fault tokens front state token fault stands runs most (inr why) =
    let deep : IsTooDeep tokens front token = record { stands = stands; fits = taken_begins front state why.next token runs why.taken; opens = why.opens; full = (let full = why.full in omega arith) } in
    subst (HasFault tokens) (sym why.is) (front, token, deep, refl)

-- where the machine fails from its start, the tokens have that fault
pub failure_is_fault : (tokens : List Token) (fault : SyntaxFault) → Fails 0 (statement_start []) tokens fault → HasFault tokens fault
failure_is_fault tokens fault f =
    let stands : StandsFirst tokens f.front f.token = record { rest = f.rest; cut = f.cut; begins = begins f.front f.next f.runs; shallow = low_shallow f.front f.low } in
    failed_fault tokens f.front f.next f.token fault stands f.runs (low_open 0 f.front (omega arith) f.low) f.why

-- ---- a list has one fault

-- the tokens stop behind the front: what no chunk begins with, or what too many brackets are open behind
record Stops (tokens front : List Token) (token : Token) : Type 0 where
  stands : StandsFirst tokens front token
  stops : (more : List Token) → Begins (front ++ token ∷ more) → IsShallow (front ++ token ∷ more) → ⊥

-- what a chunk begins with, begins so
begins_front : (front more : List Token) → Begins (front ++ more) → Begins front
begins_front front more (after, chunk, is) = (more ++ after, chunk, subst (λ (l : List Token). IsChunk l chunk) (append_assoc front more after) is)

-- one bracket more is open behind an opening one
opens_one : (depth : ℕ) (kind : TokenKind) → IsTrue (is_opening kind) → open_after depth kind ≡ depth + 1
opens_one depth kind opens = grind arith

-- tokens stop at one that is wrong
wrong_stops : (tokens front : List Token) (token : Token) → IsWrong tokens front token → Stops tokens front token
wrong_stops tokens front token is = record {
  stands = is.stands;
  stops = λ more begun shallow. is.wrong (begins_front (front ++ token ∷ []) more (subst Begins (sym (append_assoc front (token ∷ []) more)) begun));
}

-- and at the 101st open bracket
deep_stops : (tokens front : List Token) (token : Token) → IsTooDeep tokens front token → Stops tokens front token
deep_stops tokens front token is = record {
  stands = is.stands;
  stops = λ more begun shallow.
      let most : open_behind 0 (front ++ token ∷ []) ≤ 100 = shallow (front ++ token ∷ []) more (sym (append_assoc front (token ∷ []) more)) in
      let level : open_behind 0 (front ++ token ∷ []) ≡ open_after (open_behind 0 front) token.kind = open_behind-append 0 front (token ∷ []) in
      let opens = is.opens in
      let up : open_after (open_behind 0 front) token.kind ≡ open_behind 0 front + 1 = opens_one (open_behind 0 front) token.kind opens in
      let full = is.full in omega arith;
}

-- one list with two fronts and the tokens behind them: the same, or one front goes on behind the other's token
data Meets (a : List Token) (one : Token) (b : List Token) (other : Token) : Type 0 where
  same : a ≡ b → one ≡ other → Meets a one b other
  first : (more : List Token) → b ≡ a ++ one ∷ more → Meets a one b other
  second : (more : List Token) → a ≡ b ++ other ∷ more → Meets a one b other

-- a token before both
meets_behind : (token : Token) (a : List Token) (one : Token) (b : List Token) (other : Token) → Meets a one b other → Meets (token ∷ a) one (token ∷ b) other
meets_behind token a one b other (same fronts is) = same (ap (λ (l : List Token). token ∷ l) fronts) is
meets_behind token a one b other (first more is) = first more (ap (λ (l : List Token). token ∷ l) is)
meets_behind token a one b other (second more is) = second more (ap (λ (l : List Token). token ∷ l) is)

-- any two fronts of a list
meet : (a : List Token) (one : Token) (x b : List Token) (other : Token) (y : List Token) → a ++ one ∷ x ≡ b ++ other ∷ y → Meets a one b other
meet [] one x [] other y is = same refl cc
meet [] one x (token ∷ b) other y is = first b (let e : token ≡ one = cc in ap (λ (t : Token). t ∷ b) e)
meet (token ∷ a) one x [] other y is = second a (let e : token ≡ other = cc in ap (λ (t : Token). t ∷ a) e)
meet (token ∷ a) one x (head ∷ b) other y is =
    let e : token ≡ head = cc in
    subst (λ (t : Token). Meets (token ∷ a) one (t ∷ b) other) e (meets_behind token a one b other (meet a one x b other y cc))

-- where tokens stop behind a front, no further front stands
stops_before : (tokens a : List Token) (one : Token) (b : List Token) (other : Token) (more : List Token) → Stops tokens a one → StandsFirst tokens b other → b ≡ a ++ one ∷ more → ⊥
stops_before tokens a one b other more stop stands is = stop.stops more (subst Begins is stands.begins) (subst IsShallow is stands.shallow)

-- tokens stop behind one front
stop_once : (tokens a : List Token) (one : Token) (b : List Token) (other : Token) → Stops tokens a one → Stops tokens b other → (a ≡ b) × (one ≡ other)
stop_once tokens a one b other stop another =
    elim (meet a one stop.stands.rest b other another.stands.rest (sym stop.stands.cut ∙ another.stands.cut)) [
      | same fronts is ↦ (fronts, is)
      | first more is ↦ absurd (stops_before tokens a one b other more stop another.stands is)
      | second more is ↦ absurd (stops_before tokens b other a one more another stop.stands is)
    ]

-- the fault of a token at which tokens stop
abbrev FaultAt : List Token → Token → SyntaxFault → Type 0
FaultAt front token (faults.Expected place) = (Begins (front ++ token ∷ []) → ⊥) × ((which : Unserved) → IsUnserved front token.kind which → ⊥) × (place ≡ token.place)
FaultAt front token (faults.NotServed place which) = (Begins (front ++ token ∷ []) → ⊥) × IsUnserved front token.kind which × (place ≡ token.place)
FaultAt front token (faults.TooDeep place) = Begins (front ++ token ∷ []) × (place ≡ token.place)
FaultAt front token faults.NoMemory = ⊥

-- tokens stop somewhere, with this fault
data HasStop (tokens : List Token) (fault : SyntaxFault) : Type 0 where
  has_stop : (front : List Token) (token : Token) → Stops tokens front token → FaultAt front token fault → HasStop tokens fault

-- tokens with a fault stop with it
fault_stops : (tokens : List Token) (fault : SyntaxFault) → HasFault tokens fault → HasStop tokens fault
fault_stops tokens (faults.Expected place) (front, token, wrong, none, is) = has_stop front token (wrong_stops tokens front token wrong) (wrong.wrong, none, is)
fault_stops tokens (faults.NotServed place which) (front, token, wrong, unserved, is) = has_stop front token (wrong_stops tokens front token wrong) (wrong.wrong, unserved, is)
fault_stops tokens (faults.TooDeep place) (front, token, deep, is) = has_stop front token (deep_stops tokens front token deep) (deep.fits, is)
fault_stops tokens faults.NoMemory none = absurd none

-- what isn't served behind a front is one thing
unserved_once : (front : List Token) (token : Token) (one other : Unserved) → Begins front → IsUnserved front token.kind one → IsUnserved front token.kind other → one ≡ other
unserved_once front token one other begun is another =
    let taken = begun_taken front begun in
    let a = unserved_known front taken.0 token.kind one taken.1 is in
    let b = unserved_known front taken.0 token.kind other taken.1 another in
    let e : Some one ≡ Some other = sym a ∙ b in cc

-- a token has one fault
fault_once : (front : List Token) (token : Token) (one other : SyntaxFault) → Begins front → FaultAt front token one → FaultAt front token other → one ≡ other
fault_once front token (faults.Expected a) (faults.Expected b) begun is another = ap (λ (place : ℕ). faults.Expected place) (is.2 ∙ sym another.2)
fault_once front token (faults.Expected a) (faults.NotServed b which) begun is another = absurd (is.1 which another.1)
fault_once front token (faults.Expected a) (faults.TooDeep b) begun is another = absurd (is.0 another.0)
fault_once front token (faults.NotServed a which) (faults.Expected b) begun is another = absurd (another.1 which is.1)
fault_once front token (faults.NotServed a which) (faults.NotServed b other) begun is another =
    let places : a ≡ b = is.2 ∙ sym another.2 in let sorts : which ≡ other = unserved_once front token which other begun is.1 another.1 in cc
fault_once front token (faults.NotServed a which) (faults.TooDeep b) begun is another = absurd (is.0 another.0)
fault_once front token (faults.TooDeep a) (faults.Expected b) begun is another = absurd (another.0 is.0)
fault_once front token (faults.TooDeep a) (faults.NotServed b which) begun is another = absurd (another.0 is.0)
fault_once front token (faults.TooDeep a) (faults.TooDeep b) begun is another = ap (λ (place : ℕ). faults.TooDeep place) (is.1 ∙ sym another.1)
fault_once front token faults.NoMemory other begun is another = absurd is
fault_once front token one faults.NoMemory begun is another = absurd another

-- tokens stop with one fault
stop_fault : (tokens : List Token) (one other : SyntaxFault) → HasStop tokens one → HasStop tokens other → one ≡ other
stop_fault tokens one other (has_stop a token stop is) (has_stop b another stops so) =
    let met = stop_once tokens a token b another stop stops in
    fault_once a token one other stop.stands.begins is
    (subst (λ (t : Token). FaultAt a t other) (sym met.1) (subst (λ (l : List Token). FaultAt l another other) (sym met.0) so))

-- a list of tokens has one fault at most
pub one_fault : (tokens : List Token) (one other : SyntaxFault) → HasFault tokens one → HasFault tokens other → one ≡ other
one_fault tokens one other is another = stop_fault tokens one other (fault_stops tokens one is) (fault_stops tokens other another)

-- ---- and no chunk

-- tokens that stop derive none
stop_derives : (tokens : List Token) (chunk : LuaChunk) (fault : SyntaxFault) → Derives tokens chunk → HasStop tokens fault → ⊥
stop_derives tokens chunk fault derives (has_stop front token stop is) =
    let whole : tokens ≡ front ++ token ∷ stop.stands.rest = stop.stands.cut in
    let begun : Begins tokens = ([], chunk, subst (λ (l : List Token). IsChunk l chunk) (sym (append-nil tokens)) derives.0) in
    stop.stops stop.stands.rest (subst Begins whole begun) (subst IsShallow whole derives.1)

-- tokens with a fault derive no chunk
pub not_both : (tokens : List Token) (chunk : LuaChunk) (fault : SyntaxFault) → Derives tokens chunk → HasFault tokens fault → ⊥
not_both tokens chunk fault derives is = stop_derives tokens chunk fault derives (fault_stops tokens fault is)

-- ---- a chunk or a fault

-- a bracket too many, or few enough open
level_cases : (opens closes : Bool) (depth : ℕ) → depth ≤ 100 → ((if opens then depth + 1 else (if closes then depth - 1 else depth)) ≤ 100) ⊎ (IsTrue opens × (100 ≤ depth))
level_cases true closes depth most =
    elim (eq-or-lt_of_le {n = depth} {m = 100} most) [
      | inl full ↦ inr (refl, omega arith)
      | inr below ↦ inl (omega arith)
    ]
level_cases false true depth most = inl (omega arith)
level_cases false false depth most = inl most

-- the machine takes the tokens, and few enough brackets are open
record Passes (depth : ℕ) (state : State) (tokens : List Token) : Type 0 where
  next : State
  runs : run (Some state) tokens ≡ Some next
  low : IsLow depth tokens

-- it passes or fails
abbrev Goes : ℕ → State → List Token → Type 0
Goes depth state tokens = Passes depth state tokens ⊎ ((fault : SyntaxFault) × Fails depth state tokens fault)

-- a token that is taken, and then
goes_behind : (depth : ℕ) (state next : State) (token : Token) (tokens : List Token) → step state token ≡ Some next → open_after depth token.kind ≤ 100
    → Goes (open_after depth token.kind) next tokens → Goes depth state (token ∷ tokens)
goes_behind depth state next token tokens taken most (inl passes) =
    inl (record { next = passes.next; runs = run-cons state next token tokens taken ∙ passes.runs; low = (most, passes.low) })
goes_behind depth state next token tokens taken most (inr (fault, fails)) =
    inr (fault, fails_behind depth state (token ∷ tokens) (token ∷ []) tokens next fault refl (run-one state token ∙ taken) (most, tt) fails)

-- a token, by whether it is taken and by how many brackets are open then
token_goes : (depth : ℕ) (state : State) (token : Token) (tokens : List Token) → depth ≤ 100 → (at : Option State) → step state token ≡ at
    → ((next : State) → open_after depth token.kind ≤ 100 → Goes (open_after depth token.kind) next tokens) → Goes depth state (token ∷ tokens)
token_goes depth state token tokens most None refused go_on =
    let fault = refusal (positions_of state) token in
    inr (fault, fails_at depth state (token ∷ tokens) token tokens fault refl (record { refused = refused; is = refl }))
token_goes depth state token tokens most (Some next) taken go_on =
    elim (level_cases (is_opening token.kind) (is_closing token.kind) depth most) [
      | inl low ↦ goes_behind depth state next token tokens taken low (go_on next low)
      | inr deep ↦ let fault = faults.TooDeep token.place in
          inr (fault, deep_at depth state (token ∷ tokens) token tokens fault refl (record { next = next; taken = taken; opens = deep.0; full = deep.1; is = refl }))
    ]

-- tokens pass or fail
goes : (tokens : List Token) (depth : ℕ) (state : State) → depth ≤ 100 → Goes depth state tokens
unfolding run
goes [] depth state most = inl (record { next = state; runs = refl; low = tt })
goes (token ∷ tokens) depth state most = token_goes depth state token tokens most (step state token) refl (λ next low. goes tokens (open_after depth token.kind) next low)

-- the machine's end, or nowhere
abbrev only_finished : Option State → Bool
only_finished (Some (finished done)) = true
only_finished (Some _) = false
only_finished None = true

-- the end leads there alone
end_leads : (state : State) (place : ℕ) → only_finished (step_by state place kinds.End) ≡ true
unfolding step_by on_statement on_operand on_end on_whole on_prefix on_field on_field_name on_names on_local_names on_only_name on_assign
end_leads (behind_whole place made outer (within (in_paren before pe) around)) at = refl
end_leads (behind_prefix place base suffixes outer (within (in_paren before pe) around)) at = refl
end_leads _ at = refl

-- where the end led to a state, that is the machine's end
end_led : (at : Option State) (token : Token) (state : State) → token.kind ≡ kinds.End → run at (token ∷ []) ≡ Some state → only_finished (Some state) ≡ true
unfolding run
end_led None token state is led = absurd (cc)
end_led (Some before) token state is led =
    subst (λ (to : Option State). only_finished to ≡ true) (ap (λ (kind : TokenKind). step_by before token.place kind) (sym is) ∙ led) (end_leads before token.place)

-- tokens that end so lead there
ends_finished : (tokens : List Token) (at : Option State) (state : State) → EndsOnce tokens → run at tokens ≡ Some state → only_finished (Some state) ≡ true
unfolding run
ends_finished [] at state ends runs = absurd ends
ends_finished (token ∷ []) at state ends runs = end_led at token state ends runs
ends_finished (token ∷ other ∷ others) at state ends runs = ends_finished (other ∷ others) (step_on at token) state ends.1 runs

-- tokens that end the machine derive a chunk
derives_finished : (tokens : List Token) (state : State) → run at_start tokens ≡ Some state → IsLow 0 tokens → only_finished (Some state) ≡ true → (chunk : LuaChunk) × Derives tokens chunk
derives_finished tokens (finished done) runs low is = (record { statements = done }, (derived_so tokens done runs, low_shallow tokens low))
derives_finished tokens _ runs low is = absurd (cc)

-- tokens that pass derive a chunk, and others have a fault
by_going : (tokens : List Token) → EndsOnce tokens → Goes 0 (statement_start []) tokens → ((chunk : LuaChunk) × Derives tokens chunk) ⊎ ((fault : SyntaxFault) × HasFault tokens fault)
by_going tokens ends (inl passes) = inl (derives_finished tokens passes.next passes.runs passes.low (ends_finished tokens at_start passes.next ends passes.runs))
by_going tokens ends (inr (fault, fails)) = inr (fault, failure_is_fault tokens fault fails)

-- tokens that end once derive a chunk or have a fault
pub some : (tokens : List Token) → EndsOnce tokens → ((chunk : LuaChunk) × Derives tokens chunk) ⊎ ((fault : SyntaxFault) × HasFault tokens fault)
some tokens ends = by_going tokens ends (goes tokens 0 (statement_start []) (omega arith))
