-- Where the readers of statements lead, and where and why they stop.
use Rattle.std.proofs.Common.{◌≡◌, ◌≢◌, ◌⊎◌, inl, inr, ℕ, ◌<◌, ◌≤◌, false, List, [], ◌∷◌, ◌++◌, length, Some, None, refl, sym, ap, subst, ◌∙◌, append_assoc, length-append, arith}
use Rattle.std.proofs.lemmas.List.{append-nil}
use Rattle.lua_lexer.specs.declared.token.Token.{Token}
use Rattle.lua_lexer.specs.declared.token.TokenKind.{TokenKind}
use Rattle.lua_lexer.specs.declared.token.TokenKind.TheVariants as kinds
use Rattle.lua_lexer.specs.declared.vocabulary.Symbol.TheVariants as symbols
use Rattle.lua_lexer.specs.TokenLists.{EndsOnce}
use Rattle.lua_names.specs.declared.keyword.Keyword.TheVariants as keywords
use Rattle.lua_syntax.specs.declared.fault.SyntaxFault.{SyntaxFault}
use Rattle.lua_syntax.specs.declared.fault.SyntaxFault.TheVariants as faults
use Rattle.lua_syntax.specs.declared.position.Ending.{Ending}
use Rattle.lua_syntax.specs.declared.position.Position.TheVariants as positions
use Rattle.lua_syntax.specs.declared.statement.Before.{Before}
use Rattle.lua_syntax.specs.declared.statement.Before.TheVariants as before
use Rattle.lua_syntax.specs.declared.tree.Expr.{Expr}
use Rattle.lua_syntax.specs.declared.tree.Named.{Named}
use Rattle.lua_syntax.specs.declared.tree.Statement.{Statement}
use Rattle.lua_syntax.specs.declared.tree.Statement.TheVariants as statements
use Rattle.lua_syntax.specs.Brackets.{open_after, open_behind, IsLow, Keeps}
use Rattle.lua_syntax.specs.Failing.{positions_of, IsRefused, IsFailure, IsNoName, IsOther, IsNameless, IsNamelessBehind, FailsAtExpression, AwaitsStatement, LeadsOn, positions_before}
use Rattle.lua_syntax.specs.Grammar.{IsName, IsNames, one_name, more_names, IsValues, one_value, more_values}
use Rattle.lua_syntax.specs.Reading.{BeginsWith, Heads, NotAhead, NoSuffix, Takes, TakesSome}
use Rattle.lua_syntax.specs.Refusals.{refusal}
use Rattle.lua_syntax.specs.States.{nothing, Wanting, assigned, declared, among_values, State, statement_start, behind_names, behind_comma, behind_local, behind_local_names, behind_local_comma, operand_start, with_value, with_statement, named_at, on_statement, on_end, on_names, on_local_names, on_only_name, step, step_by, run}
use Rattle.lua_syntax.proofs.Failures.{fails_at, failure_behind_level}
use Rattle.lua_syntax.proofs.Kept.{Closed, assign_flat, kept_behind}
use Rattle.lua_syntax.proofs.Levels.{keeps_then, keeps_token, low-append, names_low, open_behind-append}
use Rattle.lua_syntax.proofs.Parts.{exp_some}
use Rattle.lua_syntax.proofs.Reached.{Leads, leads, lead_on, lead_step, lead_so, lead_here, plain_start, AtEnd, expression_ends, name_passes}
use Rattle.lua_syntax.proofs.Runs.{run-one, run-cons, run_on}
use Rattle.lua_syntax.proofs.Stopping.{end_positions, end_steps, only_name_refuses, statement_refuses}
use Rattle.lua_syntax.proofs.Stops.{failure_flat, kept_front}
use Rattle.lua_syntax.proofs.Taken.{exp_taken}
use Rattle.lua_syntax.proofs.TakenChunks.{Stands, stands, TakesNames, more_names_taken, takes_names, takes_local_names, with_all, with_all-one, with_all-more}

-- ---- values

-- behind the last of the values
pub data AtValue (wanting : Wanting) (all : List Expr) : State → Type 0 where
  at_value : {so_far : Wanting} {last : Expr} {state : State} → AtEnd false last (among_values so_far) state → with_value so_far last ≡ with_all wanting all → AtValue wanting all state

more_at_value : (wanting : Wanting) (value : Expr) (others : List Expr) (to : State) → AtValue (with_value wanting value) others to → AtValue wanting (value ∷ others) to
more_at_value wanting value others to (at_value ends e) = at_value ends (e ∙ with_all-more wanting value others)

pub values_lead : (tokens : List Token) (all : List Expr) → IsValues tokens all → (wanting : Wanting) → Leads (operand_start nothing (among_values wanting)) (AtValue wanting all) tokens
unfolding on_end
values_lead tokens all (one_value {value} is) wanting =
    let from = operand_start nothing (among_values wanting) in
    lead_so from (AtEnd false value (among_values wanting)) (AtValue wanting (value ∷ [])) tokens (exp_taken false tokens value is (among_values wanting) from plain_start)
    (λ to ends. at_value ends (with_all-one wanting value))
values_lead tokens all (more_values {tokens = front} {more} {value} comma {others} is is_comma follow) wanting =
    let from = operand_start nothing (among_values wanting) in
    let after = with_value wanting value in
    lead_on from (AtEnd false value (among_values wanting)) (AtValue wanting (value ∷ others)) front (comma ∷ more) (exp_taken false front value is (among_values wanting) from plain_start)
    (λ to ends. lead_step to (operand_start nothing (among_values after)) (AtValue wanting (value ∷ others)) comma (kinds.Symbol symbols.Comma) more is_comma
    (expression_ends false value (among_values wanting) to comma.place (kinds.Symbol symbols.Comma) ends tt)
    (lead_so (operand_start nothing (among_values after)) (AtValue after others) (AtValue wanting (value ∷ others)) more (values_lead more others follow after) (more_at_value wanting value others)))

values_some : (tokens : List Token) (all : List Expr) → IsValues tokens all → 0 < length tokens
values_some tokens all (one_value {value} is) = exp_some tokens value is
values_some tokens all (more_values {tokens = front} {more} {value} comma is is_comma follow) = omega (arith, exp_some front value is, length-append front (comma ∷ more))

by_value : (tokens front rest : List Token) (wanting : Wanting) (all : List Expr) (place : ℕ) (after : List Token) (fault : SyntaxFault) → tokens ≡ front ++ rest → IsLow 0 front × (open_behind 0 front ≡ 0)
    → Heads symbols.Comma rest place after → FailsAtExpression 0 after fault → Leads (operand_start nothing (among_values wanting)) (AtValue wanting all) front
    → IsFailure 0 (operand_start nothing (among_values wanting)) tokens fault
unfolding on_end
by_value tokens front rest wanting all place after fault cut level h f (leads to e (at_value {so_far} {last} ends same)) =
    failure_behind_level 0 (operand_start nothing (among_values wanting)) tokens front rest to fault cut e level.0 level.1
    (failure_flat 0 to (operand_start nothing (among_values (with_value so_far last))) rest h.token after fault (omega arith) h.cut
    (ap (step_by to h.token.place) h.is ∙ expression_ends false last (among_values so_far) to h.token.place (kinds.Symbol symbols.Comma) ends tt)
    (ap (open_after 0) h.is) (f (among_values (with_value so_far last))))

-- a value behind a comma fails
pub value_fails : (tokens : List Token) (all : List Expr) (ending : Ending) (rest : List Token) (place : ℕ) (after : List Token) (fault : SyntaxFault) → Takes IsValues tokens all ending rest → Keeps 0 tokens rest
    → Heads symbols.Comma rest place after → FailsAtExpression 0 after fault → (wanting : Wanting) → IsFailure 0 (operand_start nothing (among_values wanting)) tokens fault
value_fails tokens all ending rest place after fault t kept h f wanting =
    by_value tokens t.part.front rest wanting all place after fault t.part.cut (kept_front 0 tokens t.part.front rest t.part.cut kept) h f (values_lead t.part.front all t.part.is wanting)

-- ---- names

names_from : (comma_state names_state : List Named → State) → TakesNames comma_state names_state → (from : State) (tokens : List Token) (names : List Named) → IsNames tokens names
    → ((token : Token) (more : List Token) (bytes : List ℕ) → tokens ≡ token ∷ more → IsName token bytes → step from token ≡ Some (names_state (named_at token.place bytes ∷ [])))
    → Leads from (Stands (names_state names)) tokens
names_from comma_state names_state takes from tokens names (one_name token bytes is) first =
    let to = names_state (named_at token.place bytes ∷ []) in
    lead_step from to (Stands to) token token.kind [] refl (first token [] bytes refl is) (lead_here to (Stands to) stands)
names_from comma_state names_state takes from tokens names (more_names token comma bytes {tokens = behind} {others} is is_comma follow) first =
    let now = named_at token.place bytes ∷ [] in
    let Is : State → Type 0 = Stands (names_state (now ++ others)) in
    lead_step from (names_state now) Is token token.kind (comma ∷ behind) refl (first token (comma ∷ behind) bytes refl is)
    (lead_step (names_state now) (comma_state now) Is comma (kinds.Symbol symbols.Comma) behind is_comma (takes.on_comma now comma.place)
    (more_names_taken comma_state names_state takes behind others follow now))

-- how names are read from a state on: what they lead to, and what `,` and `=` do behind them
pub record NamesFrom (comma_state names_state : List Named → State) (wanting : List Named → Wanting) (from : State) (tokens : List Token) : Type 0 where
  pub takes : TakesNames comma_state names_state
  pub first : (token : Token) (more : List Token) (bytes : List ℕ) → tokens ≡ token ∷ more → IsName token bytes → step from token ≡ Some (names_state (named_at token.place bytes ∷ []))
  pub only : (names : List Named) (token : Token) → IsNoName token → step (comma_state names) token ≡ None
  pub at_comma : (names : List Named) → positions_of (comma_state names) ≡ positions.NameStart ∷ []
  pub on_equals : (names : List Named) (place : ℕ) → step_by (names_state names) place (kinds.Symbol symbols.Assign) ≡ Some (operand_start nothing (among_values (wanting names)))

by_stands : (there from : State) (tokens : List Token) → Leads from (Stands there) tokens → run (Some from) tokens ≡ Some there
by_stands there from tokens (leads to e stands) = e

module _ (comma_state names_state : List Named → State) (wanting : List Named → Wanting) (from : State) (tokens : List Token) (n : NamesFrom comma_state names_state wanting from tokens) where
  names_run : (front rest : List Token) (names : List Named) → tokens ≡ front ++ rest → IsNames front names → run (Some from) front ≡ Some (names_state names)
  names_run front rest names cut is =
      by_stands (names_state names) from front (names_from comma_state names_state n.takes from front names is
      (λ token more bytes head name. n.first token (more ++ rest) bytes (cut ∙ ap (λ (l : List Token). l ++ rest) head) name))

  -- behind names, with what they keep
  behind_names_fails : (front rest : List Token) (names : List Named) (fault : SyntaxFault) → tokens ≡ front ++ rest → IsNames front names → IsFailure 0 (names_state names) rest fault → IsFailure 0 from tokens fault
  behind_names_fails front rest names fault cut is f =
      let level = names_low 0 front names (omega arith) is in
      failure_behind_level 0 from tokens front rest (names_state names) fault cut (names_run front rest names cut is) level.0 level.1 f

  -- no name behind a comma
  pub nameless_fails : (fault : SyntaxFault) → IsNamelessBehind tokens fault → IsFailure 0 from tokens fault
  nameless_fails fault b =
      let o = b.nameless in
      behind_names_fails b.front (b.comma ∷ b.rest) b.names fault b.cut b.is
      (failure_flat 0 (names_state b.names) (comma_state b.names) (b.comma ∷ b.rest) b.comma b.rest fault (omega arith) refl
      (ap (step_by (names_state b.names) b.comma.place) b.separates ∙ n.takes.on_comma b.names b.comma.place) (ap (open_after 0) b.separates)
      (inr (fails_at 0 (comma_state b.names) b.rest o.token o.rest fault o.cut
      (record { refused = n.only b.names o.token o.other; is = o.is ∙ ap (λ ps. refusal ps o.token) (sym (n.at_comma b.names)) }))))

  -- what stands behind the names is refused
  pub names_end_fails : (names : List Named) (mid : List Token) (token : Token) (rest : List Token) (fault : SyntaxFault) → TakesSome IsNames tokens names mid → mid ≡ token ∷ rest
      → IsRefused (names_state names) token fault → IsFailure 0 from tokens fault
  names_end_fails names mid token rest fault t cut refused =
      behind_names_fails t.front mid names fault t.cut t.is (inr (fails_at 0 (names_state names) mid token rest fault cut refused))

  equals_step : (names : List Named) (mid rest : List Token) (k : Closed symbols.Assign mid rest) → step (names_state names) k.1.token ≡ Some (operand_start nothing (among_values (wanting names)))
  equals_step names mid rest k = ap (step_by (names_state names) k.1.token.place) k.1.is ∙ n.on_equals names k.1.token.place

  -- the values fail
  pub values_fail : (names : List Named) (mid rest : List Token) (fault : SyntaxFault) → TakesSome IsNames tokens names mid → Closed symbols.Assign mid rest
      → ((w : Wanting) → IsFailure 0 (operand_start nothing (among_values w)) rest fault) → IsFailure 0 from tokens fault
  values_fail names mid rest fault t k f =
      behind_names_fails t.front mid names fault t.cut t.is
      (failure_flat 0 (names_state names) (operand_start nothing (among_values (wanting names))) mid k.1.token rest fault (omega arith) k.1.cut (equals_step names mid rest k) (ap (open_after 0) k.1.is) (f (wanting names)))

  -- names, `=` and what is led on to behind them
  pub values_led : (names : List Named) (mid rest : List Token) (standing : Before) (done : List Statement) (last : List Token) → TakesSome IsNames tokens names mid → Closed symbols.Assign mid rest
      → LeadsOn standing done (operand_start nothing (among_values (wanting names))) rest last → LeadsOn standing done from tokens last
  values_led names mid rest standing done last t k l = record {
    front = (t.front ++ k.1.token ∷ []) ++ l.front;
    cut = t.cut ∙ ap (λ (s : List Token). t.front ++ s) (k.1.cut ∙ ap (λ (s : List Token). k.1.token ∷ s) l.cut) ∙ sym (append_assoc t.front (k.1.token ∷ []) (l.front ++ last))
        ∙ sym (append_assoc (t.front ++ k.1.token ∷ []) l.front last);
    next = l.next;
    runs = run_on (Some from) (operand_start nothing (among_values (wanting names))) (Some l.next) (t.front ++ k.1.token ∷ []) l.front
        (run_on (Some from) (names_state names) (Some (operand_start nothing (among_values (wanting names)))) t.front (k.1.token ∷ []) (names_run t.front mid names t.cut t.is)
        (run-one (names_state names) k.1.token ∙ equals_step names mid rest k)) l.runs;
    awaits = l.awaits;
  }

  -- the names alone
  pub names_led : (names : List Named) (rest : List Token) (standing : Before) (done : List Statement) → TakesSome IsNames tokens names rest → AwaitsStatement standing done (names_state names) rest → LeadsOn standing done from tokens rest
  names_led names rest standing done t awaits = record { front = t.front; cut = t.cut; next = names_state names; runs = names_run t.front rest names t.cut t.is; awaits = awaits }

-- of an assignment, from where a statement may begin
pub of_assignment : (standing : Before) (done : List Statement) (state : State) (tokens : List Token) → AwaitsStatement standing done state tokens
    → NamesFrom (behind_comma done) (behind_names done) (λ names. assigned done names []) state tokens
unfolding step_by on_statement on_names
of_assignment standing done state tokens at = record {
  takes = takes_names done;
  first = λ token more bytes cut is. at.begins token more cut ∙ ap (on_statement done token.place) is.0 ∙ name_passes bytes (behind_names done (named_at token.place bytes ∷ [])) is.1;
  only = λ names token none. only_name_refuses (λ bytes. behind_names done (names ++ named_at token.place bytes ∷ [])) token none;
  at_comma = λ names. refl;
  on_equals = λ names place. refl;
}

-- and of a `local`
pub of_local : (done : List Statement) (tokens : List Token) → NamesFrom (behind_local_comma done) (behind_local_names done) (λ names. declared done names []) (behind_local done) tokens
unfolding step_by on_only_name on_local_names
of_local done tokens = record {
  takes = takes_local_names done;
  first = λ token more bytes cut is. ap (on_only_name (λ bytes. behind_local_names done (named_at token.place bytes ∷ []))) is.0 ∙ name_passes bytes (behind_local_names done (named_at token.place bytes ∷ [])) is.1;
  only = λ names token none. only_name_refuses (λ bytes. behind_local_names done (names ++ named_at token.place bytes ∷ [])) token none;
  at_comma = λ names. refl;
  on_equals = λ names place. refl;
}

names_refuse : (done : List Statement) (names : List Named) (kind : TokenKind) → kind ≢ kinds.Symbol symbols.Comma → kind ≢ kinds.Symbol symbols.Assign → on_names done names kind ≡ None
unfolding on_names
names_refuse done names (kinds.Symbol symbols.Comma) no_comma no_assign = absurd (no_comma refl)
names_refuse done names (kinds.Symbol symbols.Assign) no_comma no_assign = absurd (no_assign refl)
names_refuse done names _ no_comma no_assign = refl

local_names_begin : (done : List Statement) (names : List Named) (place : ℕ) (kind : TokenKind) → kind ≢ kinds.Symbol symbols.Comma → kind ≢ kinds.Symbol symbols.Assign
    → on_local_names done names place kind ≡ on_statement (done ++ statements.Local names [] ∷ []) place kind
unfolding on_local_names
local_names_begin done names place (kinds.Symbol symbols.Comma) no_comma no_assign = absurd (no_comma refl)
local_names_begin done names place (kinds.Symbol symbols.Assign) no_comma no_assign = absurd (no_assign refl)
local_names_begin done names place _ no_comma no_assign = refl

no_comma_ends : (wanting : Wanting) (made : Expr) (place : ℕ) (kind : TokenKind) → kind ≢ kinds.Symbol symbols.Comma
    → on_end (among_values wanting) made place kind ≡ on_statement (with_statement (with_value wanting made)) place kind
unfolding on_end
no_comma_ends wanting made place (kinds.Symbol symbols.Comma) no_comma = absurd (no_comma refl)
no_comma_ends wanting made place _ no_comma = refl

by_last_value : (tokens : List Token) (all : List Expr) (ending : Ending) (rest : List Token) (t : Takes IsValues tokens all ending rest) → NotAhead symbols.Comma rest → NotAhead symbols.Concat rest → (wanting : Wanting)
    → Leads (operand_start nothing (among_values wanting)) (AtValue wanting all) t.part.front
    → LeadsOn (before.Value ending) (with_statement (with_all wanting all)) (operand_start nothing (among_values wanting)) tokens rest
by_last_value tokens all ending rest t no_comma no_operator wanting (leads to e (at_value {so_far} {last} ends same)) =
    let from = operand_start nothing (among_values wanting) in
    let some = values_some t.part.front all t.part.is in
    record {
      front = t.part.front;
      cut = t.part.cut;
      next = to;
      runs = e;
      awaits = record {
        positions_are = end_positions last (among_values so_far) from to t.part.front ending ends e some t.part.ends_so;
        begins = λ token more cut.
            end_steps last (among_values so_far) from to t.part.front ending token more ends e some t.part.ends_so
            (subst (λ (l : List Token). NotAhead symbols.Concat l) cut no_operator) (subst (λ (l : List Token). NoSuffix ending l) cut t.no_suffix)
            ∙ no_comma_ends so_far last token.place token.kind (no_comma token more cut) ∙ ap (λ (w : Wanting). on_statement (with_statement w) token.place token.kind) same;
      };
    }

-- behind values a statement may begin
pub values_await : (tokens : List Token) (all : List Expr) (ending : Ending) (rest : List Token) → Takes IsValues tokens all ending rest → NotAhead symbols.Comma rest → NotAhead symbols.Concat rest → (wanting : Wanting)
    → LeadsOn (before.Value ending) (with_statement (with_all wanting all)) (operand_start nothing (among_values wanting)) tokens rest
values_await tokens all ending rest t no_comma no_operator wanting = by_last_value tokens all ending rest t no_comma no_operator wanting (values_lead t.part.front all t.part.is wanting)

-- ---- assignments

module _ (tokens : List Token) (standing : Before) (done : List Statement) (state : State) (at : AwaitsStatement standing done state tokens) where
  pub assigned_nameless : (fault : SyntaxFault) → BeginsWith (λ token. (name : List ℕ) × IsName token name) tokens
      → (fault ≡ faults.NoMemory) ⊎ (IsNameless (positions.NameStart ∷ []) tokens fault ⊎ IsNamelessBehind tokens fault) → IsFailure 0 state tokens fault
  assigned_nameless fault named (inl out) = inl out
  assigned_nameless fault named (inr (inl n)) = let is = named n.token n.rest n.cut in absurd (n.other is.0 is.1)
  assigned_nameless fault named (inr (inr b)) = nameless_fails _ _ _ state tokens (of_assignment standing done state tokens at) fault b

  pub unassigned : (names : List Named) (mid : List Token) (fault : SyntaxFault) → TakesSome IsNames tokens names mid → NotAhead symbols.Comma mid
      → IsOther symbols.Assign (positions.BehindNames ∷ []) mid fault → IsFailure 0 state tokens fault
  unfolding step_by
  unassigned names mid fault t ahead o =
      names_end_fails _ _ _ state tokens (of_assignment standing done state tokens at) names mid o.token o.rest fault t o.cut
      (record { refused = names_refuse done names o.token.kind (ahead o.token o.rest o.cut) o.other; is = o.is })

  pub assigned_fails : (names : List Named) (mid rest : List Token) (fault : SyntaxFault) → TakesSome IsNames tokens names mid → Closed symbols.Assign mid rest
      → ((wanting : Wanting) → IsFailure 0 (operand_start nothing (among_values wanting)) rest fault) → IsFailure 0 state tokens fault
  assigned_fails names mid rest fault t k f = values_fail _ _ _ state tokens (of_assignment standing done state tokens at) names mid rest fault t k f

  pub assigned_leads : (names : List Named) (mid rest : List Token) (all : List Expr) (ending : Ending) (last : List Token) → TakesSome IsNames tokens names mid → Closed symbols.Assign mid rest
      → Takes IsValues rest all ending last → NotAhead symbols.Comma last → NotAhead symbols.Concat last
      → LeadsOn (before.Value ending) (done ++ statements.Assign names all ∷ []) state tokens last
  assigned_leads names mid rest all ending last t k v no_comma no_operator =
      values_led _ _ _ state tokens (of_assignment standing done state tokens at) names mid rest (before.Value ending) (done ++ statements.Assign names all ∷ []) last t k
      (values_await rest all ending last v no_comma no_operator (assigned done names []))

-- ---- `local`

module _ (tokens : List Token) (done : List Statement) where
  pub local_nameless : (fault : SyntaxFault) → (fault ≡ faults.NoMemory) ⊎ (IsNameless (positions.BehindLocal ∷ positions.NameStart ∷ []) tokens fault ⊎ IsNamelessBehind tokens fault)
      → IsFailure 0 (behind_local done) tokens fault
  unfolding step_by
  local_nameless fault (inl out) = inl out
  local_nameless fault (inr (inl n)) =
      inr (fails_at 0 (behind_local done) tokens n.token n.rest fault n.cut
      (record { refused = only_name_refuses (λ bytes. behind_local_names done (named_at n.token.place bytes ∷ [])) n.token n.other; is = n.is }))
  local_nameless fault (inr (inr b)) = nameless_fails _ _ _ (behind_local done) tokens (of_local done tokens) fault b

  pub local_fails : (names : List Named) (mid rest : List Token) (fault : SyntaxFault) → TakesSome IsNames tokens names mid → Closed symbols.Assign mid rest
      → ((wanting : Wanting) → IsFailure 0 (operand_start nothing (among_values wanting)) rest fault) → IsFailure 0 (behind_local done) tokens fault
  local_fails names mid rest fault t k f = values_fail _ _ _ (behind_local done) tokens (of_local done tokens) names mid rest fault t k f

  pub local_leads : (names : List Named) (mid rest : List Token) (all : List Expr) (ending : Ending) (last : List Token) → TakesSome IsNames tokens names mid → Closed symbols.Assign mid rest
      → Takes IsValues rest all ending last → NotAhead symbols.Comma last → NotAhead symbols.Concat last
      → LeadsOn (before.Value ending) (done ++ statements.Local names all ∷ []) (behind_local done) tokens last
  local_leads names mid rest all ending last t k v no_comma no_operator =
      values_led _ _ _ (behind_local done) tokens (of_local done tokens) names mid rest (before.Value ending) (done ++ statements.Local names all ∷ []) last t k
      (values_await rest all ending last v no_comma no_operator (declared done names []))

  pub local_alone_leads : (names : List Named) (rest : List Token) → TakesSome IsNames tokens names rest → NotAhead symbols.Comma rest → NotAhead symbols.Assign rest
      → LeadsOn before.LocalNames (done ++ statements.Local names [] ∷ []) (behind_local done) tokens rest
  unfolding step_by
  local_alone_leads names rest t no_comma no_equals =
      names_led _ _ _ (behind_local done) tokens (of_local done tokens) names rest before.LocalNames (done ++ statements.Local names [] ∷ []) t
      (record { positions_are = refl; begins = λ token more cut. local_names_begin done names token.place token.kind (no_comma token more cut) (no_equals token more cut) })

-- ---- statements

module _ (tokens : List Token) (standing : Before) (done : List Statement) (state : State) (at : AwaitsStatement standing done state tokens) where
  pub semicolon_leads : (token : Token) (rest : List Token) → tokens ≡ token ∷ rest → token.kind ≡ kinds.Symbol symbols.Semicolon → LeadsOn before.Start (done ++ []) state tokens rest
  unfolding step_by on_statement
  semicolon_leads token rest cut is = record {
    front = token ∷ [];
    cut = cut;
    next = statement_start done;
    runs = run-one state token ∙ at.begins token rest cut ∙ ap (on_statement done token.place) is;
    awaits = record { positions_are = refl; begins = λ next more head. ap (λ (d : List Statement). on_statement d next.place next.kind) (sym (append-nil done)) };
  }

  local_step : (token : Token) (rest : List Token) → tokens ≡ token ∷ rest → token.kind ≡ kinds.Keyword keywords.Local → step state token ≡ Some (behind_local done)
  unfolding on_statement
  local_step token rest cut is = at.begins token rest cut ∙ ap (on_statement done token.place) is

  pub statement_local_leads : (token : Token) (mid : List Token) (after : Before) (more : List Statement) (rest : List Token) → tokens ≡ token ∷ mid → token.kind ≡ kinds.Keyword keywords.Local
      → LeadsOn after more (behind_local done) mid rest → LeadsOn after more state tokens rest
  statement_local_leads token mid after more rest cut is l = record {
    front = token ∷ l.front;
    cut = cut ∙ ap (λ (s : List Token). token ∷ s) l.cut;
    next = l.next;
    runs = run-cons state (behind_local done) token l.front (local_step token mid cut is) ∙ l.runs;
    awaits = l.awaits;
  }

  pub statement_local_fails : (token : Token) (mid : List Token) (fault : SyntaxFault) → tokens ≡ token ∷ mid → token.kind ≡ kinds.Keyword keywords.Local
      → IsFailure 0 (behind_local done) mid fault → IsFailure 0 state tokens fault
  statement_local_fails token mid fault cut is f = failure_flat 0 state (behind_local done) tokens token mid fault (omega arith) cut (local_step token mid cut is) (ap (open_after 0) is) f

  pub no_statement_fails : (token : Token) (rest : List Token) (fault : SyntaxFault) → tokens ≡ token ∷ rest → token.kind ≢ kinds.Symbol symbols.Semicolon → token.kind ≢ kinds.Keyword keywords.Local
      → token.kind ≢ kinds.End → IsNoName token → fault ≡ refusal (positions_before standing) token → IsFailure 0 state tokens fault
  no_statement_fails token rest fault cut no_semicolon no_local no_end no_name is =
      inr (fails_at 0 state tokens token rest fault cut
      (record { refused = at.begins token rest cut ∙ statement_refuses done token no_semicolon no_local no_end no_name; is = is ∙ ap (λ ps. refusal ps token) (sym at.positions_are) }))

-- ---- what is kept

pub kept_names : (tokens : List Token) (names : List Named) (rest : List Token) → TakesSome IsNames tokens names rest → Keeps 0 tokens rest
kept_names tokens names rest t = let level = names_low 0 t.front names (omega arith) t.is in record { front = t.front; cut = t.cut; low = level.0; level = level.1 }

-- names, `=` and values
pub kept_assigned : (tokens : List Token) (names : List Named) (mid rest last : List Token) → TakesSome IsNames tokens names mid → Closed symbols.Assign mid rest → Keeps 0 rest last → Keeps 0 tokens last
kept_assigned tokens names mid rest last t k kept =
    keeps_then 0 tokens mid last (kept_names tokens names mid t) (kept_behind 0 mid (omega arith) symbols.Assign k.0 rest last assign_flat k.1 kept)

pub kept_first : (tokens : List Token) (token : Token) (rest : List Token) (kind : TokenKind) → tokens ≡ token ∷ rest → token.kind ≡ kind → open_after 0 kind ≡ 0 → Keeps 0 tokens rest
kept_first tokens token rest kind cut is flat = keeps_token 0 tokens token rest (omega arith) cut (ap (open_after 0) is ∙ flat)

-- ---- from the first token on

-- the tokens before the rest lead to where a statement may begin behind these
pub record RunsSo (tokens : List Token) (standing : Before) (done : List Statement) (rest : List Token) : Type 0 where
  pub front : List Token
  pub cut : tokens ≡ front ++ rest
  pub state : State
  pub runs : run (Some (statement_start [])) front ≡ Some state
  pub awaits : AwaitsStatement standing done state rest
  pub low : IsLow 0 front
  pub level : open_behind 0 front ≡ 0

pub runs_begin : (tokens : List Token) → RunsSo tokens before.Start [] tokens
unfolding run step_by
runs_begin tokens = record {
  front = [];
  cut = refl;
  state = statement_start [];
  runs = refl;
  awaits = record { positions_are = refl; begins = λ token rest cut. refl };
  low = tt;
  level = refl;
}

pub runs_go_on : (tokens : List Token) (standing : Before) (done : List Statement) (rest : List Token) (next : Before) (more : List Statement) (after : List Token) → RunsSo tokens standing done rest
    → ((d : List Statement) (s : State) → AwaitsStatement standing d s rest → LeadsOn next (d ++ more) s rest after) → Keeps 0 rest after → RunsSo tokens next (done ++ more) after
runs_go_on tokens standing done rest next more after r leads_on kept =
    let l = leads_on done r.state r.awaits in
    let level = kept_front 0 rest l.front after l.cut kept in
    let here : IsLow (open_behind 0 r.front) l.front = subst (λ (d : ℕ). IsLow d l.front) (sym r.level) level.0 in
    record {
      front = r.front ++ l.front;
      cut = r.cut ∙ ap (λ (s : List Token). r.front ++ s) l.cut ∙ sym (append_assoc r.front l.front after);
      state = l.next;
      runs = run_on (Some (statement_start [])) r.state (Some l.next) r.front l.front r.runs l.runs;
      awaits = l.awaits;
      low = low-append 0 r.front l.front r.low here;
      level = open_behind-append 0 r.front l.front ∙ ap (λ (d : ℕ). open_behind d l.front) r.level ∙ level.1;
    }

pub runs_fail : (tokens : List Token) (standing : Before) (done : List Statement) (rest : List Token) (fault : SyntaxFault) → RunsSo tokens standing done rest
    → ((d : List Statement) (s : State) → AwaitsStatement standing d s rest → IsFailure 0 s rest fault) → IsFailure 0 (statement_start []) tokens fault
runs_fail tokens standing done rest fault r f =
    failure_behind_level 0 (statement_start []) tokens r.front rest r.state fault r.cut r.runs r.low r.level (f done r.state r.awaits)

nothing_behind : (token : Token) (rest : List Token) → token.kind ≡ kinds.End → EndsOnce (token ∷ rest) → rest ≡ []
nothing_behind token [] is ends = refl
nothing_behind token (other ∷ others) is ends = absurd (ends.0 is)

pub runs_low : (tokens : List Token) (standing : Before) (done : List Statement) (rest : List Token) (token : Token) (behind : List Token) → RunsSo tokens standing done rest → EndsOnce rest
    → rest ≡ token ∷ behind → token.kind ≡ kinds.End → IsLow 0 tokens
runs_low tokens standing done rest token behind r ends cut is =
    let alone : rest ≡ token ∷ [] = cut ∙ ap (λ (l : List Token). token ∷ l) (nothing_behind token behind is (subst (λ (l : List Token). EndsOnce l) cut ends)) in
    let flat : open_after 0 token.kind ≡ 0 = ap (open_after 0) is in
    let last : IsLow (open_behind 0 r.front) (token ∷ []) = subst (λ (d : ℕ). IsLow d (token ∷ [])) (sym r.level) (subst (λ (d : ℕ). d ≤ 100) (sym flat) (omega arith), tt) in
    subst (λ (l : List Token). IsLow 0 l) (sym (r.cut ∙ ap (λ (l : List Token). r.front ++ l) alone)) (low-append 0 r.front (token ∷ []) r.low last)

pub begins_named : (tokens : List Token) (token : Token) (rest : List Token) (name : List ℕ) → tokens ≡ token ∷ rest → IsName token name → BeginsWith (λ first. (bytes : List ℕ) × IsName first bytes) tokens
begins_named tokens token rest name cut is first more head =
    let same : token ≡ first = (let e : token ∷ rest ≡ first ∷ more = sym cut ∙ head in cc) in (name, subst (λ (t : Token). IsName t name) same is)
