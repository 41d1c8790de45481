-- What the grammar derives as statements and chunks, the machine takes.
use Rattle.std.proofs.Common.{◌≡◌, ◌≢◌, ℕ, false, List, [], ◌∷◌, ◌++◌, Option, Some, None, codes, refl, sym, subst, ap, ◌∙◌, append_assoc}
use Rattle.std.proofs.lemmas.List.{append-nil}
use Rattle.lua_lexer.specs.declared.token.Token.{Token}
use Rattle.lua_lexer.specs.declared.token.TokenKind.{TokenKind}
use Rattle.lua_lexer.specs.declared.token.TokenKind.TheVariants as kinds
use Rattle.lua_lexer.specs.declared.vocabulary.Symbol.TheVariants as symbols
use Rattle.lua_names.specs.declared.keyword.Keyword.TheVariants as keywords
use Rattle.lua_syntax.specs.declared.tree.Expr.{Expr}
use Rattle.lua_syntax.specs.declared.tree.LuaChunk.{LuaChunk}
use Rattle.lua_syntax.specs.declared.tree.Named.{Named}
use Rattle.lua_syntax.specs.declared.tree.Statement.{Statement}
use Rattle.lua_syntax.specs.declared.tree.Statement.TheVariants as statements
use Rattle.lua_syntax.specs.Grammar.{IsNames, one_name, more_names, IsValues, one_value, more_values, IsStatement, semicolon, assignment, local_names, local_values, IsStatements, no_statement, statement}
use Rattle.lua_syntax.specs.Chunks.{IsChunk, Begins, MayFollow}
use Rattle.lua_syntax.specs.States.{nothing, Wanting, assigned, declared, among_values, State, statement_start, behind_names, behind_comma, behind_local, behind_local_names, behind_local_comma, operand_start, finished, on_statement, on_end, on_names, on_local_names, on_only_name, step_by, run, with_value, with_statement, named_at}
use Rattle.lua_syntax.proofs.Reached.{Leads, leads, lead_here, lead_on, lead_step, lead_so, name_passes, plain_start, AtEnd, expression_ends, AtStatement, at_start, behind_values, behind_local_alone, statement_begins}
use Rattle.lua_syntax.proofs.Taken.{exp_taken}
use Rattle.lua_syntax.proofs.Runs.{run-none, run-append, run_on, run-one}
use Rattle.lua_syntax.proofs.Completing.{token_at}
use Rattle.lua_syntax.proofs.Completions.{derived}

-- ---- names

-- the machine stands here
pub data Stands (there : State) : State → Type 0 where
  stands : Stands there there

-- how the machine takes names: where only a name may stand, and behind one
pub record TakesNames (comma_state names_state : List Named → State) : Type 0 where
  pub on_next : (before : List Named) (place : ℕ) (bytes : List ℕ) → bytes ≢ codes "_ENV" → step_by (comma_state before) place (kinds.Name bytes) ≡ Some (names_state (before ++ named_at place bytes ∷ []))
  pub on_comma : (before : List Named) (place : ℕ) → step_by (names_state before) place (kinds.Symbol symbols.Comma) ≡ Some (comma_state before)

-- names behind a comma
pub more_names_taken : (comma_state names_state : List Named → State) → TakesNames comma_state names_state → (tokens : List Token) (names : List Named) → IsNames tokens names → (before : List Named)
    → Leads (comma_state before) (Stands (names_state (before ++ names))) tokens
more_names_taken comma_state names_state takes tokens names (one_name token bytes is) before =
    let to = names_state (before ++ named_at token.place bytes ∷ []) in
    lead_step (comma_state before) to (Stands to) token (kinds.Name bytes) [] is.0 (takes.on_next before token.place bytes is.1) (lead_here to (Stands to) stands)
more_names_taken comma_state names_state takes tokens names (more_names token comma bytes {tokens = behind} {others} is is_comma follow) before =
    let now = before ++ named_at token.place bytes ∷ [] in
    let Is : State → Type 0 = Stands (names_state (now ++ others)) in
    subst (λ (l : List Named). Leads (comma_state before) (Stands (names_state l)) (token ∷ comma ∷ behind)) (append_assoc before (named_at token.place bytes ∷ []) others)
    (lead_step (comma_state before) (names_state now) Is token (kinds.Name bytes) (comma ∷ behind) is.0 (takes.on_next before token.place bytes is.1)
    (lead_step (names_state now) (comma_state now) Is comma (kinds.Symbol symbols.Comma) behind is_comma (takes.on_comma now comma.place)
    (more_names_taken comma_state names_state takes behind others follow now)))

-- names where they begin
names_taken : (comma_state names_state : List Named → State) → TakesNames comma_state names_state → (from : State)
    → ((place : ℕ) (bytes : List ℕ) → bytes ≢ codes "_ENV" → step_by from place (kinds.Name bytes) ≡ Some (names_state (named_at place bytes ∷ [])))
    → (tokens : List Token) (names : List Named) → IsNames tokens names → Leads from (Stands (names_state names)) tokens
names_taken comma_state names_state takes from first tokens names (one_name token bytes is) =
    let to = names_state (named_at token.place bytes ∷ []) in
    lead_step from to (Stands to) token (kinds.Name bytes) [] is.0 (first token.place bytes is.1) (lead_here to (Stands to) stands)
names_taken comma_state names_state takes from first tokens names (more_names token comma bytes {tokens = behind} {others} is is_comma follow) =
    let now = named_at token.place bytes ∷ [] in
    let Is : State → Type 0 = Stands (names_state (now ++ others)) in
    lead_step from (names_state now) Is token (kinds.Name bytes) (comma ∷ behind) is.0 (first token.place bytes is.1)
    (lead_step (names_state now) (comma_state now) Is comma (kinds.Symbol symbols.Comma) behind is_comma (takes.on_comma now comma.place)
    (more_names_taken comma_state names_state takes behind others follow now))

-- of an assignment
pub takes_names : (done : List Statement) → TakesNames (behind_comma done) (behind_names done)
unfolding step_by on_only_name on_names
takes_names done = record {
  on_next = λ before place bytes other. name_passes bytes (behind_names done (before ++ named_at place bytes ∷ [])) other;
  on_comma = λ before place. refl;
}

-- of a `local`
pub takes_local_names : (done : List Statement) → TakesNames (behind_local_comma done) (behind_local_names done)
unfolding step_by on_only_name on_local_names
takes_local_names done = record {
  on_next = λ before place bytes other. name_passes bytes (behind_local_names done (before ++ named_at place bytes ∷ [])) other;
  on_comma = λ before place. refl;
}

-- ---- values

-- a statement with further values
abbrev pub with_all : Wanting → List Expr → Wanting
with_all (assigned done names values) more = assigned done names (values ++ more)
with_all (declared done names values) more = declared done names (values ++ more)

-- one value is the list of it
pub with_all-one : (wanting : Wanting) (value : Expr) → with_value wanting value ≡ with_all wanting (value ∷ [])
with_all-one (assigned done names values) value = refl
with_all-one (declared done names values) value = refl

-- a value and then others are all of them
pub with_all-more : (wanting : Wanting) (value : Expr) (others : List Expr) → with_all (with_value wanting value) others ≡ with_all wanting (value ∷ others)
with_all-more (assigned done names values) value others = ap (λ (l : List Expr). assigned done names l) (append_assoc values (value ∷ []) others)
with_all-more (declared done names values) value others = ap (λ (l : List Expr). declared done names l) (append_assoc values (value ∷ []) others)

-- values from their start to where a statement may begin
pub values_taken : (tokens : List Token) (values : List Expr) → IsValues tokens values → (wanting : Wanting)
    → Leads (operand_start nothing (among_values wanting)) (AtStatement (with_statement (with_all wanting values))) tokens
unfolding on_end
values_taken tokens values (one_value {value} is) wanting =
    let from = operand_start nothing (among_values wanting) in
    subst (λ (w : Wanting). Leads from (AtStatement (with_statement w)) tokens) (with_all-one wanting value)
    (lead_so from (AtEnd false value (among_values wanting)) (AtStatement (with_statement (with_value wanting value))) tokens
    (exp_taken false tokens value is (among_values wanting) from plain_start) (λ to ends. behind_values ends))
values_taken tokens values (more_values {tokens = front} {more} {value} comma {others} is is_comma follow) wanting =
    let from = operand_start nothing (among_values wanting) in
    let after = with_value wanting value in
    let Is : State → Type 0 = AtStatement (with_statement (with_all after others)) in
    subst (λ (w : Wanting). Leads from (AtStatement (with_statement w)) (front ++ comma ∷ more)) (with_all-more wanting value others)
    (lead_on from (AtEnd false value (among_values wanting)) Is front (comma ∷ more) (exp_taken false front value is (among_values wanting) from plain_start)
    (λ to ends. lead_step to (operand_start nothing (among_values after)) Is comma (kinds.Symbol symbols.Comma) more is_comma
    (expression_ends false value (among_values wanting) to comma.place (kinds.Symbol symbols.Comma) ends tt) (values_taken more others follow after)))

-- ---- statements

-- a further token where the machine stands
step_there : (there from : State) (to : State) (Is : State → Type 0) (token : Token) (tokens : List Token) → Stands there from → token.kind ≡ kinds.Symbol symbols.Assign
    → step_by there token.place (kinds.Symbol symbols.Assign) ≡ Some to → Leads to Is tokens → Leads from Is (token ∷ tokens)
step_there there from to Is token tokens stands is taken go_on = lead_step there to Is token (kinds.Symbol symbols.Assign) tokens is taken go_on

-- behind the names of a `local` a statement may begin
local_alone : (done : List Statement) (names : List Named) (from : State) → Stands (behind_local_names done names) from → AtStatement (done ++ statements.Local names [] ∷ []) from
local_alone done names from stands = behind_local_alone

-- a statement from where it may begin to where the next may
pub statement_taken : (tokens : List Token) (made : List Statement) → IsStatement tokens made → (done : List Statement) (from : State) → AtStatement done from → Leads from (AtStatement (done ++ made)) tokens
unfolding step_by on_statement on_names on_local_names on_only_name
statement_taken tokens made (semicolon token is) done from at =
    let Is : State → Type 0 = AtStatement done in
    subst (λ (l : List Statement). Leads from (AtStatement l) (token ∷ [])) (sym (append-nil done))
    (lead_step from (statement_start done) Is token (kinds.Symbol symbols.Semicolon) [] is (statement_begins done from token.place (kinds.Symbol symbols.Semicolon) at tt) (lead_here _ Is at_start))
statement_taken tokens made (assignment {before} {after} assign {names} {values} are is valued) done from at =
    let wanting = assigned done names [] in
    let Is : State → Type 0 = AtStatement (done ++ statements.Assign names values ∷ []) in
    lead_on from (Stands (behind_names done names)) Is before (assign ∷ after)
    (names_taken (behind_comma done) (behind_names done) (takes_names done) from
    (λ place bytes other. statement_begins done from place (kinds.Name bytes) at tt ∙ name_passes bytes (behind_names done (named_at place bytes ∷ [])) other) before names are)
    (λ to there. step_there (behind_names done names) to (operand_start nothing (among_values wanting)) Is assign after there is refl (values_taken after values valued wanting))
statement_taken tokens made (local_names local {before} {names} is are) done from at =
    let Is : State → Type 0 = AtStatement (done ++ statements.Local names [] ∷ []) in
    lead_step from (behind_local done) Is local (kinds.Keyword keywords.Local) before is (statement_begins done from local.place (kinds.Keyword keywords.Local) at tt)
    (lead_so (behind_local done) (Stands (behind_local_names done names)) Is before
    (names_taken (behind_local_comma done) (behind_local_names done) (takes_local_names done) (behind_local done)
    (λ place bytes other. name_passes bytes (behind_local_names done (named_at place bytes ∷ [])) other) before names are)
    (λ to there. local_alone done names to there))
statement_taken tokens made (local_values local assign {before} {after} {names} {values} is are assigns valued) done from at =
    let wanting = declared done names [] in
    let Is : State → Type 0 = AtStatement (done ++ statements.Local names values ∷ []) in
    lead_step from (behind_local done) Is local (kinds.Keyword keywords.Local) (before ++ assign ∷ after) is (statement_begins done from local.place (kinds.Keyword keywords.Local) at tt)
    (lead_on (behind_local done) (Stands (behind_local_names done names)) Is before (assign ∷ after)
    (names_taken (behind_local_comma done) (behind_local_names done) (takes_local_names done) (behind_local done)
    (λ place bytes other. name_passes bytes (behind_local_names done (named_at place bytes ∷ [])) other) before names are)
    (λ to there. step_there (behind_local_names done names) to (operand_start nothing (among_values wanting)) Is assign after there assigns refl (values_taken after values valued wanting)))

-- statements in turn
pub statements_taken : (tokens : List Token) (made : List Statement) → IsStatements tokens made → (done : List Statement) (from : State) → AtStatement done from → Leads from (AtStatement (done ++ made)) tokens
statements_taken tokens made no_statement done from at =
    subst (λ (l : List Statement). Leads from (AtStatement l) []) (sym (append-nil done)) (lead_here from (AtStatement done) at)
statements_taken tokens made (statement {tokens = front} {more} {first} {others} is follow) done from at =
    subst (λ (l : List Statement). Leads from (AtStatement l) (front ++ more)) (append_assoc done first others)
    (lead_on from (AtStatement (done ++ first)) (AtStatement ((done ++ first) ++ others)) front more (statement_taken front first is done from at)
    (λ to there. statements_taken more others follow (done ++ first) to there))

-- ---- chunks

-- where the machine stands, it came to
stands_so : (there : State) (tokens : List Token) (from : State) → Leads from (Stands there) tokens → run (Some from) tokens ≡ Some there
stands_so there tokens from (leads to e stands) = e

-- a chunk's tokens end the machine, with the chunk's statements
pub chunk_taken : (tokens : List Token) (chunk : LuaChunk) → IsChunk tokens chunk → run (Some (statement_start [])) tokens ≡ Some (finished chunk.statements)
unfolding on_statement
chunk_taken tokens chunk c =
    let there = finished chunk.statements in
    subst (λ (l : List Token). run (Some (statement_start [])) l ≡ Some there) (sym c.cut)
    (stands_so there (c.front ++ c.end_token ∷ []) (statement_start [])
    (lead_on (statement_start []) (AtStatement chunk.statements) (Stands there) c.front (c.end_token ∷ []) (statements_taken c.front chunk.statements c.statements [] (statement_start []) at_start)
    (λ to at. lead_step to there (Stands there) c.end_token kinds.End [] c.ended (statement_begins chunk.statements to c.end_token.place kinds.End at tt) (lead_here there (Stands there) stands))))

-- ---- what follows

-- the same tokens have one chunk
pub one_tree : (tokens : List Token) (one other : LuaChunk) → IsChunk tokens one → IsChunk tokens other → one ≡ other
one_tree tokens one other c d =
    let same : Some (finished one.statements) ≡ Some (finished other.statements) = sym (chunk_taken tokens one c) ∙ chunk_taken tokens other d in
    ap (λ (made : List Statement). record { statements = made }) (let e : one.statements ≡ other.statements = cc in e)

-- the chunk of tokens that the machine takes to the end has the machine's statements
pub derived_so : (tokens : List Token) (done : List Statement) → run (Some (statement_start [])) tokens ≡ Some (finished done) → IsChunk tokens (record { statements = done })
derived_so tokens done e =
    let found = derived tokens done e in
    let same : Some (finished found.0.statements) ≡ Some (finished done) = sym (chunk_taken tokens found.0 found.1) ∙ e in
    subst (λ (made : List Statement). IsChunk tokens (record { statements = made })) (let s : found.0.statements ≡ done = cc in s) found.1

-- a run over further tokens that leads somewhere went on from somewhere
somewhere : (at : Option State) (more : List Token) (to : State) → run at more ≡ Some to → (state : State) × (at ≡ Some state)
somewhere None more to e = absurd (let f : None ≡ Some to = sym (run-none more) ∙ e in cc)
somewhere (Some state) more to e = (state, refl)

-- the machine takes what begins a chunk
pub begun_taken : (front : List Token) → Begins front → (state : State) × (run (Some (statement_start [])) front ≡ Some state)
begun_taken front (more, chunk, c) =
    somewhere (run (Some (statement_start [])) front) more (finished chunk.statements) (sym (run-append (Some (statement_start [])) front more) ∙ chunk_taken (front ++ more) chunk c)

-- the machine takes behind a front what may follow there
pub follower_taken : (front : List Token) (state : State) (kind : TokenKind) → run (Some (statement_start [])) front ≡ Some state → MayFollow front kind
    → (next : State) × (step_by state 0 kind ≡ Some next)
follower_taken front state kind e follows =
    let token = token_at 0 kind in
    let taken = begun_taken (front ++ token ∷ []) follows in
    (taken.0, sym (run-one state token) ∙ sym (run_on (Some (statement_start [])) state (run (Some state) (token ∷ [])) front (token ∷ []) e refl) ∙ taken.1)
