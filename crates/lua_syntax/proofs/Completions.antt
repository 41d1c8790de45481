-- From each state that the machine reaches some tokens complete a chunk; so a token may follow if the machine takes it.
use Rattle.std.proofs.Common.{◌≡◌, ◌≢◌, ℕ, Bool, true, false, List, [], ◌∷◌, ◌++◌, Some, None, Option, codes, refl, sym, subst, ◌∙◌, inl, inr}
use Rattle.std.specs.Prelude.{if◌then◌else◌}
use Rattle.std.specs.Str.{bytes_eq}
use Rattle.std.proofs.lemmas.List.{append-nil}
use Rattle.std.proofs.lemmas.Slice.Eq.{bytes_eq-Decides}
use Rattle.lua_lexer.specs.declared.token.Token.{Token}
use Rattle.lua_lexer.specs.declared.token.TokenKind.{TokenKind}
use Rattle.lua_lexer.specs.declared.token.TokenKind.TheVariants as kinds
use Rattle.lua_lexer.specs.declared.vocabulary.Symbol.TheVariants as symbols
use Rattle.lua_names.specs.declared.keyword.Keyword.TheVariants as keywords
use Rattle.lua_syntax.specs.declared.tree.Expr.{Expr}
use Rattle.lua_syntax.specs.declared.tree.Field.{Field}
use Rattle.lua_syntax.specs.declared.tree.LuaChunk.{LuaChunk}
use Rattle.lua_syntax.specs.declared.tree.Named.{Named}
use Rattle.lua_syntax.specs.declared.tree.Statement.{Statement}
use Rattle.lua_syntax.specs.declared.tree.Suffix.{Suffix}
use Rattle.lua_syntax.specs.Grammar.{IsName, nil, yes, no, int, text, no_operand, name, no_suffix, semicolon}
use Rattle.lua_syntax.specs.Chunks.{IsChunk, Begins, MayFollow}
use Rattle.lua_syntax.specs.States.{Pending, in_paren, in_subscript, in_key, in_field, Around, among_values, within, State, statement_start, behind_names, behind_comma, behind_local, behind_local_names, behind_local_comma, operand_start, behind_whole, behind_prefix, behind_dot, field_start, behind_field_name, behind_field_key, finished, on_name, on_statement, on_operand, on_end, on_whole, on_prefix, on_field, on_field_name, on_names, on_local_names, on_only_name, on_assign, step_by, step, run}
use Rattle.lua_syntax.proofs.Runs.{run-none, run-one, run_on}
use Rattle.lua_syntax.proofs.Completing.{token_at, Heads, heads, HeadsName, heads_name, CompletesStatements, BehindValue, more_follow, no_value_follows, Assigned, Declared, with_values, without_values, BehindName, more_names_follow, no_name_follows, BehindWhole, behind_operand, BehindPrefix, behind_base, AtOperand, at_operand, AtExp, at_exp, AtField, no_field, BehindField, table_ends, separated, BehindFieldName, is_key, is_value, BehindExpression, Completes}
use Rattle.lua_syntax.proofs.Productions.{statement_first, end_first, name_first, names_first, values_first, assignment_first, local_first, exp_first, dots_first, base_first, parenthesis_first, dot_first, subscript_first, position_first, named_first, keyed_first, table_first}
use Rattle.lua_syntax.proofs.Possible.{completes_some}

-- the tokens complete a chunk from the state that there is
abbrev CompletesFrom : Option State → List Token → Type 0
CompletesFrom None more = ⊥
CompletesFrom (Some state) more = Completes state more

-- ---- names

-- where the machine goes on, the test failed
if_allowed : (test : Bool) (next : State) (more : List Token) → CompletesFrom (if test then None else Some next) more → (test ≡ false) × Completes next more
if_allowed true next more c = absurd c
if_allowed false next more c = (refl, c)

-- a name that the machine takes is one by the grammar
name_taken : (bytes : List ℕ) (next : State) (more : List Token) → CompletesFrom (on_name bytes next) more → (bytes ≢ codes "_ENV") × Completes next more
name_taken bytes next more c =
    let allowed = if_allowed (bytes_eq bytes (codes "_ENV")) next more c in
    (λ same. let is : true ≡ false = sym ((bytes_eq-Decides bytes (codes "_ENV")).1 same) ∙ allowed.0 in cc, allowed.1)

-- what follows are the machine's steps backwards: if what is behind the token completes the state there, then with the token
-- it completes the state before; here where only a name may stand
only_name_step : (next : List ℕ → State) (After : List Token → Type 0) (place : ℕ) (kind : TokenKind) (more : List Token)
    → ((bytes : List ℕ) → Completes (next bytes) more → After more) → CompletesFrom (on_only_name next kind) more → HeadsName After (token_at place kind ∷ more)
unfolding on_only_name
only_name_step next After place (kinds.Name bytes) more so c = let taken = name_taken bytes (next bytes) more c in heads_name (token_at place (kinds.Name bytes)) bytes (refl, taken.0) (so bytes taken.1)
only_name_step next After place _ more so c = absurd c

-- ---- statements

-- where a statement may begin
statement_step : (done : List Statement) (place : ℕ) (kind : TokenKind) (more : List Token) → CompletesFrom (on_statement done place kind) more → CompletesStatements (token_at place kind ∷ more)
unfolding on_statement
statement_step done place (kinds.Symbol symbols.Semicolon) more c =
    let token = token_at place (kinds.Symbol symbols.Semicolon) in statement_first (token ∷ []) more [] (semicolon token refl) c
statement_step done place (kinds.Keyword keywords.Local) more c = local_first (token_at place (kinds.Keyword keywords.Local)) more refl c
statement_step done place (kinds.Name bytes) more c =
    let taken = name_taken bytes _ more c in
    assignment_first (token_at place (kinds.Name bytes) ∷ more) (name_first Assigned (token_at place (kinds.Name bytes)) bytes more (refl, taken.0) taken.1)
statement_step done place kinds.End more c = subst (λ (l : List Token). CompletesStatements (token_at place kinds.End ∷ l)) (sym c) (end_first (token_at place kinds.End) refl)
statement_step done place _ more c = absurd c

-- behind names of an assignment
names_step : (done : List Statement) (ns : List Named) (place : ℕ) (kind : TokenKind) (more : List Token) → CompletesFrom (on_names done ns kind) more → BehindName Assigned (token_at place kind ∷ more)
unfolding on_names
names_step done ns place (kinds.Symbol symbols.Comma) more c = more_names_follow (heads (token_at place (kinds.Symbol symbols.Comma)) refl c)
names_step done ns place (kinds.Symbol symbols.Assign) more c =
    no_name_follows (heads (token_at place (kinds.Symbol symbols.Assign)) refl (values_first more (exp_first BehindValue more c)))
names_step done ns place _ more c = absurd c

-- behind names of a `local`
local_names_step : (done : List Statement) (ns : List Named) (place : ℕ) (kind : TokenKind) (more : List Token) → CompletesFrom (on_local_names done ns place kind) more → BehindName Declared (token_at place kind ∷ more)
unfolding on_local_names
local_names_step done ns place (kinds.Symbol symbols.Comma) more c = more_names_follow (heads (token_at place (kinds.Symbol symbols.Comma)) refl c)
local_names_step done ns place (kinds.Symbol symbols.Assign) more c =
    no_name_follows (with_values (heads (token_at place (kinds.Symbol symbols.Assign)) refl (values_first more (exp_first BehindValue more c))))
local_names_step done ns place kind more c = no_name_follows (without_values (statement_step _ place kind more c))

-- ---- expressions

-- where an operand begins
operand_step : (pe : Pending) (around : Around) (place : ℕ) (kind : TokenKind) (more : List Token) → CompletesFrom (on_operand pe around place kind) more → AtOperand (BehindExpression around) (token_at place kind ∷ more)
unfolding on_operand
operand_step pe around place (kinds.Keyword keywords.Nil) more c = at_operand (nil (token_at place (kinds.Keyword keywords.Nil)) refl) c
operand_step pe around place (kinds.Keyword keywords.True) more c = at_operand (yes (token_at place (kinds.Keyword keywords.True)) refl) c
operand_step pe around place (kinds.Keyword keywords.False) more c = at_operand (no (token_at place (kinds.Keyword keywords.False)) refl) c
operand_step pe around place (kinds.Int n) more c = at_operand (int (token_at place (kinds.Int n)) n refl) c
operand_step pe around place (kinds.Text bytes) more c = at_operand (text (token_at place (kinds.Text bytes)) bytes refl) c
operand_step pe around place (kinds.Name bytes) more c =
    let taken = name_taken bytes _ more c in
    let token = token_at place (kinds.Name bytes) in
    base_first (BehindExpression around) (token ∷ []) more _ (name token bytes (refl, taken.0)) taken.1
operand_step pe around place (kinds.Symbol symbols.OpenParen) more c =
    let After = BehindExpression around in
    parenthesis_first After (token_at place (kinds.Symbol symbols.OpenParen)) more refl (exp_first (Heads symbols.CloseParen (BehindPrefix After)) more c)
operand_step pe around place (kinds.Symbol symbols.OpenBrace) more c = table_first (BehindExpression around) (token_at place (kinds.Symbol symbols.OpenBrace)) more refl c
operand_step pe around place _ more c = absurd c

-- behind the whole of an expression
end_step : (around : Around) (made : Expr) (place : ℕ) (kind : TokenKind) (more : List Token) → CompletesFrom (on_end around made place kind) more → BehindExpression around (token_at place kind ∷ more)
unfolding on_end
end_step (among_values wanting) made place (kinds.Symbol symbols.Comma) more c =
    more_follow (heads (token_at place (kinds.Symbol symbols.Comma)) refl (values_first more (exp_first BehindValue more c)))
end_step (among_values wanting) made place kind more c = no_value_follows (statement_step _ place kind more c)
end_step (within (in_paren first pe) around) made place (kinds.Symbol symbols.CloseParen) more c = heads (token_at place (kinds.Symbol symbols.CloseParen)) refl c
end_step (within (in_subscript first base suffixes opening pe) around) made place (kinds.Symbol symbols.CloseBracket) more c =
    heads (token_at place (kinds.Symbol symbols.CloseBracket)) refl c
end_step (within (in_key opening table fields pe) around) made place (kinds.Symbol symbols.CloseBracket) more c = heads (token_at place (kinds.Symbol symbols.CloseBracket)) refl c
end_step (within (in_field first key table fields pe) around) made place (kinds.Symbol symbols.Comma) more c =
    separated (token_at place (kinds.Symbol symbols.Comma)) (inl refl) c
end_step (within (in_field first key table fields pe) around) made place (kinds.Symbol symbols.Semicolon) more c =
    separated (token_at place (kinds.Symbol symbols.Semicolon)) (inr refl) c
end_step (within (in_field first key table fields pe) around) made place (kinds.Symbol symbols.CloseBrace) more c =
    table_ends (heads (token_at place (kinds.Symbol symbols.CloseBrace)) refl c)
end_step (within _ around) made place _ more c = absurd c

-- behind an operand that is no prefix
whole_step : (first : ℕ) (made : Expr) (pe : Pending) (around : Around) (place : ℕ) (kind : TokenKind) (more : List Token)
    → CompletesFrom (on_whole first made pe around place kind) more → BehindWhole (BehindExpression around) (token_at place kind ∷ more)
unfolding on_whole
whole_step first made pe around place (kinds.Symbol symbols.Concat) more c = dots_first (BehindExpression around) (token_at place (kinds.Symbol symbols.Concat)) more refl c
whole_step first made pe around place kind more c = behind_operand no_operand (end_step around _ place kind more c)

-- behind a base with suffixes
prefix_step : (first : ℕ) (base : Expr) (suffixes : List Suffix) (pe : Pending) (around : Around) (place : ℕ) (kind : TokenKind) (more : List Token)
    → CompletesFrom (on_prefix first base suffixes pe around place kind) more → BehindPrefix (BehindExpression around) (token_at place kind ∷ more)
unfolding on_prefix
prefix_step first base suffixes pe around place (kinds.Symbol symbols.Dot) more c = dot_first (BehindExpression around) (token_at place (kinds.Symbol symbols.Dot)) more refl c
prefix_step first base suffixes pe around place (kinds.Symbol symbols.OpenBracket) more c =
    let After = BehindExpression around in
    subscript_first After (token_at place (kinds.Symbol symbols.OpenBracket)) more refl (exp_first (Heads symbols.CloseBracket (BehindPrefix After)) more c)
prefix_step first base suffixes pe around place kind more c = behind_base no_suffix (whole_step first _ pe around place kind more c)

-- behind a key in brackets
assign_step : (next : State) (After : List Token → Type 0) (place : ℕ) (kind : TokenKind) (more : List Token)
    → (Completes next more → After more) → CompletesFrom (on_assign next kind) more → Heads symbols.Assign After (token_at place kind ∷ more)
unfolding on_assign
assign_step next After place (kinds.Symbol symbols.Assign) more so c = heads (token_at place (kinds.Symbol symbols.Assign)) refl (so c)
assign_step next After place _ more so c = absurd c

-- ---- tables

-- an operand, and what may stand behind a value of a field, are where a field begins
value_is_field : (After : List Token → Type 0) (tokens : List Token) → AtOperand (BehindField After) tokens → AtField After tokens
value_is_field After tokens c = position_first After tokens (exp_first (BehindField After) tokens c)

-- so are a name, and what may stand behind it
name_is_field : (After : List Token → Type 0) (token : Token) (bytes : List ℕ) (more : List Token) → IsName token bytes → BehindFieldName After more → AtField After (token ∷ more)
name_is_field After token bytes more is (is_key (heads assign is_assign rest)) = named_first After token bytes _ is (heads assign is_assign (exp_first (BehindField After) _ rest))
name_is_field After token bytes more is (is_value rest) = value_is_field After (token ∷ more) (base_first (BehindField After) (token ∷ []) more _ (name token bytes is) rest)

-- and "[", and what may stand behind it
key_is_field : (After : List Token → Type 0) (opening : Token) (more : List Token) → opening.kind ≡ kinds.Symbol symbols.OpenBracket
    → AtExp (Heads symbols.CloseBracket (Heads symbols.Assign (AtOperand (BehindField After)))) more → AtField After (opening ∷ more)
key_is_field After opening more is (at_exp key (heads closing closes (heads assign is_assign rest))) =
    keyed_first After opening _ is (at_exp key (heads closing closes (heads assign is_assign (exp_first (BehindField After) _ rest))))

-- where a field may begin
field_step : (table : ℕ) (fields : List Field) (pe : Pending) (around : Around) (place : ℕ) (kind : TokenKind) (more : List Token)
    → CompletesFrom (on_field table fields pe around place kind) more → AtField (BehindExpression around) (token_at place kind ∷ more)
unfolding on_field
field_step table fields pe around place (kinds.Symbol symbols.CloseBrace) more c = no_field (heads (token_at place (kinds.Symbol symbols.CloseBrace)) refl c)
field_step table fields pe around place (kinds.Symbol symbols.OpenBracket) more c =
    let After = BehindExpression around in
    key_is_field After (token_at place (kinds.Symbol symbols.OpenBracket)) more refl (exp_first (Heads symbols.CloseBracket (Heads symbols.Assign (AtOperand (BehindField After)))) more c)
field_step table fields pe around place (kinds.Name bytes) more c =
    let taken = name_taken bytes _ more c in name_is_field (BehindExpression around) (token_at place (kinds.Name bytes)) bytes more (refl, taken.0) taken.1
field_step table fields pe around place kind more c = value_is_field (BehindExpression around) (token_at place kind ∷ more) (operand_step _ _ place kind more c)

-- behind a name with which a field begins
field_name_step : (first : ℕ) (bytes : List ℕ) (table : ℕ) (fields : List Field) (pe : Pending) (around : Around) (place : ℕ) (kind : TokenKind) (more : List Token)
    → CompletesFrom (on_field_name first bytes table fields pe around place kind) more → BehindFieldName (BehindExpression around) (token_at place kind ∷ more)
unfolding on_field_name
field_name_step first bytes table fields pe around place (kinds.Symbol symbols.Assign) more c = is_key (heads (token_at place (kinds.Symbol symbols.Assign)) refl c)
field_name_step first bytes table fields pe around place kind more c = is_value (prefix_step first _ [] _ _ place kind more c)

-- ---- steps

-- each step
state_step : (state : State) (place : ℕ) (kind : TokenKind) (more : List Token) → CompletesFrom (step_by state place kind) more → Completes state (token_at place kind ∷ more)
unfolding step_by
state_step (statement_start done) place kind more c = statement_step done place kind more c
state_step (behind_names done ns) place kind more c = names_step done ns place kind more c
state_step (behind_comma done ns) place kind more c = names_first Assigned _ (only_name_step _ _ place kind more (λ bytes rest. rest) c)
state_step (behind_local done) place kind more c = names_first Declared _ (only_name_step _ _ place kind more (λ bytes rest. rest) c)
state_step (behind_local_names done ns) place kind more c = local_names_step done ns place kind more c
state_step (behind_local_comma done ns) place kind more c = names_first Declared _ (only_name_step _ _ place kind more (λ bytes rest. rest) c)
state_step (operand_start pe around) place kind more c = operand_step pe around place kind more c
state_step (behind_whole first made pe around) place kind more c = whole_step first made pe around place kind more c
state_step (behind_prefix first base suffixes pe around) place kind more c = prefix_step first base suffixes pe around place kind more c
state_step (behind_dot first base suffixes dot pe around) place kind more c = only_name_step _ _ place kind more (λ bytes rest. rest) c
state_step (field_start table fields pe around) place kind more c = field_step table fields pe around place kind more c
state_step (behind_field_name first bytes table fields pe around) place kind more c = field_name_step first bytes table fields pe around place kind more c
state_step (behind_field_key first made table fields pe around) place kind more c = assign_step _ _ place kind more (λ rest. rest) c
state_step (finished done) place kind more c = absurd c

-- what completes the state behind a token, with the token before it completes the state before
pub completes_step : (state : State) (token : Token) (next : State) (more : List Token) → step state token ≡ Some next → Completes next more → Completes state (token ∷ more)
completes_step state token next more e c = state_step state token.place token.kind more (subst (λ (at : Option State). CompletesFrom at more) (sym e) c)

-- ---- what follows

-- along a run
run_completes : (front : List Token) (at : Option State) (next : State) (more : List Token) → run at front ≡ Some next → Completes next more → CompletesFrom at (front ++ more)
unfolding run
run_completes [] at next more e c = subst (λ (from : Option State). CompletesFrom from more) (sym e) c
run_completes (token ∷ tokens) None next more e c = absurd (let e : None ≡ Some next = sym (run-none tokens) ∙ e in cc)
run_completes (token ∷ tokens) (Some state) next more e c =
    state_step state token.place token.kind (tokens ++ more) (run_completes tokens (step state token) next more e c)

-- what completes the state behind a front, with the front before it completes the state before
pub completes_run : (front : List Token) (state next : State) (more : List Token) → run (Some state) front ≡ Some next → Completes next more → Completes state (front ++ more)
completes_run front state next more e c = run_completes front (Some state) next more e c

-- what the machine takes as the front begins a chunk
pub begins : (front : List Token) (state : State) → run (Some (statement_start [])) front ≡ Some state → Begins front
begins front state e =
    let some = completes_some state in
    let done = completes_run front (statement_start []) state some.0 e some.1 in
    (some.0, done.0, done.1)

-- a token that the machine takes behind a front may follow there
pub may_follow : (front : List Token) (state next : State) (kind : TokenKind)
    → run (Some (statement_start [])) front ≡ Some state → step_by state 0 kind ≡ Some next → MayFollow front kind
may_follow front state next kind e taken = begins (front ++ token_at 0 kind ∷ []) next (run_on (Some (statement_start [])) state (Some next) front (token_at 0 kind ∷ []) e (run-one state (token_at 0 kind) ∙ taken))

-- what the machine takes to the end is a chunk
pub derived : (tokens : List Token) (done : List Statement) → run (Some (statement_start [])) tokens ≡ Some (finished done) → (chunk : LuaChunk) × IsChunk tokens chunk
derived tokens done e = subst CompletesStatements (append-nil tokens) (completes_run tokens (statement_start []) (finished done) [] e refl)
