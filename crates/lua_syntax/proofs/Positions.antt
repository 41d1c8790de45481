-- Where a token stands by the machine's state and by the tokens before it, and what isn't served of it.
use Rattle.std.proofs.Common.{◌≡◌, ◌⊎◌, inl, inr, ℕ, Bool, true, false, List, [], ◌∷◌, ◌++◌, Option, Some, None, codes, refl, sym, ap, subst, ◌∙◌, arith}
use Rattle.std.specs.Prelude.{if◌then◌else◌}
use Rattle.std.specs.Str.{bytes_eq}
use Rattle.lua_lexer.specs.declared.token.Token.{Token}
use Rattle.lua_lexer.specs.declared.token.TokenKind.{TokenKind}
use Rattle.lua_lexer.specs.declared.token.TokenKind.TheVariants as kinds
use Rattle.lua_lexer.specs.declared.vocabulary.Symbol.{Symbol}
use Rattle.lua_lexer.specs.declared.vocabulary.Symbol.TheVariants as symbols
use Rattle.lua_names.specs.declared.keyword.Keyword.{Keyword}
use Rattle.lua_names.specs.declared.keyword.Keyword.TheVariants as keywords
use Rattle.lua_syntax.specs.declared.fault.SyntaxFault.{SyntaxFault}
use Rattle.lua_syntax.specs.declared.fault.SyntaxFault.TheVariants as faults
use Rattle.lua_syntax.specs.declared.fault.Unserved.{Unserved}
use Rattle.lua_syntax.specs.declared.fault.Unserved.TheVariants.{Control, Function, Call, Vararg, Operator, FieldAssign, Attribute, Environment}
use Rattle.lua_syntax.specs.declared.position.Position.{Position}
use Rattle.lua_syntax.specs.declared.position.Position.TheVariants as positions
use Rattle.lua_syntax.specs.declared.tree.Statement.{Statement}
use Rattle.lua_syntax.specs.Chunks.{MayFollow}
use Rattle.lua_syntax.specs.Failing.{positions_of}
use Rattle.lua_syntax.specs.Faults.{Stands, statement_keyword, binary_operator, unserved_at, IsUnserved}
use Rattle.lua_syntax.specs.Refusals.{refusal_by, refusal}
use Rattle.lua_syntax.specs.States.{in_paren, among_values, within, State, statement_start, behind_names, behind_comma, behind_local, behind_local_names, behind_local_comma, operand_start, behind_whole, behind_prefix, behind_dot, field_start, behind_field_name, behind_field_key, finished, on_statement, on_operand, on_end, on_whole, on_prefix, on_field, on_field_name, on_names, on_local_names, on_only_name, on_assign, step_by, run}
use Rattle.lua_syntax.proofs.Completions.{may_follow}
use Rattle.lua_syntax.proofs.LastToken.{HasLast, has_last, has_last_of, run_last}
use Rattle.lua_syntax.proofs.Runs.{run-append}
use Rattle.lua_syntax.proofs.TakenChunks.{follower_taken}

-- ---- positions in a list

-- the positions are one
abbrev is_at : Position → Position → Bool
is_at positions.StatementStart positions.StatementStart = true
is_at positions.ExpressionStart positions.ExpressionStart = true
is_at positions.BehindLocal positions.BehindLocal = true
is_at positions.BehindExpression positions.BehindExpression = true
is_at positions.BehindPrefix positions.BehindPrefix = true
is_at positions.BehindNames positions.BehindNames = true
is_at positions.BehindLocalNames positions.BehindLocalNames = true
is_at positions.NameStart positions.NameStart = true
is_at _ _ = false

-- where the test holds, they are
is_at-sound : (one other : Position) → is_at one other ≡ true → one ≡ other
is_at-sound positions.StatementStart positions.StatementStart same = refl
is_at-sound positions.ExpressionStart positions.ExpressionStart same = refl
is_at-sound positions.BehindLocal positions.BehindLocal same = refl
is_at-sound positions.BehindExpression positions.BehindExpression same = refl
is_at-sound positions.BehindPrefix positions.BehindPrefix same = refl
is_at-sound positions.BehindNames positions.BehindNames same = refl
is_at-sound positions.BehindLocalNames positions.BehindLocalNames same = refl
is_at-sound positions.NameStart positions.NameStart same = refl
is_at-sound _ _ same = absurd (cc)

-- it holds of each and itself
is_at-same : (position : Position) → is_at position position ≡ true
is_at-same positions.StatementStart = refl
is_at-same positions.ExpressionStart = refl
is_at-same positions.BehindLocal = refl
is_at-same positions.BehindExpression = refl
is_at-same positions.BehindPrefix = refl
is_at-same positions.BehindNames = refl
is_at-same positions.BehindLocalNames = refl
is_at-same positions.NameStart = refl

-- the position is one of these
abbrev is_among : Position → List Position → Bool
is_among position [] = false
is_among position (other ∷ others) = if is_at position other then true else is_among position others

-- ---- which tokens a state takes

-- somewhere
abbrev leads_on : Option State → Bool
leads_on None = false
leads_on (Some state) = true

-- a token of this kind may stand behind the state
abbrev takes : State → TokenKind → Bool
takes state kind = leads_on (step_by state 0 kind)

-- what leads on, leads to a state
leads_somewhere : (at : Option State) → leads_on at ≡ true → (state : State) × (at ≡ Some state)
leads_somewhere None on = absurd (cc)
leads_somewhere (Some state) on = (state, refl)

-- what isn't true is false
is_false : (test : Bool) → (test ≡ true → ⊥) → test ≡ false
is_false true other = absurd (other refl)
is_false false other = refl

-- where a kind may follow the front, the state takes it
follows_takes : (front : List Token) (state : State) (kind : TokenKind) → run (Some (statement_start [])) front ≡ Some state → MayFollow front kind → takes state kind ≡ true
follows_takes front state kind runs follows = ap leads_on (follower_taken front state kind runs follows).1

-- and the other way around
takes_follows : (front : List Token) (state : State) (kind : TokenKind) → run (Some (statement_start [])) front ≡ Some state → takes state kind ≡ true → MayFollow front kind
takes_follows front state kind runs on =
    let next = leads_somewhere (step_by state 0 kind) on in may_follow front state next.0 kind runs next.1

-- a kind that may not follow, the state doesn't take
no_follower : (front : List Token) (state : State) (kind : TokenKind) → run (Some (statement_start [])) front ≡ Some state → (MayFollow front kind → ⊥) → takes state kind ≡ false
no_follower front state kind runs none = is_false (takes state kind) (λ on. none (takes_follows front state kind runs on))

-- ---- positions of a state

-- by whether `=`, `,`, `local` and `..` are taken
abbrev names_by : Bool → Bool → Bool → Bool → Bool
names_by true true false false = true
names_by _ _ _ _ = false

-- by whether `=` and `local` are taken
abbrev local_names_by : Bool → Bool → Bool
local_names_by true true = true
local_names_by _ _ = false

-- behind `local` alone
abbrev is_behind_local : State → Bool
is_behind_local (behind_local done) = true
is_behind_local _ = false

-- a token behind the state stands so, by what the state takes
abbrev stands_by : Position → State → Bool
stands_by positions.StatementStart state = takes state (kinds.Keyword keywords.Local)
stands_by positions.ExpressionStart state = takes state (kinds.Keyword keywords.Nil)
stands_by positions.BehindLocal state = is_behind_local state
stands_by positions.BehindExpression state = takes state (kinds.Symbol symbols.Concat)
stands_by positions.BehindPrefix state = takes state (kinds.Symbol symbols.Dot)
stands_by positions.BehindNames state =
    names_by (takes state (kinds.Symbol symbols.Assign)) (takes state (kinds.Symbol symbols.Comma)) (takes state (kinds.Keyword keywords.Local)) (takes state (kinds.Symbol symbols.Concat))
stands_by positions.BehindLocalNames state = local_names_by (takes state (kinds.Symbol symbols.Assign)) (takes state (kinds.Keyword keywords.Local))
stands_by positions.NameStart state = takes state (kinds.Name (codes "a"))

-- a state has the positions that what it takes says
by_state : (position : Position) (state : State) → stands_by position state ≡ is_among position (positions_of state)
unfolding step_by on_statement on_operand on_end on_whole on_prefix on_field on_field_name on_names on_local_names on_only_name on_assign
by_state positions.StatementStart (behind_whole first made outer (within (in_paren before pe) around)) = refl
by_state positions.StatementStart (behind_prefix first base suffixes outer (within (in_paren before pe) around)) = refl
by_state positions.ExpressionStart (behind_whole first made outer (within (in_paren before pe) around)) = refl
by_state positions.ExpressionStart (behind_prefix first base suffixes outer (within (in_paren before pe) around)) = refl
by_state positions.BehindExpression (behind_whole first made outer (within (in_paren before pe) around)) = refl
by_state positions.BehindExpression (behind_prefix first base suffixes outer (within (in_paren before pe) around)) = refl
by_state positions.BehindPrefix (behind_whole first made outer (within (in_paren before pe) around)) = refl
by_state positions.BehindPrefix (behind_prefix first base suffixes outer (within (in_paren before pe) around)) = refl
by_state positions.BehindNames (behind_whole first made outer (within (in_paren before pe) around)) = refl
by_state positions.BehindNames (behind_prefix first base suffixes outer (within (in_paren before pe) around)) = refl
by_state positions.BehindLocalNames (behind_whole first made outer (within (in_paren before pe) around)) = refl
by_state positions.BehindLocalNames (behind_prefix first base suffixes outer (within (in_paren before pe) around)) = refl
by_state positions.NameStart (behind_whole first made outer (within (in_paren before pe) around)) = refl
by_state positions.NameStart (behind_prefix first base suffixes outer (within (in_paren before pe) around)) = refl
by_state positions.BehindLocal (behind_whole first made outer (among_values wanting)) = refl
by_state positions.BehindLocal (behind_prefix first base suffixes outer (among_values wanting)) = refl
by_state _ _ = refl

-- ---- behind `local`

-- a state behind `local`, or nowhere
abbrev only_behind_local : Option State → Bool
only_behind_local None = true
only_behind_local (Some state) = is_behind_local state

-- `local` leads there alone
local_leads : (state : State) (place : ℕ) → only_behind_local (step_by state place (kinds.Keyword keywords.Local)) ≡ true
unfolding step_by on_statement on_operand on_end on_whole on_prefix on_field on_field_name on_names on_local_names on_only_name on_assign
local_leads (behind_whole first made outer (within (in_paren before pe) around)) place = refl
local_leads (behind_prefix first base suffixes outer (within (in_paren before pe) around)) place = refl
local_leads _ place = refl

-- where a `local` led to a state, that is behind it
local_led : (at : Option State) (local : Token) (state : State) → local.kind ≡ kinds.Keyword keywords.Local → run at (local ∷ []) ≡ Some state → is_behind_local state ≡ true
unfolding run
local_led None local state is led = absurd (cc)
local_led (Some before) local state is led =
    subst (λ (to : Option State). only_behind_local to ≡ true) (ap (λ (kind : TokenKind). step_by before local.place kind) (sym is) ∙ led) (local_leads before local.place)

-- behind a front that ends with `local`, the state is behind it
behind_local_runs : (at : Option State) (before : List Token) (local : Token) (state : State) → local.kind ≡ kinds.Keyword keywords.Local
    → run at (before ++ local ∷ []) ≡ Some state → is_behind_local state ≡ true
behind_local_runs at before local state is runs = local_led (run at before) local state is (sym (run-append at before (local ∷ [])) ∙ runs)

-- a front and its last token, which is `local`
abbrev EndsWithLocal : List Token → Type 0
EndsWithLocal front = (before : List Token) × (local : Token) × (front ≡ before ++ local ∷ []) × (local.kind ≡ kinds.Keyword keywords.Local)

-- some tokens that lead behind `local` end with it
last_is_local : (at : Option State) (front : List Token) (done : List Statement) → HasLast front → run at front ≡ Some (behind_local done) → EndsWithLocal front
last_is_local at front done (has_last before token) runs = (before, token, refl, run_last at before token (behind_local done) runs)

-- a front that leads behind `local` ends with it
ends_with_local : (front : List Token) (state : State) → run (Some (statement_start [])) front ≡ Some state → is_behind_local state ≡ true → EndsWithLocal front
unfolding run
ends_with_local [] state runs behind = absurd (let e : is_behind_local (statement_start []) ≡ true = subst (λ (at : State). is_behind_local at ≡ true) (let s : state ≡ statement_start [] = cc in s) behind in cc)
ends_with_local (token ∷ tokens) (behind_local done) runs behind = last_is_local (Some (statement_start [])) (token ∷ tokens) done (has_last_of (token ∷ tokens) (omega arith)) runs
ends_with_local (token ∷ tokens) _ runs behind = absurd (cc)

-- ---- where a token stands behind a front, and behind its state

-- what the four tests say
names_all : (assigns goes_on statement operator : Bool) → names_by assigns goes_on statement operator ≡ true
    → (assigns ≡ true) × (goes_on ≡ true) × (statement ≡ false) × (operator ≡ false)
names_all true true false false all = (refl, refl, refl, refl)
names_all _ _ _ _ all = absurd (cc)

-- and the other way around
names_from : (assigns goes_on statement operator : Bool) → assigns ≡ true → goes_on ≡ true → statement ≡ false → operator ≡ false → names_by assigns goes_on statement operator ≡ true
names_from true true false false a b c d = refl
names_from _ _ _ _ a b c d = absurd (cc)

-- what the two say
local_names_all : (assigns statement : Bool) → local_names_by assigns statement ≡ true → (assigns ≡ true) × (statement ≡ true)
local_names_all true true all = (refl, refl)
local_names_all _ _ all = absurd (cc)

-- and the other way around
local_names_from : (assigns statement : Bool) → assigns ≡ true → statement ≡ true → local_names_by assigns statement ≡ true
local_names_from true true a b = refl
local_names_from _ _ a b = absurd (cc)

-- what isn't taken may not follow
not_taken : (front : List Token) (state : State) (kind : TokenKind) → run (Some (statement_start [])) front ≡ Some state → takes state kind ≡ false → MayFollow front kind → ⊥
not_taken front state kind runs none follows = let taken : takes state kind ≡ true = follows_takes front state kind runs follows in cc

-- a token that stands so behind a front, stands so behind its state
stands_state : (position : Position) (front : List Token) (state : State) → run (Some (statement_start [])) front ≡ Some state → Stands position front → stands_by position state ≡ true
stands_state positions.StatementStart front state runs at = follows_takes front state (kinds.Keyword keywords.Local) runs at
stands_state positions.ExpressionStart front state runs at = follows_takes front state (kinds.Keyword keywords.Nil) runs at
stands_state positions.BehindLocal front state runs (before, local, cut, is) =
    behind_local_runs (Some (statement_start [])) before local state is (subst (λ (l : List Token). run (Some (statement_start [])) l ≡ Some state) cut runs)
stands_state positions.BehindExpression front state runs at = follows_takes front state (kinds.Symbol symbols.Concat) runs at
stands_state positions.BehindPrefix front state runs at = follows_takes front state (kinds.Symbol symbols.Dot) runs at
stands_state positions.BehindNames front state runs at =
    names_from _ _ _ _ (follows_takes front state (kinds.Symbol symbols.Assign) runs at.assigns) (follows_takes front state (kinds.Symbol symbols.Comma) runs at.goes_on)
    (no_follower front state (kinds.Keyword keywords.Local) runs at.no_statement) (no_follower front state (kinds.Symbol symbols.Concat) runs at.no_operator)
stands_state positions.BehindLocalNames front state runs at =
    local_names_from _ _ (follows_takes front state (kinds.Symbol symbols.Assign) runs at.assigns) (follows_takes front state (kinds.Keyword keywords.Local) runs at.statement)
stands_state positions.NameStart front state runs at = follows_takes front state (kinds.Name (codes "a")) runs at

-- and the other way around
state_stands : (position : Position) (front : List Token) (state : State) → run (Some (statement_start [])) front ≡ Some state → stands_by position state ≡ true → Stands position front
state_stands positions.StatementStart front state runs at = takes_follows front state (kinds.Keyword keywords.Local) runs at
state_stands positions.ExpressionStart front state runs at = takes_follows front state (kinds.Keyword keywords.Nil) runs at
state_stands positions.BehindLocal front state runs at = ends_with_local front state runs at
state_stands positions.BehindExpression front state runs at = takes_follows front state (kinds.Symbol symbols.Concat) runs at
state_stands positions.BehindPrefix front state runs at = takes_follows front state (kinds.Symbol symbols.Dot) runs at
state_stands positions.BehindNames front state runs at =
    let all = names_all _ _ _ _ at in
    record {
      assigns = takes_follows front state (kinds.Symbol symbols.Assign) runs all.0;
      goes_on = takes_follows front state (kinds.Symbol symbols.Comma) runs all.1;
      no_statement = not_taken front state (kinds.Keyword keywords.Local) runs all.2;
      no_operator = not_taken front state (kinds.Symbol symbols.Concat) runs all.3;
    }
state_stands positions.BehindLocalNames front state runs at =
    let all = local_names_all _ _ at in
    record {
      assigns = takes_follows front state (kinds.Symbol symbols.Assign) runs all.0;
      statement = takes_follows front state (kinds.Keyword keywords.Local) runs all.1;
    }
state_stands positions.NameStart front state runs at = takes_follows front state (kinds.Name (codes "a")) runs at

-- a token stands behind a front at the positions of its state
pub standing : (position : Position) (front : List Token) (state : State) → run (Some (statement_start [])) front ≡ Some state → Stands position front
    → is_among position (positions_of state) ≡ true
standing position front state runs at = sym (by_state position state) ∙ stands_state position front state runs at

-- and at no other
pub stands_there : (position : Position) (front : List Token) (state : State) → run (Some (statement_start [])) front ≡ Some state → is_among position (positions_of state) ≡ true
    → Stands position front
stands_there position front state runs among = state_stands position front state runs (by_state position state ∙ among)

-- ---- what isn't served

-- the first, or else the other
abbrev pub or_else : Option Unserved → Option Unserved → Option Unserved
or_else (Some which) other = Some which
or_else None other = other

-- what isn't served of a kind at the first of these positions at which something isn't
abbrev pub first_unserved : List Position → TokenKind → Option Unserved
first_unserved [] kind = None
first_unserved (position ∷ positions) kind = or_else (unserved_at position kind) (first_unserved positions kind)

-- by the first
by_first : (one other : Option Unserved) (token : Token) (fault : SyntaxFault) → refusal_by one token (refusal_by other token fault) ≡ refusal_by (or_else one other) token fault
by_first None other token fault = refl
by_first (Some which) other token fault = refl

-- a refusal says what isn't served at the first of the positions, or that another token is expected
pub refusal_is : (at : List Position) (token : Token) → refusal at token ≡ refusal_by (first_unserved at token.kind) token (faults.Expected token.place)
refusal_is [] token = refl
refusal_is (position ∷ others) token =
    ap (refusal_by (unserved_at position token.kind) token) (refusal_is others token)
    ∙ by_first (unserved_at position token.kind) (first_unserved others token.kind) token (faults.Expected token.place)

-- ---- the positions of a state don't disagree

-- which it is of a keyword that isn't served
abbrev sort_of_keyword : Keyword → Unserved
sort_of_keyword keywords.Function = Function
sort_of_keyword keywords.And = Operator
sort_of_keyword keywords.Or = Operator
sort_of_keyword keywords.Not = Operator
sort_of_keyword _ = Control

-- and of a symbol, behind the names of a `local` or elsewhere
abbrev sort_of_symbol : Symbol → Bool → Unserved
sort_of_symbol symbols.DoubleColon local = Control
sort_of_symbol symbols.OpenParen local = Call
sort_of_symbol symbols.OpenBrace local = Call
sort_of_symbol symbols.Colon local = Call
sort_of_symbol symbols.Dots local = Vararg
sort_of_symbol symbols.Dot local = FieldAssign
sort_of_symbol symbols.OpenBracket local = FieldAssign
sort_of_symbol symbols.Less true = Attribute
sort_of_symbol _ local = Operator

-- and of any kind
abbrev sort_of : Bool → TokenKind → Unserved
sort_of local (kinds.Keyword keyword) = sort_of_keyword keyword
sort_of local (kinds.Symbol symbol) = sort_of_symbol symbol local
sort_of local (kinds.Name name) = Environment
sort_of local _ = Call

-- it is this or none
abbrev IsOf : Option Unserved → Unserved → Type 0
IsOf None sort = Unit {0}
IsOf (Some which) sort = which ≡ sort

-- behind the names of a `local` there is no expression, and they are nowhere else
abbrev Fits : Bool → Position → Type 0
Fits true positions.BehindExpression = ⊥
Fits false positions.BehindLocalNames = ⊥
Fits _ _ = Unit {0}

-- of a keyword where a statement may begin
keyword_sort : (keyword : Keyword) → IsOf (statement_keyword keyword) (sort_of_keyword keyword)
keyword_sort keywords.If = refl
keyword_sort keywords.While = refl
keyword_sort keywords.For = refl
keyword_sort keywords.Repeat = refl
keyword_sort keywords.Do = refl
keyword_sort keywords.Goto = refl
keyword_sort keywords.Break = refl
keyword_sort keywords.Return = refl
keyword_sort keywords.Function = refl
keyword_sort _ = tt

-- of a symbol behind an expression
operator_sort : (symbol : Symbol) → IsOf (binary_operator symbol) (sort_of_symbol symbol false)
operator_sort symbols.Plus = refl
operator_sort symbols.Minus = refl
operator_sort symbols.Star = refl
operator_sort symbols.Slash = refl
operator_sort symbols.Percent = refl
operator_sort symbols.Caret = refl
operator_sort symbols.Amp = refl
operator_sort symbols.Tilde = refl
operator_sort symbols.Bar = refl
operator_sort symbols.ShiftLeft = refl
operator_sort symbols.ShiftRight = refl
operator_sort symbols.DoubleSlash = refl
operator_sort symbols.Equal = refl
operator_sort symbols.NotEqual = refl
operator_sort symbols.LessEqual = refl
operator_sort symbols.GreaterEqual = refl
operator_sort symbols.Less = refl
operator_sort symbols.Greater = refl
operator_sort _ = tt

-- of a name
environment_sort : (test : Bool) → IsOf (if test then Some Environment else None) Environment
environment_sort true = refl
environment_sort false = tt

-- what isn't served of a kind depends on no more of the position
position_sort : (local : Bool) (position : Position) (kind : TokenKind) → Fits local position → IsOf (unserved_at position kind) (sort_of local kind)
position_sort true positions.BehindExpression kind fits = absurd fits
position_sort false positions.BehindLocalNames kind fits = absurd fits
position_sort local positions.StatementStart (kinds.Keyword keyword) fits = keyword_sort keyword
position_sort local positions.StatementStart (kinds.Symbol symbols.DoubleColon) fits = refl
position_sort local positions.StatementStart (kinds.Symbol symbols.OpenParen) fits = refl
position_sort local positions.ExpressionStart (kinds.Keyword keywords.Function) fits = refl
position_sort local positions.ExpressionStart (kinds.Symbol symbols.Dots) fits = refl
position_sort local positions.ExpressionStart (kinds.Keyword keywords.Not) fits = refl
position_sort local positions.ExpressionStart (kinds.Symbol symbols.Minus) fits = refl
position_sort local positions.ExpressionStart (kinds.Symbol symbols.Hash) fits = refl
position_sort local positions.ExpressionStart (kinds.Symbol symbols.Tilde) fits = refl
position_sort local positions.BehindLocal (kinds.Keyword keywords.Function) fits = refl
position_sort false positions.BehindExpression (kinds.Symbol symbol) fits = operator_sort symbol
position_sort false positions.BehindExpression (kinds.Keyword keywords.And) fits = refl
position_sort false positions.BehindExpression (kinds.Keyword keywords.Or) fits = refl
position_sort local positions.BehindPrefix (kinds.Symbol symbols.Colon) fits = refl
position_sort local positions.BehindPrefix (kinds.Symbol symbols.OpenParen) fits = refl
position_sort local positions.BehindPrefix (kinds.Text bytes) fits = refl
position_sort local positions.BehindPrefix (kinds.Symbol symbols.OpenBrace) fits = refl
position_sort local positions.BehindNames (kinds.Symbol symbols.Colon) fits = refl
position_sort local positions.BehindNames (kinds.Symbol symbols.OpenParen) fits = refl
position_sort local positions.BehindNames (kinds.Text bytes) fits = refl
position_sort local positions.BehindNames (kinds.Symbol symbols.OpenBrace) fits = refl
position_sort local positions.BehindNames (kinds.Symbol symbols.Dot) fits = refl
position_sort local positions.BehindNames (kinds.Symbol symbols.OpenBracket) fits = refl
position_sort true positions.BehindLocalNames (kinds.Symbol symbols.Less) fits = refl
position_sort local positions.NameStart (kinds.Name name) fits = environment_sort (bytes_eq name (codes "_ENV"))
position_sort _ _ _ fits = tt

-- each of the positions fits
abbrev AllFit : Bool → List Position → Type 0
AllFit local [] = Unit {0}
AllFit local (position ∷ others) = Fits local position × AllFit local others

-- behind the names of a `local`
abbrev is_behind_local_names : State → Bool
is_behind_local_names (behind_local_names done names) = true
is_behind_local_names _ = false

-- those of a state do
all_fit : (state : State) → AllFit (is_behind_local_names state) (positions_of state)
all_fit (statement_start done) = (tt, (tt, tt))
all_fit (behind_names done names) = (tt, tt)
all_fit (behind_comma done names) = (tt, tt)
all_fit (behind_local done) = (tt, (tt, tt))
all_fit (behind_local_names done names) = (tt, (tt, (tt, tt)))
all_fit (behind_local_comma done names) = (tt, tt)
all_fit (operand_start outer around) = (tt, (tt, tt))
all_fit (behind_whole first operand outer (among_values wanting)) = (tt, (tt, (tt, tt)))
all_fit (behind_whole first operand outer (within bracket around)) = (tt, tt)
all_fit (behind_prefix first base suffixes outer (among_values wanting)) = (tt, (tt, (tt, (tt, tt))))
all_fit (behind_prefix first base suffixes outer (within bracket around)) = (tt, (tt, tt))
all_fit (behind_dot first base suffixes dot outer around) = (tt, tt)
all_fit (field_start table fields outer around) = (tt, (tt, tt))
all_fit (behind_field_name first name table fields outer around) = (tt, (tt, tt))
all_fit (behind_field_key first made table fields outer around) = tt
all_fit (finished done) = tt

-- ---- the first of the positions and any

-- of either, so of the first or else the other
else_sort : (one other : Option Unserved) (sort : Unserved) → IsOf one sort → IsOf other sort → IsOf (or_else one other) sort
else_sort None other sort is more = more
else_sort (Some which) other sort is more = is

-- so of the first of the positions at which something isn't served
first_sort : (local : Bool) (at : List Position) (kind : TokenKind) → AllFit local at → IsOf (first_unserved at kind) (sort_of local kind)
first_sort local [] kind fit = tt
first_sort local (position ∷ others) kind fit =
    else_sort (unserved_at position kind) (first_unserved others kind) (sort_of local kind) (position_sort local position kind fit.0) (first_sort local others kind fit.1)

-- where both are of one sort, the other is the first too
else_known : (one other : Option Unserved) (sort which : Unserved) → IsOf one sort → IsOf other sort → other ≡ Some which → or_else one other ≡ Some which
else_known None other sort which is more known = known
else_known (Some found) other sort which is more known = ap (λ (w : Unserved). Some w) (is ∙ sym (subst (λ (o : Option Unserved). IsOf o sort) known more))

-- the first or else the other is one of them
else_either : (one other : Option Unserved) (which : Unserved) → or_else one other ≡ Some which → (one ≡ Some which) ⊎ (other ≡ Some which)
else_either None other which known = inr known
else_either (Some found) other which known = inl known

-- a test that holds or else the rest does
if_either : (test rest : Bool) → (if test then true else rest) ≡ true → (test ≡ true) ⊎ (rest ≡ true)
if_either true rest holds = inl refl
if_either false rest holds = inr holds

-- it holds where the rest does
if_rest : (test rest : Bool) → rest ≡ true → (if test then true else rest) ≡ true
if_rest true rest holds = refl
if_rest false rest holds = holds

-- what isn't served at one of the positions, isn't at the first at which something isn't
among_known : (local : Bool) (position : Position) (at : List Position) (kind : TokenKind) (which : Unserved) → AllFit local at → is_among position at ≡ true
    → unserved_at position kind ≡ Some which → first_unserved at kind ≡ Some which
among_known local position [] kind which fit among is = absurd (cc)
among_known local position (other ∷ others) kind which fit among is =
    elim (if_either (is_at position other) (is_among position others) among) [
      | inl same ↦ ap (λ (o : Option Unserved). or_else o (first_unserved others kind)) (subst (λ (p : Position). unserved_at p kind ≡ Some which) (is_at-sound position other same) is)
      | inr more ↦ else_known (unserved_at other kind) (first_unserved others kind) (sort_of local kind) which (position_sort local other kind fit.0) (first_sort local others kind fit.1)
          (among_known local position others kind which fit.1 more is)
    ]

-- the first at which something isn't is one of them
first_found : (at : List Position) (kind : TokenKind) (which : Unserved) → first_unserved at kind ≡ Some which
    → (position : Position) × (is_among position at ≡ true) × (unserved_at position kind ≡ Some which)
first_found [] kind which known = absurd (cc)
first_found (position ∷ others) kind which known =
    elim (else_either (unserved_at position kind) (first_unserved others kind) which known) [
      | inl is ↦ (position, ap (λ (test : Bool). if test then true else is_among position others) (is_at-same position), is)
      | inr more ↦ let found = first_found others kind which more in (found.0, if_rest (is_at found.0 position) (is_among found.0 others) found.1, found.2)
    ]

-- what isn't served behind a front is what the positions of its state say
pub unserved_known : (front : List Token) (state : State) (kind : TokenKind) (which : Unserved) → run (Some (statement_start [])) front ≡ Some state
    → IsUnserved front kind which → first_unserved (positions_of state) kind ≡ Some which
unserved_known front state kind which runs (position, at, is) =
    among_known (is_behind_local_names state) position (positions_of state) kind which (all_fit state) (standing position front state runs at) is

-- and what they say isn't served there
pub unserved_stands : (front : List Token) (state : State) (kind : TokenKind) (which : Unserved) → run (Some (statement_start [])) front ≡ Some state
    → first_unserved (positions_of state) kind ≡ Some which → IsUnserved front kind which
unserved_stands front state kind which runs known =
    let found = first_found (positions_of state) kind which known in (found.0, stands_there found.0 front state runs found.1, found.2)
