-- Where the machine stands behind a part of a chunk, and what a token makes of it there.
use Rattle.std.proofs.Common.{◌≡◌, ◌≢◌, ℕ, Bool, true, false, List, [], ◌∷◌, ◌++◌, Some, None, codes, refl, ap, ◌∙◌}
use Rattle.std.specs.Prelude.{if◌then◌else◌}
use Rattle.std.specs.Str.{bytes_eq}
use Rattle.std.proofs.lemmas.Bool.{false_from_ne_true}
use Rattle.std.proofs.lemmas.Slice.Eq.{bytes_eq-Decides}
use Rattle.lua_lexer.specs.declared.token.Token.{Token}
use Rattle.lua_lexer.specs.declared.token.TokenKind.{TokenKind}
use Rattle.lua_lexer.specs.declared.token.TokenKind.TheVariants as kinds
use Rattle.lua_lexer.specs.declared.vocabulary.Symbol.TheVariants as symbols
use Rattle.lua_syntax.specs.declared.tree.Expr.{Expr}
use Rattle.lua_syntax.specs.declared.tree.ExprKind.TheVariants as exprs
use Rattle.lua_syntax.specs.declared.tree.Field.{Field}
use Rattle.lua_syntax.specs.declared.tree.FieldKey.TheVariants as field_keys
use Rattle.lua_syntax.specs.declared.tree.Named.{Named}
use Rattle.lua_syntax.specs.declared.tree.Statement.{Statement}
use Rattle.lua_syntax.specs.declared.tree.Statement.TheVariants as statements
use Rattle.lua_syntax.specs.declared.tree.Suffix.{Suffix}
use Rattle.lua_syntax.specs.Grammar.{node, indexed}
use Rattle.lua_syntax.specs.States.{Pending, nothing, Wanting, in_field, Around, among_values, within, State, statement_start, behind_local_names, operand_start, behind_whole, behind_prefix, field_start, behind_field_name, on_name, on_statement, on_operand, on_end, on_whole, on_prefix, on_field, on_field_name, on_local_names, step_by, run, closed, with_value, with_statement}
use Rattle.lua_syntax.proofs.Runs.{run_on, run-cons}

-- ---- runs

-- the tokens lead from the state to one that is so
pub data Leads (from : State) (Is : State → Type 0) (tokens : List Token) : Type 0 where
  leads : (to : State) → run (Some from) tokens ≡ Some to → Is to → Leads from Is tokens

-- no token leads elsewhere
pub lead_here : (from : State) (Is : State → Type 0) → Is from → Leads from Is []
unfolding run
lead_here from Is is = leads from refl is

-- tokens, and then further ones
pub lead_on : (from : State) (Is Then : State → Type 0) (a b : List Token) → Leads from Is a → ((to : State) → Is to → Leads to Then b) → Leads from Then (a ++ b)
lead_on from Is Then a b (leads between e is) go_on =
    elim (go_on between is) [ leads to f so ↦ leads to (run_on (Some from) between (Some to) a b e f) so ]

-- a token, and then further ones
pub lead_step : (from next : State) (Is : State → Type 0) (token : Token) (kind : TokenKind) (tokens : List Token)
    → token.kind ≡ kind → step_by from token.place kind ≡ Some next → Leads next Is tokens → Leads from Is (token ∷ tokens)
lead_step from next Is token kind tokens is taken (leads to e so) =
    leads to (run-cons from next token tokens (ap (λ (k : TokenKind). step_by from token.place k) is ∙ taken) ∙ e) so

-- where the machine is so, it also is otherwise
pub lead_so : (from : State) (Is Then : State → Type 0) (tokens : List Token) → Leads from Is tokens → ((to : State) → Is to → Then to) → Leads from Then tokens
lead_so from Is Then tokens (leads to e is) so = leads to e (so to is)

-- the machine takes a name of the grammar
pub name_passes : (bytes : List ℕ) (next : State) → bytes ≢ codes "_ENV" → on_name bytes next ≡ Some next
name_passes bytes next other =
    let fails : bytes_eq bytes (codes "_ENV") ≡ false = false_from_ne_true _ (λ (same : bytes_eq bytes (codes "_ENV") ≡ true). other ((bytes_eq-Decides bytes (codes "_ENV")).0 same)) in
    ap (λ (test : Bool). if test then None else Some next) fails

-- ---- where an operand begins

-- an operand with its first token at this place begins in this state; alone, or as a field, if it may be one
pub data IsOperandStart : Bool → ℕ → Pending → Around → State → Type 0 where
  plain_start : {may_be_field : Bool} {place : ℕ} {pe : Pending} {around : Around} → IsOperandStart may_be_field place pe around (operand_start pe around)
  as_field : {place table : ℕ} {fields : List Field} {pe : Pending} {around : Around}
      → IsOperandStart true place nothing (within (in_field place field_keys.Position table fields pe) around) (field_start table fields pe around)

-- kinds that mean at a field's front what they mean at an operand's
abbrev pub OnlyOperand : TokenKind → Type 0
OnlyOperand (kinds.Name bytes) = ⊥
OnlyOperand (kinds.Symbol symbols.OpenBracket) = ⊥
OnlyOperand (kinds.Symbol symbols.CloseBrace) = ⊥
OnlyOperand _ = Unit {0}

-- such a kind at a field's front is an operand's
as_operand : (table : ℕ) (fields : List Field) (pe : Pending) (around : Around) (place : ℕ) (kind : TokenKind) → OnlyOperand kind
    → on_field table fields pe around place kind ≡ on_operand nothing (within (in_field place field_keys.Position table fields pe) around) place kind
unfolding on_field
as_operand table fields pe around place (kinds.Name bytes) only = absurd only
as_operand table fields pe around place (kinds.Symbol symbols.OpenBracket) only = absurd only
as_operand table fields pe around place (kinds.Symbol symbols.CloseBrace) only = absurd only
as_operand table fields pe around place _ only = refl

-- where an operand begins, it does what it does at an operand's start
pub operand_begins : (may_be_field : Bool) (place : ℕ) (pe : Pending) (around : Around) (from : State) (kind : TokenKind) → IsOperandStart may_be_field place pe around from → OnlyOperand kind
    → step_by from place kind ≡ on_operand pe around place kind
unfolding step_by
operand_begins may_be_field place pe around from kind plain_start only = refl
operand_begins may_be_field place pe around from kind (as_field {table} {fields} {pe = before} {around = outer}) only = as_operand table fields before outer place kind only

-- ---- behind a prefix

-- behind this base with these suffixes; a name alone may also begin a field, if the operand may be one
pub data AtPrefix : Bool → ℕ → Expr → List Suffix → Pending → Around → State → Type 0 where
  at_prefix : {may_be_field : Bool} {first : ℕ} {base : Expr} {suffixes : List Suffix} {pe : Pending} {around : Around} → AtPrefix may_be_field first base suffixes pe around (behind_prefix first base suffixes pe around)
  at_name : {first table : ℕ} {bytes : List ℕ} {fields : List Field} {pe : Pending} {around : Around}
      → AtPrefix true first (node first (exprs.Name bytes)) [] nothing (within (in_field first field_keys.Position table fields pe) around) (behind_field_name first bytes table fields pe around)

-- kinds other than `=`
abbrev pub NoAssign : TokenKind → Type 0
NoAssign (kinds.Symbol symbols.Assign) = ⊥
NoAssign _ = Unit {0}

-- behind a field's first name, a kind other than `=` is taken as behind a prefix
as_prefix : (first : ℕ) (bytes : List ℕ) (table : ℕ) (fields : List Field) (pe : Pending) (around : Around) (place : ℕ) (kind : TokenKind) → NoAssign kind
    → on_field_name first bytes table fields pe around place kind ≡ on_prefix first (node first (exprs.Name bytes)) [] nothing (within (in_field first field_keys.Position table fields pe) around) place kind
unfolding on_field_name
as_prefix first bytes table fields pe around place (kinds.Symbol symbols.Assign) none = absurd none
as_prefix first bytes table fields pe around place _ none = refl

-- behind a prefix, however it stands, a token is taken as there
pub prefix_goes_on : (may_be_field : Bool) (first : ℕ) (base : Expr) (suffixes : List Suffix) (pe : Pending) (around : Around) (from : State) (place : ℕ) (kind : TokenKind)
    → AtPrefix may_be_field first base suffixes pe around from → NoAssign kind → step_by from place kind ≡ on_prefix first base suffixes pe around place kind
unfolding step_by
prefix_goes_on may_be_field first base suffixes pe around from place kind at_prefix none = refl
prefix_goes_on may_be_field first base suffixes pe around from place kind (at_name {table} {bytes} {fields} {pe = before} {around = outer}) none = as_prefix first bytes table fields before outer place kind none

-- where the operand is no field, `=` too
pub plain_prefix_goes_on : (first : ℕ) (base : Expr) (suffixes : List Suffix) (pe : Pending) (around : Around) (from : State) (place : ℕ) (kind : TokenKind)
    → AtPrefix false first base suffixes pe around from → step_by from place kind ≡ on_prefix first base suffixes pe around place kind
unfolding step_by
plain_prefix_goes_on first base suffixes pe around from place kind at_prefix = refl

-- ---- behind an operand

-- behind this operand, whose first token has this place
pub data AtOperandEnd : Bool → Expr → ℕ → Pending → Around → State → Type 0 where
  whole_end : {may_be_field : Bool} {made : Expr} {first : ℕ} {pe : Pending} {around : Around} → AtOperandEnd may_be_field made first pe around (behind_whole first made pe around)
  prefix_end : {may_be_field : Bool} {first : ℕ} {base : Expr} {suffixes : List Suffix} {pe : Pending} {around : Around} {state : State}
      → AtPrefix may_be_field first base suffixes pe around state → AtOperandEnd may_be_field (indexed first base suffixes) first pe around state

-- kinds that begin no suffix, other than `=`
abbrev pub NoSuffixBegins : TokenKind → Type 0
NoSuffixBegins (kinds.Symbol symbols.Assign) = ⊥
NoSuffixBegins (kinds.Symbol symbols.Dot) = ⊥
NoSuffixBegins (kinds.Symbol symbols.OpenBracket) = ⊥
NoSuffixBegins _ = Unit {0}

-- at a prefix, what begins no suffix is taken as behind any operand
pub prefix_passes : (first : ℕ) (base : Expr) (suffixes : List Suffix) (pe : Pending) (around : Around) (place : ℕ) (kind : TokenKind)
    → kind ≢ kinds.Symbol symbols.Dot → kind ≢ kinds.Symbol symbols.OpenBracket → on_prefix first base suffixes pe around place kind ≡ on_whole first (indexed first base suffixes) pe around place kind
unfolding on_prefix
prefix_passes first base suffixes pe around place (kinds.Symbol symbols.Dot) no_dot no_bracket = absurd (no_dot refl)
prefix_passes first base suffixes pe around place (kinds.Symbol symbols.OpenBracket) no_dot no_bracket = absurd (no_bracket refl)
prefix_passes first base suffixes pe around place _ no_dot no_bracket = refl

-- behind a prefix, what begins no suffix is taken as behind any operand
as_whole : (may_be_field : Bool) (first : ℕ) (base : Expr) (suffixes : List Suffix) (pe : Pending) (around : Around) (from : State) (place : ℕ) (kind : TokenKind)
    → AtPrefix may_be_field first base suffixes pe around from → NoSuffixBegins kind → step_by from place kind ≡ on_whole first (indexed first base suffixes) pe around place kind
unfolding on_prefix
as_whole may_be_field first base suffixes pe around from place (kinds.Symbol symbols.Assign) at none = absurd none
as_whole may_be_field first base suffixes pe around from place (kinds.Symbol symbols.Dot) at none = absurd none
as_whole may_be_field first base suffixes pe around from place (kinds.Symbol symbols.OpenBracket) at none = absurd none
as_whole may_be_field first base suffixes pe around from place kind at none = prefix_goes_on may_be_field first base suffixes pe around from place kind at tt

-- behind an operand, what begins no suffix is taken as there
pub operand_goes_on : (may_be_field : Bool) (made : Expr) (first : ℕ) (pe : Pending) (around : Around) (from : State) (place : ℕ) (kind : TokenKind)
    → AtOperandEnd may_be_field made first pe around from → NoSuffixBegins kind → step_by from place kind ≡ on_whole first made pe around place kind
unfolding step_by
operand_goes_on may_be_field made first pe around from place kind whole_end none = refl
operand_goes_on may_be_field made first pe around from place kind (prefix_end {base} {suffixes} at) none = as_whole may_be_field first base suffixes pe around from place kind at none

-- where the operand is no field, `=` too
pub plain_operand_goes_on : (made : Expr) (first : ℕ) (pe : Pending) (around : Around) (from : State) (place : ℕ) (kind : TokenKind)
    → AtOperandEnd false made first pe around from → kind ≢ kinds.Symbol symbols.Dot → kind ≢ kinds.Symbol symbols.OpenBracket
    → step_by from place kind ≡ on_whole first made pe around place kind
unfolding step_by
plain_operand_goes_on made first pe around from place kind whole_end no_dot no_bracket = refl
plain_operand_goes_on made first pe around from place kind (prefix_end {base} {suffixes} at) no_dot no_bracket =
    plain_prefix_goes_on first base suffixes pe around from place kind at ∙ prefix_passes first base suffixes pe around place kind no_dot no_bracket

-- ---- behind an expression

-- behind the whole of this expression
pub data AtEnd : Bool → Expr → Around → State → Type 0 where
  at_end : {may_be_field : Bool} {made : Expr} {first : ℕ} {pe : Pending} {around : Around} {state : State} → AtOperandEnd may_be_field made first pe around state → AtEnd may_be_field (closed pe made) around state

-- kinds that don't go on with an expression, other than `=`
abbrev pub EndsExpression : TokenKind → Type 0
EndsExpression (kinds.Symbol symbols.Assign) = ⊥
EndsExpression (kinds.Symbol symbols.Dot) = ⊥
EndsExpression (kinds.Symbol symbols.OpenBracket) = ⊥
EndsExpression (kinds.Symbol symbols.Concat) = ⊥
EndsExpression _ = Unit {0}

-- behind the last operand, what ends an expression is taken as behind the whole
as_end : (may_be_field : Bool) (made : Expr) (first : ℕ) (pe : Pending) (around : Around) (from : State) (place : ℕ) (kind : TokenKind)
    → AtOperandEnd may_be_field made first pe around from → EndsExpression kind → step_by from place kind ≡ on_end around (closed pe made) place kind
unfolding on_whole
as_end may_be_field made first pe around from place (kinds.Symbol symbols.Assign) at ends = absurd ends
as_end may_be_field made first pe around from place (kinds.Symbol symbols.Dot) at ends = absurd ends
as_end may_be_field made first pe around from place (kinds.Symbol symbols.OpenBracket) at ends = absurd ends
as_end may_be_field made first pe around from place (kinds.Symbol symbols.Concat) at ends = absurd ends
as_end may_be_field made first pe around from place kind at ends = operand_goes_on may_be_field made first pe around from place kind at tt

-- behind an expression, what ends it is taken as there
pub expression_ends : (may_be_field : Bool) (made : Expr) (around : Around) (from : State) (place : ℕ) (kind : TokenKind) → AtEnd may_be_field made around from → EndsExpression kind → step_by from place kind ≡ on_end around made place kind
expression_ends may_be_field made around from place kind (at_end {made = last} {first} {pe} at) ends = as_end may_be_field last first pe around from place kind at ends

-- behind the last operand, what goes on with no other is taken as behind the whole
pub whole_passes : (first : ℕ) (operand : Expr) (pe : Pending) (around : Around) (place : ℕ) (kind : TokenKind)
    → kind ≢ kinds.Symbol symbols.Concat → on_whole first operand pe around place kind ≡ on_end around (closed pe operand) place kind
unfolding on_whole
whole_passes first operand pe around place (kinds.Symbol symbols.Concat) no_operator = absurd (no_operator refl)
whole_passes first operand pe around place _ no_operator = refl

-- where the expression is no field, `=` too
pub plain_expression_ends : (made : Expr) (around : Around) (from : State) (place : ℕ) (kind : TokenKind)
    → AtEnd false made around from → kind ≢ kinds.Symbol symbols.Dot → kind ≢ kinds.Symbol symbols.OpenBracket → kind ≢ kinds.Symbol symbols.Concat
    → step_by from place kind ≡ on_end around made place kind
plain_expression_ends made around from place kind (at_end {made = last} {first} {pe} at) no_dot no_bracket no_operator =
    plain_operand_goes_on last first pe around from place kind at no_dot no_bracket ∙ whole_passes first last pe around place kind no_operator

-- ---- where a statement may begin

-- behind these statements
pub data AtStatement : List Statement → State → Type 0 where
  at_start : {done : List Statement} → AtStatement done (statement_start done)
  behind_values : {wanting : Wanting} {value : Expr} {state : State} → AtEnd false value (among_values wanting) state → AtStatement (with_statement (with_value wanting value)) state
  behind_local_alone : {done : List Statement} {ns : List Named} → AtStatement (done ++ statements.Local ns [] ∷ []) (behind_local_names done ns)

-- kinds that go on with no statement
abbrev pub BeginsStatement : TokenKind → Type 0
BeginsStatement (kinds.Symbol symbols.Comma) = ⊥
BeginsStatement (kinds.Symbol symbols.Assign) = ⊥
BeginsStatement (kinds.Symbol symbols.Dot) = ⊥
BeginsStatement (kinds.Symbol symbols.OpenBracket) = ⊥
BeginsStatement (kinds.Symbol symbols.Concat) = ⊥
BeginsStatement _ = Unit {0}

-- behind the last value, what begins a statement is taken as there
value_ends : (wanting : Wanting) (value : Expr) (from : State) (place : ℕ) (kind : TokenKind) → AtEnd false value (among_values wanting) from → BeginsStatement kind
    → step_by from place kind ≡ on_statement (with_statement (with_value wanting value)) place kind
unfolding on_end
value_ends wanting value from place (kinds.Symbol symbols.Comma) at begins = absurd begins
value_ends wanting value from place (kinds.Symbol symbols.Assign) at begins = absurd begins
value_ends wanting value from place (kinds.Symbol symbols.Dot) at begins = absurd begins
value_ends wanting value from place (kinds.Symbol symbols.OpenBracket) at begins = absurd begins
value_ends wanting value from place (kinds.Symbol symbols.Concat) at begins = absurd begins
value_ends wanting value from place kind at begins = expression_ends false value (among_values wanting) from place kind at tt

-- behind the names of a `local`, too
local_ends : (done : List Statement) (ns : List Named) (place : ℕ) (kind : TokenKind) → BeginsStatement kind → on_local_names done ns place kind ≡ on_statement (done ++ statements.Local ns [] ∷ []) place kind
unfolding on_local_names
local_ends done ns place (kinds.Symbol symbols.Comma) begins = absurd begins
local_ends done ns place (kinds.Symbol symbols.Assign) begins = absurd begins
local_ends done ns place _ begins = refl

-- behind statements, however they ended, what begins a statement is taken as there
pub statement_begins : (done : List Statement) (from : State) (place : ℕ) (kind : TokenKind) → AtStatement done from → BeginsStatement kind → step_by from place kind ≡ on_statement done place kind
unfolding step_by
statement_begins done from place kind at_start begins = refl
statement_begins done from place kind (behind_values {wanting} {value} at) begins = value_ends wanting value from place kind at begins
statement_begins done from place kind (behind_local_alone {done = before} {ns}) begins = local_ends before ns place kind begins
