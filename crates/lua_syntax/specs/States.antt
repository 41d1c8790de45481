-- What stands open behind the front of a list of tokens, and what a further token makes of it: the grammar as a
-- machine with a stack (this project's own). By it is said which tokens may follow.
use Rattle.std.specs.Prelude.{ℕ, true, false, List, [], ◌∷◌, ◌++◌, Option, Some, None, codes, if◌then◌else◌}
use Rattle.std.specs.Str.{bytes_eq}
use Rattle.lua_lexer.specs.declared.token.Token.{Token}
use Rattle.lua_lexer.specs.declared.token.TokenKind.{TokenKind}
use Rattle.lua_lexer.specs.declared.token.TokenKind.TheVariants as kinds
use Rattle.lua_lexer.specs.declared.vocabulary.Symbol.TheVariants as symbols
use Rattle.lua_names.specs.declared.keyword.Keyword.TheVariants as keywords
use Rattle.lua_syntax.specs.declared.tree.Expr.{Expr}
use Rattle.lua_syntax.specs.declared.tree.ExprKind.TheVariants as exprs
use Rattle.lua_syntax.specs.declared.tree.Field.{Field}
use Rattle.lua_syntax.specs.declared.tree.FieldKey.{FieldKey}
use Rattle.lua_syntax.specs.declared.tree.FieldKey.TheVariants as field_keys
use Rattle.lua_syntax.specs.declared.tree.Named.{Named}
use Rattle.lua_syntax.specs.declared.tree.Statement.{Statement}
use Rattle.lua_syntax.specs.declared.tree.Statement.TheVariants as statements
use Rattle.lua_syntax.specs.declared.tree.Suffix.{Suffix}
use Rattle.lua_syntax.specs.Grammar.{node, joined, indexed}

-- ---- what stands open

-- of an expression, before an operand: nothing, or the place of its first token, its first operand, the others, and
-- the places of its operators, of which the last wants a further operand
pub data Pending : Type 0 where
  nothing : Pending
  pending : ℕ → Expr → List Expr → List ℕ → Pending

-- A bracket, and what stands before it: `(`; `[` behind a prefix that begins at a place and has a base and suffixes;
-- `[` at the front of a field of a table that begins at a place and has fields; and that table's `{`, in which a field
-- begins at a place and has a key. The last number of the second is the place of `[`, and so is the first of the third.
pub data Bracket : Type 0 where
  in_paren : ℕ → Pending → Bracket
  in_subscript : ℕ → Expr → List Suffix → ℕ → Pending → Bracket
  in_key : ℕ → ℕ → List Field → Pending → Bracket
  in_field : ℕ → FieldKey → ℕ → List Field → Pending → Bracket

-- a statement with names and the values so far, behind other statements
pub data Wanting : Type 0 where
  assigned : List Statement → List Named → List Expr → Wanting
  declared : List Statement → List Named → List Expr → Wanting

-- where an expression stands
pub data Around : Type 0 where
  among_values : Wanting → Around
  within : Bracket → Around → Around

pub data State : Type 0 where
  -- where a statement may begin, behind these
  statement_start : List Statement → State
  -- behind names of an assignment, and behind a comma there
  behind_names : List Statement → List Named → State
  behind_comma : List Statement → List Named → State
  -- behind `local`, behind names there, and behind a comma there
  behind_local : List Statement → State
  behind_local_names : List Statement → List Named → State
  behind_local_comma : List Statement → List Named → State
  -- where an operand begins
  operand_start : Pending → Around → State
  -- behind an operand, whose first token has this place: one that is no prefix, and a base with suffixes
  behind_whole : ℕ → Expr → Pending → Around → State
  behind_prefix : ℕ → Expr → List Suffix → Pending → Around → State
  -- behind the `.` at the last place
  behind_dot : ℕ → Expr → List Suffix → ℕ → Pending → Around → State
  -- where a field of a table may begin, behind a name there, and behind a key in brackets
  field_start : ℕ → List Field → Pending → Around → State
  behind_field_name : ℕ → List ℕ → ℕ → List Field → Pending → Around → State
  behind_field_key : ℕ → Expr → ℕ → List Field → Pending → Around → State
  -- behind the end
  finished : List Statement → State

-- ---- parts that are whole

-- an expression with its last operand
abbrev pub closed : Pending → Expr → Expr
closed nothing last = last
closed (pending place operand others operators) last = joined place operand (others ++ last ∷ []) operators

-- an expression with a further operand, whose first token has this place, and a `..`
abbrev pub extended : Pending → ℕ → Expr → ℕ → Pending
extended nothing place operand dots = pending place operand [] (dots ∷ [])
extended (pending first operand others operators) place further dots =
    pending first operand (others ++ further ∷ []) (operators ++ dots ∷ [])

abbrev pub with_value : Wanting → Expr → Wanting
with_value (assigned done names values) value = assigned done names (values ++ value ∷ [])
with_value (declared done names values) value = declared done names (values ++ value ∷ [])

abbrev pub with_statement : Wanting → List Statement
with_statement (assigned done names values) = done ++ statements.Assign names values ∷ []
with_statement (declared done names values) = done ++ statements.Local names values ∷ []

abbrev pub named_at : ℕ → List ℕ → Named
named_at place bytes = record { place = place; name = bytes }

abbrev pub suffix_of : ℕ → Expr → Suffix
suffix_of place key = record { place = place; key = key }

abbrev pub field_of : ℕ → FieldKey → Expr → Field
field_of place key value = record { place = place; key = key; value = value }

-- ---- steps: what a token of this kind at this place leads to, if it may stand there

-- a name; `_ENV` is none
abbrev pub on_name : List ℕ → State → Option State
on_name bytes next = if bytes_eq bytes (codes "_ENV") then None else Some next

-- where a statement may begin
unfoldable pub on_statement : List Statement → ℕ → TokenKind → Option State
on_statement done place (kinds.Symbol symbols.Semicolon) = Some (statement_start done)
on_statement done place (kinds.Keyword keywords.Local) = Some (behind_local done)
on_statement done place (kinds.Name bytes) = on_name bytes (behind_names done (named_at place bytes ∷ []))
on_statement done place kinds.End = Some (finished done)
on_statement done place _ = None

-- where an operand begins
unfoldable pub on_operand : Pending → Around → ℕ → TokenKind → Option State
on_operand pe around place (kinds.Keyword keywords.Nil) = Some (behind_whole place (node place exprs.Nil) pe around)
on_operand pe around place (kinds.Keyword keywords.True) = Some (behind_whole place (node place (exprs.Bool true)) pe around)
on_operand pe around place (kinds.Keyword keywords.False) = Some (behind_whole place (node place (exprs.Bool false)) pe around)
on_operand pe around place (kinds.Int n) = Some (behind_whole place (node place (exprs.Int n)) pe around)
on_operand pe around place (kinds.Text bytes) = Some (behind_whole place (node place (exprs.Text bytes)) pe around)
on_operand pe around place (kinds.Name bytes) = on_name bytes (behind_prefix place (node place (exprs.Name bytes)) [] pe around)
on_operand pe around place (kinds.Symbol symbols.OpenParen) = Some (operand_start nothing (within (in_paren place pe) around))
on_operand pe around place (kinds.Symbol symbols.OpenBrace) = Some (field_start place [] pe around)
on_operand pe around place _ = None

-- behind the whole of this expression
unfoldable pub on_end : Around → Expr → ℕ → TokenKind → Option State
on_end (among_values wanting) made place (kinds.Symbol symbols.Comma) = Some (operand_start nothing (among_values (with_value wanting made)))
on_end (among_values wanting) made place kind = on_statement (with_statement (with_value wanting made)) place kind
on_end (within (in_paren first pe) around) made place (kinds.Symbol symbols.CloseParen) = Some (behind_prefix first made [] pe around)
on_end (within (in_subscript first base suffixes opening pe) around) made place (kinds.Symbol symbols.CloseBracket) =
    Some (behind_prefix first base (suffixes ++ suffix_of opening made ∷ []) pe around)
on_end (within (in_key opening table fields pe) around) made place (kinds.Symbol symbols.CloseBracket) =
    Some (behind_field_key opening made table fields pe around)
on_end (within (in_field first key table fields pe) around) made place (kinds.Symbol symbols.Comma) =
    Some (field_start table (fields ++ field_of first key made ∷ []) pe around)
on_end (within (in_field first key table fields pe) around) made place (kinds.Symbol symbols.Semicolon) =
    Some (field_start table (fields ++ field_of first key made ∷ []) pe around)
on_end (within (in_field first key table fields pe) around) made place (kinds.Symbol symbols.CloseBrace) =
    Some (behind_whole table (node table (exprs.Table (fields ++ field_of first key made ∷ []))) pe around)
on_end (within _ around) made place _ = None

-- behind an operand that is no prefix
unfoldable pub on_whole : ℕ → Expr → Pending → Around → ℕ → TokenKind → Option State
on_whole first operand pe around place (kinds.Symbol symbols.Concat) = Some (operand_start (extended pe first operand place) around)
on_whole first operand pe around place kind = on_end around (closed pe operand) place kind

-- behind a base with suffixes
unfoldable pub on_prefix : ℕ → Expr → List Suffix → Pending → Around → ℕ → TokenKind → Option State
on_prefix first base suffixes pe around place (kinds.Symbol symbols.Dot) = Some (behind_dot first base suffixes place pe around)
on_prefix first base suffixes pe around place (kinds.Symbol symbols.OpenBracket) =
    Some (operand_start nothing (within (in_subscript first base suffixes place pe) around))
on_prefix first base suffixes pe around place kind = on_whole first (indexed first base suffixes) pe around place kind

-- where a field may begin
unfoldable pub on_field : ℕ → List Field → Pending → Around → ℕ → TokenKind → Option State
on_field table fields pe around place (kinds.Symbol symbols.CloseBrace) = Some (behind_whole table (node table (exprs.Table fields)) pe around)
on_field table fields pe around place (kinds.Symbol symbols.OpenBracket) = Some (operand_start nothing (within (in_key place table fields pe) around))
on_field table fields pe around place (kinds.Name bytes) = on_name bytes (behind_field_name place bytes table fields pe around)
on_field table fields pe around place kind = on_operand nothing (within (in_field place field_keys.Position table fields pe) around) place kind

-- behind a name with which a field begins
unfoldable pub on_field_name : ℕ → List ℕ → ℕ → List Field → Pending → Around → ℕ → TokenKind → Option State
on_field_name first bytes table fields pe around place (kinds.Symbol symbols.Assign) =
    Some (operand_start nothing (within (in_field first (field_keys.Given (node first (exprs.Text bytes))) table fields pe) around))
on_field_name first bytes table fields pe around place kind =
    on_prefix first (node first (exprs.Name bytes)) [] nothing (within (in_field first field_keys.Position table fields pe) around) place kind

-- behind names of an assignment, and of a `local`
unfoldable pub on_names : List Statement → List Named → TokenKind → Option State
on_names done ns (kinds.Symbol symbols.Comma) = Some (behind_comma done ns)
on_names done ns (kinds.Symbol symbols.Assign) = Some (operand_start nothing (among_values (assigned done ns [])))
on_names done ns _ = None

unfoldable pub on_local_names : List Statement → List Named → ℕ → TokenKind → Option State
on_local_names done ns place (kinds.Symbol symbols.Comma) = Some (behind_local_comma done ns)
on_local_names done ns place (kinds.Symbol symbols.Assign) = Some (operand_start nothing (among_values (declared done ns [])))
on_local_names done ns place kind = on_statement (done ++ statements.Local ns [] ∷ []) place kind

-- where only a name may stand
unfoldable pub on_only_name : (List ℕ → State) → TokenKind → Option State
on_only_name next (kinds.Name bytes) = on_name bytes (next bytes)
on_only_name next _ = None

-- behind a key in brackets
unfoldable pub on_assign : State → TokenKind → Option State
on_assign next (kinds.Symbol symbols.Assign) = Some next
on_assign next _ = None

unfoldable pub step_by : State → ℕ → TokenKind → Option State
step_by (statement_start done) place kind = on_statement done place kind
step_by (behind_names done ns) place kind = on_names done ns kind
step_by (behind_comma done ns) place kind = on_only_name (λ bytes. behind_names done (ns ++ named_at place bytes ∷ [])) kind
step_by (behind_local done) place kind = on_only_name (λ bytes. behind_local_names done (named_at place bytes ∷ [])) kind
step_by (behind_local_names done ns) place kind = on_local_names done ns place kind
step_by (behind_local_comma done ns) place kind = on_only_name (λ bytes. behind_local_names done (ns ++ named_at place bytes ∷ [])) kind
step_by (operand_start pe around) place kind = on_operand pe around place kind
step_by (behind_whole first operand pe around) place kind = on_whole first operand pe around place kind
step_by (behind_prefix first base suffixes pe around) place kind = on_prefix first base suffixes pe around place kind
step_by (behind_dot first base suffixes dot pe around) place kind =
    on_only_name (λ bytes. behind_prefix first base (suffixes ++ suffix_of dot (node place (exprs.Text bytes)) ∷ []) pe around) kind
step_by (field_start table fields pe around) place kind = on_field table fields pe around place kind
step_by (behind_field_name first bytes table fields pe around) place kind = on_field_name first bytes table fields pe around place kind
step_by (behind_field_key first made table fields pe around) place kind =
    on_assign (operand_start nothing (within (in_field first (field_keys.Given made) table fields pe) around)) kind
step_by (finished done) place kind = None

abbrev pub step : State → Token → Option State
step state token = step_by state token.place token.kind

abbrev pub step_on : Option State → Token → Option State
step_on None token = None
step_on (Some state) token = step state token

-- what the tokens lead to from a state, if each may stand where it does
unfoldable pub run : Option State → List Token → Option State
run at [] = at
run at (token ∷ tokens) = run (step_on at token) tokens
