-- The productions, for what completes a chunk: what may stand behind a part gives what may stand where the part begins.
use Rattle.std.proofs.Common.{◌≡◌, ℕ, List, [], ◌∷◌, ◌++◌, refl, sym, ap, subst, ◌∙◌, append_assoc}
use Rattle.lua_lexer.specs.declared.token.Token.{Token}
use Rattle.lua_lexer.specs.declared.token.TokenKind.TheVariants as kinds
use Rattle.lua_lexer.specs.declared.vocabulary.Symbol.TheVariants as symbols
use Rattle.lua_names.specs.declared.keyword.Keyword.TheVariants as keywords
use Rattle.lua_syntax.specs.declared.tree.Expr.{Expr}
use Rattle.lua_syntax.specs.declared.tree.Field.{Field}
use Rattle.lua_syntax.specs.declared.tree.Statement.{Statement}
use Rattle.lua_syntax.specs.Grammar.{IsExp, exp, operand, table, prefix, IsBase, based, parentheses, dotted, bracketed, empty, filled, last, last_separated, field, IsField, keyed, named, positional, IsName, one_name, more_names, one_value, more_values, IsStatement, assignment, local_names, local_values, statement, no_statement}
use Rattle.lua_syntax.proofs.Completing.{Heads, heads, HeadsName, heads_name, CompletesStatements, AtValues, at_values, BehindValue, more_follow, no_value_follows, Assigned, Declared, with_values, without_values, AtNames, at_names, BehindName, more_names_follow, no_name_follows, BehindWhole, behind_operand, BehindPrefix, behind_base, AtOperand, at_operand, AtExp, at_exp, AtField, no_field, at_fields, BehindField, table_ends, separated}

-- ---- statements

-- a statement before a chunk's
pub statement_first : (first after : List Token) (made : List Statement) → IsStatement first made → CompletesStatements after → CompletesStatements (first ++ after)
statement_first first after made is (chunk, c) = (
  record { statements = made ++ chunk.statements },
  record {
    front = first ++ c.front;
    end_token = c.end_token;
    cut = ap (λ (l : List Token). first ++ l) c.cut ∙ sym (append_assoc first c.front (c.end_token ∷ []));
    ended = c.ended;
    statements = statement is c.statements;
  },
)

-- the end alone is a chunk
pub end_first : (token : Token) → token.kind ≡ kinds.End → CompletesStatements (token ∷ [])
end_first token is = (record { statements = [] }, record { front = []; end_token = token; cut = refl; ended = is; statements = no_statement })

-- a name before what may stand behind it
pub name_first : (After : List Token → Type 0) (token : Token) (bytes : List ℕ) (after : List Token) → IsName token bytes → BehindName After after → AtNames After (token ∷ after)
name_first After token bytes after is (more_names_follow (heads comma is_comma (at_names names rest))) = at_names (more_names token comma bytes is is_comma names) rest
name_first After token bytes after is (no_name_follows rest) = at_names (one_name token bytes is) rest

-- so is a name that is only wanted
pub names_first : (After : List Token → Type 0) (tokens : List Token) → HeadsName (BehindName After) tokens → AtNames After tokens
names_first After tokens (heads_name token bytes {after} is rest) = name_first After token bytes after is rest

-- an expression before what may stand behind a value
pub value_first : (first after : List Token) (made : Expr) → IsExp first made → BehindValue after → AtValues (first ++ after)
value_first first after made is (no_value_follows rest) = at_values (one_value is) rest
value_first first after made is (more_follow (heads comma is_comma (at_values {first = values} {after = behind} valued rest))) =
    subst AtValues (append_assoc first (comma ∷ values) behind) (at_values (more_values comma is is_comma valued) rest)

-- names, "=" and values are a statement
pub assignment_first : (tokens : List Token) → AtNames Assigned tokens → CompletesStatements tokens
assignment_first tokens (at_names {first} names (heads assign is (at_values {first = values} {after = behind} valued rest))) =
    subst CompletesStatements (append_assoc first (assign ∷ values) behind) (statement_first (first ++ assign ∷ values) behind _ (assignment assign names is valued) rest)

-- so are `local` and names, with values or without
pub local_first : (local : Token) (tokens : List Token) → local.kind ≡ kinds.Keyword keywords.Local → AtNames Declared tokens → CompletesStatements (local ∷ tokens)
local_first local tokens is (at_names {first} {after} names (without_values rest)) = statement_first (local ∷ first) after _ (local_names local is names) rest
local_first local tokens is (at_names {first} names (with_values (heads assign is_assign (at_values {first = values} {after = behind} valued rest)))) =
    subst CompletesStatements (append_assoc (local ∷ first) (assign ∷ values) behind)
    (statement_first (local ∷ first ++ assign ∷ values) behind _ (local_values local assign is names is_assign valued) rest)

-- ---- expressions

-- an operand and further ones are an expression
pub exp_first : (After : List Token → Type 0) (tokens : List Token) → AtOperand After tokens → AtExp After tokens
exp_first After tokens (at_operand {first} simple (behind_operand {first = more} {after} joins rest)) =
    subst (AtExp After) (append_assoc first more after) (at_exp (exp simple joins) rest)

-- a value that is wanted
pub values_first : (tokens : List Token) → AtExp BehindValue tokens → AtValues tokens
values_first tokens (at_exp {first} {after} {made} is rest) = value_first first after made is rest

-- `..` before an operand
pub dots_first : (After : List Token → Type 0) (dots : Token) (tokens : List Token) → dots.kind ≡ kinds.Symbol symbols.Concat → AtOperand After tokens → BehindWhole After (dots ∷ tokens)
dots_first After dots tokens is (at_operand {first} simple (behind_operand {first = more} {after} joins rest)) =
    subst (BehindWhole After) (append_assoc (dots ∷ first) more after) (behind_operand (operand dots is simple joins) rest)

-- a base before what may stand behind a prefix
pub base_first : (After : List Token → Type 0) (first tokens : List Token) (base : Expr) → IsBase first base → BehindPrefix After tokens → AtOperand After (first ++ tokens)
base_first After first tokens base is (behind_base {first = more} {after} follow rest) =
    subst (AtOperand After) (append_assoc first more after) (at_operand (prefix (based is follow)) rest)

-- "(" before an expression and ")"
pub parenthesis_first : (After : List Token → Type 0) (opening : Token) (tokens : List Token) → opening.kind ≡ kinds.Symbol symbols.OpenParen
    → AtExp (Heads symbols.CloseParen (BehindPrefix After)) tokens → AtOperand After (opening ∷ tokens)
parenthesis_first After opening tokens is (at_exp {first} {made} inner (heads closing {after} closes rest)) =
    subst (AtOperand After) (append_assoc (opening ∷ first) (closing ∷ []) after)
    (base_first After (opening ∷ first ++ closing ∷ []) after made (parentheses opening closing is inner closes) rest)

-- "." and a name before what may stand behind a prefix
pub dot_first : (After : List Token → Type 0) (dot : Token) (tokens : List Token) → dot.kind ≡ kinds.Symbol symbols.Dot → HeadsName (BehindPrefix After) tokens → BehindPrefix After (dot ∷ tokens)
dot_first After dot tokens is (heads_name token bytes is_name (behind_base follow rest)) = behind_base (dotted dot token bytes is is_name follow) rest

-- "[" before an expression, "]" and what may stand behind a prefix
pub subscript_first : (After : List Token → Type 0) (opening : Token) (tokens : List Token) → opening.kind ≡ kinds.Symbol symbols.OpenBracket
    → AtExp (Heads symbols.CloseBracket (BehindPrefix After)) tokens → BehindPrefix After (opening ∷ tokens)
subscript_first After opening tokens is (at_exp {first} inner (heads closing closes (behind_base {first = more} {after} follow rest))) =
    subst (BehindPrefix After) (append_assoc (opening ∷ first) (closing ∷ more) after) (behind_base (bracketed opening closing is inner closes follow) rest)

-- ---- tables

-- a field before what may stand behind a field
pub field_first : (After : List Token → Type 0) (first after : List Token) (made : Field) → IsField first made → BehindField After after → AtField After (first ++ after)
field_first After first after made is (table_ends rest) = at_fields (last is) rest
field_first After first after made is (separated token {after = behind} is_separator (no_field rest)) =
    subst (AtField After) (append_assoc first (token ∷ []) behind) (at_fields (last_separated token is is_separator) rest)
field_first After first after made is (separated token is_separator (at_fields {first = more} {after = behind} fields rest)) =
    subst (AtField After) (append_assoc first (token ∷ more) behind) (at_fields (field token is is_separator fields) rest)

-- a value that is a field
pub position_first : (After : List Token → Type 0) (tokens : List Token) → AtExp (BehindField After) tokens → AtField After tokens
position_first After tokens (at_exp {first} {after} is rest) = field_first After first after _ (positional is) rest

-- a name, "=" and a value
pub named_first : (After : List Token → Type 0) (token : Token) (bytes : List ℕ) (tokens : List Token) → IsName token bytes
    → Heads symbols.Assign (AtExp (BehindField After)) tokens → AtField After (token ∷ tokens)
named_first After token bytes tokens is (heads assign is_assign (at_exp {first} {after} value rest)) =
    field_first After (token ∷ assign ∷ first) after _ (named token assign bytes is is_assign value) rest

-- "[", a key, "]", "=" and a value
pub keyed_first : (After : List Token → Type 0) (opening : Token) (tokens : List Token) → opening.kind ≡ kinds.Symbol symbols.OpenBracket
    → AtExp (Heads symbols.CloseBracket (Heads symbols.Assign (AtExp (BehindField After)))) tokens → AtField After (opening ∷ tokens)
keyed_first After opening tokens is (at_exp {first} key (heads closing closes (heads assign is_assign (at_exp {first = value} {after} valued rest)))) =
    subst (AtField After) (append_assoc (opening ∷ first) (closing ∷ assign ∷ value) after)
    (field_first After (opening ∷ first ++ closing ∷ assign ∷ value) after _ (keyed opening closing assign is key closes is_assign valued) rest)

-- "{" before where a field may begin
pub table_first : (After : List Token → Type 0) (opening : Token) (tokens : List Token) → opening.kind ≡ kinds.Symbol symbols.OpenBrace → AtField After tokens → AtOperand After (opening ∷ tokens)
table_first After opening tokens is (no_field (heads closing closes rest)) = at_operand (table (empty opening closing is closes)) rest
table_first After opening tokens is (at_fields {first} fields (heads closing {after} closes rest)) =
    subst (AtOperand After) (append_assoc (opening ∷ first) (closing ∷ []) after) (at_operand (table (filled opening closing is fields closes)) rest)
