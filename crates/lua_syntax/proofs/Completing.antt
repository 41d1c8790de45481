-- Which tokens complete a chunk from a state of the machine.
use Rattle.std.proofs.Common.{◌≡◌, ℕ, List, [], ◌∷◌, ◌++◌}
use Rattle.lua_lexer.specs.declared.token.Token.{Token}
use Rattle.lua_lexer.specs.declared.token.TokenKind.{TokenKind}
use Rattle.lua_lexer.specs.declared.token.TokenKind.TheVariants as kinds
use Rattle.lua_lexer.specs.declared.vocabulary.Symbol.{Symbol}
use Rattle.lua_lexer.specs.declared.vocabulary.Symbol.TheVariants as symbols
use Rattle.lua_syntax.specs.declared.tree.Expr.{Expr}
use Rattle.lua_syntax.specs.declared.tree.Field.{Field}
use Rattle.lua_syntax.specs.declared.tree.LuaChunk.{LuaChunk}
use Rattle.lua_syntax.specs.declared.tree.Named.{Named}
use Rattle.lua_syntax.specs.declared.tree.Suffix.{Suffix}
use Rattle.lua_syntax.specs.Grammar.{IsExp, IsJoined, IsSimple, IsSuffixes, IsFields, IsSeparator, IsName, IsNames, IsValues}
use Rattle.lua_syntax.specs.Chunks.{IsChunk}
use Rattle.lua_syntax.specs.States.{Bracket, in_paren, in_subscript, in_key, in_field, Around, among_values, within, State, statement_start, behind_names, behind_comma, behind_local, behind_local_names, behind_local_comma, operand_start, behind_whole, behind_prefix, behind_dot, field_start, behind_field_name, behind_field_key, finished}

-- ---- a token first

-- a token of a kind at a place
abbrev pub token_at : ℕ → TokenKind → Token
token_at place kind = record { place = place; kind = kind }

-- this symbol, and then
pub data Heads (symbol : Symbol) (After : List Token → Type 0) : List Token → Type 0 where
  heads : (token : Token) {after : List Token} → token.kind ≡ kinds.Symbol symbol → After after → Heads symbol After (token ∷ after)

-- a name, and then
pub data HeadsName (After : List Token → Type 0) : List Token → Type 0 where
  heads_name : (token : Token) (bytes : List ℕ) {after : List Token} → IsName token bytes → After after → HeadsName After (token ∷ after)

-- ---- statements

-- some chunk has these tokens
abbrev pub CompletesStatements : List Token → Type 0
CompletesStatements tokens = (chunk : LuaChunk) × IsChunk tokens chunk

-- values, and then statements
pub data AtValues : List Token → Type 0 where
  at_values : {first after : List Token} {values : List Expr} → IsValues first values → CompletesStatements after → AtValues (first ++ after)

-- behind a value: a comma and more values, or statements
pub data BehindValue : List Token → Type 0 where
  more_follow : {tokens : List Token} → Heads symbols.Comma AtValues tokens → BehindValue tokens
  no_value_follows : {tokens : List Token} → CompletesStatements tokens → BehindValue tokens

-- "=" and values
abbrev pub Assigned : List Token → Type 0
Assigned = Heads symbols.Assign AtValues

-- behind the names of a `local`: "=" and values, or statements
pub data Declared : List Token → Type 0 where
  with_values : {tokens : List Token} → Assigned tokens → Declared tokens
  without_values : {tokens : List Token} → CompletesStatements tokens → Declared tokens

-- names, and then
pub data AtNames (After : List Token → Type 0) : List Token → Type 0 where
  at_names : {first after : List Token} {names : List Named} → IsNames first names → After after → AtNames After (first ++ after)

-- behind a name: a comma and more names, or what follows names
pub data BehindName (After : List Token → Type 0) : List Token → Type 0 where
  more_names_follow : {tokens : List Token} → Heads symbols.Comma (AtNames After) tokens → BehindName After tokens
  no_name_follows : {tokens : List Token} → After tokens → BehindName After tokens

-- ---- expressions

-- behind an operand that is no prefix: further operands, and then
pub data BehindWhole (After : List Token → Type 0) : List Token → Type 0 where
  behind_operand : {first after : List Token} {others : List Expr} {operators : List ℕ} → IsJoined first others operators → After after → BehindWhole After (first ++ after)

-- behind a prefix: suffixes, further operands, and then
pub data BehindPrefix (After : List Token → Type 0) : List Token → Type 0 where
  behind_base : {first after : List Token} {suffixes : List Suffix} → IsSuffixes first suffixes → BehindWhole After after → BehindPrefix After (first ++ after)

-- an operand, further operands, and then
pub data AtOperand (After : List Token → Type 0) : List Token → Type 0 where
  at_operand : {first after : List Token} {made : Expr} → IsSimple first made → BehindWhole After after → AtOperand After (first ++ after)

-- an expression, and then
pub data AtExp (After : List Token → Type 0) : List Token → Type 0 where
  at_exp : {first after : List Token} {made : Expr} → IsExp first made → After after → AtExp After (first ++ after)

-- ---- tables

-- where a field may begin: fields or none, the end of the table, and then
pub data AtField (After : List Token → Type 0) : List Token → Type 0 where
  no_field : {tokens : List Token} → Heads symbols.CloseBrace (BehindWhole After) tokens → AtField After tokens
  at_fields : {first after : List Token} {fields : List Field} → IsFields first fields → Heads symbols.CloseBrace (BehindWhole After) after → AtField After (first ++ after)

-- behind the value of a field: the end of the table, or a separator and where a field may begin
pub data BehindField (After : List Token → Type 0) : List Token → Type 0 where
  table_ends : {tokens : List Token} → Heads symbols.CloseBrace (BehindWhole After) tokens → BehindField After tokens
  separated : (token : Token) {after : List Token} → IsSeparator token → AtField After after → BehindField After (token ∷ after)

-- behind a name with which a field begins: "=" and a value, or the name is a prefix
pub data BehindFieldName (After : List Token → Type 0) : List Token → Type 0 where
  is_key : {tokens : List Token} → Heads symbols.Assign (AtOperand (BehindField After)) tokens → BehindFieldName After tokens
  is_value : {tokens : List Token} → BehindPrefix (BehindField After) tokens → BehindFieldName After tokens

-- ---- states

-- behind a whole expression in this bracket, where these tokens may stand behind the expression with the bracket
abbrev pub BehindIn : Bracket → (List Token → Type 0) → List Token → Type 0
BehindIn (in_paren first pe) After = Heads symbols.CloseParen (BehindPrefix After)
BehindIn (in_subscript first base suffixes opening pe) After = Heads symbols.CloseBracket (BehindPrefix After)
BehindIn (in_key opening table fields pe) After = Heads symbols.CloseBracket (Heads symbols.Assign (AtOperand (BehindField After)))
BehindIn (in_field first key table fields pe) After = BehindField After

-- behind a whole expression that stands here
abbrev pub BehindExpression : Around → List Token → Type 0
BehindExpression (among_values wanting) = BehindValue
BehindExpression (within bracket around) = BehindIn bracket (BehindExpression around)

-- the tokens complete a chunk from this state
abbrev pub Completes : State → List Token → Type 0
Completes (statement_start done) tokens = CompletesStatements tokens
Completes (behind_names done ns) tokens = BehindName Assigned tokens
Completes (behind_comma done ns) tokens = AtNames Assigned tokens
Completes (behind_local done) tokens = AtNames Declared tokens
Completes (behind_local_names done ns) tokens = BehindName Declared tokens
Completes (behind_local_comma done ns) tokens = AtNames Declared tokens
Completes (operand_start pe around) tokens = AtOperand (BehindExpression around) tokens
Completes (behind_whole first made pe around) tokens = BehindWhole (BehindExpression around) tokens
Completes (behind_prefix first base suffixes pe around) tokens = BehindPrefix (BehindExpression around) tokens
Completes (behind_dot first base suffixes dot pe around) tokens = HeadsName (BehindPrefix (BehindExpression around)) tokens
Completes (field_start table fields pe around) tokens = AtField (BehindExpression around) tokens
Completes (behind_field_name first bytes table fields pe around) tokens = BehindFieldName (BehindExpression around) tokens
Completes (behind_field_key first made table fields pe around) tokens = Heads symbols.Assign (AtOperand (BehindField (BehindExpression around))) tokens
Completes (finished done) tokens = tokens ≡ []
