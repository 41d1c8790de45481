-- Which tree a list of tokens derives (Lua 5.4 manual, sections 3.2 to 3.4 and 9, as far as served). A case of a
-- relation is a production; a relation is between all tokens of a part and its tree.
use Rattle.std.specs.Prelude.{◌≡◌, ◌≢◌, ◌⊎◌, ℕ, true, false, List, [], ◌∷◌, ◌++◌, codes}
use Rattle.lua_lexer.specs.declared.token.Token.{Token}
use Rattle.lua_lexer.specs.declared.token.TokenKind.TheVariants as kinds
use Rattle.lua_lexer.specs.declared.vocabulary.Symbol.TheVariants as symbols
use Rattle.lua_names.specs.declared.keyword.Keyword.TheVariants as keywords
use Rattle.lua_syntax.specs.declared.tree.Expr.{Expr}
use Rattle.lua_syntax.specs.declared.tree.ExprKind.{ExprKind}
use Rattle.lua_syntax.specs.declared.tree.ExprKind.TheVariants as exprs
use Rattle.lua_syntax.specs.declared.tree.Field.{Field}
use Rattle.lua_syntax.specs.declared.tree.FieldKey.TheVariants as field_keys
use Rattle.lua_syntax.specs.declared.tree.Named.{Named}
use Rattle.lua_syntax.specs.declared.tree.Statement.{Statement}
use Rattle.lua_syntax.specs.declared.tree.Statement.TheVariants as statements
use Rattle.lua_syntax.specs.declared.tree.Suffix.{Suffix}

-- ---- tokens

-- a name; `_ENV` is none here
abbrev pub IsName : Token → List ℕ → Type 0
IsName token name = (token.kind ≡ kinds.Name name) × (name ≢ codes "_ENV")

-- "," | ";"
abbrev pub IsSeparator : Token → Type 0
IsSeparator token = (token.kind ≡ kinds.Symbol symbols.Comma) ⊎ (token.kind ≡ kinds.Symbol symbols.Semicolon)

-- the place of the first token
abbrev pub place_of : List Token → ℕ
place_of [] = 0
place_of (token ∷ tokens) = token.place

-- ---- nodes

abbrev pub node : ℕ → ExprKind → Expr
node place kind = record { place = place; kind = kind }

-- one operand stands for itself
abbrev pub joined : ℕ → Expr → List Expr → List ℕ → Expr
joined place operand [] operators = operand
joined place operand (other ∷ others) operators = node place (exprs.Concat (operand ∷ other ∷ others) operators)

-- without suffixes a base stands for itself
abbrev pub indexed : ℕ → Expr → List Suffix → Expr
indexed place base [] = base
indexed place base (suffix ∷ suffixes) = node place (exprs.Index base (suffix ∷ suffixes))

-- ---- expressions

mutual
  -- exp = simple { ".." simple }
  pub data IsExp : List Token → Expr → Type 0 where
    exp : {first more : List Token} {operand : Expr} {others : List Expr} {operators : List ℕ}
        → IsSimple first operand → IsJoined more others operators → IsExp (first ++ more) (joined (place_of first) operand others operators)

  -- { ".." simple }
  pub data IsJoined : List Token → List Expr → List ℕ → Type 0 where
    no_operand : IsJoined [] [] []
    operand : (dots : Token) {first more : List Token} {next : Expr} {others : List Expr} {operators : List ℕ}
        → dots.kind ≡ kinds.Symbol symbols.Concat → IsSimple first next → IsJoined more others operators
        → IsJoined (dots ∷ first ++ more) (next ∷ others) (dots.place ∷ operators)

  -- simple = "nil" | "true" | "false" | Int | Text | table | prefix
  pub data IsSimple : List Token → Expr → Type 0 where
    nil : (token : Token) → token.kind ≡ kinds.Keyword keywords.Nil → IsSimple (token ∷ []) (node token.place exprs.Nil)
    yes : (token : Token) → token.kind ≡ kinds.Keyword keywords.True → IsSimple (token ∷ []) (node token.place (exprs.Bool true))
    no : (token : Token) → token.kind ≡ kinds.Keyword keywords.False → IsSimple (token ∷ []) (node token.place (exprs.Bool false))
    int : (token : Token) (n : ℕ) → token.kind ≡ kinds.Int n → IsSimple (token ∷ []) (node token.place (exprs.Int n))
    text : (token : Token) (bytes : List ℕ) → token.kind ≡ kinds.Text bytes → IsSimple (token ∷ []) (node token.place (exprs.Text bytes))
    table : {tokens : List Token} {made : Expr} → IsTable tokens made → IsSimple tokens made
    prefix : {tokens : List Token} {made : Expr} → IsPrefix tokens made → IsSimple tokens made

  -- prefix = ( Name | "(" exp ")" ) { "." Name | "[" exp "]" }
  pub data IsPrefix : List Token → Expr → Type 0 where
    based : {first more : List Token} {base : Expr} {suffixes : List Suffix}
        → IsBase first base → IsSuffixes more suffixes → IsPrefix (first ++ more) (indexed (place_of first) base suffixes)

  -- Name | "(" exp ")"
  pub data IsBase : List Token → Expr → Type 0 where
    name : (token : Token) (bytes : List ℕ) → IsName token bytes → IsBase (token ∷ []) (node token.place (exprs.Name bytes))
    parentheses : (opening closing : Token) {inner : List Token} {made : Expr}
        → opening.kind ≡ kinds.Symbol symbols.OpenParen → IsExp inner made → closing.kind ≡ kinds.Symbol symbols.CloseParen
        → IsBase (opening ∷ inner ++ closing ∷ []) made

  -- { "." Name | "[" exp "]" }
  pub data IsSuffixes : List Token → List Suffix → Type 0 where
    no_suffix : IsSuffixes [] []
    dotted : (dot token : Token) (bytes : List ℕ) {more : List Token} {suffixes : List Suffix}
        → dot.kind ≡ kinds.Symbol symbols.Dot → IsName token bytes → IsSuffixes more suffixes
        → IsSuffixes (dot ∷ token ∷ more) (record { place = dot.place; key = node token.place (exprs.Text bytes) } ∷ suffixes)
    bracketed : (opening closing : Token) {inner more : List Token} {key : Expr} {suffixes : List Suffix}
        → opening.kind ≡ kinds.Symbol symbols.OpenBracket → IsExp inner key → closing.kind ≡ kinds.Symbol symbols.CloseBracket → IsSuffixes more suffixes
        → IsSuffixes (opening ∷ inner ++ closing ∷ more) (record { place = opening.place; key = key } ∷ suffixes)

  -- table = "{" [ field { ( "," | ";" ) field } [ "," | ";" ] ] "}"
  pub data IsTable : List Token → Expr → Type 0 where
    empty : (opening closing : Token) → opening.kind ≡ kinds.Symbol symbols.OpenBrace → closing.kind ≡ kinds.Symbol symbols.CloseBrace
        → IsTable (opening ∷ closing ∷ []) (node opening.place (exprs.Table []))
    filled : (opening closing : Token) {inner : List Token} {fields : List Field}
        → opening.kind ≡ kinds.Symbol symbols.OpenBrace → IsFields inner fields → closing.kind ≡ kinds.Symbol symbols.CloseBrace
        → IsTable (opening ∷ inner ++ closing ∷ []) (node opening.place (exprs.Table fields))

  -- field { ( "," | ";" ) field } [ "," | ";" ]
  pub data IsFields : List Token → List Field → Type 0 where
    last : {tokens : List Token} {made : Field} → IsField tokens made → IsFields tokens (made ∷ [])
    last_separated : {tokens : List Token} {made : Field} (separator : Token) → IsField tokens made → IsSeparator separator
        → IsFields (tokens ++ separator ∷ []) (made ∷ [])
    field : {tokens more : List Token} {made : Field} (separator : Token) {others : List Field}
        → IsField tokens made → IsSeparator separator → IsFields more others → IsFields (tokens ++ separator ∷ more) (made ∷ others)

  -- field = "[" exp "]" "=" exp | Name "=" exp | exp
  pub data IsField : List Token → Field → Type 0 where
    keyed : (opening closing assign : Token) {inner tokens : List Token} {key value : Expr}
        → opening.kind ≡ kinds.Symbol symbols.OpenBracket → IsExp inner key → closing.kind ≡ kinds.Symbol symbols.CloseBracket
        → assign.kind ≡ kinds.Symbol symbols.Assign → IsExp tokens value
        → IsField (opening ∷ inner ++ closing ∷ assign ∷ tokens) (record { place = opening.place; key = field_keys.Given key; value = value })
    named : (token assign : Token) (bytes : List ℕ) {tokens : List Token} {value : Expr}
        → IsName token bytes → assign.kind ≡ kinds.Symbol symbols.Assign → IsExp tokens value
        → IsField (token ∷ assign ∷ tokens) (record { place = token.place; key = field_keys.Given (node token.place (exprs.Text bytes)); value = value })
    positional : {tokens : List Token} {value : Expr} → IsExp tokens value
        → IsField tokens (record { place = place_of tokens; key = field_keys.Position; value = value })

-- ---- statements

-- names = Name { "," Name }
pub data IsNames : List Token → List Named → Type 0 where
  one_name : (token : Token) (bytes : List ℕ) → IsName token bytes → IsNames (token ∷ []) (record { place = token.place; name = bytes } ∷ [])
  more_names : (token comma : Token) (bytes : List ℕ) {tokens : List Token} {others : List Named}
      → IsName token bytes → comma.kind ≡ kinds.Symbol symbols.Comma → IsNames tokens others
      → IsNames (token ∷ comma ∷ tokens) (record { place = token.place; name = bytes } ∷ others)

-- values = exp { "," exp }
pub data IsValues : List Token → List Expr → Type 0 where
  one_value : {tokens : List Token} {value : Expr} → IsExp tokens value → IsValues tokens (value ∷ [])
  more_values : {tokens more : List Token} {value : Expr} (comma : Token) {others : List Expr}
      → IsExp tokens value → comma.kind ≡ kinds.Symbol symbols.Comma → IsValues more others → IsValues (tokens ++ comma ∷ more) (value ∷ others)

-- statement = ";" | names "=" values | "local" names [ "=" values ]; a `;` leaves nothing
pub data IsStatement : List Token → List Statement → Type 0 where
  semicolon : (token : Token) → token.kind ≡ kinds.Symbol symbols.Semicolon → IsStatement (token ∷ []) []
  assignment : {before after : List Token} (assign : Token) {names : List Named} {values : List Expr}
      → IsNames before names → assign.kind ≡ kinds.Symbol symbols.Assign → IsValues after values
      → IsStatement (before ++ assign ∷ after) (statements.Assign names values ∷ [])
  local_names : (local : Token) {before : List Token} {names : List Named}
      → local.kind ≡ kinds.Keyword keywords.Local → IsNames before names → IsStatement (local ∷ before) (statements.Local names [] ∷ [])
  local_values : (local assign : Token) {before after : List Token} {names : List Named} {values : List Expr}
      → local.kind ≡ kinds.Keyword keywords.Local → IsNames before names → assign.kind ≡ kinds.Symbol symbols.Assign → IsValues after values
      → IsStatement (local ∷ before ++ assign ∷ after) (statements.Local names values ∷ [])

-- chunk = { statement }
pub data IsStatements : List Token → List Statement → Type 0 where
  no_statement : IsStatements [] []
  statement : {tokens more : List Token} {first others : List Statement}
      → IsStatement tokens first → IsStatements more others → IsStatements (tokens ++ more) (first ++ others)
