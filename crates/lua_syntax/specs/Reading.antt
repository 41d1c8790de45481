-- What the private readers take from the front of a list of tokens, and what is left.
use Rattle.std.specs.Prelude.{◌≡◌, ◌≢◌, ◌⊎◌, ℕ, List, [], ◌∷◌, ◌++◌, Option, Some, None}
use Rattle.lua_lexer.specs.declared.token.Token.{Token}
use Rattle.lua_lexer.specs.declared.token.TokenKind.{TokenKind}
use Rattle.lua_lexer.specs.declared.token.TokenKind.TheVariants as kinds
use Rattle.lua_lexer.specs.declared.vocabulary.Symbol.{Symbol}
use Rattle.lua_lexer.specs.declared.vocabulary.Symbol.TheVariants as symbols
use Rattle.lua_lexer.specs.TokenLists.{EndsOnce}
use Rattle.lua_names.specs.declared.keyword.Keyword.TheVariants as keywords
use Rattle.lua_syntax.specs.declared.position.Ending.{Ending}
use Rattle.lua_syntax.specs.declared.position.Ending.TheVariants.{Whole, Prefix}
use Rattle.lua_syntax.specs.declared.tree.Expr.{Expr}
use Rattle.lua_syntax.specs.declared.tree.ExprKind.{ExprKind}
use Rattle.lua_syntax.specs.declared.tree.FieldKey.{FieldKey}
use Rattle.lua_syntax.specs.declared.tree.Named.{Named}
use Rattle.lua_syntax.specs.declared.tree.Statement.{Statement}
use Rattle.lua_syntax.specs.declared.tree.Suffix.{Suffix}
use Rattle.lua_syntax.specs.Brackets.{open_after}
use Rattle.lua_syntax.specs.Grammar.{IsName, IsSeparator, IsExp, IsSimple, IsSuffixes, IsTable, IsField, IsStatement, node, place_of}

-- the tokens begin with this symbol, at this place, before the rest
pub record Heads (symbol : Symbol) (tokens : List Token) (place : ℕ) (rest : List Token) : Type 0 where
  pub token : Token
  pub cut : tokens ≡ token ∷ rest
  pub is : token.kind ≡ kinds.Symbol symbol
  pub place_is : place ≡ token.place
  pub ends : EndsOnce tokens → EndsOnce rest

-- the tokens begin with this name before the rest
pub record HeadsName (tokens : List Token) (named : Named) (rest : List Token) : Type 0 where
  pub token : Token
  pub cut : tokens ≡ token ∷ rest
  pub is : IsName token named.name
  pub place_is : named.place ≡ token.place
  pub ends : EndsOnce rest

-- the tokens begin with a separator before the rest
pub record IsBehindSeparator (tokens rest : List Token) : Type 0 where
  pub separator : Token
  pub cut : tokens ≡ separator ∷ rest
  pub separates : IsSeparator separator
  pub ends : EndsOnce rest

-- what follows a field: a separator, or the `}` of the table, which is left
abbrev pub Separated : List Token → List Token → Type 0
Separated tokens rest = IsBehindSeparator tokens rest ⊎ ((rest ≡ tokens) × ((place : ℕ) × (more : List Token) × Heads symbols.CloseBrace tokens place more))

-- the first of the tokens isn't this symbol
abbrev pub NotAhead : Symbol → List Token → Type 0
NotAhead symbol tokens = (token : Token) (rest : List Token) → tokens ≡ token ∷ rest → token.kind ≢ kinds.Symbol symbol

-- the kind ends a prefix: a name, `)` or `]`
abbrev pub ending_by : TokenKind → Ending
ending_by (kinds.Name name) = Prefix
ending_by (kinds.Symbol symbols.CloseParen) = Prefix
ending_by (kinds.Symbol symbols.CloseBracket) = Prefix
ending_by _ = Whole

-- by the last of the tokens
abbrev pub ending_of : List Token → Ending
ending_of [] = Whole
ending_of (token ∷ []) = ending_by token.kind
ending_of (token ∷ other ∷ others) = ending_of (other ∷ others)

-- no suffix follows a prefix
abbrev pub NoSuffix : Ending → List Token → Type 0
NoSuffix Whole rest = Unit {0}
NoSuffix Prefix rest = NotAhead symbols.Dot rest × NotAhead symbols.OpenBracket rest

-- The front of the tokens is such a part of the grammar with this value, and ends so; the rest still ends with `End`.
pub record TakesPart {V : Type 0} (Is : List Token → V → Type 0) (tokens : List Token) (value : V) (ending : Ending) (rest : List Token) : Type 0 where
  pub front : List Token
  pub cut : tokens ≡ front ++ rest
  pub is : Is front value
  pub ends_so : ending_of front ≡ ending
  pub ends : EndsOnce rest

-- and no suffix follows it
pub record Takes {V : Type 0} (Is : List Token → V → Type 0) (tokens : List Token) (value : V) (ending : Ending) (rest : List Token) : Type 0 where
  pub part : TakesPart Is tokens value ending rest
  pub no_suffix : NoSuffix ending rest

-- the same of a part whose ending doesn't matter
pub record TakesSome {V : Type 0} (Is : List Token → V → Type 0) (tokens : List Token) (value : V) (rest : List Token) : Type 0 where
  pub front : List Token
  pub cut : tokens ≡ front ++ rest
  pub is : Is front value
  pub ends : EndsOnce rest

abbrev pub IsOneStatement : List Token → Statement → Type 0
IsOneStatement tokens statement = IsStatement tokens (statement ∷ [])

-- a statement behind its `local`
abbrev pub IsLocalFrom : List Token → Statement → Type 0
IsLocalFrom tokens statement = (token : Token) → token.kind ≡ kinds.Keyword keywords.Local → IsStatement (token ∷ tokens) (statement ∷ [])

abbrev pub IsMaybeStatement : List Token → Option Statement → Type 0
IsMaybeStatement tokens None = IsStatement tokens []
IsMaybeStatement tokens (Some statement) = IsStatement tokens (statement ∷ [])

abbrev pub IsSuffix : List Token → Suffix → Type 0
IsSuffix tokens suffix = IsSuffixes tokens (suffix ∷ [])

-- an expression and `]`, behind `[`
pub record IsBracketed (tokens : List Token) (value : Expr) : Type 0 where
  pub inner : List Token
  pub closing : Token
  pub cut : tokens ≡ inner ++ closing ∷ []
  pub is : IsExp inner value
  pub closes : closing.kind ≡ kinds.Symbol symbols.CloseBracket

-- a token that is an expression alone, and no name
pub record IsLiteral (token : Token) (kind : ExprKind) : Type 0 where
  pub is : IsSimple (token ∷ []) (node token.place kind)
  pub whole : ending_by token.kind ≡ Whole
  pub goes_on : token.kind ≢ kinds.End
  pub level : (depth : ℕ) → open_after depth token.kind ≡ depth

-- a table behind its `{`, which stands at this place
abbrev pub IsTableFrom : ℕ → List Token → Expr → Type 0
IsTableFrom place tokens table = (opening : Token) → opening.kind ≡ kinds.Symbol symbols.OpenBrace → opening.place ≡ place → IsTable (opening ∷ tokens) table

-- the tokens of a field before its value
abbrev pub IsFieldKey : List Token → FieldKey → Type 0
IsFieldKey tokens key = (value_tokens : List Token) (value : Expr) → IsExp value_tokens value
    → IsField (tokens ++ value_tokens) (record { place = place_of (tokens ++ value_tokens); key = key; value = value })

-- the tokens from the value of a field on
pub record TakesKey (tokens : List Token) (key : FieldKey) (rest : List Token) : Type 0 where
  pub front : List Token
  pub cut : tokens ≡ front ++ rest
  pub is : IsFieldKey front key
  pub ends : EndsOnce rest

-- the first of the tokens is so
abbrev pub BeginsWith : (Token → Type 0) → List Token → Type 0
BeginsWith P tokens = (token : Token) (rest : List Token) → tokens ≡ token ∷ rest → P token
