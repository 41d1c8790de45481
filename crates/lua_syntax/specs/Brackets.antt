-- How many brackets are open (this project's own limit).
use Rattle.std.specs.Prelude.{◌≡◌, ℕ, ◌+◌, ◌-◌, ◌≤◌, Bool, true, false, List, [], ◌∷◌, ◌++◌, if◌then◌else◌}
use Rattle.lua_lexer.specs.declared.token.Token.{Token}
use Rattle.lua_lexer.specs.declared.token.TokenKind.{TokenKind}
use Rattle.lua_lexer.specs.declared.token.TokenKind.TheVariants as kinds
use Rattle.lua_lexer.specs.declared.vocabulary.Symbol.{Symbol}
use Rattle.lua_lexer.specs.declared.vocabulary.Symbol.TheVariants as symbols

abbrev pub is_opening_symbol : Symbol → Bool
is_opening_symbol symbols.OpenParen = true
is_opening_symbol symbols.OpenBrace = true
is_opening_symbol symbols.OpenBracket = true
is_opening_symbol _ = false

abbrev pub is_closing_symbol : Symbol → Bool
is_closing_symbol symbols.CloseParen = true
is_closing_symbol symbols.CloseBrace = true
is_closing_symbol symbols.CloseBracket = true
is_closing_symbol _ = false

-- one of `(`, `{` and `[`
abbrev pub is_opening : TokenKind → Bool
is_opening (kinds.Symbol symbol) = is_opening_symbol symbol
is_opening _ = false

-- one of `)`, `}` and `]`
abbrev pub is_closing : TokenKind → Bool
is_closing (kinds.Symbol symbol) = is_closing_symbol symbol
is_closing _ = false

-- how many brackets are open behind a token of this kind, so many being open before it
abbrev pub open_after : ℕ → TokenKind → ℕ
open_after depth kind = if is_opening kind then depth + 1 else (if is_closing kind then depth - 1 else depth)

-- how many brackets are open behind the tokens, so many being open before them
abbrev pub open_behind : ℕ → List Token → ℕ
open_behind depth [] = depth
open_behind depth (token ∷ tokens) = open_behind (open_after depth token.kind) tokens

-- never more than 100 brackets are open
abbrev pub IsShallow : List Token → Type 0
IsShallow tokens = (front rest : List Token) → tokens ≡ front ++ rest → open_behind 0 front ≤ 100

-- never more than 100 brackets are open behind one of the tokens, so many being open before them
abbrev pub IsLow : ℕ → List Token → Type 0
IsLow depth [] = Unit {0}
IsLow depth (token ∷ tokens) = (open_after depth token.kind ≤ 100) × IsLow (open_after depth token.kind) tokens

-- from the tokens to the rest, as many brackets are closed as are opened, and never more than 100 are open
pub record Keeps (depth : ℕ) (tokens rest : List Token) : Type 0 where
  pub front : List Token
  pub cut : tokens ≡ front ++ rest
  pub low : IsLow depth front
  pub level : open_behind depth front ≡ depth
