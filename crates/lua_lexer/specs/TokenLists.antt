-- What holds of each list of tokens.
use Rattle.std.specs.Prelude.{◌≡◌, ◌≢◌, ℕ, List, [], ◌∷◌, ◌<◌, ◌≤◌, IsTrue}
use Rattle.std.specs.List.{AllByRecursion}
use Rattle.lua_names.specs.Names.{is_name}
use Rattle.lua_lexer.specs.declared.token.Token.{Token}
use Rattle.lua_lexer.specs.declared.token.TokenKind.{TokenKind}
use Rattle.lua_lexer.specs.declared.token.TokenKind.TheVariants as kinds
use Rattle.lua_lexer.specs.declared.numeral.TheConstants.{GREATEST}
use Rattle.lua_lexer.specs.declared.lexer.TheConstants.{LONGEST}

abbrev pub IsByte : ℕ → Type 0
IsByte b = b < 256

-- a name is one and no keyword, a text has bytes, an integer is below 2 to the 63rd
abbrev pub IsInRange : TokenKind → Type 0
IsInRange (kinds.Name name) = IsTrue (is_name name)
IsInRange (kinds.Text text) = AllByRecursion IsByte text
IsInRange (kinds.Int n) = n ≤ GREATEST
IsInRange _ = Unit {0}

-- no place lies behind the end of the longest text
abbrev pub FitsToken : Token → Type 0
FitsToken token = (token.place ≤ LONGEST) × IsInRange token.kind

-- `End` is the last token and no other
abbrev pub EndsOnce : List Token → Type 0
EndsOnce [] = ⊥
EndsOnce (t ∷ []) = t.kind ≡ kinds.End
EndsOnce (t ∷ u ∷ ts) = (t.kind ≢ kinds.End) × EndsOnce (u ∷ ts)

pub record IsTokenList (tokens : List Token) : Type 0 where
  pub ended : EndsOnce tokens
  pub fitting : AllByRecursion FitsToken tokens
