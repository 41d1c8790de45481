-- The end of a list of tokens, behind some of them.
use Rattle.std.proofs.Common.{◌≡◌, List, [], ◌∷◌, ◌++◌, refl, sym, ◌∙◌}
use Rattle.lua_lexer.specs.declared.token.Token.{Token}
use Rattle.lua_lexer.specs.declared.token.TokenKind.TheVariants as kinds
use Rattle.lua_lexer.specs.declared.vocabulary.Symbol.{Symbol}
use Rattle.lua_lexer.specs.TokenLists.{EndsOnce}
use Rattle.lua_syntax.specs.Reading.{ending_of}

pub behind_symbol : (token : Token) (rest : List Token) (symbol : Symbol) → token.kind ≡ kinds.Symbol symbol → EndsOnce (token ∷ rest) → EndsOnce rest
behind_symbol token [] symbol is ends = absurd (let e : kinds.Symbol symbol ≡ kinds.End = sym is ∙ ends in cc)
behind_symbol token (other ∷ others) symbol is ends = ends.1

-- the last of the tokens decides, whatever stands before it
pub ending_of-append : (front : List Token) (token : Token) (rest : List Token) → ending_of (front ++ token ∷ rest) ≡ ending_of (token ∷ rest)
ending_of-append [] token rest = refl
ending_of-append (a ∷ []) token rest = refl
ending_of-append (a ∷ b ∷ bs) token rest = ending_of-append (b ∷ bs) token rest
