-- Whole lists of tokens, and how they begin.
use Rattle.std.specs.Prelude.{◌≡◌, List, [], ◌∷◌, ◌++◌}
use Rattle.lua_lexer.specs.declared.token.Token.{Token}
use Rattle.lua_lexer.specs.declared.token.TokenKind.{TokenKind}
use Rattle.lua_lexer.specs.declared.token.TokenKind.TheVariants as kinds
use Rattle.lua_syntax.specs.declared.tree.LuaChunk.{LuaChunk}
use Rattle.lua_syntax.specs.Brackets.{IsShallow}
use Rattle.lua_syntax.specs.Grammar.{IsStatements}

-- statements, and then the end
pub record IsChunk (tokens : List Token) (chunk : LuaChunk) : Type 0 where
  pub front : List Token
  pub end_token : Token
  pub cut : tokens ≡ front ++ end_token ∷ []
  pub ended : end_token.kind ≡ kinds.End
  pub statements : IsStatements front chunk.statements

-- The tokens derive the chunk: by the grammar, and with at most 100 brackets open at once.
abbrev pub Derives : List Token → LuaChunk → Type 0
Derives tokens chunk = IsChunk tokens chunk × IsShallow tokens

-- some chunk's tokens begin so, however many brackets are open
abbrev pub Begins : List Token → Type 0
Begins tokens = (more : List Token) × (chunk : LuaChunk) × IsChunk (tokens ++ more) chunk

-- behind the tokens a token of this kind may stand
abbrev pub MayFollow : List Token → TokenKind → Type 0
MayFollow front kind = Begins (front ++ record { place = 0; kind = kind } ∷ [])
