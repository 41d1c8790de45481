-- Words of laws about lists of tokens.
use Rattle.std.specs.Prelude.{◌≡◌, ◌<◌, ℕ, List, [], ◌∷◌, ◌++◌, length}
use Rattle.std.specs.List.{AllByRecursion}
use Rattle.lua_lexer.specs.declared.token.Token.{Token}
use Rattle.lua_lexer.specs.declared.token.TokenKind.{TokenKind}
use Rattle.lua_lexer.specs.declared.token.TokenKind.TheVariants as kinds
use Rattle.lua_lexer.specs.Spelling.{SpellsToken}

-- each place is below the next one
abbrev pub Rises : List Token → Type 0
Rises [] = Unit {0}
Rises (t ∷ []) = Unit {0}
Rises (t ∷ u ∷ ts) = (t.place < u.place) × Rises (u ∷ ts)

-- bytes that spell the kind, or for the end none, with none after them
abbrev pub StandsAs : TokenKind → List ℕ → List ℕ → Type 0
StandsAs kinds.End bytes after = (bytes ≡ []) × (after ≡ [])
StandsAs kind bytes after = SpellsToken kind bytes after

-- behind so many bytes as the token's place says stands its spelling, or the text ends
abbrev pub Stands : List ℕ → Token → Type 0
Stands text t = (front : List ℕ) × (bytes : List ℕ) × (after : List ℕ) × (text ≡ front ++ (bytes ++ after)) × (length front ≡ t.place) × StandsAs t.kind bytes after

abbrev pub EachStands : List ℕ → List Token → Type 0
EachStands text tokens = AllByRecursion (Stands text) tokens
