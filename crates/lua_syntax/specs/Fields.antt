-- How a field of a table begins.
use Rattle.std.specs.Prelude.{◌≡◌, ◌⊎◌, ℕ, List, ◌∷◌, ◌++◌, Some}
use Rattle.lua_lexer.specs.declared.token.Token.{Token}
use Rattle.lua_lexer.specs.declared.token.TokenKind.TheVariants as kinds
use Rattle.lua_lexer.specs.declared.vocabulary.Symbol.TheVariants as symbols
use Rattle.lua_lexer.specs.TokenLists.{EndsOnce}
use Rattle.lua_syntax.specs.declared.tree.Expr.{Expr}
use Rattle.lua_syntax.specs.declared.tree.ExprKind.TheVariants as exprs
use Rattle.lua_syntax.specs.declared.tree.Field.{Field}
use Rattle.lua_syntax.specs.declared.tree.FieldKey.{FieldKey}
use Rattle.lua_syntax.specs.declared.tree.FieldKey.TheVariants as field_keys
use Rattle.lua_syntax.specs.Grammar.{IsName, node, place_of}
use Rattle.lua_syntax.specs.Reading.{NotAhead}
use Rattle.lua_syntax.specs.States.{Pending, nothing, Around, within, in_field, operand_start, field_start, run}

-- the text key that a name before `=` is
pub record IsNamedKey (token : Token) (key : Expr) : Type 0 where
  pub bytes : List ℕ
  pub is : IsName token bytes
  pub key_is : key ≡ node token.place (exprs.Text bytes)

-- where the tokens begin with a name, no `=` stands behind it
abbrev pub NoNamedField : List Token → Type 0
NoNamedField tokens = (token : Token) (rest : List Token) (bytes : List ℕ) → tokens ≡ token ∷ rest → token.kind ≡ kinds.Name bytes
    → NotAhead symbols.Assign rest

-- the tokens begin with this name and `=`; the name may be `_ENV`
pub record HeadsNamedField (tokens : List Token) (token : Token) (rest : List Token) : Type 0 where
  pub bytes : List ℕ
  pub assign : Token
  pub cut : tokens ≡ token ∷ assign ∷ rest
  pub is : token.kind ≡ kinds.Name bytes
  pub assigns : assign.kind ≡ kinds.Symbol symbols.Assign
  pub ends : EndsOnce rest

-- behind the tokens of a key, its value begins
pub record IsValueAhead (tokens : List Token) (key : FieldKey) (rest : List Token) : Type 0 where
  pub front : List Token
  pub cut : tokens ≡ front ++ rest
  pub runs : (table : ℕ) (fields : List Field) (outer : Pending) (around : Around)
      → run (Some (field_start table fields outer around)) front
      ≡ Some (operand_start nothing (within (in_field (place_of tokens) key table fields outer) around))

-- nothing is taken of a field without a key
pub record IsPlainAhead (tokens rest : List Token) : Type 0 where
  pub same : rest ≡ tokens
  pub no_bracket : NotAhead symbols.OpenBracket tokens
  pub no_name : NoNamedField tokens

abbrev pub LeadsToValue : List Token → FieldKey → List Token → Type 0
LeadsToValue tokens key rest = ((key ≡ field_keys.Position) × IsPlainAhead tokens rest) ⊎ IsValueAhead tokens key rest
