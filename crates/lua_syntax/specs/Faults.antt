-- Which fault a list of tokens has that derives no chunk (this project's own). What isn't served is a table of
-- where a token stands and which it is.
use Rattle.std.specs.Prelude.{◌≡◌, List, [], ◌∷◌, ◌++◌, Option, Some, None, IsTrue, codes}
use Rattle.std.specs.Str.{bytes_eq}
use Rattle.std.specs.Prelude.{if◌then◌else◌}
use Rattle.lua_lexer.specs.declared.token.Token.{Token}
use Rattle.lua_lexer.specs.declared.token.TokenKind.{TokenKind}
use Rattle.lua_lexer.specs.declared.token.TokenKind.TheVariants as kinds
use Rattle.lua_lexer.specs.declared.vocabulary.Symbol.{Symbol}
use Rattle.lua_lexer.specs.declared.vocabulary.Symbol.TheVariants as symbols
use Rattle.lua_names.specs.declared.keyword.Keyword.{Keyword}
use Rattle.lua_names.specs.declared.keyword.Keyword.TheVariants as keywords
use Rattle.lua_syntax.specs.declared.fault.SyntaxFault.{SyntaxFault}
use Rattle.lua_syntax.specs.declared.fault.SyntaxFault.TheVariants as faults
use Rattle.lua_syntax.specs.declared.fault.Unserved.{Unserved}
use Rattle.lua_syntax.specs.declared.fault.Unserved.TheVariants.{Control, Function, Call, Vararg, Operator, FieldAssign, Attribute, Environment}
use Rattle.lua_syntax.specs.declared.position.Position.{Position}
use Rattle.lua_syntax.specs.declared.position.Position.TheVariants as positions
use Rattle.lua_syntax.specs.Brackets.{is_opening, open_behind, IsShallow}
use Rattle.lua_syntax.specs.Chunks.{Begins, MayFollow}

-- ---- where a token stands

-- Behind the names of an assignment `=` and `,` may stand; and so they may behind those of a `local`, where a statement
-- may begin too, and behind a name at the front of a field, where `..` may stand too.
pub record IsBehindNames (front : List Token) : Type 0 where
  pub assigns : MayFollow front (kinds.Symbol symbols.Assign)
  pub goes_on : MayFollow front (kinds.Symbol symbols.Comma)
  pub no_statement : MayFollow front (kinds.Keyword keywords.Local) → ⊥
  pub no_operator : MayFollow front (kinds.Symbol symbols.Concat) → ⊥

-- behind the names of a `local`
pub record IsBehindLocalNames (front : List Token) : Type 0 where
  pub assigns : MayFollow front (kinds.Symbol symbols.Assign)
  pub statement : MayFollow front (kinds.Keyword keywords.Local)

-- The token behind these tokens stands so. `local` may stand exactly where a statement may begin, `nil` where an
-- expression may, `..` behind a whole expression, `.` behind a prefix, and the name `a` wherever a name may.
abbrev pub Stands : Position → List Token → Type 0
Stands positions.StatementStart front = MayFollow front (kinds.Keyword keywords.Local)
Stands positions.ExpressionStart front = MayFollow front (kinds.Keyword keywords.Nil)
Stands positions.BehindLocal front = (before : List Token) × (local : Token) × (front ≡ before ++ local ∷ []) × (local.kind ≡ kinds.Keyword keywords.Local)
Stands positions.BehindExpression front = MayFollow front (kinds.Symbol symbols.Concat)
Stands positions.BehindPrefix front = MayFollow front (kinds.Symbol symbols.Dot)
Stands positions.BehindNames front = IsBehindNames front
Stands positions.BehindLocalNames front = IsBehindLocalNames front
Stands positions.NameStart front = MayFollow front (kinds.Name (codes "a"))

-- ---- the table

-- if while for repeat do goto break return function
abbrev pub statement_keyword : Keyword → Option Unserved
statement_keyword keywords.If = Some Control
statement_keyword keywords.While = Some Control
statement_keyword keywords.For = Some Control
statement_keyword keywords.Repeat = Some Control
statement_keyword keywords.Do = Some Control
statement_keyword keywords.Goto = Some Control
statement_keyword keywords.Break = Some Control
statement_keyword keywords.Return = Some Control
statement_keyword keywords.Function = Some Function
statement_keyword _ = None

-- + - * / % ^ & ~ | << >> // == ~= <= >= < >
abbrev pub binary_operator : Symbol → Option Unserved
binary_operator symbols.Plus = Some Operator
binary_operator symbols.Minus = Some Operator
binary_operator symbols.Star = Some Operator
binary_operator symbols.Slash = Some Operator
binary_operator symbols.Percent = Some Operator
binary_operator symbols.Caret = Some Operator
binary_operator symbols.Amp = Some Operator
binary_operator symbols.Tilde = Some Operator
binary_operator symbols.Bar = Some Operator
binary_operator symbols.ShiftLeft = Some Operator
binary_operator symbols.ShiftRight = Some Operator
binary_operator symbols.DoubleSlash = Some Operator
binary_operator symbols.Equal = Some Operator
binary_operator symbols.NotEqual = Some Operator
binary_operator symbols.LessEqual = Some Operator
binary_operator symbols.GreaterEqual = Some Operator
binary_operator symbols.Less = Some Operator
binary_operator symbols.Greater = Some Operator
binary_operator _ = None

-- what isn't served of a token that stands so
abbrev pub unserved_at : Position → TokenKind → Option Unserved
unserved_at positions.StatementStart (kinds.Keyword keyword) = statement_keyword keyword
unserved_at positions.StatementStart (kinds.Symbol symbols.DoubleColon) = Some Control
unserved_at positions.StatementStart (kinds.Symbol symbols.OpenParen) = Some Call
unserved_at positions.ExpressionStart (kinds.Keyword keywords.Function) = Some Function
unserved_at positions.ExpressionStart (kinds.Symbol symbols.Dots) = Some Vararg
unserved_at positions.ExpressionStart (kinds.Keyword keywords.Not) = Some Operator
unserved_at positions.ExpressionStart (kinds.Symbol symbols.Minus) = Some Operator
unserved_at positions.ExpressionStart (kinds.Symbol symbols.Hash) = Some Operator
unserved_at positions.ExpressionStart (kinds.Symbol symbols.Tilde) = Some Operator
unserved_at positions.BehindLocal (kinds.Keyword keywords.Function) = Some Function
unserved_at positions.BehindExpression (kinds.Symbol symbol) = binary_operator symbol
unserved_at positions.BehindExpression (kinds.Keyword keywords.And) = Some Operator
unserved_at positions.BehindExpression (kinds.Keyword keywords.Or) = Some Operator
unserved_at positions.BehindPrefix (kinds.Symbol symbols.Colon) = Some Call
unserved_at positions.BehindPrefix (kinds.Symbol symbols.OpenParen) = Some Call
unserved_at positions.BehindPrefix (kinds.Text bytes) = Some Call
unserved_at positions.BehindPrefix (kinds.Symbol symbols.OpenBrace) = Some Call
unserved_at positions.BehindNames (kinds.Symbol symbols.Colon) = Some Call
unserved_at positions.BehindNames (kinds.Symbol symbols.OpenParen) = Some Call
unserved_at positions.BehindNames (kinds.Text bytes) = Some Call
unserved_at positions.BehindNames (kinds.Symbol symbols.OpenBrace) = Some Call
unserved_at positions.BehindNames (kinds.Symbol symbols.Dot) = Some FieldAssign
unserved_at positions.BehindNames (kinds.Symbol symbols.OpenBracket) = Some FieldAssign
unserved_at positions.BehindLocalNames (kinds.Symbol symbols.Less) = Some Attribute
unserved_at positions.NameStart (kinds.Name name) = if bytes_eq name (codes "_ENV") then Some Environment else None
unserved_at _ _ = None

-- a token of this kind isn't served behind these tokens
abbrev pub IsUnserved : List Token → TokenKind → Unserved → Type 0
IsUnserved front kind which = (position : Position) × Stands position front × (unserved_at position kind ≡ Some which)

-- ---- faults

-- Some chunk begins with the tokens before this one, never more than 100 brackets being open.
pub record StandsFirst (tokens front : List Token) (token : Token) : Type 0 where
  pub rest : List Token
  pub cut : tokens ≡ front ++ token ∷ rest
  pub begins : Begins front
  pub shallow : IsShallow front

-- and no chunk begins with it too
pub record IsWrong (tokens front : List Token) (token : Token) : Type 0 where
  pub stands : StandsFirst tokens front token
  pub wrong : Begins (front ++ token ∷ []) → ⊥

-- or it fits and is the 101st open bracket
pub record IsTooDeep (tokens front : List Token) (token : Token) : Type 0 where
  pub stands : StandsFirst tokens front token
  pub fits : Begins (front ++ token ∷ [])
  pub opens : IsTrue (is_opening token.kind)
  pub full : open_behind 0 front ≡ 100

abbrev pub HasFault : List Token → SyntaxFault → Type 0
HasFault tokens (faults.Expected place) =
    (front : List Token) × (token : Token) × IsWrong tokens front token
    × ((which : Unserved) → IsUnserved front token.kind which → ⊥) × (place ≡ token.place)
HasFault tokens (faults.NotServed place which) =
    (front : List Token) × (token : Token) × IsWrong tokens front token
    × IsUnserved front token.kind which × (place ≡ token.place)
HasFault tokens (faults.TooDeep place) = (front : List Token) × (token : Token) × IsTooDeep tokens front token × (place ≡ token.place)
HasFault tokens faults.NoMemory = ⊥
