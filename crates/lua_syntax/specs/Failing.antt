-- Where and why a reader stops: the first token that may not stand where it does, or the bracket that is one too many.
use Rattle.std.specs.Prelude.{◌≡◌, ◌≢◌, ◌⊎◌, ℕ, ◌≤◌, List, [], ◌∷◌, ◌++◌, Option, Some, None, IsTrue}
use Rattle.lua_lexer.specs.declared.token.Token.{Token}
use Rattle.lua_lexer.specs.declared.token.TokenKind.TheVariants as kinds
use Rattle.lua_lexer.specs.declared.vocabulary.Symbol.{Symbol}
use Rattle.lua_lexer.specs.declared.vocabulary.Symbol.TheVariants as symbols
use Rattle.lua_names.specs.declared.keyword.Keyword.TheVariants as keywords
use Rattle.lua_syntax.specs.declared.fault.SyntaxFault.{SyntaxFault}
use Rattle.lua_syntax.specs.declared.fault.SyntaxFault.TheVariants as faults
use Rattle.lua_syntax.specs.declared.position.Position.{Position}
use Rattle.lua_syntax.specs.declared.position.Position.TheVariants as positions
use Rattle.lua_syntax.specs.declared.position.Ending.{Ending}
use Rattle.lua_syntax.specs.declared.position.Ending.TheVariants.{Whole, Prefix}
use Rattle.lua_syntax.specs.declared.statement.Before.{Before}
use Rattle.lua_syntax.specs.declared.statement.Before.TheVariants as before
use Rattle.lua_syntax.specs.declared.tree.Expr.{Expr}
use Rattle.lua_syntax.specs.declared.tree.Field.{Field}
use Rattle.lua_syntax.specs.declared.tree.Named.{Named}
use Rattle.lua_syntax.specs.declared.tree.Statement.{Statement}
use Rattle.lua_syntax.specs.declared.tree.Suffix.{Suffix}
use Rattle.lua_syntax.specs.Brackets.{is_opening, open_behind, IsLow, Keeps}
use Rattle.lua_syntax.specs.Grammar.{IsName, IsNames}
use Rattle.lua_syntax.specs.Refusals.{refusal, positions_behind}
use Rattle.lua_syntax.specs.States.{State, statement_start, behind_names, behind_comma, behind_local, behind_local_names, behind_local_comma, operand_start, behind_whole, behind_prefix, behind_dot, field_start, behind_field_name, behind_field_key, finished, Pending, nothing, Around, among_values, within, Bracket, in_subscript, in_key, in_paren, in_field, step, run, on_statement}

-- ---- the places of the table at which a token behind a state stands

abbrev pub behind_expression : Around → Ending → List Position
behind_expression (among_values wanting) ending = positions.StatementStart ∷ positions.NameStart ∷ positions_behind ending
behind_expression (within bracket around) ending = positions_behind ending

abbrev pub positions_of : State → List Position
positions_of (statement_start done) = positions.StatementStart ∷ positions.NameStart ∷ []
positions_of (behind_names done names) = positions.BehindNames ∷ []
positions_of (behind_comma done names) = positions.NameStart ∷ []
positions_of (behind_local done) = positions.BehindLocal ∷ positions.NameStart ∷ []
positions_of (behind_local_names done names) = positions.StatementStart ∷ positions.NameStart ∷ positions.BehindLocalNames ∷ []
positions_of (behind_local_comma done names) = positions.NameStart ∷ []
positions_of (operand_start outer around) = positions.ExpressionStart ∷ positions.NameStart ∷ []
positions_of (behind_whole first operand outer around) = behind_expression around Whole
positions_of (behind_prefix first base suffixes outer around) = behind_expression around Prefix
positions_of (behind_dot first base suffixes dot outer around) = positions.NameStart ∷ []
positions_of (field_start table fields outer around) = positions.ExpressionStart ∷ positions.NameStart ∷ []
positions_of (behind_field_name first name table fields outer around) = positions_behind Prefix
positions_of (behind_field_key first made table fields outer around) = []
positions_of (finished done) = []

-- ---- what a reader that stops says

-- the token may not stand there, and the table says which fault that is
pub record IsRefused (state : State) (token : Token) (fault : SyntaxFault) : Type 0 where
  pub refused : step state token ≡ None
  pub is : fault ≡ refusal (positions_of state) token

-- the token may stand there, and opens one bracket more than the 100 that are open
pub record IsDeep (depth : ℕ) (state : State) (token : Token) (fault : SyntaxFault) : Type 0 where
  pub next : State
  pub taken : step state token ≡ Some next
  pub opens : IsTrue (is_opening token.kind)
  pub full : 100 ≤ depth
  pub is : fault ≡ faults.TooDeep token.place

-- from the state, with so many brackets open, the tokens lead to one that is at fault
pub record Fails (depth : ℕ) (state : State) (tokens : List Token) (fault : SyntaxFault) : Type 0 where
  pub front : List Token
  pub token : Token
  pub rest : List Token
  pub cut : tokens ≡ front ++ token ∷ rest
  pub next : State
  pub runs : run (Some state) front ≡ Some next
  pub low : IsLow depth front
  pub why : IsRefused next token fault ⊎ IsDeep (open_behind depth front) next token fault

abbrev pub IsFailure : ℕ → State → List Token → SyntaxFault → Type 0
IsFailure depth state tokens fault = (fault ≡ faults.NoMemory) ⊎ Fails depth state tokens fault

-- ---- single tokens

abbrev pub IsNoName : Token → Type 0
IsNoName token = (name : List ℕ) → IsName token name → ⊥

-- the first of the tokens isn't this symbol, and stands at these places
pub record IsOther (symbol : Symbol) (at : List Position) (tokens : List Token) (fault : SyntaxFault) : Type 0 where
  pub token : Token
  pub rest : List Token
  pub cut : tokens ≡ token ∷ rest
  pub other : token.kind ≢ kinds.Symbol symbol
  pub is : fault ≡ refusal at token

-- the first of the tokens is no name, and stands at these places
pub record IsNameless (at : List Position) (tokens : List Token) (fault : SyntaxFault) : Type 0 where
  pub token : Token
  pub rest : List Token
  pub cut : tokens ≡ token ∷ rest
  pub other : IsNoName token
  pub is : fault ≡ refusal at token

-- names and a comma, and then no name
pub record IsNamelessBehind (tokens : List Token) (fault : SyntaxFault) : Type 0 where
  pub front : List Token
  pub names : List Named
  pub comma : Token
  pub rest : List Token
  pub cut : tokens ≡ front ++ comma ∷ rest
  pub is : IsNames front names
  pub separates : comma.kind ≡ kinds.Symbol symbols.Comma
  pub nameless : IsNameless (positions.NameStart ∷ []) rest fault

-- the token is no literal
pub record BeginsNoOther (token : Token) : Type 0 where
  pub no_nil : token.kind ≢ kinds.Keyword keywords.Nil
  pub no_true : token.kind ≢ kinds.Keyword keywords.True
  pub no_false : token.kind ≢ kinds.Keyword keywords.False
  pub no_int : (n : ℕ) → token.kind ≢ kinds.Int n
  pub no_text : (bytes : List ℕ) → token.kind ≢ kinds.Text bytes

-- ---- brackets

-- a `[`, which a `]` closes
abbrev pub IsSquare : Bracket → Type 0
IsSquare (in_subscript first base suffixes opening outer) = Unit {0}
IsSquare (in_key opening table fields outer) = Unit {0}
IsSquare (in_paren first outer) = ⊥
IsSquare (in_field first key table fields outer) = ⊥

-- behind its `[`, which leads to an expression in it
abbrev pub FailsInSquare : ℕ → ℕ → List Token → SyntaxFault → Type 0
FailsInSquare depth place tokens fault =
    (state : State) (opening : Token) (bracket : Bracket) (around : Around) → opening.kind ≡ kinds.Symbol symbols.OpenBracket
    → opening.place ≡ place → IsSquare bracket → step state opening ≡ Some (operand_start nothing (within bracket around))
    → IsFailure depth state (opening ∷ tokens) fault

-- behind its `{`, which leads to the fields of a table
abbrev pub FailsInTable : ℕ → ℕ → List Token → SyntaxFault → Type 0
FailsInTable depth place tokens fault =
    (state : State) (opening : Token) (outer : Pending) (around : Around) → opening.kind ≡ kinds.Symbol symbols.OpenBrace
    → opening.place ≡ place → step state opening ≡ Some (field_start place [] outer around)
    → IsFailure depth state (opening ∷ tokens) fault

-- where an operand begins
abbrev pub FailsAtOperand : ℕ → List Token → SyntaxFault → Type 0
FailsAtOperand depth tokens fault = (outer : Pending) (around : Around) → IsFailure depth (operand_start outer around) tokens fault

-- where an expression begins
abbrev pub FailsAtExpression : ℕ → List Token → SyntaxFault → Type 0
FailsAtExpression depth tokens fault = (around : Around) → IsFailure depth (operand_start nothing around) tokens fault

-- behind a prefix
abbrev pub FailsBehindPrefix : ℕ → List Token → SyntaxFault → Type 0
FailsBehindPrefix depth tokens fault =
    (first : ℕ) (base : Expr) (suffixes : List Suffix) (outer : Pending) (around : Around) → IsFailure depth (behind_prefix first base suffixes outer around) tokens fault

-- where a field may begin
abbrev pub FailsAtField : ℕ → List Token → SyntaxFault → Type 0
FailsAtField depth tokens fault =
    (table : ℕ) (fields : List Field) (outer : Pending) (around : Around) → IsFailure depth (field_start table fields outer around) tokens fault

-- behind its opening bracket
abbrev pub KeepsBehind : ℕ → List Token → List Token → Type 0
KeepsBehind depth tokens rest = (opening : Token) → IsTrue (is_opening opening.kind) → Keeps depth (opening ∷ tokens) rest

-- ---- statements

abbrev pub positions_before : Before → List Position
positions_before before.Start = positions.StatementStart ∷ positions.NameStart ∷ []
positions_before before.LocalNames = positions.StatementStart ∷ positions.NameStart ∷ positions.BehindLocalNames ∷ []
positions_before (before.Value ending) = positions.StatementStart ∷ positions.NameStart ∷ positions_behind ending

-- behind these statements and what stands before, in this state, the first of the tokens begins a statement or nothing
pub record AwaitsStatement (before : Before) (done : List Statement) (state : State) (tokens : List Token) : Type 0 where
  pub positions_are : positions_of state ≡ positions_before before
  pub begins : (token : Token) (rest : List Token) → tokens ≡ token ∷ rest → step state token ≡ on_statement done token.place token.kind

-- the tokens lead from a state to the rest, behind so many statements more
pub record LeadsOn (before : Before) (done : List Statement) (state : State) (tokens rest : List Token) : Type 0 where
  pub front : List Token
  pub cut : tokens ≡ front ++ rest
  pub next : State
  pub runs : run (Some state) front ≡ Some next
  pub awaits : AwaitsStatement before done next rest

-- the first of the tokens is no separator and no `}`, and stands behind an expression that ends so
pub record IsUnseparated (ending : Ending) (tokens : List Token) (fault : SyntaxFault) : Type 0 where
  pub token : Token
  pub rest : List Token
  pub cut : tokens ≡ token ∷ rest
  pub no_comma : token.kind ≢ kinds.Symbol symbols.Comma
  pub no_semicolon : token.kind ≢ kinds.Symbol symbols.Semicolon
  pub no_brace : token.kind ≢ kinds.Symbol symbols.CloseBrace
  pub is : fault ≡ refusal (positions_behind ending) token

abbrev pub NoEnd : Token → Type 0
NoEnd token = token.kind ≢ kinds.End

abbrev pub maybe : Option Statement → List Statement
maybe None = []
maybe (Some statement) = statement ∷ []

-- what follows a field is at fault, and so is the field with it
abbrev pub StopsBehind : ℕ → List Token → Ending → List Token → Type 0
StopsBehind depth tokens ending rest = (fault : SyntaxFault) → IsUnseparated ending rest fault → FailsAtField depth tokens fault
