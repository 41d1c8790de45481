-- The places of a chunk: those of its names, expressions, suffixes, operators and fields.
use Rattle.std.specs.Prelude.{◌≡◌, ◌⊎◌, ℕ, List, ◌∷◌}
use Rattle.lua_lexer.specs.declared.token.Token.{Token}
use Rattle.lua_syntax.specs.declared.tree.Expr.{Expr}
use Rattle.lua_syntax.specs.declared.tree.ExprKind.TheVariants as exprs
use Rattle.lua_syntax.specs.declared.tree.Field.{Field}
use Rattle.lua_syntax.specs.declared.tree.FieldKey.TheVariants as field_keys
use Rattle.lua_syntax.specs.declared.tree.LuaChunk.{LuaChunk}
use Rattle.lua_syntax.specs.declared.tree.Named.{Named}
use Rattle.lua_syntax.specs.declared.tree.Statement.{Statement}
use Rattle.lua_syntax.specs.declared.tree.Statement.TheVariants as statements
use Rattle.lua_syntax.specs.declared.tree.Suffix.{Suffix}

-- it is one of the list
pub data Among {A : Type 0} (one : A) : List A → Type 0 where
  here : {others : List A} → Among one (one ∷ others)
  there : {other : A} {others : List A} → Among one others → Among one (other ∷ others)

-- ---- expressions

mutual
  -- the place is the expression's, or one in it
  pub data InExpr (place : ℕ) : Expr → Type 0 where
    of_expr : {made : Expr} → place ≡ made.place → InExpr place made
    in_base : {made : Expr} (base : Expr) (suffixes : List Suffix) → made.kind ≡ exprs.Index base suffixes → InExpr place base → InExpr place made
    in_suffix : {made : Expr} (base : Expr) (suffixes : List Suffix) (suffix : Suffix)
        → made.kind ≡ exprs.Index base suffixes → Among suffix suffixes → InSuffix place suffix → InExpr place made
    in_operand : {made : Expr} (operands : List Expr) (operators : List ℕ) (operand : Expr)
        → made.kind ≡ exprs.Concat operands operators → Among operand operands → InExpr place operand → InExpr place made
    of_operator : {made : Expr} (operands : List Expr) (operators : List ℕ) → made.kind ≡ exprs.Concat operands operators → Among place operators → InExpr place made
    in_field : {made : Expr} (fields : List Field) (field : Field) → made.kind ≡ exprs.Table fields → Among field fields → InField place field → InExpr place made

  pub data InSuffix (place : ℕ) : Suffix → Type 0 where
    of_suffix : {suffix : Suffix} → place ≡ suffix.place → InSuffix place suffix
    in_suffix_key : {suffix : Suffix} → InExpr place suffix.key → InSuffix place suffix

  pub data InField (place : ℕ) : Field → Type 0 where
    of_field : {field : Field} → place ≡ field.place → InField place field
    in_field_key : {field : Field} (key : Expr) → field.key ≡ field_keys.Given key → InExpr place key → InField place field
    in_value : {field : Field} → InExpr place field.value → InField place field

-- ---- statements

-- of one of the names
abbrev pub InNames : ℕ → List Named → Type 0
InNames place names = (named : Named) × Among named names × (place ≡ named.place)

-- in one of the values
abbrev pub InValues : ℕ → List Expr → Type 0
InValues place values = (value : Expr) × Among value values × InExpr place value

abbrev pub InStatement : ℕ → Statement → Type 0
InStatement place (statements.Assign names values) = InNames place names ⊎ InValues place values
InStatement place (statements.Local names values) = InNames place names ⊎ InValues place values

-- the place is one in the chunk
abbrev pub IsPlaceIn : LuaChunk → ℕ → Type 0
IsPlaceIn chunk place = (statement : Statement) × Among statement chunk.statements × InStatement place statement

-- the place is that of one of the tokens
abbrev pub IsPlaceOf : List Token → ℕ → Type 0
IsPlaceOf tokens place = (token : Token) × Among token tokens × (place ≡ token.place)
