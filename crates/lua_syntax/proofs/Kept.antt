-- What the readers take closes as many brackets as it opens.
use Rattle.std.proofs.Common.{◌≡◌, inl, inr, ℕ, ◌+◌, ◌<◌, ◌≤◌, List, ◌∷◌, refl, sym, ap, subst, ◌∙◌, arith}
use Rattle.std.specs.Prelude.{IsTrue}
use Rattle.lua_lexer.specs.declared.token.Token.{Token}
use Rattle.lua_lexer.specs.declared.token.TokenKind.{TokenKind}
use Rattle.lua_lexer.specs.declared.token.TokenKind.TheVariants as kinds
use Rattle.lua_lexer.specs.declared.vocabulary.Symbol.{Symbol}
use Rattle.lua_lexer.specs.declared.vocabulary.Symbol.TheVariants as symbols
use Rattle.lua_syntax.specs.declared.tree.ExprKind.{ExprKind}
use Rattle.lua_syntax.specs.declared.tree.Named.{Named}
use Rattle.lua_syntax.specs.Brackets.{is_opening, open_after, Keeps}
use Rattle.lua_syntax.specs.Failing.{KeepsBehind}
use Rattle.lua_syntax.specs.Fields.{HeadsNamedField}
use Rattle.lua_syntax.specs.Grammar.{IsName, IsSeparator}
use Rattle.lua_syntax.specs.Reading.{Heads, HeadsName, IsLiteral, Separated}
use Rattle.lua_syntax.proofs.Levels.{keeps_none, keeps_then, keeps_token, keeps_name, keeps_bracket}

abbrev pub Closed : Symbol → List Token → List Token → Type 0
Closed symbol tokens rest = (place : ℕ) × Heads symbol tokens place rest

-- a symbol that is no bracket
abbrev pub IsFlat : Symbol → Type 0
IsFlat symbol = (depth : ℕ) → open_after depth (kinds.Symbol symbol) ≡ depth

pub concat_flat : IsFlat symbols.Concat
concat_flat depth = refl

pub comma_flat : IsFlat symbols.Comma
comma_flat depth = refl

pub assign_flat : IsFlat symbols.Assign
assign_flat depth = refl

pub dot_flat : IsFlat symbols.Dot
dot_flat depth = refl

module _ (depth : ℕ) (tokens : List Token) (low : depth ≤ 100) where
  pub kept_named : (token : Token) (rest : List Token) (bytes : List ℕ) → tokens ≡ token ∷ rest → IsName token bytes → Keeps depth tokens rest
  kept_named token rest bytes cut is = keeps_token depth tokens token rest low cut (ap (open_after depth) is.0)

  pub kept_literal : (token : Token) (rest : List Token) (kind : ExprKind) → tokens ≡ token ∷ rest → IsLiteral token kind → Keeps depth tokens rest
  kept_literal token rest kind cut is = keeps_token depth tokens token rest low cut (is.level depth)

  pub kept_symbol : (symbol : Symbol) (place : ℕ) (rest : List Token) → IsFlat symbol → Heads symbol tokens place rest → Keeps depth tokens rest
  kept_symbol symbol place rest flat h = keeps_token depth tokens h.token rest low h.cut (ap (open_after depth) h.is ∙ flat depth)

  -- what a symbol and further tokens keep
  pub kept_behind : (symbol : Symbol) (place : ℕ) (mid rest : List Token) → IsFlat symbol → Heads symbol tokens place mid → Keeps depth mid rest → Keeps depth tokens rest
  kept_behind symbol place mid rest flat h kept = keeps_then depth tokens mid rest (kept_symbol symbol place mid flat h) kept

  pub kept_dotted : (place : ℕ) (mid : List Token) (found : Named) (rest : List Token) → Heads symbols.Dot tokens place mid → HeadsName mid found rest → Keeps depth tokens rest
  kept_dotted place mid found rest h n = kept_behind symbols.Dot place mid rest dot_flat h (keeps_name depth mid found rest low n)

  pub kept_named_field : (token : Token) (rest : List Token) → HeadsNamedField tokens token rest → Keeps depth tokens rest
  kept_named_field token rest h = keeps_then depth tokens (h.assign ∷ rest) rest
      (keeps_token depth tokens token (h.assign ∷ rest) low h.cut (ap (open_after depth) h.is))
      (keeps_token depth (h.assign ∷ rest) h.assign rest low refl (ap (open_after depth) h.assigns))

  by_separator : (separator : Token) (rest : List Token) → tokens ≡ separator ∷ rest → IsSeparator separator → Keeps depth tokens rest
  by_separator separator rest cut (inl comma) = keeps_token depth tokens separator rest low cut (ap (open_after depth) comma)
  by_separator separator rest cut (inr semicolon) = keeps_token depth tokens separator rest low cut (ap (open_after depth) semicolon)

  pub kept_separated : (rest : List Token) → Separated tokens rest → Keeps depth tokens rest
  kept_separated rest (inl b) = by_separator b.separator rest b.cut b.separates
  kept_separated rest (inr b) = subst (λ (l : List Token). Keeps depth tokens l) (sym b.0) (keeps_none depth tokens)

  -- in brackets
  pub kept_opened : (symbol : Symbol) (place : ℕ) (mid rest : List Token) → IsTrue (is_opening (kinds.Symbol symbol)) → Heads symbol tokens place mid → KeepsBehind depth mid rest → Keeps depth tokens rest
  kept_opened symbol place mid rest opens h kept =
      subst (λ (l : List Token). Keeps depth l rest) (sym h.cut) (kept h.token (subst (λ (k : TokenKind). IsTrue (is_opening k)) (sym h.is) opens))

  -- behind an opening bracket
  pub kept_inside : (symbol : Symbol) (mid rest : List Token) → ((d : ℕ) → open_after (d + 1) (kinds.Symbol symbol) ≡ d) → depth < 100 → Keeps (depth + 1) tokens mid
      → Closed symbol mid rest → KeepsBehind depth tokens rest
  kept_inside symbol mid rest closes below kept closed opening opens =
      keeps_bracket depth opening tokens mid closed.1.token rest below opens kept closed.1.cut (ap (open_after (depth + 1)) closed.1.is ∙ closes depth)

pub paren_closes : (d : ℕ) → open_after (d + 1) (kinds.Symbol symbols.CloseParen) ≡ d
paren_closes d = omega arith

pub bracket_closes : (d : ℕ) → open_after (d + 1) (kinds.Symbol symbols.CloseBracket) ≡ d
bracket_closes d = omega arith

pub brace_closes : (d : ℕ) → open_after (d + 1) (kinds.Symbol symbols.CloseBrace) ≡ d
brace_closes d = omega arith
