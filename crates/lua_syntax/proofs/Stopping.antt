-- Behind an expression: where the token that follows stands, what it leads to, and which tokens lead nowhere.
use Rattle.std.proofs.Common.{◌≡◌, ◌≢◌, ℕ, ◌<◌, Bool, true, false, List, ◌∷◌, length, Some, None, codes, refl, sym, ap, subst, ◌∙◌}
use Rattle.std.specs.Prelude.{if◌then◌else◌}
use Rattle.std.specs.Str.{bytes_eq}
use Rattle.std.proofs.lemmas.Slice.Eq.{bytes_eq-Decides}
use Rattle.lua_lexer.specs.declared.token.Token.{Token}
use Rattle.lua_lexer.specs.declared.token.TokenKind.{TokenKind}
use Rattle.lua_lexer.specs.declared.token.TokenKind.TheVariants as kinds
use Rattle.lua_lexer.specs.declared.vocabulary.Symbol.TheVariants as symbols
use Rattle.lua_names.specs.declared.keyword.Keyword.TheVariants as keywords
use Rattle.lua_syntax.specs.declared.position.Ending.{Ending}
use Rattle.lua_syntax.specs.declared.tree.Expr.{Expr}
use Rattle.lua_syntax.specs.declared.tree.Field.{Field}
use Rattle.lua_syntax.specs.declared.tree.FieldKey.{FieldKey}
use Rattle.lua_syntax.specs.declared.tree.Statement.{Statement}
use Rattle.lua_syntax.specs.Reading.{NotAhead, NoSuffix, ending_of}
use Rattle.lua_syntax.specs.Failing.{behind_expression, positions_of, IsNoName, BeginsNoOther, IsSquare}
use Rattle.lua_syntax.specs.States.{Pending, Bracket, in_paren, in_subscript, in_key, in_field, Around, within, State, on_name, on_statement, on_operand, on_end, on_whole, on_only_name, step_by, step, run}
use Rattle.lua_syntax.proofs.LastToken.{ends_whole, ends_prefix}
use Rattle.lua_syntax.proofs.Reached.{at_prefix, AtOperandEnd, whole_end, prefix_end, prefix_passes, AtEnd, at_end, whole_passes}

-- ---- behind an expression

-- behind the last operand, the next token stands behind an expression that ends as the tokens do
operand_positions : (last : Expr) (first : ℕ) (outer : Pending) (around : Around) (from state : State) (tokens : List Token) (ending : Ending) → AtOperandEnd false last first outer around state
    → run (Some from) tokens ≡ Some state → 0 < length tokens → ending_of tokens ≡ ending → positions_of state ≡ behind_expression around ending
operand_positions last first outer around from state tokens ending whole_end runs some ends =
    ap (behind_expression around) (sym (ends_whole from first last outer around tokens some runs) ∙ ends)
operand_positions last first outer around from state tokens ending (prefix_end {base} {suffixes} at_prefix) runs some ends =
    ap (behind_expression around) (sym (ends_prefix from first base suffixes outer around tokens some runs) ∙ ends)

-- behind an expression, the next token stands behind one that ends as its tokens do
pub end_positions : (made : Expr) (around : Around) (from state : State) (tokens : List Token) (ending : Ending) → AtEnd false made around state
    → run (Some from) tokens ≡ Some state → 0 < length tokens → ending_of tokens ≡ ending → positions_of state ≡ behind_expression around ending
end_positions made around from state tokens ending (at_end {made = last} {first} {pe = outer} at) runs some ends =
    operand_positions last first outer around from state tokens ending at runs some ends

-- behind the last operand, a token that goes on with no expression is taken as behind the whole
operand_steps : (last : Expr) (first : ℕ) (outer : Pending) (around : Around) (from state : State) (tokens : List Token) (ending : Ending) (token : Token) (rest : List Token)
    → AtOperandEnd false last first outer around state → run (Some from) tokens ≡ Some state → 0 < length tokens → ending_of tokens ≡ ending
    → NotAhead symbols.Concat (token ∷ rest) → NoSuffix ending (token ∷ rest) → step state token ≡ on_whole first last outer around token.place token.kind
unfolding step_by
operand_steps last first outer around from state tokens ending token rest whole_end runs some ends no_operator no_suffix = refl
operand_steps last first outer around from state tokens ending token rest (prefix_end {base} {suffixes} at_prefix) runs some ends no_operator no_suffix =
    let none = subst (λ (at : Ending). NoSuffix at (token ∷ rest)) (sym ends ∙ ends_prefix from first base suffixes outer around tokens some runs) no_suffix in
    prefix_passes first base suffixes outer around token.place token.kind (none.0 token rest refl) (none.1 token rest refl)

-- behind an expression, a token that doesn't go on with it is taken as there
pub end_steps : (made : Expr) (around : Around) (from state : State) (tokens : List Token) (ending : Ending) (token : Token) (rest : List Token) → AtEnd false made around state
    → run (Some from) tokens ≡ Some state → 0 < length tokens → ending_of tokens ≡ ending → NotAhead symbols.Concat (token ∷ rest) → NoSuffix ending (token ∷ rest)
    → step state token ≡ on_end around made token.place token.kind
end_steps made around from state tokens ending token rest (at_end {made = last} {first} {pe = outer} at) runs some ends no_operator no_suffix =
    operand_steps last first outer around from state tokens ending token rest at runs some ends no_operator no_suffix
    ∙ whole_passes first last outer around token.place token.kind (no_operator token rest refl)

-- ---- tokens that lead nowhere

-- in parentheses, any but `)`
pub end_refuses_paren : (first : ℕ) (outer : Pending) (around : Around) (made : Expr) (place : ℕ) (kind : TokenKind) → kind ≢ kinds.Symbol symbols.CloseParen
    → on_end (within (in_paren first outer) around) made place kind ≡ None
unfolding on_end
end_refuses_paren first outer around made place (kinds.Symbol symbols.CloseParen) other = absurd (other refl)
end_refuses_paren first outer around made place _ other = refl

-- in square brackets, any but `]`
pub end_refuses_square : (bracket : Bracket) (around : Around) (made : Expr) (place : ℕ) (kind : TokenKind) → IsSquare bracket → kind ≢ kinds.Symbol symbols.CloseBracket
    → on_end (within bracket around) made place kind ≡ None
unfolding on_end
end_refuses_square (in_subscript first base suffixes opening outer) around made place (kinds.Symbol symbols.CloseBracket) square other = absurd (other refl)
end_refuses_square (in_subscript first base suffixes opening outer) around made place _ square other = refl
end_refuses_square (in_key opening table fields outer) around made place (kinds.Symbol symbols.CloseBracket) square other = absurd (other refl)
end_refuses_square (in_key opening table fields outer) around made place _ square other = refl
end_refuses_square (in_paren first outer) around made place kind square other = absurd square
end_refuses_square (in_field first key table fields outer) around made place kind square other = absurd square

-- in a field, any but a separator and `}`
pub end_refuses_field : (first : ℕ) (key : FieldKey) (table : ℕ) (fields : List Field) (outer : Pending) (around : Around) (made : Expr) (place : ℕ) (kind : TokenKind)
    → kind ≢ kinds.Symbol symbols.Comma → kind ≢ kinds.Symbol symbols.Semicolon → kind ≢ kinds.Symbol symbols.CloseBrace
    → on_end (within (in_field first key table fields outer) around) made place kind ≡ None
unfolding on_end
end_refuses_field first key table fields outer around made place (kinds.Symbol symbols.Comma) no_comma no_semicolon no_brace = absurd (no_comma refl)
end_refuses_field first key table fields outer around made place (kinds.Symbol symbols.Semicolon) no_comma no_semicolon no_brace = absurd (no_semicolon refl)
end_refuses_field first key table fields outer around made place (kinds.Symbol symbols.CloseBrace) no_comma no_semicolon no_brace = absurd (no_brace refl)
end_refuses_field first key table fields outer around made place _ no_comma no_semicolon no_brace = refl

-- the test for `_ENV`
by_test : (test : Bool) (next : State) → (test ≡ false → ⊥) → (if test then None else Some next) ≡ None
by_test true next fails = refl
by_test false next fails = absurd (fails refl)

-- a name that is `_ENV`
name_refused : (bytes : List ℕ) (next : State) → (bytes ≢ codes "_ENV" → ⊥) → on_name bytes next ≡ None
name_refused bytes next same =
    by_test (bytes_eq bytes (codes "_ENV")) next (λ no. same (λ is. let e : true ≡ false = sym ((bytes_eq-Decides bytes (codes "_ENV")).1 is) ∙ no in cc))

-- a kind that is no name of the grammar
abbrev NoNameKind : TokenKind → Type 0
NoNameKind kind = (name : List ℕ) → kind ≡ kinds.Name name → name ≢ codes "_ENV" → ⊥

-- where only a name may stand, a kind that is none
only_name_kind : (next : List ℕ → State) (kind : TokenKind) → NoNameKind kind → on_only_name next kind ≡ None
unfolding on_only_name
only_name_kind next (kinds.Name bytes) no_name = name_refused bytes (next bytes) (no_name bytes refl)
only_name_kind next _ no_name = refl

-- where only a name may stand, any token that is none
pub only_name_refuses : (next : List ℕ → State) (token : Token) → IsNoName token → on_only_name next token.kind ≡ None
only_name_refuses next token no_name = only_name_kind next token.kind (λ name is other. no_name name (is, other))

-- where a statement may begin, a kind that begins none
statement_kind : (done : List Statement) (place : ℕ) (kind : TokenKind) → kind ≢ kinds.Symbol symbols.Semicolon → kind ≢ kinds.Keyword keywords.Local → kind ≢ kinds.End → NoNameKind kind
    → on_statement done place kind ≡ None
unfolding on_statement
statement_kind done place (kinds.Symbol symbols.Semicolon) no_semicolon no_local no_end no_name = absurd (no_semicolon refl)
statement_kind done place (kinds.Keyword keywords.Local) no_semicolon no_local no_end no_name = absurd (no_local refl)
statement_kind done place (kinds.Name bytes) no_semicolon no_local no_end no_name = name_refused bytes _ (no_name bytes refl)
statement_kind done place kinds.End no_semicolon no_local no_end no_name = absurd (no_end refl)
statement_kind done place _ no_semicolon no_local no_end no_name = refl

-- where a statement may begin, any token but `;`, `local`, a name and the end
pub statement_refuses : (done : List Statement) (token : Token) → token.kind ≢ kinds.Symbol symbols.Semicolon → token.kind ≢ kinds.Keyword keywords.Local → token.kind ≢ kinds.End → IsNoName token
    → on_statement done token.place token.kind ≡ None
statement_refuses done token no_semicolon no_local no_end no_name = statement_kind done token.place token.kind no_semicolon no_local no_end (λ name is other. no_name name (is, other))

-- where an operand begins, a kind that begins none
operand_kind : (outer : Pending) (around : Around) (place : ℕ) (kind : TokenKind) → BeginsNoOther (record { place = place; kind = kind }) → NoNameKind kind
    → kind ≢ kinds.Symbol symbols.OpenParen → kind ≢ kinds.Symbol symbols.OpenBrace → on_operand outer around place kind ≡ None
unfolding on_operand
operand_kind outer around place (kinds.Keyword keywords.Nil) other no_name no_paren no_brace = absurd (other.no_nil refl)
operand_kind outer around place (kinds.Keyword keywords.True) other no_name no_paren no_brace = absurd (other.no_true refl)
operand_kind outer around place (kinds.Keyword keywords.False) other no_name no_paren no_brace = absurd (other.no_false refl)
operand_kind outer around place (kinds.Int n) other no_name no_paren no_brace = absurd (other.no_int n refl)
operand_kind outer around place (kinds.Text bytes) other no_name no_paren no_brace = absurd (other.no_text bytes refl)
operand_kind outer around place (kinds.Name bytes) other no_name no_paren no_brace = name_refused bytes _ (no_name bytes refl)
operand_kind outer around place (kinds.Symbol symbols.OpenParen) other no_name no_paren no_brace = absurd (no_paren refl)
operand_kind outer around place (kinds.Symbol symbols.OpenBrace) other no_name no_paren no_brace = absurd (no_brace refl)
operand_kind outer around place _ other no_name no_paren no_brace = refl

-- where an operand begins, any token but a literal, a name, `(` and `{`
pub operand_refuses : (outer : Pending) (around : Around) (token : Token) → BeginsNoOther token → IsNoName token
    → token.kind ≢ kinds.Symbol symbols.OpenParen → token.kind ≢ kinds.Symbol symbols.OpenBrace → on_operand outer around token.place token.kind ≡ None
operand_refuses outer around token other no_name no_paren no_brace =
    operand_kind outer around token.place token.kind other (λ name is other_name. no_name name (is, other_name)) no_paren no_brace
