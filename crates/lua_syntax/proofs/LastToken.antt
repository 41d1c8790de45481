-- What a state says of the token that led to it.
use Rattle.std.proofs.Common.{◌≡◌, ℕ, ◌<◌, Bool, true, false, List, [], ◌∷◌, ◌++◌, length, Option, Some, None, codes, refl, sym, subst, ◌∙◌, arith}
use Rattle.std.specs.Prelude.{if◌then◌else◌}
use Rattle.std.specs.Str.{bytes_eq}
use Rattle.lua_lexer.specs.declared.token.Token.{Token}
use Rattle.lua_lexer.specs.declared.token.TokenKind.{TokenKind}
use Rattle.lua_lexer.specs.declared.token.TokenKind.TheVariants as kinds
use Rattle.lua_lexer.specs.declared.vocabulary.Symbol.TheVariants as symbols
use Rattle.lua_names.specs.declared.keyword.Keyword.TheVariants as keywords
use Rattle.lua_syntax.specs.declared.position.Ending.{Ending}
use Rattle.lua_syntax.specs.declared.position.Ending.TheVariants.{Whole, Prefix}
use Rattle.lua_syntax.specs.declared.tree.Expr.{Expr}
use Rattle.lua_syntax.specs.declared.tree.ExprKind.TheVariants as exprs
use Rattle.lua_syntax.specs.declared.tree.Field.{Field}
use Rattle.lua_syntax.specs.declared.tree.FieldKey.TheVariants as field_keys
use Rattle.lua_syntax.specs.declared.tree.Named.{Named}
use Rattle.lua_syntax.specs.declared.tree.Statement.{Statement}
use Rattle.lua_syntax.specs.declared.tree.Statement.TheVariants as statements
use Rattle.lua_syntax.specs.declared.tree.Suffix.{Suffix}
use Rattle.lua_syntax.specs.Grammar.{node, indexed}
use Rattle.lua_syntax.specs.Reading.{ending_by, ending_of}
use Rattle.lua_syntax.specs.States.{Pending, nothing, in_paren, in_subscript, in_key, in_field, Around, among_values, within, State, statement_start, behind_names, behind_comma, behind_local, behind_local_names, behind_local_comma, operand_start, behind_whole, behind_prefix, behind_dot, field_start, behind_field_name, behind_field_key, finished, closed, with_value, with_statement, on_name, on_statement, on_operand, on_end, on_whole, on_prefix, on_field, on_field_name, on_names, on_local_names, on_only_name, on_assign, step_by, run}
use Rattle.lua_syntax.proofs.Ends.{ending_of-append}
use Rattle.lua_syntax.proofs.Runs.{run-append}

-- an operand ends with such a token, and `local` stands last where its names are wanted
abbrev pub LastIs : State → TokenKind → Type 0
LastIs (behind_whole first operand pe around) kind = ending_by kind ≡ Whole
LastIs (behind_prefix first base suffixes pe around) kind = ending_by kind ≡ Prefix
LastIs (behind_field_name first bytes table fields pe around) kind = ending_by kind ≡ Prefix
LastIs (behind_local done) kind = kind ≡ kinds.Keyword keywords.Local
LastIs _ kind = Unit {0}

-- where a token of this kind leads somewhere, that is so
abbrev Reaches : Option State → TokenKind → Type 0
Reaches None kind = Unit {0}
Reaches (Some state) kind = LastIs state kind

by_name : (test : Bool) (next : State) (kind : TokenKind) → LastIs next kind → Reaches (if test then None else Some next) kind
by_name true next kind is = tt
by_name false next kind is = is

name_last : (bytes : List ℕ) (next : State) (kind : TokenKind) → LastIs next kind → Reaches (on_name bytes next) kind
name_last bytes next kind is = by_name (bytes_eq bytes (codes "_ENV")) next kind is

statement_last : (done : List Statement) (place : ℕ) (kind : TokenKind) → Reaches (on_statement done place kind) kind
unfolding on_statement
statement_last done place (kinds.Symbol symbols.Semicolon) = tt
statement_last done place (kinds.Keyword keywords.Local) = refl
statement_last done place (kinds.Name bytes) = name_last bytes (behind_names done (record { place = place; name = bytes } ∷ [])) (kinds.Name bytes) tt
statement_last done place kinds.End = tt
statement_last done place _ = tt

operand_last : (pe : Pending) (around : Around) (place : ℕ) (kind : TokenKind) → Reaches (on_operand pe around place kind) kind
unfolding on_operand
operand_last pe around place (kinds.Keyword keywords.Nil) = refl
operand_last pe around place (kinds.Keyword keywords.True) = refl
operand_last pe around place (kinds.Keyword keywords.False) = refl
operand_last pe around place (kinds.Int n) = refl
operand_last pe around place (kinds.Text bytes) = refl
operand_last pe around place (kinds.Name bytes) = name_last bytes (behind_prefix place (node place (exprs.Name bytes)) [] pe around) (kinds.Name bytes) refl
operand_last pe around place (kinds.Symbol symbols.OpenParen) = tt
operand_last pe around place (kinds.Symbol symbols.OpenBrace) = tt
operand_last pe around place _ = tt

end_last : (around : Around) (made : Expr) (place : ℕ) (kind : TokenKind) → Reaches (on_end around made place kind) kind
unfolding on_end
end_last (among_values wanting) made place (kinds.Symbol symbols.Comma) = tt
end_last (among_values wanting) made place kind = statement_last (with_statement (with_value wanting made)) place kind
end_last (within (in_paren first pe) around) made place (kinds.Symbol symbols.CloseParen) = refl
end_last (within (in_subscript first base suffixes opening pe) around) made place (kinds.Symbol symbols.CloseBracket) = refl
end_last (within (in_key opening table fields pe) around) made place (kinds.Symbol symbols.CloseBracket) = tt
end_last (within (in_field first key table fields pe) around) made place (kinds.Symbol symbols.Comma) = tt
end_last (within (in_field first key table fields pe) around) made place (kinds.Symbol symbols.Semicolon) = tt
end_last (within (in_field first key table fields pe) around) made place (kinds.Symbol symbols.CloseBrace) = refl
end_last (within _ around) made place _ = tt

whole_last : (first : ℕ) (operand : Expr) (pe : Pending) (around : Around) (place : ℕ) (kind : TokenKind) → Reaches (on_whole first operand pe around place kind) kind
unfolding on_whole
whole_last first operand pe around place (kinds.Symbol symbols.Concat) = tt
whole_last first operand pe around place kind = end_last around (closed pe operand) place kind

prefix_last : (first : ℕ) (base : Expr) (suffixes : List Suffix) (pe : Pending) (around : Around) (place : ℕ) (kind : TokenKind) → Reaches (on_prefix first base suffixes pe around place kind) kind
unfolding on_prefix
prefix_last first base suffixes pe around place (kinds.Symbol symbols.Dot) = tt
prefix_last first base suffixes pe around place (kinds.Symbol symbols.OpenBracket) = tt
prefix_last first base suffixes pe around place kind = whole_last first (indexed first base suffixes) pe around place kind

field_last : (table : ℕ) (fields : List Field) (pe : Pending) (around : Around) (place : ℕ) (kind : TokenKind) → Reaches (on_field table fields pe around place kind) kind
unfolding on_field
field_last table fields pe around place (kinds.Symbol symbols.CloseBrace) = refl
field_last table fields pe around place (kinds.Symbol symbols.OpenBracket) = tt
field_last table fields pe around place (kinds.Name bytes) = name_last bytes (behind_field_name place bytes table fields pe around) (kinds.Name bytes) refl
field_last table fields pe around place kind = operand_last nothing (within (in_field place field_keys.Position table fields pe) around) place kind

field_name_last : (first : ℕ) (bytes : List ℕ) (table : ℕ) (fields : List Field) (pe : Pending) (around : Around) (place : ℕ) (kind : TokenKind) → Reaches (on_field_name first bytes table fields pe around place kind) kind
unfolding on_field_name
field_name_last first bytes table fields pe around place (kinds.Symbol symbols.Assign) = tt
field_name_last first bytes table fields pe around place kind = prefix_last first (node first (exprs.Name bytes)) [] nothing (within (in_field first field_keys.Position table fields pe) around) place kind

names_last : (done : List Statement) (ns : List Named) (kind : TokenKind) → Reaches (on_names done ns kind) kind
unfolding on_names
names_last done ns (kinds.Symbol symbols.Comma) = tt
names_last done ns (kinds.Symbol symbols.Assign) = tt
names_last done ns _ = tt

local_names_last : (done : List Statement) (ns : List Named) (place : ℕ) (kind : TokenKind) → Reaches (on_local_names done ns place kind) kind
unfolding on_local_names
local_names_last done ns place (kinds.Symbol symbols.Comma) = tt
local_names_last done ns place (kinds.Symbol symbols.Assign) = tt
local_names_last done ns place kind = statement_last (done ++ statements.Local ns [] ∷ []) place kind

only_name_last : (next : List ℕ → State) (kind : TokenKind) → ((bytes : List ℕ) → LastIs (next bytes) (kinds.Name bytes)) → Reaches (on_only_name next kind) kind
unfolding on_only_name
only_name_last next (kinds.Name bytes) is = name_last bytes (next bytes) (kinds.Name bytes) (is bytes)
only_name_last next _ is = tt

assign_last : (next : State) (kind : TokenKind) → LastIs next (kinds.Symbol symbols.Assign) → Reaches (on_assign next kind) kind
unfolding on_assign
assign_last next (kinds.Symbol symbols.Assign) is = is
assign_last next _ is = tt

step_last : (state : State) (place : ℕ) (kind : TokenKind) → Reaches (step_by state place kind) kind
unfolding step_by
step_last (statement_start done) place kind = statement_last done place kind
step_last (behind_names done ns) place kind = names_last done ns kind
step_last (behind_comma done ns) place kind = only_name_last (λ bytes. behind_names done (ns ++ record { place = place; name = bytes } ∷ [])) kind (λ bytes. tt)
step_last (behind_local done) place kind = only_name_last (λ bytes. behind_local_names done (record { place = place; name = bytes } ∷ [])) kind (λ bytes. tt)
step_last (behind_local_names done ns) place kind = local_names_last done ns place kind
step_last (behind_local_comma done ns) place kind = only_name_last (λ bytes. behind_local_names done (ns ++ record { place = place; name = bytes } ∷ [])) kind (λ bytes. tt)
step_last (operand_start pe around) place kind = operand_last pe around place kind
step_last (behind_whole first operand pe around) place kind = whole_last first operand pe around place kind
step_last (behind_prefix first base suffixes pe around) place kind = prefix_last first base suffixes pe around place kind
step_last (behind_dot first base suffixes dot pe around) place kind =
    only_name_last (λ bytes. behind_prefix first base (suffixes ++ record { place = dot; key = node place (exprs.Text bytes) } ∷ []) pe around) kind (λ bytes. refl)
step_last (field_start table fields pe around) place kind = field_last table fields pe around place kind
step_last (behind_field_name first bytes table fields pe around) place kind = field_name_last first bytes table fields pe around place kind
step_last (behind_field_key first made table fields pe around) place kind =
    assign_last (operand_start nothing (within (in_field first (field_keys.Given made) table fields pe) around)) kind tt
step_last (finished done) place kind = tt

step_on_last : (at : Option State) (token : Token) (next : State) → run at (token ∷ []) ≡ Some next → LastIs next token.kind
unfolding run
step_on_last None token next e = absurd (cc)
step_on_last (Some state) token next e = subst (λ (to : Option State). Reaches to token.kind) e (step_last state token.place token.kind)

-- the last of the tokens that led to a state is as the state says
pub run_last : (at : Option State) (front : List Token) (token : Token) (next : State) → run at (front ++ token ∷ []) ≡ Some next → LastIs next token.kind
run_last at front token next e = step_on_last (run at front) token next (sym (run-append at front (token ∷ [])) ∙ e)

-- some tokens are a front and a last one, which decides what they end with
pub data HasLast : List Token → Type 0 where
  has_last : (front : List Token) (token : Token) → HasLast (front ++ token ∷ [])

has_last_behind : (token : Token) (tokens : List Token) → HasLast tokens → HasLast (token ∷ tokens)
has_last_behind token tokens (has_last front last) = has_last (token ∷ front) last

pub has_last_of : (tokens : List Token) → 0 < length tokens → HasLast tokens
has_last_of [] some = absurd (omega arith)
has_last_of (token ∷ []) some = has_last [] token
has_last_of (token ∷ other ∷ others) some = has_last_behind token (other ∷ others) (has_last_of (other ∷ others) (omega arith))

by_last : (state next : State) (tokens : List Token) → HasLast tokens → run (Some state) tokens ≡ Some next
    → (ending : Ending) → ((kind : TokenKind) → LastIs next kind → ending_by kind ≡ ending) → ending_of tokens ≡ ending
by_last state next tokens (has_last front token) e ending decides = ending_of-append front token [] ∙ decides token.kind (run_last (Some state) front token next e)

-- behind an operand that is no prefix, the tokens end so
pub ends_whole : (state : State) (first : ℕ) (operand : Expr) (pe : Pending) (around : Around) (tokens : List Token) → 0 < length tokens
    → run (Some state) tokens ≡ Some (behind_whole first operand pe around) → ending_of tokens ≡ Whole
ends_whole state first operand pe around tokens some e = by_last state (behind_whole first operand pe around) tokens (has_last_of tokens some) e Whole (λ kind is. is)

-- and behind a prefix so
pub ends_prefix : (state : State) (first : ℕ) (base : Expr) (suffixes : List Suffix) (pe : Pending) (around : Around) (tokens : List Token) → 0 < length tokens
    → run (Some state) tokens ≡ Some (behind_prefix first base suffixes pe around) → ending_of tokens ≡ Prefix
ends_prefix state first base suffixes pe around tokens some e = by_last state (behind_prefix first base suffixes pe around) tokens (has_last_of tokens some) e Prefix (λ kind is. is)

pub ends_field_name : (state : State) (first : ℕ) (bytes : List ℕ) (table : ℕ) (fields : List Field) (pe : Pending) (around : Around) (tokens : List Token) → 0 < length tokens
    → run (Some state) tokens ≡ Some (behind_field_name first bytes table fields pe around) → ending_of tokens ≡ Prefix
ends_field_name state first bytes table fields pe around tokens some e =
    by_last state (behind_field_name first bytes table fields pe around) tokens (has_last_of tokens some) e Prefix (λ kind is. is)
