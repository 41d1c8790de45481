-- Some tokens complete a chunk from each state of the machine.
use Rattle.std.proofs.Common.{List, [], ◌∷◌, refl}
use Rattle.lua_lexer.specs.declared.token.Token.{Token}
use Rattle.lua_lexer.specs.declared.token.TokenKind.TheVariants as kinds
use Rattle.lua_lexer.specs.declared.vocabulary.Symbol.{Symbol}
use Rattle.lua_lexer.specs.declared.vocabulary.Symbol.TheVariants as symbols
use Rattle.lua_names.specs.declared.keyword.Keyword.TheVariants as keywords
use Rattle.lua_syntax.specs.Grammar.{nil, no_operand, no_suffix}
use Rattle.lua_syntax.specs.States.{Bracket, in_paren, in_subscript, in_key, in_field, Around, among_values, within, State, statement_start, behind_names, behind_comma, behind_local, behind_local_names, behind_local_comma, operand_start, behind_whole, behind_prefix, behind_dot, field_start, behind_field_name, behind_field_key, finished}
use Rattle.lua_syntax.proofs.Completing.{token_at, Heads, heads, HeadsName, heads_name, CompletesStatements, AtValues, BehindValue, no_value_follows, Assigned, Declared, without_values, AtNames, BehindName, no_name_follows, BehindWhole, behind_operand, BehindPrefix, behind_base, AtOperand, at_operand, no_field, BehindField, table_ends, is_key, BehindIn, BehindExpression, Completes}
use Rattle.lua_syntax.proofs.Productions.{end_first, names_first, values_first, exp_first}

-- some tokens are so
abbrev Possible : (List Token → Type 0) → Type 0
Possible Are = (tokens : List Token) × Are tokens

-- a symbol before tokens that are possible
symbol_then : (symbol : Symbol) (After : List Token → Type 0) → Possible After → Possible (Heads symbol After)
symbol_then symbol After (more, rest) = (token_at 0 (kinds.Symbol symbol) ∷ more, heads (token_at 0 (kinds.Symbol symbol)) refl rest)

-- a name before them
name_then : (After : List Token → Type 0) → Possible After → Possible (HeadsName After)
name_then After (more, rest) = (token_at 0 (kinds.Name []) ∷ more, heads_name (token_at 0 (kinds.Name [])) [] (refl, λ same. cc) rest)

-- the end, where a statement may begin
end_there : Possible CompletesStatements
end_there = (token_at 0 kinds.End ∷ [], end_first (token_at 0 kinds.End) refl)

-- behind an operand no further one
whole_there : (After : List Token → Type 0) → Possible After → Possible (BehindWhole After)
whole_there After (more, rest) = (more, behind_operand no_operand rest)

-- behind a prefix no suffix and no further operand
prefix_there : (After : List Token → Type 0) → Possible After → Possible (BehindPrefix After)
prefix_there After (more, rest) = (more, behind_base no_suffix (behind_operand no_operand rest))

-- `nil`, where an operand begins
operand_there : (After : List Token → Type 0) → Possible After → Possible (AtOperand After)
operand_there After (more, rest) =
    let token = token_at 0 (kinds.Keyword keywords.Nil) in (token ∷ more, at_operand (nil token refl) (behind_operand no_operand rest))

-- behind a value the end
value_there : Possible BehindValue
value_there = (end_there.0, no_value_follows end_there.1)

-- behind the names of an assignment a value
assigned_there : Possible Assigned
assigned_there =
    let values = operand_there BehindValue value_there in
    symbol_then symbols.Assign AtValues (values.0, values_first values.0 (exp_first BehindValue values.0 values.1))

-- behind the names of a `local` the end
declared_there : Possible Declared
declared_there = (end_there.0, without_values end_there.1)

-- behind a name no other
name_there : (After : List Token → Type 0) → Possible After → Possible (BehindName After)
name_there After (more, rest) = (more, no_name_follows rest)

-- one name
names_there : (After : List Token → Type 0) → Possible After → Possible (AtNames After)
names_there After rest = let names = name_then (BehindName After) (name_there After rest) in (names.0, names_first After names.0 names.1)

-- the end of a table
table_end_there : (After : List Token → Type 0) → Possible After → Possible (Heads symbols.CloseBrace (BehindWhole After))
table_end_there After rest = symbol_then symbols.CloseBrace (BehindWhole After) (whole_there After rest)

-- behind the value of a field the end of the table
field_there : (After : List Token → Type 0) → Possible After → Possible (BehindField After)
field_there After rest = let closing = table_end_there After rest in (closing.0, table_ends closing.1)

-- behind a key in brackets a value
field_key_there : (After : List Token → Type 0) → Possible After → Possible (Heads symbols.Assign (AtOperand (BehindField After)))
field_key_there After rest = symbol_then symbols.Assign (AtOperand (BehindField After)) (operand_there (BehindField After) (field_there After rest))

-- behind an expression in a bracket
bracket_there : (bracket : Bracket) (After : List Token → Type 0) → Possible After → Possible (BehindIn bracket After)
bracket_there (in_paren first pe) After rest = symbol_then symbols.CloseParen (BehindPrefix After) (prefix_there After rest)
bracket_there (in_subscript first base suffixes opening pe) After rest = symbol_then symbols.CloseBracket (BehindPrefix After) (prefix_there After rest)
bracket_there (in_key opening table fields pe) After rest = symbol_then symbols.CloseBracket (Heads symbols.Assign (AtOperand (BehindField After))) (field_key_there After rest)
bracket_there (in_field first key table fields pe) After rest = field_there After rest

-- behind any expression
expression_there : (around : Around) → Possible (BehindExpression around)
expression_there (among_values wanting) = value_there
expression_there (within bracket around) = bracket_there bracket (BehindExpression around) (expression_there around)

-- some tokens complete a chunk from this state
pub completes_some : (state : State) → (more : List Token) × Completes state more
completes_some (statement_start done) = end_there
completes_some (behind_names done ns) = name_there Assigned assigned_there
completes_some (behind_comma done ns) = names_there Assigned assigned_there
completes_some (behind_local done) = names_there Declared declared_there
completes_some (behind_local_names done ns) = name_there Declared declared_there
completes_some (behind_local_comma done ns) = names_there Declared declared_there
completes_some (operand_start pe around) = operand_there (BehindExpression around) (expression_there around)
completes_some (behind_whole first made pe around) = whole_there (BehindExpression around) (expression_there around)
completes_some (behind_prefix first base suffixes pe around) = prefix_there (BehindExpression around) (expression_there around)
completes_some (behind_dot first base suffixes dot pe around) =
    let After = BehindExpression around in name_then (BehindPrefix After) (prefix_there After (expression_there around))
completes_some (field_start table fields pe around) =
    let closing = table_end_there (BehindExpression around) (expression_there around) in (closing.0, no_field closing.1)
completes_some (behind_field_name first bytes table fields pe around) =
    let key = field_key_there (BehindExpression around) (expression_there around) in (key.0, is_key key.1)
completes_some (behind_field_key first made table fields pe around) = field_key_there (BehindExpression around) (expression_there around)
completes_some (finished done) = ([], refl)
