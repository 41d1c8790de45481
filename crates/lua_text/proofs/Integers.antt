-- Every integer in a chunk is that of one of its tokens, and so is below 2 to the 63rd.
use Rattle.std.proofs.Common.{◌≡◌, ℕ, ◌≤◌, Bool, true, false, List, [], ◌∷◌, refl, sym, subst, arith}
use Rattle.std.specs.List.{AllByRecursion}
use Rattle.lua_lexer.specs.declared.token.Token.{Token}
use Rattle.lua_lexer.specs.declared.token.TokenKind.TheVariants as kinds
use Rattle.lua_lexer.specs.TokenLists.{IsInRange, IsTokenList}
use Rattle.lua_syntax.specs.declared.tree.Expr.{Expr}
use Rattle.lua_syntax.specs.declared.tree.ExprKind.TheVariants as exprs
use Rattle.lua_syntax.specs.declared.tree.Field.{Field}
use Rattle.lua_syntax.specs.declared.tree.FieldKey.TheVariants as field_keys
use Rattle.lua_syntax.specs.declared.tree.LuaChunk.{LuaChunk}
use Rattle.lua_syntax.specs.declared.tree.Statement.{Statement}
use Rattle.lua_syntax.specs.declared.tree.Suffix.{Suffix}
use Rattle.lua_syntax.specs.Chunks.{IsChunk}
use Rattle.lua_syntax.specs.Grammar.{IsExp, exp, IsJoined, no_operand, operand, IsSimple, nil, yes, no, int, text, table, prefix, IsPrefix, based, IsBase, name, parentheses, IsSuffixes, no_suffix, dotted, bracketed, IsTable, empty, filled, IsFields, last, last_separated, field, IsField, keyed, named, positional, IsValues, one_value, more_values, IsStatement, semicolon, assignment, local_names, local_values, IsStatements, no_statement, statement, node, joined, indexed, place_of}
use Rattle.lua_syntax.specs.Trees.{Fields, tree, trees, suffixes as suffixes_of, field as field_of, fields as fields_of}
use Rattle.lua_syntax.proofs.Trees.{tree-nil, tree-truth, tree-int, tree-text, tree-name, tree-index, tree-concat, tree-table, field-position, field-key}
use Rattle.lua_value.specs.Key.{IsInteger}
use Rattle.lua_eval.specs.Finding.{HasIntegers, AreIntegersIn, AreIntegersAmong, AreIntegersOf}
use Rattle.lua_eval.specs.Laws.{IsServedStatement, IsServedChunk}
use Rattle.lua_text.proofs.Fitting.{Fit, fit_front, fit_back, all_append}

-- ---- nodes

-- the greatest integer of a token is the last one below 2 to the 63rd
in_range : (n : ℕ) → n ≤ 9223372036854775807 → IsInteger n
in_range n h = omega arith

int_integers : (token : Token) (n : ℕ) → token.kind ≡ kinds.Int n → Fit (token ∷ []) → HasIntegers (tree (node token.place (exprs.Int n)))
int_integers token n is fit =
    subst HasIntegers (sym (tree-int (node token.place (exprs.Int n)) n refl)) (in_range n (subst IsInRange is fit.0.1))

truth_integers : (place : ℕ) (b : Bool) → HasIntegers (tree (node place (exprs.Bool b)))
truth_integers place b = subst HasIntegers (sym (tree-truth (node place (exprs.Bool b)) b refl)) tt

text_integers : (place : ℕ) (bytes : List ℕ) → HasIntegers (tree (node place (exprs.Text bytes)))
text_integers place bytes = subst HasIntegers (sym (tree-text (node place (exprs.Text bytes)) bytes refl)) tt

-- operands that are joined
joined_integers : (place : ℕ) (first : Expr) (others : List Expr) (operators : List ℕ) → HasIntegers (tree first) → AreIntegersAmong (trees others) → HasIntegers (tree (joined place first others operators))
joined_integers place first [] operators one all = one
joined_integers place first (other ∷ others) operators one all =
    subst HasIntegers (sym (tree-concat (joined place first (other ∷ others) operators) (first ∷ other ∷ others) operators refl)) (one, all)

-- a base with its suffixes
indexed_integers : (place : ℕ) (base : Expr) (suffixes : List Suffix) → HasIntegers (tree base) → AreIntegersIn (suffixes_of suffixes) → HasIntegers (tree (indexed place base suffixes))
indexed_integers place base [] one all = one
indexed_integers place base (suffix ∷ suffixes) one all =
    subst HasIntegers (sym (tree-index (indexed place base (suffix ∷ suffixes)) base (suffix ∷ suffixes) refl)) (one, all)

table_integers : (place : ℕ) (fields : List Field) → AreIntegersOf (fields_of fields) → HasIntegers (tree (node place (exprs.Table fields)))
table_integers place fields all = subst HasIntegers (sym (tree-table (node place (exprs.Table fields)) fields refl)) all

-- a field that has a key, with others behind it
key_integers : (place : ℕ) (key value : Expr) (others : Fields) → HasIntegers (tree key) → HasIntegers (tree value) → AreIntegersOf others → AreIntegersOf (field_of (record { place = place; key = field_keys.Given key; value = value }) others)
key_integers place key value others its_key its_value all =
    subst AreIntegersOf (sym (field-key (record { place = place; key = field_keys.Given key; value = value }) others key refl)) (its_key, its_value, all)

-- one that has none
position_integers : (place : ℕ) (value : Expr) (others : Fields) → HasIntegers (tree value) → AreIntegersOf others → AreIntegersOf (field_of (record { place = place; key = field_keys.Position; value = value }) others)
position_integers place value others its_value all =
    subst AreIntegersOf (sym (field-position (record { place = place; key = field_keys.Position; value = value }) others refl)) (its_value, all)

-- ---- expressions

mutual
  -- an expression
  exp_integers : (tokens : List Token) (made : Expr) → IsExp tokens made → Fit tokens → HasIntegers (tree made)
  exp_integers tokens made (exp {first} {more} {operand = one} {others} {operators} simple joins) fit =
      joined_integers (place_of first) one others operators
      (simple_integers first one simple (fit_front first more fit)) (operands_integers more others operators joins (fit_back first more fit))

  -- further operands
  operands_integers : (tokens : List Token) (others : List Expr) (operators : List ℕ) → IsJoined tokens others operators → Fit tokens → AreIntegersAmong (trees others)
  operands_integers tokens others operators no_operand fit = tt
  operands_integers tokens others operators (operand dots {first} {more} {next} {others = rest} {operators = ats} dot simple joins) fit =
      (simple_integers first next simple (fit_front first more fit.1), operands_integers more rest ats joins (fit_back first more fit.1))

  -- an operand
  simple_integers : (tokens : List Token) (made : Expr) → IsSimple tokens made → Fit tokens → HasIntegers (tree made)
  simple_integers tokens made (nil token is) fit = subst HasIntegers (sym (tree-nil (node token.place exprs.Nil) refl)) tt
  simple_integers tokens made (yes token is) fit = truth_integers token.place true
  simple_integers tokens made (no token is) fit = truth_integers token.place false
  simple_integers tokens made (int token n is) fit = int_integers token n is fit
  simple_integers tokens made (text token bytes is) fit = text_integers token.place bytes
  simple_integers tokens made (table is) fit = braced_integers tokens made is fit
  simple_integers tokens made (prefix is) fit = prefix_integers tokens made is fit

  -- a base with its suffixes
  prefix_integers : (tokens : List Token) (made : Expr) → IsPrefix tokens made → Fit tokens → HasIntegers (tree made)
  prefix_integers tokens made (based {first} {more} {base} {suffixes} is follow) fit =
      indexed_integers (place_of first) base suffixes
      (base_integers first base is (fit_front first more fit)) (suffixes_integers more suffixes follow (fit_back first more fit))

  -- a base
  base_integers : (tokens : List Token) (made : Expr) → IsBase tokens made → Fit tokens → HasIntegers (tree made)
  base_integers tokens made (name token bytes is) fit = subst HasIntegers (sym (tree-name (node token.place (exprs.Name bytes)) bytes refl)) tt
  base_integers tokens made (parentheses opening closing {inner} {made = base} opens is closes) fit =
      exp_integers inner base is (fit_front inner (closing ∷ []) fit.1)

  -- suffixes
  suffixes_integers : (tokens : List Token) (suffixes : List Suffix) → IsSuffixes tokens suffixes → Fit tokens → AreIntegersIn (suffixes_of suffixes)
  suffixes_integers tokens suffixes no_suffix fit = tt
  suffixes_integers tokens suffixes (dotted dot token bytes {more} {suffixes = others} dots is_name follow) fit =
      (text_integers token.place bytes, suffixes_integers more others follow fit.1.1)
  suffixes_integers tokens suffixes (bracketed opening closing {inner} {more} {key} {suffixes = others} opens inside closes follow) fit =
      let behind = fit_back inner (closing ∷ more) fit.1 in
      (exp_integers inner key inside (fit_front inner (closing ∷ more) fit.1), suffixes_integers more others follow behind.1)

  -- a table
  braced_integers : (tokens : List Token) (made : Expr) → IsTable tokens made → Fit tokens → HasIntegers (tree made)
  braced_integers tokens made (empty opening closing opens closes) fit = table_integers opening.place [] tt
  braced_integers tokens made (filled opening closing {inner} {fields} opens inside closes) fit =
      table_integers opening.place fields (fields_integers inner fields inside (fit_front inner (closing ∷ []) fit.1))

  -- fields
  fields_integers : (tokens : List Token) (fields : List Field) → IsFields tokens fields → Fit tokens → AreIntegersOf (fields_of fields)
  fields_integers tokens fields (last {made} is) fit = field_integers tokens made is fit (fields_of []) tt
  fields_integers tokens fields (last_separated {tokens = front} {made} separator is separates) fit =
      field_integers front made is (fit_front front (separator ∷ []) fit) (fields_of []) tt
  fields_integers tokens fields (field {tokens = front} {more} {made} separator {others} is separates follow) fit =
      let behind = fit_back front (separator ∷ more) fit in
      field_integers front made is (fit_front front (separator ∷ more) fit) (fields_of others) (fields_integers more others follow behind.1)

  -- a field
  field_integers : (tokens : List Token) (made : Field) → IsField tokens made → Fit tokens → (others : Fields) → AreIntegersOf others → AreIntegersOf (field_of made others)
  field_integers tokens made (keyed opening closing assign {inner} {tokens = back} {key} {value} opens key_is closes assigns value_is) fit others all =
      let behind = fit_back inner (closing ∷ assign ∷ back) fit.1 in
      key_integers opening.place key value others
      (exp_integers inner key key_is (fit_front inner (closing ∷ assign ∷ back) fit.1)) (exp_integers back value value_is behind.1.1) all
  field_integers tokens made (named token assign bytes {tokens = back} {value} is_name assigns value_is) fit others all =
      key_integers token.place (node token.place (exprs.Text bytes)) value others
      (text_integers token.place bytes) (exp_integers back value value_is fit.1.1) all
  field_integers tokens made (positional {value} is) fit others all =
      position_integers (place_of tokens) value others (exp_integers tokens value is fit) all

-- ---- statements

-- values
values_integers : (tokens : List Token) (values : List Expr) → IsValues tokens values → Fit tokens → AreIntegersAmong (trees values)
values_integers tokens values (one_value {value} is) fit = (exp_integers tokens value is fit, tt)
values_integers tokens values (more_values {tokens = front} {more} {value} comma {others} is separates follow) fit =
    let behind = fit_back front (comma ∷ more) fit in
    (exp_integers front value is (fit_front front (comma ∷ more) fit), values_integers more others follow behind.1)

-- a statement
statement_integers : (tokens : List Token) (made : List Statement) → IsStatement tokens made → Fit tokens → AllByRecursion IsServedStatement made
statement_integers tokens made (semicolon token is) fit = tt
statement_integers tokens made (assignment {before} {after} assign {values} are is valued) fit =
    let behind = fit_back before (assign ∷ after) fit in (values_integers after values valued behind.1, tt)
statement_integers tokens made (local_names local is are) fit = (tt, tt)
statement_integers tokens made (local_values local assign {before} {after} {values} is are assigns valued) fit =
    let behind = fit_back before (assign ∷ after) fit.1 in (values_integers after values valued behind.1, tt)

-- statements
statements_integers : (tokens : List Token) (made : List Statement) → IsStatements tokens made → Fit tokens → AllByRecursion IsServedStatement made
statements_integers tokens made no_statement fit = tt
statements_integers tokens made (statement {tokens = front} {more} {first} {others} is follow) fit =
    all_append IsServedStatement first others
    (statement_integers front first is (fit_front front more fit)) (statements_integers more others follow (fit_back front more fit))

-- each integer in the chunk of a list of tokens is below 2 to the 63rd
pub chunk_integers : (tokens : List Token) (chunk : LuaChunk) → IsTokenList tokens → IsChunk tokens chunk → IsServedChunk chunk
chunk_integers tokens chunk listed is =
    statements_integers is.front chunk.statements is.statements
    (fit_front is.front (is.end_token ∷ []) (subst Fit is.cut listed.fitting))
