-- Every place in a chunk is the place of one of its tokens.
use Rattle.std.proofs.Common.{◌≡◌, ◌⊎◌, inl, inr, ℕ, ◌<◌, Bool, true, false, List, [], ◌∷◌, ◌++◌, length, refl, sym, ap, subst, ◌∙◌, arith}
use Rattle.lua_lexer.specs.declared.token.Token.{Token}
use Rattle.lua_syntax.specs.declared.tree.Expr.{Expr}
use Rattle.lua_syntax.specs.declared.tree.ExprKind.{ExprKind}
use Rattle.lua_syntax.specs.declared.tree.ExprKind.TheOpen as layers
use Rattle.lua_syntax.specs.declared.tree.ExprKind.TheVariants as exprs
use Rattle.lua_syntax.specs.declared.tree.ExprKind.TheVariants.{rolls-Index, rolls-Concat, rolls-Table}
use Rattle.lua_syntax.specs.declared.tree.ExprKind.TheViews.{out-ExprKind, out-roll-ExprKind}
use Rattle.lua_syntax.specs.declared.tree.Field.{Field}
use Rattle.lua_syntax.specs.declared.tree.FieldKey.TheVariants as field_keys
use Rattle.lua_syntax.specs.declared.tree.LuaChunk.{LuaChunk}
use Rattle.lua_syntax.specs.declared.tree.Named.{Named}
use Rattle.lua_syntax.specs.declared.tree.Statement.{Statement}
use Rattle.lua_syntax.specs.declared.tree.Suffix.{Suffix}
use Rattle.lua_syntax.specs.Chunks.{IsChunk}
use Rattle.lua_syntax.specs.Grammar.{IsExp, exp, IsJoined, no_operand, operand, IsSimple, nil, yes, no, int, text, table, prefix, IsPrefix, based, IsBase, name, parentheses, IsSuffixes, no_suffix, dotted, bracketed, IsTable, empty, filled, IsFields, last, last_separated, field, IsField, keyed, named, positional, IsNames, one_name, more_names, IsValues, one_value, more_values, IsStatement, semicolon, assignment, local_names, local_values, IsStatements, no_statement, statement, node, joined, indexed, place_of}
use Rattle.lua_syntax.specs.Places.{Among, here, there, InExpr, of_expr, in_base, in_suffix, in_operand, of_operator, in_field, InSuffix, of_suffix, in_suffix_key, InField, of_field, in_field_key, in_value, InNames, InValues, InStatement, IsPlaceIn, IsPlaceOf}
use Rattle.lua_syntax.proofs.Parts.{base_some, simple_some, exp_some}

-- ---- lists

-- what is among a list is among it with others behind
among_front : {A : Type 0} (one : A) (a b : List A) → Among one a → Among one (a ++ b)
among_front one [] b is = elim is [ ]
among_front one (head ∷ a) b here = here
among_front one (head ∷ a) b (there more) = there (among_front one a b more)

-- and with others before
among_back : {A : Type 0} (one : A) (a b : List A) → Among one b → Among one (a ++ b)
among_back one [] b is = is
among_back one (head ∷ a) b is = there (among_back one a b is)

-- a place of the front tokens is one of all
placed_front : (a b : List Token) (place : ℕ) → IsPlaceOf a place → IsPlaceOf (a ++ b) place
placed_front a b place (token, is, e) = (token, among_front token a b is, e)

-- so is one of the others
placed_back : (a b : List Token) (place : ℕ) → IsPlaceOf b place → IsPlaceOf (a ++ b) place
placed_back a b place (token, is, e) = (token, among_back token a b is, e)

-- the place of the first of some tokens
placed_first : (tokens : List Token) (place : ℕ) → 0 < length tokens → place ≡ place_of tokens → IsPlaceOf tokens place
placed_first [] place some e = absurd (omega arith)
placed_first (token ∷ tokens) place some e = (token, here, e)

-- behind a token
placed_behind : (token : Token) (tokens : List Token) (place : ℕ) → IsPlaceOf tokens place → IsPlaceOf (token ∷ tokens) place
placed_behind token tokens place (other, is, e) = (other, there is, e)

-- ---- parts that are one

-- the places of operands that are joined
data InJoined (place at : ℕ) (first : Expr) (others : List Expr) (operators : List ℕ) : Type 0 where
  joined_at : place ≡ at → InJoined place at first others operators
  in_first : InExpr place first → InJoined place at first others operators
  in_other : InValues place others → InJoined place at first others operators
  at_operator : Among place operators → InJoined place at first others operators

-- one of the operands
by_operand : (place at : ℕ) (first : Expr) (others : List Expr) (operators : List ℕ) (one : Expr) → Among one (first ∷ others) → InExpr place one → InJoined place at first others operators
by_operand place at first others operators one here is = in_first is
by_operand place at first others operators one (there more) is = in_other (one, more, is)

-- equal concatenations have equal operands and operators
concat_same : (a b : List Expr) (x y : List ℕ) → exprs.Concat a x ≡ exprs.Concat b y → (a ≡ b) × (x ≡ y)
concat_same a b x y e =
    let of_a = ap out-ExprKind (sym (rolls-Concat a x)) ∙ out-roll-ExprKind (layers.Concat a x) in
    let of_b = ap out-ExprKind (sym (rolls-Concat b y)) ∙ out-roll-ExprKind (layers.Concat b y) in
    let same : layers.Concat a x ≡ layers.Concat b y = sym of_a ∙ ap out-ExprKind e ∙ of_b in (cc, cc)

-- those of the whole are these
joined_places : (place at : ℕ) (first : Expr) (others : List Expr) (operators : List ℕ) → InExpr place (joined at first others operators) → InJoined place at first others operators
joined_places place at first [] operators is = in_first is
joined_places place at first (other ∷ others) operators (of_expr e) = joined_at e
joined_places place at first (other ∷ others) operators (in_base base suffixes kind is) = absurd (cc)
joined_places place at first (other ∷ others) operators (in_suffix base suffixes one kind among is) = absurd (cc)
joined_places place at first (other ∷ others) operators (in_operand operands dots one kind among is) =
    let same = concat_same (first ∷ other ∷ others) operands operators dots kind in
    by_operand place at first (other ∷ others) operators one (subst (Among one) (sym same.0) among) is
joined_places place at first (other ∷ others) operators (of_operator operands dots kind among) =
    let same = concat_same (first ∷ other ∷ others) operands operators dots kind in at_operator (subst (Among place) (sym same.1) among)
joined_places place at first (other ∷ others) operators (in_field fields one kind among is) = absurd (cc)

-- in one of the suffixes
abbrev InSuffixes : ℕ → List Suffix → Type 0
InSuffixes place suffixes = (suffix : Suffix) × Among suffix suffixes × InSuffix place suffix

-- the places of a base with suffixes
data InIndexed (place at : ℕ) (base : Expr) (suffixes : List Suffix) : Type 0 where
  indexed_at : place ≡ at → InIndexed place at base suffixes
  in_its_base : InExpr place base → InIndexed place at base suffixes
  in_its_suffixes : InSuffixes place suffixes → InIndexed place at base suffixes

-- equal indexings have equal bases and suffixes
index_same : (a b : Expr) (x y : List Suffix) → exprs.Index a x ≡ exprs.Index b y → (a ≡ b) × (x ≡ y)
index_same a b x y e =
    let of_a = ap out-ExprKind (sym (rolls-Index a x)) ∙ out-roll-ExprKind (layers.Index a x) in
    let of_b = ap out-ExprKind (sym (rolls-Index b y)) ∙ out-roll-ExprKind (layers.Index b y) in
    let same : layers.Index a x ≡ layers.Index b y = sym of_a ∙ ap out-ExprKind e ∙ of_b in (cc, cc)

-- those of the whole are these
indexed_places : (place at : ℕ) (base : Expr) (suffixes : List Suffix) → InExpr place (indexed at base suffixes) → InIndexed place at base suffixes
indexed_places place at base [] is = in_its_base is
indexed_places place at base (suffix ∷ suffixes) (of_expr e) = indexed_at e
indexed_places place at base (suffix ∷ suffixes) (in_base other others kind is) =
    let same = index_same base other (suffix ∷ suffixes) others kind in in_its_base (subst (InExpr place) (sym same.0) is)
indexed_places place at base (suffix ∷ suffixes) (in_suffix other others one kind among is) =
    let same = index_same base other (suffix ∷ suffixes) others kind in in_its_suffixes (one, subst (Among one) (sym same.1) among, is)
indexed_places place at base (suffix ∷ suffixes) (in_operand operands dots one kind among is) = absurd (cc)
indexed_places place at base (suffix ∷ suffixes) (of_operator operands dots kind among) = absurd (cc)
indexed_places place at base (suffix ∷ suffixes) (in_field fields one kind among is) = absurd (cc)

-- the places of a table
data InTable (place at : ℕ) (fields : List Field) : Type 0 where
  table_at : place ≡ at → InTable place at fields
  in_its_field : (one : Field) → Among one fields → InField place one → InTable place at fields

-- equal tables have equal fields
fields_same : (a b : List Field) → exprs.Table a ≡ exprs.Table b → a ≡ b
fields_same a b e =
    let of_a = ap out-ExprKind (sym (rolls-Table a)) ∙ out-roll-ExprKind (layers.Table a) in
    let of_b = ap out-ExprKind (sym (rolls-Table b)) ∙ out-roll-ExprKind (layers.Table b) in
    let same : layers.Table a ≡ layers.Table b = sym of_a ∙ ap out-ExprKind e ∙ of_b in cc

-- those of the whole are these
its_places : (place at : ℕ) (fields : List Field) → InExpr place (node at (exprs.Table fields)) → InTable place at fields
its_places place at fields (of_expr e) = table_at e
its_places place at fields (in_base base suffixes kind is) = absurd (cc)
its_places place at fields (in_suffix base suffixes one kind among is) = absurd (cc)
its_places place at fields (in_operand operands dots one kind among is) = absurd (cc)
its_places place at fields (of_operator operands dots kind among) = absurd (cc)
its_places place at fields (in_field others one kind among is) = in_its_field one (subst (Among one) (sym (fields_same fields others kind)) among) is

-- kinds with no part
data IsPlain : ExprKind → Type 0 where
  plain_nil : IsPlain exprs.Nil
  plain_bool : (b : Bool) → IsPlain (exprs.Bool b)
  plain_int : (n : ℕ) → IsPlain (exprs.Int n)
  plain_text : (bytes : List ℕ) → IsPlain (exprs.Text bytes)
  plain_name : (bytes : List ℕ) → IsPlain (exprs.Name bytes)

-- a kind with no part is no other
not_index : (kind : ExprKind) (base : Expr) (suffixes : List Suffix) → IsPlain kind → kind ≡ exprs.Index base suffixes → ⊥
not_index kind base suffixes plain_nil is = cc
not_index kind base suffixes (plain_bool b) is = cc
not_index kind base suffixes (plain_int n) is = cc
not_index kind base suffixes (plain_text bytes) is = cc
not_index kind base suffixes (plain_name bytes) is = cc

-- nor a concatenation
not_concat : (kind : ExprKind) (operands : List Expr) (operators : List ℕ) → IsPlain kind → kind ≡ exprs.Concat operands operators → ⊥
not_concat kind operands operators plain_nil is = cc
not_concat kind operands operators (plain_bool b) is = cc
not_concat kind operands operators (plain_int n) is = cc
not_concat kind operands operators (plain_text bytes) is = cc
not_concat kind operands operators (plain_name bytes) is = cc

-- nor a table
not_table : (kind : ExprKind) (fields : List Field) → IsPlain kind → kind ≡ exprs.Table fields → ⊥
not_table kind fields plain_nil is = cc
not_table kind fields (plain_bool b) is = cc
not_table kind fields (plain_int n) is = cc
not_table kind fields (plain_text bytes) is = cc
not_table kind fields (plain_name bytes) is = cc

-- an expression with no part has its own place alone
plain_place : (place : ℕ) (made : Expr) → IsPlain made.kind → InExpr place made → place ≡ made.place
plain_place place made plain (of_expr e) = e
plain_place place made plain (in_base base suffixes kind is) = absurd (not_index made.kind base suffixes plain kind)
plain_place place made plain (in_suffix base suffixes one kind among is) = absurd (not_index made.kind base suffixes plain kind)
plain_place place made plain (in_operand operands dots one kind among is) = absurd (not_concat made.kind operands dots plain kind)
plain_place place made plain (of_operator operands dots kind among) = absurd (not_concat made.kind operands dots plain kind)
plain_place place made plain (in_field fields one kind among is) = absurd (not_table made.kind fields plain kind)

-- a token that is an expression with no part
token_places : (token : Token) (kind : ExprKind) (place : ℕ) → IsPlain kind → InExpr place (node token.place kind) → IsPlaceOf (token ∷ []) place
token_places token kind place plain is = (token, here, plain_place place (node token.place kind) plain is)

-- equal keys
key_same : (a b : Expr) → field_keys.Given a ≡ field_keys.Given b → a ≡ b
key_same a b e =
    let places : a.place ≡ b.place = cc in
    let kinds : a.kind ≡ b.kind = cc in
    ap (λ (p : ℕ). node p a.kind) places ∙ ap (λ (k : ExprKind). node b.place k) kinds

-- ---- expressions

mutual
  -- an expression
  pub exp_places : (tokens : List Token) (made : Expr) → IsExp tokens made → (place : ℕ) → InExpr place made → IsPlaceOf tokens place
  exp_places tokens made (exp {first} {more} {operand = one} {others} {operators} simple joins) place is =
      elim (joined_places place (place_of first) one others operators is) [
        | joined_at e ↦ placed_front first more place (placed_first first place (simple_some first one simple) e)
        | in_first one_is ↦ placed_front first more place (simple_places first one simple place one_is)
        | in_other others_are ↦ placed_back first more place (operands_places more others operators joins place others_are)
        | at_operator among ↦ placed_back first more place (operators_places more others operators joins place among)
      ]

  -- further operands
  operands_places : (tokens : List Token) (others : List Expr) (operators : List ℕ) → IsJoined tokens others operators → (place : ℕ) → InValues place others → IsPlaceOf tokens place
  operands_places tokens others operators no_operand place (one, among, is) = elim among [ ]
  operands_places tokens others operators (operand dots {first} {more} {next} dot simple joins) place (one, here, is) =
      placed_behind dots (first ++ more) place (placed_front first more place (simple_places first next simple place is))
  operands_places tokens others operators (operand dots {first} {more} {others = rest} {operators = ats} dot simple joins) place (one, there among, is) =
      placed_behind dots (first ++ more) place (placed_back first more place (operands_places more rest ats joins place (one, among, is)))

  -- their operators
  operators_places : (tokens : List Token) (others : List Expr) (operators : List ℕ) → IsJoined tokens others operators → (place : ℕ) → Among place operators → IsPlaceOf tokens place
  operators_places tokens others operators no_operand place among = elim among [ ]
  operators_places tokens others operators (operand dots dot simple joins) place here = (dots, here, refl)
  operators_places tokens others operators (operand dots {first} {more} {others = rest} {operators = ats} dot simple joins) place (there among) =
      placed_behind dots (first ++ more) place (placed_back first more place (operators_places more rest ats joins place among))

  -- an operand
  simple_places : (tokens : List Token) (made : Expr) → IsSimple tokens made → (place : ℕ) → InExpr place made → IsPlaceOf tokens place
  simple_places tokens made (nil token is) place within_it = token_places token exprs.Nil place plain_nil within_it
  simple_places tokens made (yes token is) place within_it = token_places token (exprs.Bool true) place (plain_bool true) within_it
  simple_places tokens made (no token is) place within_it = token_places token (exprs.Bool false) place (plain_bool false) within_it
  simple_places tokens made (int token n is) place within_it = token_places token (exprs.Int n) place (plain_int n) within_it
  simple_places tokens made (text token bytes is) place within_it = token_places token (exprs.Text bytes) place (plain_text bytes) within_it
  simple_places tokens made (table is) place within_it = table_places tokens made is place within_it
  simple_places tokens made (prefix is) place within_it = prefix_places tokens made is place within_it

  -- a base with its suffixes
  prefix_places : (tokens : List Token) (made : Expr) → IsPrefix tokens made → (place : ℕ) → InExpr place made → IsPlaceOf tokens place
  prefix_places tokens made (based {first} {more} {base} {suffixes} is follow) place within_it =
      elim (indexed_places place (place_of first) base suffixes within_it) [
        | indexed_at e ↦ placed_front first more place (placed_first first place (base_some first base is) e)
        | in_its_base base_is ↦ placed_front first more place (base_places first base is place base_is)
        | in_its_suffixes suffixes_are ↦ placed_back first more place (suffixes_places more suffixes follow place suffixes_are)
      ]

  -- a base
  base_places : (tokens : List Token) (made : Expr) → IsBase tokens made → (place : ℕ) → InExpr place made → IsPlaceOf tokens place
  base_places tokens made (name token bytes is) place within_it = token_places token (exprs.Name bytes) place (plain_name bytes) within_it
  base_places tokens made (parentheses opening closing {inner} {made = base} opens is closes) place within_it =
      placed_behind opening (inner ++ closing ∷ []) place (placed_front inner (closing ∷ []) place (exp_places inner base is place within_it))

  -- suffixes
  suffixes_places : (tokens : List Token) (suffixes : List Suffix) → IsSuffixes tokens suffixes → (place : ℕ) → InSuffixes place suffixes → IsPlaceOf tokens place
  suffixes_places tokens suffixes no_suffix place (one, among, is) = elim among [ ]
  suffixes_places tokens suffixes (dotted dot token bytes dots is_name follow) place (one, here, of_suffix e) = (dot, here, e)
  suffixes_places tokens suffixes (dotted dot token bytes {more} dots is_name follow) place (one, here, in_suffix_key is) =
      placed_behind dot (token ∷ more) place (placed_front (token ∷ []) more place (token_places token (exprs.Text bytes) place (plain_text bytes) is))
  suffixes_places tokens suffixes (dotted dot token bytes {more} {suffixes = others} dots is_name follow) place (one, there among, is) =
      placed_behind dot (token ∷ more) place (placed_behind token more place (suffixes_places more others follow place (one, among, is)))
  suffixes_places tokens suffixes (bracketed opening closing opens inside closes follow) place (one, here, of_suffix e) = (opening, here, e)
  suffixes_places tokens suffixes (bracketed opening closing {inner} {more} {key} opens inside closes follow) place (one, here, in_suffix_key is) =
      placed_behind opening (inner ++ closing ∷ more) place (placed_front inner (closing ∷ more) place (exp_places inner key inside place is))
  suffixes_places tokens suffixes (bracketed opening closing {inner} {more} {suffixes = others} opens inside closes follow) place (one, there among, is) =
      placed_behind opening (inner ++ closing ∷ more) place
      (placed_back inner (closing ∷ more) place (placed_behind closing more place (suffixes_places more others follow place (one, among, is))))

  -- a table
  table_places : (tokens : List Token) (made : Expr) → IsTable tokens made → (place : ℕ) → InExpr place made → IsPlaceOf tokens place
  table_places tokens made (empty opening closing opens closes) place within_it =
      elim (its_places place opening.place [] within_it) [
        | table_at e ↦ (opening, here, e)
        | in_its_field one among is ↦ elim among [ ]
      ]
  table_places tokens made (filled opening closing {inner} {fields} opens inside closes) place within_it =
      elim (its_places place opening.place fields within_it) [
        | table_at e ↦ (opening, here, e)
        | in_its_field one among is ↦
            placed_behind opening (inner ++ closing ∷ []) place (placed_front inner (closing ∷ []) place (fields_places inner fields inside place one among is))
      ]

  -- fields
  fields_places : (tokens : List Token) (fields : List Field) → IsFields tokens fields → (place : ℕ) (one : Field) → Among one fields → InField place one → IsPlaceOf tokens place
  fields_places tokens fields (last {made} is) place one here within_it = field_places tokens made is place within_it
  fields_places tokens fields (last is) place one (there among) within_it = elim among [ ]
  fields_places tokens fields (last_separated {tokens = front} {made} separator is separates) place one here within_it =
      placed_front front (separator ∷ []) place (field_places front made is place within_it)
  fields_places tokens fields (last_separated separator is separates) place one (there among) within_it = elim among [ ]
  fields_places tokens fields (field {tokens = front} {more} {made} separator is separates follow) place one here within_it =
      placed_front front (separator ∷ more) place (field_places front made is place within_it)
  fields_places tokens fields (field {tokens = front} {more} separator {others} is separates follow) place one (there among) within_it =
      placed_back front (separator ∷ more) place (placed_behind separator more place (fields_places more others follow place one among within_it))

  -- a field
  field_places : (tokens : List Token) (made : Field) → IsField tokens made → (place : ℕ) → InField place made → IsPlaceOf tokens place
  field_places tokens made (keyed opening closing assign opens key_is closes assigns value_is) place (of_field e) = (opening, here, e)
  field_places tokens made (keyed opening closing assign {inner} {tokens = behind} {key} opens key_is closes assigns value_is) place (in_field_key other key_so is) =
      placed_behind opening (inner ++ closing ∷ assign ∷ behind) place
      (placed_front inner (closing ∷ assign ∷ behind) place (exp_places inner key key_is place (subst (InExpr place) (sym (key_same key other key_so)) is)))
  field_places tokens made (keyed opening closing assign {inner} {tokens = behind} {value} opens key_is closes assigns value_is) place (in_value is) =
      placed_behind opening (inner ++ closing ∷ assign ∷ behind) place
      (placed_back inner (closing ∷ assign ∷ behind) place (placed_behind closing (assign ∷ behind) place (placed_behind assign behind place (exp_places behind value value_is place is))))
  field_places tokens made (named token assign bytes is_name assigns value_is) place (of_field e) = (token, here, e)
  field_places tokens made (named token assign bytes {tokens = behind} is_name assigns value_is) place (in_field_key other key_so is) =
      placed_front (token ∷ []) (assign ∷ behind) place (token_places token (exprs.Text bytes) place (plain_text bytes)
      (subst (InExpr place) (sym (key_same (node token.place (exprs.Text bytes)) other key_so)) is))
  field_places tokens made (named token assign bytes {tokens = behind} {value} is_name assigns value_is) place (in_value is) =
      placed_behind token (assign ∷ behind) place (placed_behind assign behind place (exp_places behind value value_is place is))
  field_places tokens made (positional {value} is) place (of_field e) = placed_first tokens place (exp_some tokens value is) e
  field_places tokens made (positional is) place (in_field_key other key_so within_it) = absurd (cc)
  field_places tokens made (positional {value} is) place (in_value within_it) = exp_places tokens value is place within_it

-- ---- statements

-- names
names_places : (tokens : List Token) (names : List Named) → IsNames tokens names → (place : ℕ) → InNames place names → IsPlaceOf tokens place
names_places tokens names (one_name token bytes is) place (one, here, e) = (token, here, e)
names_places tokens names (one_name token bytes is) place (one, there among, e) = elim among [ ]
names_places tokens names (more_names token comma bytes is separates follow) place (one, here, e) = (token, here, e)
names_places tokens names (more_names token comma bytes {tokens = behind} {others} is separates follow) place (one, there among, e) =
    placed_behind token (comma ∷ behind) place (placed_behind comma behind place (names_places behind others follow place (one, among, e)))

-- values
values_places : (tokens : List Token) (values : List Expr) → IsValues tokens values → (place : ℕ) → InValues place values → IsPlaceOf tokens place
values_places tokens values (one_value {value} is) place (one, here, within_it) = exp_places tokens value is place within_it
values_places tokens values (one_value is) place (one, there among, within_it) = elim among [ ]
values_places tokens values (more_values {tokens = front} {more} {value} comma is separates follow) place (one, here, within_it) =
    placed_front front (comma ∷ more) place (exp_places front value is place within_it)
values_places tokens values (more_values {tokens = front} {more} comma {others} is separates follow) place (one, there among, within_it) =
    placed_back front (comma ∷ more) place (placed_behind comma more place (values_places more others follow place (one, among, within_it)))

-- in one of the statements
abbrev InStatements : ℕ → List Statement → Type 0
InStatements place made = (one : Statement) × Among one made × InStatement place one

-- a statement
statement_places : (tokens : List Token) (made : List Statement) → IsStatement tokens made → (place : ℕ) → InStatements place made → IsPlaceOf tokens place
statement_places tokens made (semicolon token is) place (one, among, within_it) = elim among [ ]
statement_places tokens made (assignment {before} {after} assign {names} are is valued) place (one, here, inl named_so) =
    placed_front before (assign ∷ after) place (names_places before names are place named_so)
statement_places tokens made (assignment {before} {after} assign {values} are is valued) place (one, here, inr within_it) =
    placed_back before (assign ∷ after) place (placed_behind assign after place (values_places after values valued place within_it))
statement_places tokens made (assignment assign are is valued) place (one, there among, within_it) = elim among [ ]
statement_places tokens made (local_names local {before} {names} is are) place (one, here, inl named_so) =
    placed_behind local before place (names_places before names are place named_so)
statement_places tokens made (local_names local is are) place (one, here, inr (value, among, within_it)) = elim among [ ]
statement_places tokens made (local_names local is are) place (one, there among, within_it) = elim among [ ]
statement_places tokens made (local_values local assign {before} {after} {names} is are assigns valued) place (one, here, inl named_so) =
    placed_behind local (before ++ assign ∷ after) place (placed_front before (assign ∷ after) place (names_places before names are place named_so))
statement_places tokens made (local_values local assign {before} {after} {values} is are assigns valued) place (one, here, inr within_it) =
    placed_behind local (before ++ assign ∷ after) place
    (placed_back before (assign ∷ after) place (placed_behind assign after place (values_places after values valued place within_it)))
statement_places tokens made (local_values local assign is are assigns valued) place (one, there among, within_it) = elim among [ ]

-- one of two lists
among_either : {A : Type 0} (one : A) (a b : List A) → Among one (a ++ b) → Among one a ⊎ Among one b
among_either one [] b is = inr is
among_either one (head ∷ a) b here = inl here
among_either one (head ∷ a) b (there more) = elim (among_either one a b more) [ inl front ↦ inl (there front) | inr back ↦ inr back ]

-- statements
statements_places : (tokens : List Token) (made : List Statement) → IsStatements tokens made → (place : ℕ) → InStatements place made → IsPlaceOf tokens place
statements_places tokens made no_statement place (one, among, within_it) = elim among [ ]
statements_places tokens made (statement {tokens = front} {more} {first} {others} is follow) place (one, among, within_it) =
    elim (among_either one first others among) [
      | inl now ↦ placed_front front more place (statement_places front first is place (one, now, within_it))
      | inr later ↦ placed_back front more place (statements_places more others follow place (one, later, within_it))
    ]

-- each place in a chunk is that of one of its tokens
pub chunk_places : (tokens : List Token) (chunk : LuaChunk) (place : ℕ) → IsChunk tokens chunk → IsPlaceIn chunk place → IsPlaceOf tokens place
chunk_places tokens chunk place c within_it =
    subst (λ (l : List Token). IsPlaceOf l place) (sym c.cut)
    (placed_front c.front (c.end_token ∷ []) place (statements_places c.front chunk.statements c.statements place within_it))
