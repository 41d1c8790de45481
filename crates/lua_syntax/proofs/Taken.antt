-- What the grammar derives, the machine takes.
use Rattle.std.proofs.Common.{◌≡◌, ℕ, ◌<◌, Bool, true, false, List, [], ◌∷◌, ◌++◌, length, Some, refl, sym, subst, ap, ◌∙◌, append_assoc, inl, inr}
use Rattle.std.proofs.lemmas.List.{append-nil}
use Rattle.lua_lexer.specs.declared.token.Token.{Token}
use Rattle.lua_lexer.specs.declared.token.TokenKind.{TokenKind}
use Rattle.lua_lexer.specs.declared.token.TokenKind.TheVariants as kinds
use Rattle.lua_lexer.specs.declared.vocabulary.Symbol.TheVariants as symbols
use Rattle.lua_names.specs.declared.keyword.Keyword.TheVariants as keywords
use Rattle.lua_syntax.specs.declared.tree.Expr.{Expr}
use Rattle.lua_syntax.specs.declared.tree.ExprKind.TheVariants as exprs
use Rattle.lua_syntax.specs.declared.tree.Field.{Field}
use Rattle.lua_syntax.specs.declared.tree.FieldKey.{FieldKey}
use Rattle.lua_syntax.specs.declared.tree.FieldKey.TheVariants as field_keys
use Rattle.lua_syntax.specs.declared.tree.Suffix.{Suffix}
use Rattle.lua_syntax.specs.Grammar.{IsExp, exp, IsJoined, no_operand, operand, IsSimple, nil, yes, no, int, text, table, prefix, IsPrefix, based, IsBase, name, parentheses, IsSuffixes, no_suffix, dotted, bracketed, IsTable, empty, filled, IsFields, last, last_separated, field, IsField, keyed, named, positional, IsName, IsSeparator, node, joined, indexed, place_of}
use Rattle.lua_syntax.specs.States.{Pending, nothing, pending, in_paren, in_subscript, in_key, in_field, Around, within, State, operand_start, behind_whole, behind_prefix, behind_dot, field_start, behind_field_name, behind_field_key, on_operand, on_end, on_whole, on_prefix, on_field, on_field_name, on_only_name, on_assign, step_by, closed, extended, suffix_of, field_of}
use Rattle.lua_syntax.proofs.Parts.{base_some, simple_some, place_of-append}
use Rattle.lua_syntax.proofs.Reached.{Leads, lead_here, lead_on, lead_step, lead_so, name_passes, IsOperandStart, plain_start, as_field, operand_begins, AtPrefix, at_prefix, at_name, prefix_goes_on, AtOperandEnd, whole_end, prefix_end, operand_goes_on, AtEnd, at_end, expression_ends}

-- ---- parts that are whole

-- an expression with a further operand, and with others and their operators behind it
abbrev pub completed : Pending → ℕ → Expr → List Expr → List ℕ → Expr
completed nothing first one others operators = joined first one others operators
completed (pending place head before dots) first one others operators = joined place head (before ++ one ∷ others) (dots ++ operators)

-- with no others the expression is closed
completed-none : (pe : Pending) (first : ℕ) (one : Expr) → closed pe one ≡ completed pe first one [] []
completed-none nothing first one = refl
completed-none (pending place head before dots) first one = ap (λ (operators : List ℕ). joined place head (before ++ one ∷ []) operators) (sym (append-nil dots))

-- with one more the expression was extended
completed-more : (pe : Pending) (first : ℕ) (one : Expr) (dot at : ℕ) (next : Expr) (others : List Expr) (operators : List ℕ)
    → completed (extended pe first one dot) at next others operators ≡ completed pe first one (next ∷ others) (dot ∷ operators)
completed-more nothing first one dot at next others operators = refl
completed-more (pending place head before dots) first one dot at next others operators =
    ap (λ (es : List Expr). joined place head es ((dots ++ dot ∷ []) ++ operators)) (append_assoc before (one ∷ []) (next ∷ others))
    ∙ ap (λ (ps : List ℕ). joined place head (before ++ one ∷ next ∷ others) ps) (append_assoc dots (dot ∷ []) operators)

-- ---- single tokens

-- an operand of one token
literal_taken : (may_be_field : Bool) (token : Token) (kind : TokenKind) (made : Expr) (pe : Pending) (around : Around) (from : State) → token.kind ≡ kind
    → step_by from token.place kind ≡ Some (behind_whole token.place made pe around) → Leads from (AtOperandEnd may_be_field made token.place pe around) (token ∷ [])
literal_taken may_be_field token kind made pe around from is taken =
    lead_step from (behind_whole token.place made pe around) (AtOperandEnd may_be_field made token.place pe around) token kind [] is taken (lead_here _ (AtOperandEnd may_be_field made token.place pe around) whole_end)

-- a name as a base
name_taken : (may_be_field : Bool) (token : Token) (bytes : List ℕ) (pe : Pending) (around : Around) (from : State) → IsName token bytes → IsOperandStart may_be_field token.place pe around from
    → Leads from (AtPrefix may_be_field token.place (node token.place (exprs.Name bytes)) [] pe around) (token ∷ [])
unfolding step_by on_operand on_field
name_taken may_be_field token bytes pe around from is plain_start =
    let to = behind_prefix token.place (node token.place (exprs.Name bytes)) [] pe around in
    let Is : State → Type 0 = AtPrefix may_be_field token.place (node token.place (exprs.Name bytes)) [] pe around in
    lead_step (operand_start pe around) to Is token (kinds.Name bytes) [] is.0 (name_passes bytes to is.1) (lead_here to Is at_prefix)
name_taken may_be_field token bytes pe around from is (as_field {table = opening} {fields} {pe = before} {around = outer}) =
    let to = behind_field_name token.place bytes opening fields before outer in
    let Is : State → Type 0 = AtPrefix true token.place (node token.place (exprs.Name bytes)) [] nothing (within (in_field token.place field_keys.Position opening fields before) outer) in
    lead_step (field_start opening fields before outer) to Is token (kinds.Name bytes) [] is.0 (name_passes bytes to is.1) (lead_here to Is at_name)

-- the front of an operand that isn't empty has its place
start_front : (may_be_field : Bool) (first more : List Token) (pe : Pending) (around : Around) (from : State) → 0 < length first → IsOperandStart may_be_field (place_of (first ++ more)) pe around from → IsOperandStart may_be_field (place_of first) pe around from
start_front may_be_field first more pe around from some at = subst (λ (place : ℕ). IsOperandStart may_be_field place pe around from) (place_of-append first more some) at

-- ---- fields

-- behind these fields of a table: behind a separator, or behind the value of the last
pub data AtFields : ℕ → List Field → Pending → Around → State → Type 0 where
  at_field : {opening : ℕ} {fields : List Field} {pe : Pending} {around : Around} → AtFields opening fields pe around (field_start opening fields pe around)
  at_value : {opening place : ℕ} {key : FieldKey} {value : Expr} {fields : List Field} {pe : Pending} {around : Around} {state : State}
      → AtEnd true value (within (in_field place key opening fields pe) around) state → AtFields opening (fields ++ field_of place key value ∷ []) pe around state

-- `}` ends a table behind its fields
table_closes : (opening : ℕ) (fields : List Field) (pe : Pending) (around : Around) (from : State) (place : ℕ) → AtFields opening fields pe around from
    → step_by from place (kinds.Symbol symbols.CloseBrace) ≡ Some (behind_whole opening (node opening (exprs.Table fields)) pe around)
unfolding step_by on_field on_end
table_closes opening fields pe around from place at_field = refl
table_closes opening fields pe around from place (at_value {place = first} {key} {value} {fields = before} at) =
    expression_ends true value (within (in_field first key opening before pe) around) from place (kinds.Symbol symbols.CloseBrace) at tt

-- a separator behind a value
separator_taken : (made : Field) (opening : ℕ) (fields : List Field) (pe : Pending) (around : Around) (from : State) (separator : Token) (Is : State → Type 0) (tokens : List Token)
    → AtEnd true made.value (within (in_field made.place made.key opening fields pe) around) from → IsSeparator separator
    → Leads (field_start opening (fields ++ made ∷ []) pe around) Is tokens → Leads from Is (separator ∷ tokens)
unfolding on_end
separator_taken made opening fields pe around from separator Is tokens at (inl is) go_on =
    lead_step from (field_start opening (fields ++ made ∷ []) pe around) Is separator (kinds.Symbol symbols.Comma) tokens is
    (expression_ends true made.value (within (in_field made.place made.key opening fields pe) around) from separator.place (kinds.Symbol symbols.Comma) at tt) go_on
separator_taken made opening fields pe around from separator Is tokens at (inr is) go_on =
    lead_step from (field_start opening (fields ++ made ∷ []) pe around) Is separator (kinds.Symbol symbols.Semicolon) tokens is
    (expression_ends true made.value (within (in_field made.place made.key opening fields pe) around) from separator.place (kinds.Symbol symbols.Semicolon) at tt) go_on

-- ---- expressions

mutual
  unfolding step_by on_operand on_end on_whole on_prefix on_field on_field_name on_only_name on_assign

  -- an expression from its start to its end
  pub exp_taken : (may_be_field : Bool) (tokens : List Token) (made : Expr) → IsExp tokens made → (around : Around) (from : State) → IsOperandStart may_be_field (place_of tokens) nothing around from → Leads from (AtEnd may_be_field made around) tokens
  exp_taken may_be_field tokens made (exp {first} {more} {operand = one} {others} {operators} simple joins) around from at =
      lead_on from (AtOperandEnd may_be_field one (place_of first) nothing around) (AtEnd may_be_field (joined (place_of first) one others operators) around) first more
      (simple_taken may_be_field first one simple nothing around from (start_front may_be_field first more nothing around from (simple_some first one simple) at))
      (λ to ends. joined_taken may_be_field more others operators joins one (place_of first) nothing around to ends)

  -- further operands from an operand's end to the expression's
  pub joined_taken : (may_be_field : Bool) (tokens : List Token) (others : List Expr) (operators : List ℕ) → IsJoined tokens others operators → (one : Expr) (first : ℕ) (pe : Pending) (around : Around) (from : State)
      → AtOperandEnd may_be_field one first pe around from → Leads from (AtEnd may_be_field (completed pe first one others operators) around) tokens
  joined_taken may_be_field tokens others operators no_operand one first pe around from at =
      lead_here from (AtEnd may_be_field (completed pe first one [] []) around) (subst (λ (e : Expr). AtEnd may_be_field e around from) (completed-none pe first one) (at_end at))
  joined_taken may_be_field tokens others operators (operand dots {first = front} {more} {next} {others = rest} {operators = places} is simple joins) one first pe around from at =
      let between = extended pe first one dots.place in
      let Is : State → Type 0 = AtEnd may_be_field (completed between (place_of front) next rest places) around in
      subst (λ (e : Expr). Leads from (AtEnd may_be_field e around) (dots ∷ front ++ more)) (completed-more pe first one dots.place (place_of front) next rest places)
      (lead_step from (operand_start between around) Is dots (kinds.Symbol symbols.Concat) (front ++ more) is (operand_goes_on may_be_field one first pe around from dots.place (kinds.Symbol symbols.Concat) at tt)
      (lead_on (operand_start between around) (AtOperandEnd may_be_field next (place_of front) between around) Is front more
      (simple_taken may_be_field front next simple between around (operand_start between around) plain_start)
      (λ to ends. joined_taken may_be_field more rest places joins next (place_of front) between around to ends)))

  -- an operand
  pub simple_taken : (may_be_field : Bool) (tokens : List Token) (made : Expr) → IsSimple tokens made → (pe : Pending) (around : Around) (from : State) → IsOperandStart may_be_field (place_of tokens) pe around from
      → Leads from (AtOperandEnd may_be_field made (place_of tokens) pe around) tokens
  simple_taken may_be_field tokens made (nil token is) pe around from at =
      literal_taken may_be_field token (kinds.Keyword keywords.Nil) (node token.place exprs.Nil) pe around from is (operand_begins may_be_field token.place pe around from (kinds.Keyword keywords.Nil) at tt)
  simple_taken may_be_field tokens made (yes token is) pe around from at =
      literal_taken may_be_field token (kinds.Keyword keywords.True) (node token.place (exprs.Bool true)) pe around from is (operand_begins may_be_field token.place pe around from (kinds.Keyword keywords.True) at tt)
  simple_taken may_be_field tokens made (no token is) pe around from at =
      literal_taken may_be_field token (kinds.Keyword keywords.False) (node token.place (exprs.Bool false)) pe around from is (operand_begins may_be_field token.place pe around from (kinds.Keyword keywords.False) at tt)
  simple_taken may_be_field tokens made (int token n is) pe around from at =
      literal_taken may_be_field token (kinds.Int n) (node token.place (exprs.Int n)) pe around from is (operand_begins may_be_field token.place pe around from (kinds.Int n) at tt)
  simple_taken may_be_field tokens made (text token bytes is) pe around from at =
      literal_taken may_be_field token (kinds.Text bytes) (node token.place (exprs.Text bytes)) pe around from is (operand_begins may_be_field token.place pe around from (kinds.Text bytes) at tt)
  simple_taken may_be_field tokens made (table is) pe around from at = table_taken may_be_field tokens made is pe around from at
  simple_taken may_be_field tokens made (prefix is) pe around from at = prefix_taken may_be_field tokens made is pe around from at

  -- a base with its suffixes
  pub prefix_taken : (may_be_field : Bool) (tokens : List Token) (made : Expr) → IsPrefix tokens made → (pe : Pending) (around : Around) (from : State) → IsOperandStart may_be_field (place_of tokens) pe around from
      → Leads from (AtOperandEnd may_be_field made (place_of tokens) pe around) tokens
  prefix_taken may_be_field tokens made (based {first} {more} {base} {suffixes} is follow) pe around from at =
      let place = place_of first in
      let whole = indexed place base suffixes in
      subst (λ (p : ℕ). Leads from (AtOperandEnd may_be_field whole p pe around) (first ++ more)) (sym (place_of-append first more (base_some first base is)))
      (lead_on from (AtPrefix may_be_field place base [] pe around) (AtOperandEnd may_be_field whole place pe around) first more
      (base_taken may_be_field first base is pe around from (start_front may_be_field first more pe around from (base_some first base is) at))
      (λ to ends. suffixes_taken may_be_field more suffixes follow place base [] pe around to ends))

  -- a base
  pub base_taken : (may_be_field : Bool) (tokens : List Token) (made : Expr) → IsBase tokens made → (pe : Pending) (around : Around) (from : State) → IsOperandStart may_be_field (place_of tokens) pe around from
      → Leads from (AtPrefix may_be_field (place_of tokens) made [] pe around) tokens
  base_taken may_be_field tokens made (name token bytes is) pe around from at = name_taken may_be_field token bytes pe around from is at
  base_taken may_be_field tokens made (parentheses opening closing {inner} {made = base} opens is closes) pe around from at =
      let inside = within (in_paren opening.place pe) around in
      let Is : State → Type 0 = AtPrefix may_be_field opening.place base [] pe around in
      lead_step from (operand_start nothing inside) Is opening (kinds.Symbol symbols.OpenParen) (inner ++ closing ∷ []) opens
      (operand_begins may_be_field opening.place pe around from (kinds.Symbol symbols.OpenParen) at tt)
      (lead_on (operand_start nothing inside) (AtEnd false base inside) Is inner (closing ∷ []) (exp_taken false inner base is inside (operand_start nothing inside) plain_start)
      (λ to ends. lead_step to (behind_prefix opening.place base [] pe around) Is closing (kinds.Symbol symbols.CloseParen) [] closes
      (expression_ends false base inside to closing.place (kinds.Symbol symbols.CloseParen) ends tt) (lead_here _ Is at_prefix)))

  -- suffixes from a prefix's end to the operand's
  pub suffixes_taken : (may_be_field : Bool) (tokens : List Token) (suffixes : List Suffix) → IsSuffixes tokens suffixes → (first : ℕ) (base : Expr) (before : List Suffix) (pe : Pending) (around : Around) (from : State)
      → AtPrefix may_be_field first base before pe around from → Leads from (AtOperandEnd may_be_field (indexed first base (before ++ suffixes)) first pe around) tokens
  suffixes_taken may_be_field tokens suffixes no_suffix first base before pe around from at =
      subst (λ (l : List Suffix). Leads from (AtOperandEnd may_be_field (indexed first base l) first pe around) []) (sym (append-nil before))
      (lead_here from (AtOperandEnd may_be_field (indexed first base before) first pe around) (prefix_end at))
  suffixes_taken may_be_field tokens suffixes (dotted dot token bytes {more} {suffixes = others} is is_name follow) first base before pe around from at =
      let here = suffix_of dot.place (node token.place (exprs.Text bytes)) in
      let Is : State → Type 0 = AtOperandEnd may_be_field (indexed first base ((before ++ here ∷ []) ++ others)) first pe around in
      let to = behind_prefix first base (before ++ here ∷ []) pe around in
      subst (λ (l : List Suffix). Leads from (AtOperandEnd may_be_field (indexed first base l) first pe around) (dot ∷ token ∷ more)) (append_assoc before (here ∷ []) others)
      (lead_step from (behind_dot first base before dot.place pe around) Is dot (kinds.Symbol symbols.Dot) (token ∷ more) is
      (prefix_goes_on may_be_field first base before pe around from dot.place (kinds.Symbol symbols.Dot) at tt)
      (lead_step (behind_dot first base before dot.place pe around) to Is token (kinds.Name bytes) more is_name.0 (name_passes bytes to is_name.1)
      (suffixes_taken may_be_field more others follow first base (before ++ here ∷ []) pe around to at_prefix)))
  suffixes_taken may_be_field tokens suffixes (bracketed opening closing {inner} {more} {key} {suffixes = others} opens is closes follow) first base before pe around from at =
      let here = suffix_of opening.place key in
      let inside = within (in_subscript first base before opening.place pe) around in
      let Is : State → Type 0 = AtOperandEnd may_be_field (indexed first base ((before ++ here ∷ []) ++ others)) first pe around in
      let after = behind_prefix first base (before ++ here ∷ []) pe around in
      subst (λ (l : List Suffix). Leads from (AtOperandEnd may_be_field (indexed first base l) first pe around) (opening ∷ inner ++ closing ∷ more)) (append_assoc before (here ∷ []) others)
      (lead_step from (operand_start nothing inside) Is opening (kinds.Symbol symbols.OpenBracket) (inner ++ closing ∷ more) opens
      (prefix_goes_on may_be_field first base before pe around from opening.place (kinds.Symbol symbols.OpenBracket) at tt)
      (lead_on (operand_start nothing inside) (AtEnd false key inside) Is inner (closing ∷ more) (exp_taken false inner key is inside (operand_start nothing inside) plain_start)
      (λ to ends. lead_step to after Is closing (kinds.Symbol symbols.CloseBracket) more closes (expression_ends false key inside to closing.place (kinds.Symbol symbols.CloseBracket) ends tt)
      (suffixes_taken may_be_field more others follow first base (before ++ here ∷ []) pe around after at_prefix))))

  -- a table
  pub table_taken : (may_be_field : Bool) (tokens : List Token) (made : Expr) → IsTable tokens made → (pe : Pending) (around : Around) (from : State) → IsOperandStart may_be_field (place_of tokens) pe around from
      → Leads from (AtOperandEnd may_be_field made (place_of tokens) pe around) tokens
  table_taken may_be_field tokens made (empty opening closing opens closes) pe around from at =
      let made = node opening.place (exprs.Table []) in
      let Is : State → Type 0 = AtOperandEnd may_be_field made opening.place pe around in
      lead_step from (field_start opening.place [] pe around) Is opening (kinds.Symbol symbols.OpenBrace) (closing ∷ []) opens
      (operand_begins may_be_field opening.place pe around from (kinds.Symbol symbols.OpenBrace) at tt)
      (lead_step (field_start opening.place [] pe around) (behind_whole opening.place made pe around) Is closing (kinds.Symbol symbols.CloseBrace) [] closes refl (lead_here _ Is whole_end))
  table_taken may_be_field tokens made (filled opening closing {inner} {fields} opens is closes) pe around from at =
      let made = node opening.place (exprs.Table fields) in
      let Is : State → Type 0 = AtOperandEnd may_be_field made opening.place pe around in
      lead_step from (field_start opening.place [] pe around) Is opening (kinds.Symbol symbols.OpenBrace) (inner ++ closing ∷ []) opens
      (operand_begins may_be_field opening.place pe around from (kinds.Symbol symbols.OpenBrace) at tt)
      (lead_on (field_start opening.place [] pe around) (AtFields opening.place fields pe around) Is inner (closing ∷ []) (fields_taken inner fields is opening.place [] pe around)
      (λ to ends. lead_step to (behind_whole opening.place made pe around) Is closing (kinds.Symbol symbols.CloseBrace) [] closes
      (table_closes opening.place fields pe around to closing.place ends) (lead_here _ Is whole_end)))

  -- fields from where one may begin
  pub fields_taken : (tokens : List Token) (fields : List Field) → IsFields tokens fields → (opening : ℕ) (before : List Field) (pe : Pending) (around : Around)
      → Leads (field_start opening before pe around) (AtFields opening (before ++ fields) pe around) tokens
  fields_taken tokens fields (last {made} is) opening before pe around =
      lead_so (field_start opening before pe around) (AtEnd true made.value (within (in_field made.place made.key opening before pe) around)) (AtFields opening (before ++ made ∷ []) pe around) tokens
      (field_taken tokens made is opening before pe around) (λ to ends. at_value ends)
  fields_taken tokens fields (last_separated {tokens = front} {made} separator is is_separator) opening before pe around =
      let Is : State → Type 0 = AtFields opening (before ++ made ∷ []) pe around in
      lead_on (field_start opening before pe around) (AtEnd true made.value (within (in_field made.place made.key opening before pe) around)) Is front (separator ∷ [])
      (field_taken front made is opening before pe around)
      (λ to ends. separator_taken made opening before pe around to separator Is [] ends is_separator (lead_here _ Is at_field))
  fields_taken tokens fields (field {tokens = front} {more} {made} separator {others} is is_separator then') opening before pe around =
      let Is : State → Type 0 = AtFields opening ((before ++ made ∷ []) ++ others) pe around in
      subst (λ (l : List Field). Leads (field_start opening before pe around) (AtFields opening l pe around) (front ++ separator ∷ more)) (append_assoc before (made ∷ []) others)
      (lead_on (field_start opening before pe around) (AtEnd true made.value (within (in_field made.place made.key opening before pe) around)) Is front (separator ∷ more)
      (field_taken front made is opening before pe around)
      (λ to ends. separator_taken made opening before pe around to separator Is more ends is_separator (fields_taken more others then' opening (before ++ made ∷ []) pe around)))

  -- a field to the end of its value
  pub field_taken : (tokens : List Token) (made : Field) → IsField tokens made → (opening : ℕ) (before : List Field) (pe : Pending) (around : Around)
      → Leads (field_start opening before pe around) (AtEnd true made.value (within (in_field made.place made.key opening before pe) around)) tokens
  field_taken tokens made (keyed bracket closing assign {inner} {tokens = behind} {key} {value} opens is closes assigns valued) opening before pe around =
      let inside = within (in_key bracket.place opening before pe) around in
      let after = within (in_field bracket.place (field_keys.Given key) opening before pe) around in
      let Is : State → Type 0 = AtEnd true value after in
      lead_step (field_start opening before pe around) (operand_start nothing inside) Is bracket (kinds.Symbol symbols.OpenBracket) (inner ++ closing ∷ assign ∷ behind) opens refl
      (lead_on (operand_start nothing inside) (AtEnd false key inside) Is inner (closing ∷ assign ∷ behind) (exp_taken false inner key is inside (operand_start nothing inside) plain_start)
      (λ to ends. lead_step to (behind_field_key bracket.place key opening before pe around) Is closing (kinds.Symbol symbols.CloseBracket) (assign ∷ behind) closes
      (expression_ends false key inside to closing.place (kinds.Symbol symbols.CloseBracket) ends tt)
      (lead_step (behind_field_key bracket.place key opening before pe around) (operand_start nothing after) Is assign (kinds.Symbol symbols.Assign) behind assigns refl
      (exp_taken true behind value valued after (operand_start nothing after) plain_start))))
  field_taken tokens made (named token assign bytes {tokens = behind} {value} is assigns valued) opening before pe around =
      let named_so = behind_field_name token.place bytes opening before pe around in
      let after = within (in_field token.place (field_keys.Given (node token.place (exprs.Text bytes))) opening before pe) around in
      let Is : State → Type 0 = AtEnd true value after in
      lead_step (field_start opening before pe around) named_so Is token (kinds.Name bytes) (assign ∷ behind) is.0 (name_passes bytes named_so is.1)
      (lead_step named_so (operand_start nothing after) Is assign (kinds.Symbol symbols.Assign) behind assigns refl
      (exp_taken true behind value valued after (operand_start nothing after) plain_start))
  field_taken tokens made (positional {value} is) opening before pe around =
      exp_taken true tokens value is (within (in_field (place_of tokens) field_keys.Position opening before pe) around) (field_start opening before pe around) as_field
