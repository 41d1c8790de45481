-- Where and why the readers of tables stop.
use Rattle.std.proofs.Common.{◌≡◌, ◌≢◌, ◌⊎◌, inl, inr, ℕ, ◌+◌, ◌<◌, ◌≤◌, Bool, true, false, List, [], ◌∷◌, ◌++◌, Option, Some, None, codes, refl, sym, ap, subst, ◌∙◌, append_assoc}
use Rattle.std.specs.Prelude.{IsTrue, if◌then◌else◌}
use Rattle.std.specs.Str.{bytes_eq}
use Rattle.std.proofs.lemmas.List.{append-nil}
use Rattle.lua_lexer.specs.declared.token.Token.{Token}
use Rattle.lua_lexer.specs.declared.token.TokenKind.{TokenKind}
use Rattle.lua_lexer.specs.declared.token.TokenKind.TheVariants as kinds
use Rattle.lua_lexer.specs.declared.vocabulary.Symbol.TheVariants as symbols
use Rattle.lua_syntax.specs.declared.fault.SyntaxFault.{SyntaxFault}
use Rattle.lua_syntax.specs.declared.fault.SyntaxFault.TheVariants as faults
use Rattle.lua_syntax.specs.declared.position.Position.TheVariants as positions
use Rattle.lua_syntax.specs.declared.position.Ending.{Ending}
use Rattle.lua_syntax.specs.declared.position.Ending.TheVariants.{Prefix}
use Rattle.lua_syntax.specs.declared.tree.Expr.{Expr}
use Rattle.lua_syntax.specs.declared.tree.ExprKind.TheVariants as exprs
use Rattle.lua_syntax.specs.declared.tree.Field.{Field}
use Rattle.lua_syntax.specs.declared.tree.FieldKey.{FieldKey}
use Rattle.lua_syntax.specs.declared.tree.FieldKey.TheVariants as field_keys
use Rattle.lua_syntax.specs.Brackets.{is_opening, open_behind, IsLow, Keeps}
use Rattle.lua_syntax.specs.Failing.{IsRefused, IsDeep, Fails, IsFailure, IsNoName, IsOther, FailsAtExpression, FailsAtField, FailsInSquare, FailsInTable, KeepsBehind, StopsBehind}
use Rattle.lua_syntax.specs.Faults.{unserved_at}
use Rattle.lua_syntax.specs.Fields.{HeadsNamedField, IsNamedKey, LeadsToValue, NoNamedField}
use Rattle.lua_syntax.specs.Grammar.{IsExp, IsFields, IsSeparator, node, place_of}
use Rattle.lua_syntax.specs.Reading.{Heads, IsBracketed, NotAhead, Takes, TakesPart}
use Rattle.lua_syntax.specs.Refusals.{refusal, refusal_by}
use Rattle.lua_syntax.specs.States.{Pending, nothing, in_key, in_field, Around, within, State, operand_start, behind_prefix, field_start, behind_field_name, behind_field_key, on_name, on_operand, on_end, on_field, on_field_name, on_only_name, on_assign, step, step_by, step_on, run}
use Rattle.lua_syntax.proofs.Failures.{fails_at, deep_at, failure_behind_level}
use Rattle.lua_syntax.proofs.Kept.{Closed}
use Rattle.lua_syntax.proofs.Loops.{AreSeparated, none, some, FieldsSo}
use Rattle.lua_syntax.proofs.Reached.{Leads, leads, OnlyOperand, as_field, plain_start, operand_begins, AtEnd, expression_ends, name_passes, NoAssign, at_prefix, at_name, prefix_goes_on, plain_prefix_goes_on}
use Rattle.lua_syntax.proofs.Runs.{run-append, run-cons, run-one, run-none, run_on}
use Rattle.lua_syntax.proofs.Stopping.{end_refuses_field, only_name_refuses}
use Rattle.lua_syntax.proofs.Stops.{failure_at_end, failure_opened, kept_front}
use Rattle.lua_syntax.proofs.Taken.{exp_taken, field_taken}

-- ---- what leads to a value

module _ (tokens : List Token) where
  -- a name and `=`
  named_steps : (token : Token) (rest : List Token) (h : HeadsNamedField tokens token rest) (key : Expr) → IsNamedKey token key → (table : ℕ) (fields : List Field) (outer : Pending) (around : Around)
      → run (Some (field_start table fields outer around)) (token ∷ h.assign ∷ [])
      ≡ Some (operand_start nothing (within (in_field token.place (field_keys.Given key) table fields outer) around))
  unfolding step_by on_field on_field_name
  named_steps token rest h key k table fields outer around =
      let behind : State = behind_field_name token.place k.bytes table fields outer around in
      run-cons (field_start table fields outer around) behind token (h.assign ∷ [])
      (ap (on_field table fields outer around token.place) k.is.0 ∙ name_passes k.bytes behind k.is.1)
      ∙ run-one behind h.assign ∙ ap (on_field_name token.place k.bytes table fields outer around h.assign.place) h.assigns
      ∙ ap (λ (e : Expr). Some (operand_start nothing (within (in_field token.place (field_keys.Given e) table fields outer) around))) (sym k.key_is)

  pub named_leads : (token : Token) (rest : List Token) → HeadsNamedField tokens token rest → (key : Expr) → IsNamedKey token key → LeadsToValue tokens (field_keys.Given key) rest
  named_leads token rest h key k = inr (record {
    front = token ∷ h.assign ∷ [];
    cut = h.cut;
    runs = λ table fields outer around. named_steps token rest h key k table fields outer around
        ∙ ap (λ (p : ℕ). Some (operand_start nothing (within (in_field p (field_keys.Given key) table fields outer) around))) (sym (ap place_of h.cut));
  })

  by_closing : (from : State) (inner : List Token) (closing assign : Token) (key : Expr) (opening : ℕ) (table : ℕ) (fields : List Field) (outer : Pending) (around : Around)
      → closing.kind ≡ kinds.Symbol symbols.CloseBracket → assign.kind ≡ kinds.Symbol symbols.Assign
      → Leads from (AtEnd false key (within (in_key opening table fields outer) around)) inner
      → (run (Some from) (inner ++ closing ∷ []) ≡ Some (behind_field_key opening key table fields outer around))
      × (step (behind_field_key opening key table fields outer around) assign ≡ Some (operand_start nothing (within (in_field opening (field_keys.Given key) table fields outer) around)))
  unfolding step_by on_end on_assign
  by_closing from inner closing assign key opening table fields outer around closes assigns (leads to e at) =
      let inside = within (in_key opening table fields outer) around in
      let steps : step to closing ≡ Some (behind_field_key opening key table fields outer around) =
      ap (step_by to closing.place) closes ∙ expression_ends false key inside to closing.place (kinds.Symbol symbols.CloseBracket) at tt in (
        run-append (Some from) inner (closing ∷ []) ∙ ap (λ (at' : Option State). run at' (closing ∷ [])) e ∙ run-one to closing ∙ steps,
        ap (on_assign (operand_start nothing (within (in_field opening (field_keys.Given key) table fields outer) around))) assigns,
      )

  -- `[`, an expression and `]`
  pub bracket_steps : (place : ℕ) (rest : List Token) (h : Heads symbols.OpenBracket tokens place rest) (key : Expr) (mid : List Token) (t : TakesPart IsBracketed rest key Prefix mid) (assign : Token)
      → assign.kind ≡ kinds.Symbol symbols.Assign → (table : ℕ) (fields : List Field) (outer : Pending) (around : Around)
      → (run (Some (field_start table fields outer around)) (h.token ∷ t.front) ≡ Some (behind_field_key h.token.place key table fields outer around))
      × (step (behind_field_key h.token.place key table fields outer around) assign ≡ Some (operand_start nothing (within (in_field h.token.place (field_keys.Given key) table fields outer) around)))
  unfolding step_by on_field
  bracket_steps place rest h key mid t assign assigns table fields outer around =
      let inside = within (in_key h.token.place table fields outer) around in
      let b = t.is in
      let both = by_closing (operand_start nothing inside) b.inner b.closing assign key h.token.place table fields outer around b.closes assigns
      (exp_taken false b.inner key b.is inside (operand_start nothing inside) plain_start) in (
        run-cons (field_start table fields outer around) (operand_start nothing inside) h.token t.front (ap (on_field table fields outer around h.token.place) h.is)
            ∙ ap (λ (l : List Token). run (Some (operand_start nothing inside)) l) b.cut ∙ both.0,
        both.1,
      )

  pub bracket_leads : (place : ℕ) (rest : List Token) → Heads symbols.OpenBracket tokens place rest → (key : Expr) (mid last : List Token) → TakesPart IsBracketed rest key Prefix mid
      → Closed symbols.Assign mid last → LeadsToValue tokens (field_keys.Given key) last
  bracket_leads place rest h key mid last t closed =
      let k = closed.1 in
      inr (record {
        front = (h.token ∷ t.front) ++ k.token ∷ [];
        cut = h.cut ∙ ap (λ (l : List Token). h.token ∷ l) (t.cut ∙ ap (λ (l : List Token). t.front ++ l) k.cut) ∙ sym (append_assoc (h.token ∷ t.front) (k.token ∷ []) last);
        runs = λ table fields outer around.
            let both = bracket_steps place rest h key mid t k.token k.is table fields outer around in
            run-append (Some (field_start table fields outer around)) (h.token ∷ t.front) (k.token ∷ []) ∙ ap (λ (at : Option State). run at (k.token ∷ [])) both.0
            ∙ run-one (behind_field_key h.token.place key table fields outer around) k.token ∙ both.1
            ∙ ap (λ (p : ℕ). Some (operand_start nothing (within (in_field p (field_keys.Given key) table fields outer) around))) (sym (ap place_of h.cut));
      })

-- ---- fields without a key

-- a name, or what means at a field's front what it means at an operand's
by_front : (kind : TokenKind) → kind ≢ kinds.Symbol symbols.OpenBracket → kind ≢ kinds.Symbol symbols.CloseBrace → ((bytes : List ℕ) × (kind ≡ kinds.Name bytes)) ⊎ OnlyOperand kind
by_front (kinds.Name bytes) no_bracket no_brace = inl (bytes, refl)
by_front (kinds.Symbol symbols.OpenBracket) no_bracket no_brace = absurd (no_bracket refl)
by_front (kinds.Symbol symbols.CloseBrace) no_bracket no_brace = absurd (no_brace refl)
by_front _ no_bracket no_brace = inr tt

first_step : (at : Option State) (f : List Token) (next : State) → run at f ≡ Some next → (mid : State) × (at ≡ Some mid) × (run (Some mid) f ≡ Some next)
first_step None f next e = absurd (let g : None ≡ Some next = sym (run-none f) ∙ e in cc)
first_step (Some mid) f next e = (mid, refl, e)

no_assign : (kind : TokenKind) → kind ≢ kinds.Symbol symbols.Assign → NoAssign kind
no_assign (kinds.Symbol symbols.Assign) other = absurd (other refl)
no_assign _ other = tt

module _ (depth : ℕ) (table : ℕ) (fields : List Field) (outer : Pending) (around : Around) where
  abbrev inside_at : ℕ → Around
  inside_at place = within (in_field place field_keys.Position table fields outer) around

  abbrev at_field_start : State
  at_field_start = field_start table fields outer around

  abbrev at_operand : ℕ → State
  at_operand place = operand_start nothing (inside_at place)

  same_step : (token : Token) → OnlyOperand token.kind → step at_field_start token ≡ step (at_operand token.place) token
  unfolding step_by
  same_step token only = operand_begins true token.place nothing (inside_at token.place) at_field_start token.kind as_field only

  -- what fails at the first token
  by_first : (token : Token) (rest : List Token) (fault : SyntaxFault) → OnlyOperand token.kind → (IsRefused (at_operand token.place) token fault ⊎ IsDeep depth (at_operand token.place) token fault)
      → Fails depth at_field_start (token ∷ rest) fault
  by_first token rest fault only (inl r) = fails_at depth at_field_start (token ∷ rest) token rest fault refl (record { refused = same_step token only ∙ r.refused; is = r.is })
  by_first token rest fault only (inr d) = deep_at depth at_field_start (token ∷ rest) token rest fault refl (record { next = d.next; taken = same_step token only ∙ d.taken; opens = d.opens; full = d.full; is = d.is })

  -- what fails further on, behind a token that isn't a name
  by_same : (token : Token) (f : List Token) (failing : Token) (rest : List Token) (next : State) (fault : SyntaxFault) → OnlyOperand token.kind
      → run (Some (at_operand token.place)) (token ∷ f) ≡ Some next → IsLow depth (token ∷ f)
      → IsRefused next failing fault ⊎ IsDeep (open_behind depth (token ∷ f)) next failing fault → Fails depth at_field_start (token ∷ f ++ failing ∷ rest) fault
  unfolding run
  by_same token f failing rest next fault only runs low why =
      record { front = token ∷ f; token = failing; rest = rest; cut = refl; next = next; runs = ap (λ (at : Option State). run at f) (same_step token only) ∙ runs; low = low; why = why }

  -- a name: where it may stand it leads to a prefix, or to the name of a field
  by_test : (test : Bool) (behind named next : State) → (if test then None else Some behind) ≡ Some next → (next ≡ behind) × ((if test then None else Some named) ≡ Some named)
  by_test true behind named next e = absurd (let f : None ≡ Some next = e in cc)
  by_test false behind named next e = (let f : Some behind ≡ Some next = e in cc, refl)

  by_no_test : (test : Bool) (behind named : State) → (if test then None else Some behind) ≡ None → (if test then None else Some named) ≡ None
  by_no_test true behind named e = refl
  by_no_test false behind named e = absurd (let f : Some behind ≡ None = e in cc)

  name_step : (token : Token) (bytes : List ℕ) (next : State) → token.kind ≡ kinds.Name bytes → step (at_operand token.place) token ≡ Some next
      → (next ≡ behind_prefix token.place (node token.place (exprs.Name bytes)) [] nothing (inside_at token.place))
      × (step at_field_start token ≡ Some (behind_field_name token.place bytes table fields outer around))
  unfolding step_by on_operand on_field
  name_step token bytes next is steps =
      let both = by_test (bytes_eq bytes (codes "_ENV")) (behind_prefix token.place (node token.place (exprs.Name bytes)) [] nothing (inside_at token.place))
      (behind_field_name token.place bytes table fields outer around) next
      (sym (ap (on_operand nothing (inside_at token.place) token.place) is) ∙ steps) in
      (both.0, ap (on_field table fields outer around token.place) is ∙ both.1)

  name_stays : (token : Token) (bytes : List ℕ) → token.kind ≡ kinds.Name bytes → step (at_operand token.place) token ≡ None → step at_field_start token ≡ None
  unfolding step_by on_operand on_field
  name_stays token bytes is steps =
      ap (on_field table fields outer around token.place) is
      ∙ by_no_test (bytes_eq bytes (codes "_ENV")) (behind_prefix token.place (node token.place (exprs.Name bytes)) [] nothing (inside_at token.place))
      (behind_field_name token.place bytes table fields outer around) (sym (ap (on_operand nothing (inside_at token.place) token.place) is) ∙ steps)

  no_bracket_name : (token : Token) (bytes : List ℕ) → token.kind ≡ kinds.Name bytes → IsTrue (is_opening token.kind) → ⊥
  no_bracket_name token bytes is opens = let f : false ≡ true = sym (ap is_opening is) ∙ opens in cc

  -- behind the name, what isn't `=` is taken alike
  second_step : (token : Token) (bytes : List ℕ) (second : Token) → second.kind ≢ kinds.Symbol symbols.Assign
      → step (behind_field_name token.place bytes table fields outer around) second
      ≡ step (behind_prefix token.place (node token.place (exprs.Name bytes)) [] nothing (inside_at token.place)) second
  second_step token bytes second other =
      prefix_goes_on true token.place (node token.place (exprs.Name bytes)) [] nothing (inside_at token.place) (behind_field_name token.place bytes table fields outer around) second.place second.kind at_name (no_assign second.kind other)
      ∙ sym (plain_prefix_goes_on token.place (node token.place (exprs.Name bytes)) [] nothing (inside_at token.place) (behind_prefix token.place (node token.place (exprs.Name bytes)) [] nothing (inside_at token.place)) second.place second.kind at_prefix)

  by_name : (token : Token) (bytes : List ℕ) (f : List Token) (failing : Token) (rest : List Token) (next : State) (fault : SyntaxFault) → token.kind ≡ kinds.Name bytes
      → NotAhead symbols.Assign (f ++ failing ∷ rest) → (mid : State) → step (at_operand token.place) token ≡ Some mid → run (Some mid) f ≡ Some next → IsLow depth (token ∷ f)
      → IsRefused next failing fault ⊎ IsDeep (open_behind depth (token ∷ f)) next failing fault → Fails depth at_field_start (token ∷ f ++ failing ∷ rest) fault
  unfolding run
  by_name token bytes [] failing rest next fault is ahead mid steps runs low why =
      let both = name_step token bytes mid is steps in
      let behind : State = behind_prefix token.place (node token.place (exprs.Name bytes)) [] nothing (inside_at token.place) in
      let same : next ≡ behind = (let f : Some mid ≡ Some next = runs in cc) in
      let second = second_step token bytes failing (ahead failing rest refl) in
      record {
        front = token ∷ [];
        token = failing;
        rest = rest;
        cut = refl;
        next = behind_field_name token.place bytes table fields outer around;
        runs = both.1;
        low = low;
        why = elim (subst (λ (s : State). IsRefused s failing fault ⊎ IsDeep (open_behind depth (token ∷ [])) s failing fault) same why) [
          | inl r ↦ inl (record { refused = second ∙ r.refused; is = r.is })
          | inr d ↦ inr (record { next = d.next; taken = second ∙ d.taken; opens = d.opens; full = d.full; is = d.is })
        ];
      }
  by_name token bytes (second ∷ f) failing rest next fault is ahead mid steps runs low why =
      let both = name_step token bytes mid is steps in
      let named : State = behind_field_name token.place bytes table fields outer around in
      let start : run (step named second) f ≡ Some next =
      ap (λ (at : Option State). run at f) (second_step token bytes second (ahead second (f ++ failing ∷ rest) refl) ∙ ap (λ (s : State). step s second) (sym both.0)) ∙ runs in
      record {
        front = token ∷ second ∷ f;
        token = failing;
        rest = rest;
        cut = refl;
        next = next;
        runs = ap (λ (at : Option State). run (step_on at second) f) both.1 ∙ start;
        low = low;
        why = why;
      }

  -- what fails where the value begins, fails where the field begins
  by_front_of : (tokens front : List Token) (failing : Token) (rest : List Token) (next : State) (fault : SyntaxFault) → tokens ≡ front ++ failing ∷ rest
      → NotAhead symbols.OpenBracket tokens → NotAhead symbols.CloseBrace tokens → NoNamedField tokens → run (Some (at_operand (place_of tokens))) front ≡ Some next → IsLow depth front
      → IsRefused next failing fault ⊎ IsDeep (open_behind depth front) next failing fault → Fails depth at_field_start tokens fault
  unfolding run
  by_front_of tokens [] failing rest next fault cut no_bracket no_brace no_name runs low why =
      let same : next ≡ at_operand failing.place = (let f : Some (at_operand (place_of tokens)) ≡ Some next = runs in let g : next ≡ at_operand (place_of tokens) = cc in g) ∙ ap (λ (l : List Token). at_operand (place_of l)) cut in
      let here = subst (λ (s : State). IsRefused s failing fault ⊎ IsDeep depth s failing fault) same why in
      subst (λ (l : List Token). Fails depth at_field_start l fault) (sym cut)
      (elim (by_front failing.kind (no_bracket failing rest cut) (no_brace failing rest cut)) [
        | inl n ↦ elim here [
          | inl r ↦ fails_at depth at_field_start (failing ∷ rest) failing rest fault refl (record { refused = name_stays failing n.0 n.1 r.refused; is = r.is })
          | inr d ↦ absurd (no_bracket_name failing n.0 n.1 d.opens)
        ]
        | inr only ↦ by_first failing rest fault only here
      ])
  by_front_of tokens (token ∷ f) failing rest next fault cut no_bracket no_brace no_name runs low why =
      let start : run (Some (at_operand token.place)) (token ∷ f) ≡ Some next =
      subst (λ (l : List Token). run (Some (at_operand (place_of l))) (token ∷ f) ≡ Some next) cut runs in
      let mid = first_step (step (at_operand token.place) token) f next start in
      subst (λ (l : List Token). Fails depth at_field_start l fault) (sym cut)
      (elim (by_front token.kind (no_bracket token (f ++ failing ∷ rest) cut) (no_brace token (f ++ failing ∷ rest) cut)) [
        | inl n ↦ by_name token n.0 f failing rest next fault n.1 (no_name token (f ++ failing ∷ rest) n.0 cut n.1) mid.0 mid.1 mid.2 low why
        | inr only ↦ by_same token f failing rest next fault only start low why
      ])

  pub plain_fails : (tokens : List Token) (fault : SyntaxFault) → NotAhead symbols.OpenBracket tokens → NotAhead symbols.CloseBrace tokens → NoNamedField tokens
      → IsFailure depth (operand_start nothing (within (in_field (place_of tokens) field_keys.Position table fields outer) around)) tokens fault
      → IsFailure depth (field_start table fields outer around) tokens fault
  plain_fails tokens fault no_bracket no_brace no_name (inl out) = inl out
  plain_fails tokens fault no_bracket no_brace no_name (inr f) = inr (by_front_of tokens f.front f.token f.rest f.next fault f.cut no_bracket no_brace no_name f.runs f.low f.why)

  -- what fails at a value, fails at its field
  pub value_fails : (tokens : List Token) (key : FieldKey) (mid : List Token) (fault : SyntaxFault) → LeadsToValue tokens key mid → Keeps depth tokens mid → NotAhead symbols.CloseBrace tokens
      → IsFailure depth (operand_start nothing (within (in_field (place_of tokens) key table fields outer) around)) mid fault
      → IsFailure depth (field_start table fields outer around) tokens fault
  value_fails tokens key mid fault (inl p) kept no_brace f =
      let plain = p.1 in
      plain_fails tokens fault plain.no_bracket no_brace plain.no_name
      (subst (λ (l : List Token). IsFailure depth (operand_start nothing (within (in_field (place_of tokens) field_keys.Position table fields outer) around)) l fault) plain.same
      (subst (λ (k : FieldKey). IsFailure depth (operand_start nothing (within (in_field (place_of tokens) k table fields outer) around)) mid fault) p.0 f))
  value_fails tokens key mid fault (inr v) kept no_brace f =
      let level = kept_front depth tokens v.front mid v.cut kept in
      failure_behind_level depth (field_start table fields outer around) tokens v.front mid (operand_start nothing (within (in_field (place_of tokens) key table fields outer) around)) fault v.cut
      (v.runs table fields outer around) level.0 level.1 f

-- ---- fields

module _ (depth : ℕ) (tokens : List Token) where
  pub field_value_fails : (key : FieldKey) (mid : List Token) (fault : SyntaxFault) → LeadsToValue tokens key mid → Keeps depth tokens mid → NotAhead symbols.CloseBrace tokens
      → FailsAtExpression depth mid fault → FailsAtField depth tokens fault
  field_value_fails key mid fault ahead kept no_brace f table fields outer around =
      value_fails depth table fields outer around tokens key mid fault ahead kept no_brace (f (within (in_field (place_of tokens) key table fields outer) around))

  pub field_stops : (key : FieldKey) (mid : List Token) (value : Expr) (ending : Ending) (rest : List Token) → LeadsToValue tokens key mid → Keeps depth tokens mid → NotAhead symbols.CloseBrace tokens
      → Takes IsExp mid value ending rest → Keeps depth mid rest → NotAhead symbols.Concat rest → StopsBehind depth tokens ending rest
  field_stops key mid value ending rest ahead kept no_brace t level no_operator fault u table fields outer around =
      value_fails depth table fields outer around tokens key mid fault ahead kept no_brace
      (failure_at_end depth mid value ending rest (within (in_field (place_of tokens) key table fields outer) around) t level no_operator u.token u.rest fault u.cut
      (end_refuses_field (place_of tokens) key table fields outer around value u.token.place u.token.kind u.no_comma u.no_semicolon u.no_brace) u.is)

  pub key_square : (place : ℕ) (rest : List Token) (fault : SyntaxFault) → Heads symbols.OpenBracket tokens place rest → FailsInSquare depth place rest fault → FailsAtField depth tokens fault
  unfolding step_by on_field
  key_square place rest fault h f table fields outer around =
      subst (λ (l : List Token). IsFailure depth (field_start table fields outer around) l fault) (sym h.cut)
      (f (field_start table fields outer around) h.token (in_key h.token.place table fields outer) around h.is (sym h.place_is) tt (ap (on_field table fields outer around h.token.place) h.is))

  pub key_nameless : (token : Token) (rest : List Token) (fault : SyntaxFault) → HeadsNamedField tokens token rest
      → (fault ≡ faults.NoMemory) ⊎ (IsNoName token × (fault ≡ refusal (positions.NameStart ∷ []) token)) → FailsAtField depth tokens fault
  unfolding step_by on_field on_only_name
  key_nameless token rest fault h (inl out) table fields outer around = inl out
  key_nameless token rest fault h (inr n) table fields outer around =
      let next : List ℕ → State = λ bytes. behind_field_name token.place bytes table fields outer around in
      let refused : on_name h.bytes (next h.bytes) ≡ None = sym (ap (on_only_name next) h.is) ∙ only_name_refuses next token n.0 in
      inr (fails_at depth (field_start table fields outer around) tokens token (h.assign ∷ rest) fault h.cut
      (record {
        refused = ap (on_field table fields outer around token.place) h.is ∙ refused;
        is = n.1 ∙ ap (λ (k : TokenKind). refusal_by (unserved_at positions.ExpressionStart k) token (refusal (positions.NameStart ∷ []) token)) (sym h.is);
      }))

  assign_refuses : (next : State) (kind : TokenKind) → kind ≢ kinds.Symbol symbols.Assign → on_assign next kind ≡ None
  unfolding on_assign
  assign_refuses next (kinds.Symbol symbols.Assign) other = absurd (other refl)
  assign_refuses next _ other = refl

  pub key_unassigned : (place : ℕ) (rest : List Token) (key : Expr) (mid : List Token) (fault : SyntaxFault) → Heads symbols.OpenBracket tokens place rest → TakesPart IsBracketed rest key Prefix mid
      → KeepsBehind depth rest mid → IsOther symbols.Assign [] mid fault → FailsAtField depth tokens fault
  unfolding step_by
  key_unassigned place rest key mid fault h t kept o table fields outer around =
      let behind : State = behind_field_key h.token.place key table fields outer around in
      let runs = (bracket_steps tokens place rest h key mid t (record { place = 0; kind = kinds.Symbol symbols.Assign }) refl table fields outer around).0 in
      let whole : h.token ∷ rest ≡ (h.token ∷ t.front) ++ mid = ap (λ (l : List Token). h.token ∷ l) t.cut in
      let level = kept_front depth (h.token ∷ rest) (h.token ∷ t.front) mid whole (kept h.token (subst (λ (k : TokenKind). IsTrue (is_opening k)) (sym h.is) refl)) in
      failure_behind_level depth (field_start table fields outer around) tokens (h.token ∷ t.front) mid behind fault (h.cut ∙ whole) runs level.0 level.1
      (inr (fails_at depth behind mid o.token o.rest fault o.cut
      (record { refused = assign_refuses (operand_start nothing (within (in_field h.token.place (field_keys.Given key) table fields outer) around)) o.token.kind o.other; is = o.is })))

  -- ---- tables

  pub table_deep : (place : ℕ) (fault : SyntaxFault) → 100 ≤ depth → fault ≡ faults.TooDeep place → FailsInTable depth place tokens fault
  table_deep place fault full is state opening outer around kind at steps =
      inr (deep_at depth state (opening ∷ tokens) opening tokens fault refl
      (record { next = field_start place [] outer around; taken = steps; opens = subst (λ (k : TokenKind). IsTrue (is_opening k)) (sym kind) refl; full = full; is = is ∙ ap faults.TooDeep (sym at) }))

  separator_steps : (table : ℕ) (before : List Field) (made : Field) (outer : Pending) (around : Around) (from : State) (separator : Token)
      → AtEnd true made.value (within (in_field made.place made.key table before outer) around) from → IsSeparator separator → step from separator ≡ Some (field_start table (before ++ made ∷ []) outer around)
  unfolding on_end
  separator_steps table before made outer around from separator at (inl comma) =
      ap (step_by from separator.place) comma ∙ expression_ends true made.value (within (in_field made.place made.key table before outer) around) from separator.place (kinds.Symbol symbols.Comma) at tt
  separator_steps table before made outer around from separator at (inr semicolon) =
      ap (step_by from separator.place) semicolon ∙ expression_ends true made.value (within (in_field made.place made.key table before outer) around) from separator.place (kinds.Symbol symbols.Semicolon) at tt

  by_field : (table : ℕ) (before : List Field) (made : Field) (outer : Pending) (around : Around) (from next : State) (front : List Token) (separator : Token) (more : List Token)
      → Leads from (AtEnd true made.value (within (in_field made.place made.key table before outer) around)) front → IsSeparator separator
      → run (Some (field_start table (before ++ made ∷ []) outer around)) more ≡ Some next → run (Some from) (front ++ separator ∷ more) ≡ Some next
  by_field table before made outer around from next front separator more (leads to e at) separates then' =
      run_on (Some from) to (Some next) front (separator ∷ more) e
      (run-cons to (field_start table (before ++ made ∷ []) outer around) separator more (separator_steps table before made outer around to separator at separates) ∙ then')

  pub fields_run : (inner : List Token) (fields : List Field) → AreSeparated inner fields → (table : ℕ) (before : List Field) (outer : Pending) (around : Around)
      → run (Some (field_start table before outer around)) inner ≡ Some (field_start table (before ++ fields) outer around)
  unfolding run
  fields_run inner fields none table before outer around = ap (λ (fs : List Field). Some (field_start table fs outer around)) (sym (append-nil before))
  fields_run inner fields (some {tokens = front} {more} {made} separator {others} is separates then') table before outer around =
      by_field table before made outer around (field_start table before outer around) (field_start table (before ++ made ∷ others) outer around) front separator more
      (field_taken front made is table before outer around) separates
      (fields_run more others then' table (before ++ made ∷ []) outer around ∙ ap (λ (fs : List Field). Some (field_start table fs outer around)) (append_assoc before (made ∷ []) others))

  by_taken : (fields : List Field) (rest : List Token) (place : ℕ) (fault : SyntaxFault) (inner : List Token) → tokens ≡ inner ++ rest
      → AreSeparated inner fields ⊎ (IsFields inner fields × ((place : ℕ) × (more : List Token) × Heads symbols.CloseBrace rest place more))
      → Keeps (depth + 1) tokens rest → NotAhead symbols.CloseBrace rest → FailsAtField (depth + 1) rest fault → (outer : Pending) (around : Around) → IsFailure (depth + 1) (field_start place [] outer around) tokens fault
  by_taken fields rest place fault inner cut (inr ended) kept no_brace f outer around =
      let h = ended.1.2 in absurd (no_brace h.token ended.1.1 h.cut h.is)
  by_taken fields rest place fault inner cut (inl taken) kept no_brace f outer around =
      let level = kept_front (depth + 1) tokens inner rest cut kept in
      failure_behind_level (depth + 1) (field_start place [] outer around) tokens inner rest (field_start place fields outer around) fault cut
      (fields_run inner fields taken place [] outer around) level.0 level.1 (f place fields outer around)

  pub table_field_fails : (fields : List Field) (rest : List Token) (place : ℕ) (fault : SyntaxFault) → depth < 100 → FieldsSo tokens fields rest → Keeps (depth + 1) tokens rest
      → NotAhead symbols.CloseBrace rest → FailsAtField (depth + 1) rest fault → FailsInTable depth place tokens fault
  table_field_fails fields rest place fault below s kept no_brace f state opening outer around kind at steps =
      failure_opened depth state (field_start place [] outer around) (opening ∷ tokens) opening tokens fault below refl steps
      (subst (λ (k : TokenKind). IsTrue (is_opening k)) (sym kind) refl) (by_taken fields rest place fault s.inner s.cut s.taken kept no_brace f outer around)
