-- Where and why the readers of expressions stop.
use Rattle.std.proofs.Common.{◌≡◌, ◌⊎◌, inl, inr, ℕ, ◌+◌, ◌<◌, ◌≤◌, false, List, [], ◌∷◌, ◌++◌, length, Some, None, refl, sym, ap, subst, ◌∙◌, length-append, arith}
use Rattle.std.specs.Prelude.{IsTrue}
use Rattle.std.proofs.lemmas.List.{append_cancel_right}
use Rattle.lua_lexer.specs.declared.token.Token.{Token}
use Rattle.lua_lexer.specs.declared.token.TokenKind.{TokenKind}
use Rattle.lua_lexer.specs.declared.token.TokenKind.TheVariants as kinds
use Rattle.lua_lexer.specs.declared.vocabulary.Symbol.{Symbol}
use Rattle.lua_lexer.specs.declared.vocabulary.Symbol.TheVariants as symbols
use Rattle.lua_syntax.specs.declared.fault.SyntaxFault.{SyntaxFault}
use Rattle.lua_syntax.specs.declared.fault.SyntaxFault.TheVariants as faults
use Rattle.lua_syntax.specs.declared.position.Position.TheVariants as positions
use Rattle.lua_syntax.specs.declared.position.Ending.{Ending}
use Rattle.lua_syntax.specs.declared.position.Ending.TheVariants.{Whole, Prefix}
use Rattle.lua_syntax.specs.declared.tree.Expr.{Expr}
use Rattle.lua_syntax.specs.declared.tree.ExprKind.TheVariants as exprs
use Rattle.lua_syntax.specs.declared.tree.Suffix.{Suffix}
use Rattle.lua_syntax.specs.Brackets.{is_opening, open_after, open_behind, IsLow, Keeps}
use Rattle.lua_syntax.specs.Failing.{behind_expression, IsFailure, IsNoName, IsOther, IsNameless, BeginsNoOther, FailsAtExpression, FailsAtOperand, FailsBehindPrefix, FailsInSquare, FailsInTable}
use Rattle.lua_syntax.specs.Grammar.{IsExp, exp, based, node, joined, indexed, place_of}
use Rattle.lua_syntax.specs.Reading.{BeginsWith, Heads, NotAhead, NoSuffix, Takes, ending_of}
use Rattle.lua_syntax.specs.Refusals.{refusal, positions_behind}
use Rattle.lua_syntax.specs.States.{Pending, nothing, in_paren, in_subscript, Around, within, State, operand_start, behind_prefix, behind_dot, field_start, extended, suffix_of, on_operand, on_whole, on_prefix, on_end, step, step_by, run}
use Rattle.lua_syntax.proofs.Failures.{fails_at, deep_at, failure_behind, failure_behind_level}
use Rattle.lua_syntax.proofs.LastToken.{ends_whole}
use Rattle.lua_syntax.proofs.Loops.{OperandsSo, SuffixesSo}
use Rattle.lua_syntax.proofs.Parts.{base_some, exp_some}
use Rattle.lua_syntax.proofs.Reached.{Leads, leads, plain_start, at_prefix, AtOperandEnd, whole_end, prefix_end, AtEnd, at_end, plain_operand_goes_on}
use Rattle.lua_syntax.proofs.Runs.{run-one}
use Rattle.lua_syntax.proofs.Stopping.{end_positions, end_steps, end_refuses_paren, end_refuses_square, only_name_refuses, operand_refuses}
use Rattle.lua_syntax.proofs.Taken.{exp_taken, prefix_taken}

-- ---- behind one token

-- behind a token that opens a bracket
pub failure_opened : (depth : ℕ) (state inside : State) (tokens : List Token) (token : Token) (rest : List Token) (fault : SyntaxFault) → depth < 100
    → tokens ≡ token ∷ rest → step state token ≡ Some inside → IsTrue (is_opening token.kind) → IsFailure (depth + 1) inside rest fault → IsFailure depth state tokens fault
failure_opened depth state inside tokens token rest fault below cut steps opens f =
    let up : open_after depth token.kind ≡ depth + 1 = grind arith in
    failure_behind depth state tokens (token ∷ []) rest inside fault cut (run-one state token ∙ steps) (subst (λ (d : ℕ). d ≤ 100) (sym up) (omega arith), tt)
    (subst (λ (d : ℕ). IsFailure d inside rest fault) (sym up) f)

-- behind a token that is no bracket
pub failure_flat : (depth : ℕ) (state next : State) (tokens : List Token) (token : Token) (rest : List Token) (fault : SyntaxFault) → depth ≤ 100
    → tokens ≡ token ∷ rest → step state token ≡ Some next → open_after depth token.kind ≡ depth → IsFailure depth next rest fault → IsFailure depth state tokens fault
failure_flat depth state next tokens token rest fault low cut steps flat f =
    failure_behind_level depth state tokens (token ∷ []) rest next fault cut (run-one state token ∙ steps) (subst (λ (d : ℕ). d ≤ 100) (sym flat) low, tt) flat f

-- what is kept of the tokens from a front on
pub kept_front : (depth : ℕ) (tokens front rest : List Token) → tokens ≡ front ++ rest → Keeps depth tokens rest → IsLow depth front × (open_behind depth front ≡ depth)
kept_front depth tokens front rest cut k =
    let same : k.front ≡ front = append_cancel_right k.front front rest (sym k.cut ∙ cut) in
    (subst (λ (l : List Token). IsLow depth l) same k.low, sym (ap (open_behind depth) same) ∙ k.level)

-- ---- behind an expression

module _ (depth : ℕ) (tokens : List Token) (made : Expr) (ending : Ending) (rest : List Token) (around : Around) where
  by_end : (t : Takes IsExp tokens made ending rest) → Keeps depth tokens rest → NotAhead symbols.Concat rest → (token : Token) (more : List Token) (fault : SyntaxFault) → rest ≡ token ∷ more
      → on_end around made token.place token.kind ≡ None → fault ≡ refusal (behind_expression around ending) token
      → Leads (operand_start nothing around) (AtEnd false made around) t.part.front → IsFailure depth (operand_start nothing around) tokens fault
  by_end t kept ahead token more fault cut none is (leads to e at) =
      let some = exp_some t.part.front made t.part.is in
      let same = kept_front depth tokens t.part.front rest t.part.cut kept in
      let steps = end_steps made around (operand_start nothing around) to t.part.front ending token more at e some t.part.ends_so
      (subst (λ (l : List Token). NotAhead symbols.Concat l) cut ahead) (subst (λ (l : List Token). NoSuffix ending l) cut t.no_suffix) in
      let stand = end_positions made around (operand_start nothing around) to t.part.front ending at e some t.part.ends_so in
      failure_behind_level depth (operand_start nothing around) tokens t.part.front rest to fault t.part.cut e same.0 same.1
      (inr (fails_at depth to rest token more fault cut (record { refused = steps ∙ none; is = is ∙ ap (λ ps. refusal ps token) (sym stand) })))

  -- the token behind it doesn't end it there
  pub failure_at_end : Takes IsExp tokens made ending rest → Keeps depth tokens rest → NotAhead symbols.Concat rest → (token : Token) (more : List Token) (fault : SyntaxFault) → rest ≡ token ∷ more
      → on_end around made token.place token.kind ≡ None → fault ≡ refusal (behind_expression around ending) token → IsFailure depth (operand_start nothing around) tokens fault
  failure_at_end t kept ahead token more fault cut none is =
      by_end t kept ahead token more fault cut none is (exp_taken false t.part.front made t.part.is around (operand_start nothing around) plain_start)

-- ---- bases

module _ (depth : ℕ) (tokens : List Token) where
  pub base_refused : (token : Token) (rest : List Token) (fault : SyntaxFault) → tokens ≡ token ∷ rest → BeginsWith BeginsNoOther tokens → NotAhead symbols.OpenBrace tokens
      → NotAhead symbols.OpenParen tokens → IsNoName token → fault ≡ refusal (positions.ExpressionStart ∷ positions.NameStart ∷ []) token → FailsAtOperand depth tokens fault
  unfolding step_by
  base_refused token rest fault cut other no_brace no_paren no_name is outer around =
      inr (fails_at depth (operand_start outer around) tokens token rest fault cut
      (record { refused = operand_refuses outer around token (other token rest cut) no_name (no_paren token rest cut) (no_brace token rest cut); is = is }))

  paren_steps : (place : ℕ) (rest : List Token) (h : Heads symbols.OpenParen tokens place rest) (outer : Pending) (around : Around)
      → step (operand_start outer around) h.token ≡ Some (operand_start nothing (within (in_paren h.token.place outer) around))
  unfolding step_by on_operand
  paren_steps place rest h outer around = ap (on_operand outer around h.token.place) h.is

  opens : (symbol : Symbol) (place : ℕ) (rest : List Token) (h : Heads symbol tokens place rest) → IsTrue (is_opening (kinds.Symbol symbol)) → IsTrue (is_opening h.token.kind)
  opens symbol place rest h is = subst (λ (k : TokenKind). IsTrue (is_opening k)) (sym h.is) is

  pub base_deep : (place : ℕ) (rest : List Token) (fault : SyntaxFault) → Heads symbols.OpenParen tokens place rest → 100 ≤ depth → fault ≡ faults.TooDeep place → FailsAtOperand depth tokens fault
  base_deep place rest fault h full is outer around =
      inr (deep_at depth (operand_start outer around) tokens h.token rest fault h.cut
      (record { next = operand_start nothing (within (in_paren h.token.place outer) around); taken = paren_steps place rest h outer around; opens = opens symbols.OpenParen place rest h refl; full = full; is = is ∙ ap faults.TooDeep h.place_is }))

  base_within : (place : ℕ) (rest : List Token) (fault : SyntaxFault) (h : Heads symbols.OpenParen tokens place rest) → depth < 100
      → ((outer : Pending) (around : Around) → IsFailure (depth + 1) (operand_start nothing (within (in_paren h.token.place outer) around)) rest fault) → FailsAtOperand depth tokens fault
  base_within place rest fault h below f outer around =
      failure_opened depth (operand_start outer around) (operand_start nothing (within (in_paren h.token.place outer) around)) tokens h.token rest fault below h.cut
      (paren_steps place rest h outer around) (opens symbols.OpenParen place rest h refl) (f outer around)

  pub base_inside : (place : ℕ) (rest : List Token) (fault : SyntaxFault) → Heads symbols.OpenParen tokens place rest → depth < 100 → FailsAtExpression (depth + 1) rest fault → FailsAtOperand depth tokens fault
  base_inside place rest fault h below f = base_within place rest fault h below (λ outer around. f (within (in_paren h.token.place outer) around))

  pub base_unclosed : (place : ℕ) (rest : List Token) (inner : Expr) (ending : Ending) (mid : List Token) (fault : SyntaxFault) → Heads symbols.OpenParen tokens place rest → depth < 100
      → Takes IsExp rest inner ending mid → Keeps (depth + 1) rest mid → NotAhead symbols.Concat mid → IsOther symbols.CloseParen (positions_behind ending) mid fault → FailsAtOperand depth tokens fault
  base_unclosed place rest inner ending mid fault h below t kept ahead o =
      base_within place rest fault h below (λ outer around.
      failure_at_end (depth + 1) rest inner ending mid (within (in_paren h.token.place outer) around) t kept ahead o.token o.rest fault o.cut
      (end_refuses_paren h.token.place outer around inner o.token.place o.token.kind o.other) o.is)

  -- ---- brackets

  pub square_deep : (place : ℕ) (fault : SyntaxFault) → 100 ≤ depth → fault ≡ faults.TooDeep place → FailsInSquare depth place tokens fault
  square_deep place fault full is state opening bracket around kind at square steps =
      inr (deep_at depth state (opening ∷ tokens) opening tokens fault refl
      (record { next = operand_start nothing (within bracket around); taken = steps; opens = subst (λ (k : TokenKind). IsTrue (is_opening k)) (sym kind) refl; full = full; is = is ∙ ap faults.TooDeep (sym at) }))

  pub square_inside : (place : ℕ) (fault : SyntaxFault) → depth < 100 → FailsAtExpression (depth + 1) tokens fault → FailsInSquare depth place tokens fault
  square_inside place fault below f state opening bracket around kind at square steps =
      failure_opened depth state (operand_start nothing (within bracket around)) (opening ∷ tokens) opening tokens fault below refl steps
      (subst (λ (k : TokenKind). IsTrue (is_opening k)) (sym kind) refl) (f (within bracket around))

  pub square_unclosed : (place : ℕ) (key : Expr) (ending : Ending) (mid : List Token) (fault : SyntaxFault) → depth < 100
      → Takes IsExp tokens key ending mid → Keeps (depth + 1) tokens mid → NotAhead symbols.Concat mid → IsOther symbols.CloseBracket (positions_behind ending) mid fault → FailsInSquare depth place tokens fault
  square_unclosed place key ending mid fault below t kept ahead o state opening bracket around kind at square steps =
      failure_opened depth state (operand_start nothing (within bracket around)) (opening ∷ tokens) opening tokens fault below refl steps
      (subst (λ (k : TokenKind). IsTrue (is_opening k)) (sym kind) refl)
      (failure_at_end (depth + 1) tokens key ending mid (within bracket around) t kept ahead o.token o.rest fault o.cut
      (end_refuses_square bracket around key o.token.place o.token.kind square o.other) o.is)

  -- ---- suffixes

  pub suffix_square : (place : ℕ) (rest : List Token) (fault : SyntaxFault) → Heads symbols.OpenBracket tokens place rest → FailsInSquare depth place rest fault → FailsBehindPrefix depth tokens fault
  unfolding step_by on_prefix
  suffix_square place rest fault h f first base suffixes outer around =
      subst (λ (l : List Token). IsFailure depth (behind_prefix first base suffixes outer around) l fault) (sym h.cut)
      (f (behind_prefix first base suffixes outer around) h.token (in_subscript first base suffixes h.token.place outer) around h.is (sym h.place_is) tt
      (ap (on_prefix first base suffixes outer around h.token.place) h.is))

  dot_steps : (place : ℕ) (rest : List Token) (h : Heads symbols.Dot tokens place rest) (first : ℕ) (base : Expr) (suffixes : List Suffix) (outer : Pending) (around : Around)
      → step (behind_prefix first base suffixes outer around) h.token ≡ Some (behind_dot first base suffixes h.token.place outer around)
  unfolding step_by on_prefix
  dot_steps place rest h first base suffixes outer around = ap (on_prefix first base suffixes outer around h.token.place) h.is

  name_refused : (dot first : ℕ) (base : Expr) (suffixes : List Suffix) (outer : Pending) (around : Around) (token : Token) → IsNoName token → step (behind_dot first base suffixes dot outer around) token ≡ None
  unfolding step_by
  name_refused dot first base suffixes outer around token none =
      only_name_refuses (λ bytes. behind_prefix first base (suffixes ++ suffix_of dot (node token.place (exprs.Text bytes)) ∷ []) outer around) token none

  pub suffix_nameless : (place : ℕ) (rest : List Token) (fault : SyntaxFault) → depth ≤ 100 → Heads symbols.Dot tokens place rest
      → (fault ≡ faults.NoMemory) ⊎ IsNameless (positions.NameStart ∷ []) rest fault → FailsBehindPrefix depth tokens fault
  suffix_nameless place rest fault low h (inl none) first base suffixes outer around = inl none
  suffix_nameless place rest fault low h (inr n) first base suffixes outer around =
      let behind : State = behind_dot first base suffixes h.token.place outer around in
      failure_flat depth (behind_prefix first base suffixes outer around) behind tokens h.token rest fault low h.cut (dot_steps place rest h first base suffixes outer around)
      (ap (open_after depth) h.is)
      (inr (fails_at depth behind rest n.token n.rest fault n.cut (record { refused = name_refused h.token.place first base suffixes outer around n.token n.other; is = n.is })))

  -- ---- operands

  operand_ends : (first : ℕ) (last : Expr) (outer : Pending) (around : Around) (state : State) (dots : Token) → AtOperandEnd false last first outer around state → dots.kind ≡ kinds.Symbol symbols.Concat
      → step state dots ≡ Some (operand_start (extended outer first last dots.place) around)
  unfolding on_whole
  operand_ends first last outer around state dots at is =
      plain_operand_goes_on last first outer around state dots.place dots.kind at
      (λ e. let f : kinds.Symbol symbols.Concat ≡ kinds.Symbol symbols.Dot = sym is ∙ e in cc)
      (λ e. let f : kinds.Symbol symbols.Concat ≡ kinds.Symbol symbols.OpenBracket = sym is ∙ e in cc)
      ∙ ap (on_whole first last outer around dots.place) is

  by_operands : (front rest : List Token) (made : Expr) (around : Around) (place : ℕ) (after : List Token) (fault : SyntaxFault) → depth ≤ 100 → tokens ≡ front ++ rest → IsLow depth front × (open_behind depth front ≡ depth)
      → Heads symbols.Concat rest place after → FailsAtOperand depth after fault → Leads (operand_start nothing around) (AtEnd false made around) front → IsFailure depth (operand_start nothing around) tokens fault
  by_operands front rest made around place after fault low cut kept h f (leads to e (at_end {made = last} {first} {pe} at)) =
      failure_behind_level depth (operand_start nothing around) tokens front rest to fault cut e kept.0 kept.1
      (failure_flat depth to (operand_start (extended pe first last h.token.place) around) rest h.token after fault low h.cut (operand_ends first last pe around to h.token at h.is)
      (ap (open_after depth) h.is) (f (extended pe first last h.token.place) around))

  pub operand_fails : (one : Expr) (others : List Expr) (operators : List ℕ) (ending : Ending) (rest : List Token) (place : ℕ) (after : List Token) (fault : SyntaxFault) → depth ≤ 100
      → OperandsSo tokens one others operators ending rest → Keeps depth tokens rest → Heads symbols.Concat rest place after → FailsAtOperand depth after fault → FailsAtExpression depth tokens fault
  operand_fails one others operators ending rest place after fault low s kept h f around =
      by_operands (s.first ++ s.more) rest (joined (place_of s.first) one others operators) around place after fault low s.cut (kept_front depth tokens (s.first ++ s.more) rest s.cut kept) h f
      (exp_taken false (s.first ++ s.more) (joined (place_of s.first) one others operators) (exp s.simple s.joins) around (operand_start nothing around) plain_start)

  -- ---- prefixes

  by_prefix_end : (from to : State) (front rest : List Token) (made : Expr) (first : ℕ) (outer : Pending) (around : Around) (fault : SyntaxFault) → tokens ≡ front ++ rest → 0 < length front
      → IsLow depth front × (open_behind depth front ≡ depth) → ending_of front ≡ Prefix → FailsBehindPrefix depth rest fault → run (Some from) front ≡ Some to
      → AtOperandEnd false made first outer around to → IsFailure depth from tokens fault
  by_prefix_end from to front rest made first outer around fault cut some kept ends f e whole_end =
      let other : Whole ≡ Prefix = sym (ends_whole from first made outer around front some e) ∙ ends in absurd (cc)
  by_prefix_end from to front rest made first outer around fault cut some kept ends f e (prefix_end {base} {suffixes} at_prefix) =
      failure_behind_level depth from tokens front rest to fault cut e kept.0 kept.1 (f first base suffixes outer around)

  by_prefix : (from : State) (front rest : List Token) (made : Expr) (first : ℕ) (outer : Pending) (around : Around) (fault : SyntaxFault) → tokens ≡ front ++ rest → 0 < length front
      → IsLow depth front × (open_behind depth front ≡ depth) → ending_of front ≡ Prefix → FailsBehindPrefix depth rest fault
      → Leads from (AtOperandEnd false made first outer around) front → IsFailure depth from tokens fault
  by_prefix from front rest made first outer around fault cut some kept ends f (leads to e at) =
      by_prefix_end from to front rest made first outer around fault cut some kept ends f e at

  pub suffix_fails : (base : Expr) (suffixes : List Suffix) (rest : List Token) (fault : SyntaxFault) → SuffixesSo tokens base suffixes rest → Keeps depth tokens rest
      → FailsBehindPrefix depth rest fault → FailsAtOperand depth tokens fault
  suffix_fails base suffixes rest fault s kept f outer around =
      let some = base_some s.first base s.is in
      by_prefix (operand_start outer around) (s.first ++ s.more) rest (indexed (place_of s.first) base suffixes) (place_of (s.first ++ s.more)) outer around fault s.cut (omega (arith, some, length-append s.first s.more))
      (kept_front depth tokens (s.first ++ s.more) rest s.cut kept) s.ends_so f
      (prefix_taken false (s.first ++ s.more) (indexed (place_of s.first) base suffixes) (based s.is s.follow) outer around (operand_start outer around) plain_start)

  -- ---- tables as operands

  pub table_fails : (place : ℕ) (rest : List Token) (fault : SyntaxFault) → Heads symbols.OpenBrace tokens place rest → FailsInTable depth place rest fault → FailsAtOperand depth tokens fault
  unfolding step_by on_operand
  table_fails place rest fault h f outer around =
      subst (λ (l : List Token). IsFailure depth (operand_start outer around) l fault) (sym h.cut)
      (f (operand_start outer around) h.token outer around h.is (sym h.place_is)
      (ap (on_operand outer around h.token.place) h.is ∙ ap (λ (p : ℕ). Some (field_start p [] outer around)) (sym h.place_is)))
