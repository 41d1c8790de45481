-- What the loops of the readers of expressions keep.
use Rattle.std.proofs.Common.{◌≡◌, ℕ, ◌<◌, ◌≤◌, List, [], ◌∷◌, ◌++◌, length, refl, sym, ap, subst, ◌∙◌, append_assoc, length-append, arith, inl, inr}
use Rattle.std.specs.Prelude.{◌⊎◌}
use Rattle.std.proofs.lemmas.List.{append-nil}
use Rattle.lua_lexer.specs.declared.token.Token.{Token}
use Rattle.lua_lexer.specs.declared.token.TokenKind.TheVariants as kinds
use Rattle.lua_lexer.specs.declared.vocabulary.Symbol.TheVariants as symbols
use Rattle.lua_lexer.specs.TokenLists.{EndsOnce}
use Rattle.lua_syntax.specs.declared.position.Ending.{Ending}
use Rattle.lua_syntax.specs.declared.position.Ending.TheVariants.{Whole, Prefix}
use Rattle.lua_syntax.specs.declared.tree.Expr.{Expr}
use Rattle.lua_syntax.specs.declared.tree.ExprKind.TheVariants as exprs
use Rattle.lua_syntax.specs.declared.tree.Field.{Field}
use Rattle.lua_syntax.specs.declared.tree.Suffix.{Suffix}
use Rattle.lua_syntax.specs.Grammar.{IsExp, exp, IsJoined, no_operand, operand, IsSimple, IsPrefix, based, IsBase, IsSuffixes, no_suffix, IsTable, empty, filled, IsFields, last, last_separated, field, IsField, IsSeparator, joined, indexed, node, place_of}
use Rattle.lua_syntax.specs.Reading.{Heads, NotAhead, NoSuffix, Takes, TakesPart, IsSuffix, ending_of, ending_by, IsTableFrom, Separated}
use Rattle.lua_syntax.proofs.Ends.{ending_of-append}
use Rattle.lua_syntax.proofs.Parts.{base_some, simple_some, joined_more, suffixes_more, field_some, place_of-append}

-- a part that isn't empty leaves less
pub cut_shorter : (tokens front rest : List Token) → tokens ≡ front ++ rest → 0 < length front → length rest < length tokens
cut_shorter tokens front rest cut some = omega (arith, ap length cut, length-append front rest)

pub ending_behind : (a b : List Token) (ending : Ending) → 0 < length b → ending_of b ≡ ending → ending_of (a ++ b) ≡ ending
ending_behind a [] ending some e = absurd (omega arith)
ending_behind a (t ∷ ts) ending some e = ending_of-append a t ts ∙ e

-- ---- operands

-- an operand, and others behind operators, were taken
pub record OperandsSo (tokens : List Token) (one : Expr) (others : List Expr) (operators : List ℕ) (ending : Ending) (rest : List Token) : Type 0 where
  pub first : List Token
  pub more : List Token
  pub cut : tokens ≡ (first ++ more) ++ rest
  pub simple : IsSimple first one
  pub joins : IsJoined more others operators
  pub ends_so : ending_of (first ++ more) ≡ ending
  pub no_suffix : NoSuffix ending rest
  pub ends : EndsOnce rest

pub operands_begin : (tokens : List Token) (one : Expr) (ending : Ending) (rest : List Token) → Takes IsSimple tokens one ending rest → OperandsSo tokens one [] [] ending rest
operands_begin tokens one ending rest t = record {
  first = t.part.front;
  more = [];
  cut = t.part.cut ∙ ap (λ (l : List Token). l ++ rest) (sym (append-nil t.part.front));
  simple = t.part.is;
  joins = no_operand;
  ends_so = ap ending_of (append-nil t.part.front) ∙ t.part.ends_so;
  no_suffix = t.no_suffix;
  ends = t.part.ends;
}

pub operands_shorter : (tokens : List Token) (one : Expr) (others : List Expr) (operators : List ℕ) (ending : Ending) (rest : List Token) → OperandsSo tokens one others operators ending rest → length rest < length tokens
operands_shorter tokens one others operators ending rest s =
    cut_shorter tokens (s.first ++ s.more) rest s.cut (omega (arith, simple_some s.first one s.simple, length-append s.first s.more))

pub heads_shorter : (symbol : _) (tokens : List Token) (place : ℕ) (rest : List Token) → Heads symbol tokens place rest → length rest < length tokens
heads_shorter symbol tokens place rest h = let e = ap length h.cut in omega arith

pub takes_shorter : (tokens : List Token) (one : Expr) (ending : Ending) (rest : List Token) → Takes IsSimple tokens one ending rest → length rest < length tokens
takes_shorter tokens one ending rest t = cut_shorter tokens t.part.front rest t.part.cut (simple_some t.part.front one t.part.is)

pub operands_go_on : (tokens : List Token) (one : Expr) (others : List Expr) (operators : List ℕ) (ending : Ending) (rest : List Token)
    → OperandsSo tokens one others operators ending rest
    → (place : ℕ) (after : List Token) → Heads symbols.Concat rest place after
    → (other : Expr) (ends : Ending) (behind : List Token) → Takes IsSimple after other ends behind
    → OperandsSo tokens one (others ++ other ∷ []) (operators ++ place ∷ []) ends behind
operands_go_on tokens one others operators ending rest s place after h other ends behind t =
    let piece : List Token = h.token ∷ t.part.front in
    let some = simple_some t.part.front other t.part.is in
    record {
      first = s.first;
      more = s.more ++ piece;
      cut = s.cut ∙ ap (λ (l : List Token). (s.first ++ s.more) ++ l) (h.cut ∙ ap (λ (l : List Token). h.token ∷ l) t.part.cut)
          ∙ sym (append_assoc (s.first ++ s.more) piece behind) ∙ ap (λ (l : List Token). l ++ behind) (append_assoc s.first s.more piece);
      simple = s.simple;
      joins = joined_more s.more piece others (other ∷ []) operators (place ∷ []) s.joins
          (subst (λ (p : ℕ). IsJoined piece (other ∷ []) (p ∷ [])) (sym h.place_is)
          (subst (λ (l : List Token). IsJoined l (other ∷ []) (h.token.place ∷ [])) (append-nil piece) (operand h.token h.is t.part.is no_operand)));
      ends_so = ap ending_of (sym (append_assoc s.first s.more piece)) ∙ ending_behind (s.first ++ s.more) piece ends (omega arith) (ending_behind (h.token ∷ []) t.part.front ends some t.part.ends_so);
      no_suffix = t.no_suffix;
      ends = t.part.ends;
    }

pub operands_done : (tokens : List Token) (one : Expr) (others : List Expr) (operators : List ℕ) (ending : Ending) (rest : List Token) (token : Token) (behind : List Token)
    → OperandsSo tokens one others operators ending rest → tokens ≡ token ∷ behind → Takes IsExp tokens (joined token.place one others operators) ending rest
operands_done tokens one others operators ending rest token behind s head =
    let some = simple_some s.first one s.simple in
    let place : place_of s.first ≡ token.place = sym (place_of-append s.first (s.more ++ rest) some) ∙ ap place_of (sym (append_assoc s.first s.more rest) ∙ sym s.cut ∙ head) in
    record {
      part = record {
        front = s.first ++ s.more;
        cut = s.cut;
        is = subst (λ (p : ℕ). IsExp (s.first ++ s.more) (joined p one others operators)) place (exp s.simple s.joins);
        ends_so = s.ends_so;
        ends = s.ends;
      };
      no_suffix = s.no_suffix;
    }

-- ---- suffixes

-- a base and suffixes were taken
pub record SuffixesSo (tokens : List Token) (base : Expr) (suffixes : List Suffix) (rest : List Token) : Type 0 where
  pub first : List Token
  pub more : List Token
  pub cut : tokens ≡ (first ++ more) ++ rest
  pub is : IsBase first base
  pub follow : IsSuffixes more suffixes
  pub ends_so : ending_of (first ++ more) ≡ Prefix
  pub ends : EndsOnce rest

pub suffixes_begin : (tokens : List Token) (base : Expr) (rest : List Token) → TakesPart IsBase tokens base Prefix rest → SuffixesSo tokens base [] rest
suffixes_begin tokens base rest t = record {
  first = t.front;
  more = [];
  cut = t.cut ∙ ap (λ (l : List Token). l ++ rest) (sym (append-nil t.front));
  is = t.is;
  follow = no_suffix;
  ends_so = ap ending_of (append-nil t.front) ∙ t.ends_so;
  ends = t.ends;
}

pub suffixes_shorter : (tokens : List Token) (base : Expr) (suffixes : List Suffix) (rest : List Token) → SuffixesSo tokens base suffixes rest → length rest < length tokens
suffixes_shorter tokens base suffixes rest s =
    cut_shorter tokens (s.first ++ s.more) rest s.cut (omega (arith, base_some s.first base s.is, length-append s.first s.more))

suffix_some : (tokens : List Token) (suffix : Suffix) → ending_of tokens ≡ Prefix → 0 < length tokens
suffix_some [] suffix e = absurd (let f : Whole ≡ Prefix = e in cc)
suffix_some (t ∷ ts) suffix e = omega arith

pub suffix_shorter : (tokens : List Token) (suffix : Suffix) (rest : List Token) → TakesPart IsSuffix tokens suffix Prefix rest → length rest < length tokens
suffix_shorter tokens suffix rest t = cut_shorter tokens t.front rest t.cut (suffix_some t.front suffix t.ends_so)

pub suffixes_go_on : (tokens : List Token) (base : Expr) (suffixes : List Suffix) (rest : List Token) → SuffixesSo tokens base suffixes rest
    → (suffix : Suffix) (behind : List Token) → TakesPart IsSuffix rest suffix Prefix behind → SuffixesSo tokens base (suffixes ++ suffix ∷ []) behind
suffixes_go_on tokens base suffixes rest s suffix behind t = record {
  first = s.first;
  more = s.more ++ t.front;
  cut = s.cut ∙ ap (λ (l : List Token). (s.first ++ s.more) ++ l) t.cut ∙ sym (append_assoc (s.first ++ s.more) t.front behind) ∙ ap (λ (l : List Token). l ++ behind) (append_assoc s.first s.more t.front);
  is = s.is;
  follow = suffixes_more s.more t.front suffixes (suffix ∷ []) s.follow t.is;
  ends_so = ap ending_of (sym (append_assoc s.first s.more t.front)) ∙ ending_behind (s.first ++ s.more) t.front Prefix (suffix_some t.front suffix t.ends_so) t.ends_so;
  ends = t.ends;
}

pub suffixes_done : (tokens : List Token) (base : Expr) (suffixes : List Suffix) (rest : List Token) (token : Token) (behind : List Token)
    → SuffixesSo tokens base suffixes rest → NoSuffix Prefix rest → tokens ≡ token ∷ behind → Takes IsPrefix tokens (indexed token.place base suffixes) Prefix rest
suffixes_done tokens base suffixes rest token behind s none head =
    let some = base_some s.first base s.is in
    let place : place_of s.first ≡ token.place = sym (place_of-append s.first (s.more ++ rest) some) ∙ ap place_of (sym (append_assoc s.first s.more rest) ∙ sym s.cut ∙ head) in
    record {
      part = record {
        front = s.first ++ s.more;
        cut = s.cut;
        is = subst (λ (p : ℕ). IsPrefix (s.first ++ s.more) (indexed p base suffixes)) place (based s.is s.follow);
        ends_so = s.ends_so;
        ends = s.ends;
      };
      no_suffix = none;
    }

-- ---- fields

-- fields with a separator behind each
pub data AreSeparated : List Token → List Field → Type 0 where
  none : AreSeparated [] []
  some : {tokens more : List Token} {made : Field} (separator : Token) {others : List Field} → IsField tokens made → IsSeparator separator → AreSeparated more others
      → AreSeparated (tokens ++ separator ∷ more) (made ∷ others)

-- fields were taken, each with its separator, or the last without one before a `}`
pub record FieldsSo (tokens : List Token) (fields : List Field) (rest : List Token) : Type 0 where
  pub inner : List Token
  pub cut : tokens ≡ inner ++ rest
  pub taken : AreSeparated inner fields ⊎ (IsFields inner fields × ((place : ℕ) × (more : List Token) × Heads symbols.CloseBrace rest place more))
  pub ends : EndsOnce rest

separated_more : (a f : List Token) (xs : List Field) (made : Field) (separator : Token) → AreSeparated a xs → IsField f made → IsSeparator separator
    → AreSeparated (a ++ (f ++ separator ∷ [])) (xs ++ made ∷ [])
separated_more a f xs made separator none is separates = some separator is separates none
separated_more a f xs made separator (some {tokens} {more} {made = first} between {others} first_is between_is then') is separates =
    subst (λ (l : List Token). AreSeparated l (first ∷ others ++ made ∷ [])) (sym (append_assoc tokens (between ∷ more) (f ++ separator ∷ [])))
    (some between first_is between_is (separated_more more f others made separator then' is separates))

fields_with_last : (a f : List Token) (xs : List Field) (made : Field) → AreSeparated a xs → IsField f made → IsFields (a ++ f) (xs ++ made ∷ [])
fields_with_last a f xs made none is = last is
fields_with_last a f xs made (some {tokens} {more} {made = first} between {others} first_is between_is then') is =
    subst (λ (l : List Token). IsFields l (first ∷ others ++ made ∷ [])) (sym (append_assoc tokens (between ∷ more) f))
    (field between first_is between_is (fields_with_last more f others made then' is))

fields_of : (a : List Token) (xs : List Field) → AreSeparated a xs → ((a ≡ []) × (xs ≡ [])) ⊎ IsFields a xs
fields_of a xs none = inl (refl, refl)
fields_of a xs (some {tokens} {more} {made = first} between {others} first_is between_is then') = elim (fields_of more others then') [
  | inl p ↦ inr (subst (λ (l : List Token). IsFields (tokens ++ between ∷ l) (first ∷ others)) (sym p.0)
      (subst (λ (fs : List Field). IsFields (tokens ++ between ∷ []) (first ∷ fs)) (sym p.1) (last_separated between first_is between_is)))
  | inr fs ↦ inr (field between first_is between_is fs)
]

pub fields_begin : (tokens : List Token) → EndsOnce tokens → FieldsSo tokens [] tokens
fields_begin tokens ends = record { inner = []; cut = refl; taken = inl none; ends = ends }

pub fields_go_on : (tokens : List Token) (fields : List Field) (rest : List Token) (made : Field) (ending : Ending) (mid behind : List Token)
    → FieldsSo tokens fields rest → NotAhead symbols.CloseBrace rest → Takes IsField rest made ending mid → Separated mid behind → FieldsSo tokens (fields ++ made ∷ []) behind
fields_go_on tokens fields rest made ending mid behind s ahead t separated = by_taken s.taken separated
  where
    by_taken : AreSeparated s.inner fields ⊎ (IsFields s.inner fields × ((place : ℕ) × (more : List Token) × Heads symbols.CloseBrace rest place more)) → Separated mid behind
        → FieldsSo tokens (fields ++ made ∷ []) behind
    by_taken (inr f) sep = absurd (ahead f.1.2.token f.1.1 f.1.2.cut f.1.2.is)
    by_taken (inl f) (inl b) = record {
      inner = s.inner ++ (t.part.front ++ b.separator ∷ []);
      cut = s.cut ∙ ap (λ (l : List Token). s.inner ++ l) (t.part.cut ∙ ap (λ (l : List Token). t.part.front ++ l) b.cut ∙ sym (append_assoc t.part.front (b.separator ∷ []) behind))
          ∙ sym (append_assoc s.inner (t.part.front ++ b.separator ∷ []) behind);
      taken = inl (separated_more s.inner t.part.front fields made b.separator f t.part.is b.separates);
      ends = b.ends;
    }
    by_taken (inl f) (inr b) = record {
      inner = s.inner ++ t.part.front;
      cut = s.cut ∙ ap (λ (l : List Token). s.inner ++ l) (t.part.cut ∙ ap (λ (l : List Token). t.part.front ++ l) (sym b.0)) ∙ sym (append_assoc s.inner t.part.front behind);
      taken = inr (fields_with_last s.inner t.part.front fields made f t.part.is, (b.1.0, b.1.1, subst (λ (l : List Token). Heads symbols.CloseBrace l b.1.0 b.1.1) (sym b.0) b.1.2));
      ends = subst (λ (l : List Token). EndsOnce l) (sym b.0) t.part.ends;
    }

pub fields_left : (tokens : List Token) (fields : List Field) (rest : List Token) → FieldsSo tokens fields rest → length rest ≤ length tokens
fields_left tokens fields rest s = omega (arith, ap length s.cut, length-append s.inner rest)

pub fields_shorter : (rest : List Token) (made : Field) (ending : Ending) (mid behind : List Token) → Takes IsField rest made ending mid → Separated mid behind → length behind < length rest
fields_shorter rest made ending mid behind t (inl b) =
    let l = ap length b.cut in omega (arith, cut_shorter rest t.part.front mid t.part.cut (field_some t.part.front made t.part.is))
fields_shorter rest made ending mid behind t (inr b) =
    let l = ap length b.0 in omega (arith, cut_shorter rest t.part.front mid t.part.cut (field_some t.part.front made t.part.is))

pub fields_done : (tokens : List Token) (fields : List Field) (rest : List Token) (place at : ℕ) (behind : List Token) → FieldsSo tokens fields rest → Heads symbols.CloseBrace rest at behind
    → TakesPart (IsTableFrom place) tokens (node place (exprs.Table fields)) Whole behind
fields_done tokens fields rest place at behind s h = record {
  front = s.inner ++ h.token ∷ [];
  cut = s.cut ∙ ap (λ (l : List Token). s.inner ++ l) h.cut ∙ sym (append_assoc s.inner (h.token ∷ []) behind);
  is = λ opening opens place_is. subst (λ (p : ℕ). IsTable (opening ∷ s.inner ++ h.token ∷ []) (node p (exprs.Table fields))) place_is (made opening opens s.taken);
  ends_so = ending_of-append s.inner h.token [] ∙ ap ending_by h.is;
  ends = h.ends s.ends;
}
  where
    made : (opening : Token) → opening.kind ≡ kinds.Symbol symbols.OpenBrace → AreSeparated s.inner fields ⊎ (IsFields s.inner fields × ((place : ℕ) × (more : List Token) × Heads symbols.CloseBrace rest place more))
        → IsTable (opening ∷ s.inner ++ h.token ∷ []) (node opening.place (exprs.Table fields))
    made opening opens (inr f) = filled opening h.token opens f.0 h.is
    made opening opens (inl f) = elim (fields_of s.inner fields f) [
      | inl p ↦ subst (λ (l : List Token). IsTable (opening ∷ l ++ h.token ∷ []) (node opening.place (exprs.Table fields))) (sym p.0)
          (subst (λ (fs : List Field). IsTable (opening ∷ h.token ∷ []) (node opening.place (exprs.Table fs))) (sym p.1) (empty opening h.token opens h.is))
      | inr fs ↦ filled opening h.token opens fs h.is
    ]
