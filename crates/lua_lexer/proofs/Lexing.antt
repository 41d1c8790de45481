-- A whole text: its tokens and its fault are the defined ones.
use Rattle.std.proofs.Common.{◌≡◌, ◌≢◌, ℕ, ◌+◌, ◌-◌, ◌<◌, ◌≤◌, Bool, true, false, cond, ltb, List, [], ◌∷◌, ◌++◌, length, map, Option, Some, None, Result, Ok, Err, refl, sym, ap, subst, ◌∙◌, length-append, arith, inl, inr}
use Rattle.std.specs.List.{flat_map}
use Rattle.std.proofs.lemmas.Bool.{ltb-true, ltb-false, lt-ltb, le-ltb}
use Rattle.std.proofs.lemmas.List.{append-nil}
use Rattle.lua_lexer.specs.declared.fault.LexFault.{LexFault}
use Rattle.lua_lexer.specs.declared.fault.LexFault.TheVariants as faults
use Rattle.lua_lexer.specs.declared.stop.Cause.{Cause}
use Rattle.lua_lexer.specs.declared.stop.Cause.TheVariants as causes
use Rattle.lua_lexer.specs.declared.token.Token.{Token}
use Rattle.lua_lexer.specs.declared.token.TokenKind.{TokenKind}
use Rattle.lua_lexer.specs.declared.token.TokenKind.TheVariants as kinds
use Rattle.lua_lexer.specs.Turns.{InTurn}
use Rattle.lua_lexer.specs.TokenLists.{EndsOnce}
use Rattle.lua_lexer.specs.Spelling.{begins_numeral, SpellsToken, Element, Gap, Spelled, element_bytes, FitsElement, tokens_from, Spells}
use Rattle.lua_lexer.specs.Faults.{FailsAt, HasFault}
use Rattle.lua_lexer.specs.Reading.{Outcome, then_with, ahead, items_by, items_for, items, Read, element_at, sized, item_at, placed, tokens_at, fault_at, placed_faults, lex}
use Rattle.lua_lexer.proofs.Choices.{chosen, ok_is, err_is, some_is}
use Rattle.lua_lexer.proofs.Words.{IsWord, name_is_word, keyword_word}
use Rattle.lua_lexer.proofs.Symbols.{symbol_begins}
use Rattle.lua_lexer.proofs.Integers.{integer_numeral}
use Rattle.lua_lexer.proofs.Items.{Shrinks, unroll, IsReading, fronted, read_sound, read_stuck, read_again}
use Rattle.lua_lexer.proofs.Elements.{kind_in, element_sound}
use Rattle.lua_lexer.proofs.ElementsAgain.{element_reads}
use Rattle.lua_lexer.proofs.ElementFaults.{ElementFails, element_fails, with_place, element_answered}

abbrev pub Seen : Type 0
Seen = Option TokenKind × ℕ

abbrev Item : Type 0
Item = Option Seen × List ℕ

abbrev nowhere : Cause × ℕ
nowhere = (causes.BadByte, 0)

abbrev gave : Item → Outcome Item
gave x = Ok x

-- an element as an item: what it is, and how many bytes it takes
abbrev pub seen : Element → Seen
seen element = (kind_in element, length (element_bytes element))

-- ---- elements as items

record ItemFound (bytes : List ℕ) (v : Seen) (rest : List ℕ) : Type 0 where
  element : Element
  spelled : bytes ≡ element_bytes element ++ rest
  fits : FitsElement element rest
  is : v ≡ seen element
  some : 0 < length (element_bytes element)

item_found : (bytes : List ℕ) (v : Seen) (rest : List ℕ) → item_at bytes ≡ gave (Some v, rest) → ItemFound bytes v rest
unfolding item_at
item_found [] v rest e = absurd (let h = ap (λ (y : Item). y.0) (ok_is nowhere (None, []) (Some v, rest) e) in cc)
item_found (b ∷ bs) v rest e = by_read (element_at (b ∷ bs)) refl e
  where
    by_read : (r : Read) → element_at (b ∷ bs) ≡ r → sized (b ∷ bs) r ≡ gave (Some v, rest) → ItemFound (b ∷ bs) v rest
    by_read (Err d) is e' = absurd cc
    by_read (Ok x) is e' =
        let both = ok_is nowhere (Some (x.0, length (b ∷ bs) - length x.1), x.1) (Some v, rest) e' in
        let first = some_is (x.0, length (b ∷ bs) - length x.1) v (ap (λ (y : Item). y.0) both) in
        let second : x.1 ≡ rest = ap (λ (y : Item). y.1) both in
        let f = element_sound b bs x is in
        let size : length (b ∷ bs) - length x.1 ≡ length (element_bytes f.element) = (let l = ap length f.spelled in let m = length-append (element_bytes f.element) x.1 in omega arith) in
        subst (λ (l : List ℕ). ItemFound (b ∷ bs) v l) second (record {
          element = f.element;
          spelled = f.spelled;
          fits = f.fits;
          is = sym first ∙ ap (λ (k : Option TokenKind). (k, length (b ∷ bs) - length x.1)) f.kind ∙ ap (λ (n : ℕ). (kind_in f.element, n)) size;
          some = f.some;
        })

word_some : (bytes : List ℕ) → IsWord bytes → 0 < length bytes
word_some [] is = absurd (let h : false ≡ true = is.0 in cc)
word_some (b ∷ bs) is = omega arith

pub fits_some : (element : Element) (after : List ℕ) → FitsElement element after → 0 < length (element_bytes element)
fits_some (Gap bytes) after (inl s) = let l = ap length s.1 in omega arith
fits_some (Gap bytes) after (inr (inl c)) = let l = ap length c.spelled in omega arith
fits_some (Gap bytes) after (inr (inr c)) = let l = ap length c.spelled in omega arith
fits_some (Spelled (kinds.Name name) bytes) after fits = word_some bytes (name_is_word bytes fits.0.1)
fits_some (Spelled (kinds.Keyword keyword) bytes) after fits = word_some bytes (keyword_word bytes keyword fits.0)
fits_some (Spelled (kinds.Symbol symbol) bytes) after fits = let l = ap length (fits.0.0 ∙ (symbol_begins symbol).2) in omega arith
fits_some (Spelled (kinds.Text text) bytes) after (inl q, longest) = let l = ap length q.spelled in omega arith
fits_some (Spelled (kinds.Text text) bytes) after (inr b, longest) = let l = ap length b.2.spelled in omega arith
fits_some (Spelled (kinds.Int n) bytes) after fits = numeral_some bytes (integer_numeral n bytes fits.0.0).0
  where
    numeral_some : (l : List ℕ) → begins_numeral l ≡ true → 0 < length l
    numeral_some [] e = absurd (let h : false ≡ true = e in cc)
    numeral_some (b ∷ bs) e = omega arith
fits_some (Spelled kinds.End bytes) after fits = absurd fits.0

item_reads : (element : Element) (rest : List ℕ) → FitsElement element rest → item_at (element_bytes element ++ rest) ≡ gave (Some (seen element), rest)
unfolding item_at
item_reads element rest fits = by_bytes (element_bytes element) refl
  where
    given : element_at (element_bytes element ++ rest) ≡ Ok (kind_in element, rest)
    given = element_reads element rest fits

    by_bytes : (l : List ℕ) → element_bytes element ≡ l → item_at (element_bytes element ++ rest) ≡ gave (Some (seen element), rest)
    by_bytes [] e = absurd (let s = fits_some element rest fits in let l = ap length e in omega arith)
    by_bytes (b ∷ bs) e =
        let cut : element_bytes element ++ rest ≡ b ∷ (bs ++ rest) = ap (λ (x : List ℕ). x ++ rest) e in
        let size : length (b ∷ (bs ++ rest)) - length rest ≡ length (element_bytes element) = (let l = ap length e in let m = length-append bs rest in omega arith) in
        ap item_at cut ∙ ap (sized (b ∷ (bs ++ rest))) (ap element_at (sym cut) ∙ given) ∙ ap (λ (n : ℕ). gave (Some (kind_in element, n), rest)) size

pub item_shrinks : Shrinks item_at
item_shrinks bytes v rest e =
    let f = item_found bytes v rest e in
    let s = f.some in
    let l = ap length f.spelled ∙ length-append (element_bytes f.element) rest in
    omega arith

pub item_reading : IsReading element_bytes FitsElement seen item_at
item_reading = record {
  shrinks = item_shrinks;
  sound = λ bytes v rest e. let f = item_found bytes v rest e in (f.element, f.spelled, f.fits, f.is);
  reads = λ element rest fits. item_reads element rest fits;
}

item_ends : (bytes rest : List ℕ) → item_at bytes ≡ gave (None, rest) → (bytes ≡ []) × (rest ≡ [])
unfolding item_at
item_ends [] rest e = (refl, sym (ap (λ (y : Item). y.1) (ok_is nowhere (None, []) (None, rest) e)))
item_ends (b ∷ bs) rest e = by_read (element_at (b ∷ bs)) e
  where
    by_read : (r : Read) → sized (b ∷ bs) r ≡ gave (None, rest) → (b ∷ bs ≡ []) × (rest ≡ [])
    by_read (Err d) e' = absurd cc
    by_read (Ok x) e' = absurd (let h = ap (λ (y : Item). y.0) (ok_is nowhere (Some (x.0, length (b ∷ bs) - length x.1), x.1) (None, rest) e') in cc)

item_stuck : (bytes : List ℕ) (d : Cause × ℕ) → item_at bytes ≡ Err d → ElementFails bytes d
unfolding item_at
item_stuck [] d e = absurd cc
item_stuck (b ∷ bs) d e = by_read (element_at (b ∷ bs)) refl e
  where
    by_read : (r : Read) → element_at (b ∷ bs) ≡ r → sized (b ∷ bs) r ≡ Err d → ElementFails (b ∷ bs) d
    by_read (Ok x) is e' = absurd cc
    by_read (Err c) is e' = element_fails b bs d (is ∙ ap (λ (x : Cause × ℕ). Err x) (err_is (None, []) c d e'))

item_refuses : (bytes : List ℕ) (d : Cause × ℕ) → element_at bytes ≡ Err d → item_at bytes ≡ Err d
unfolding item_at element_at
item_refuses [] d e = absurd cc
item_refuses (b ∷ bs) d e = ap (sized (b ∷ bs)) e

-- ---- tokens

placed_is : (place : ℕ) (elements : List Element) → placed place (map seen elements) ≡ tokens_from place elements
placed_is place [] = refl
placed_is place (Gap bytes ∷ elements) = placed_is (place + length bytes) elements
placed_is place (Spelled kind bytes ∷ elements) = ap (λ (ts : List Token). record { place = place; kind = kind } ∷ ts) (placed_is (place + length bytes) elements)

abbrev Listed : Type 0
Listed = List Seen × List ℕ

then_placed : (r : Outcome Listed) (tokens : List Token) → then_with r (λ x. Ok (placed 0 x.0)) ≡ Ok tokens → (x : Listed) × (r ≡ Ok x) × (placed 0 x.0 ≡ tokens)
then_placed (Ok x) tokens e = (x, refl, ok_is nowhere (placed 0 x.0) tokens e)
then_placed (Err d) tokens e = absurd cc

then_stuck : (r : Outcome Listed) (d : Cause × ℕ) → then_with {B = List Token} r (λ x. Ok (placed 0 x.0)) ≡ Err d → r ≡ Err d
then_stuck (Ok x) d e = absurd cc
then_stuck (Err c) d e = cc

tokens_sound : (text : List ℕ) (tokens : List Token) → length text ≤ 8388608 → tokens_at text ≡ Ok tokens → Spells text tokens
unfolding tokens_at
tokens_sound text tokens short e =
    let read = then_placed (items item_at text) tokens e in
    let r = read_sound element_bytes FitsElement seen item_at item_reading text read.0 read.1 in
    let last = item_ends r.mid read.0.1 r.ended in
    record {
      short = short;
      elements = r.stand.list;
      spelled = r.stand.spelled ∙ ap (λ (l : List ℕ). flat_map element_bytes r.stand.list ++ l) last.0 ∙ append-nil (flat_map element_bytes r.stand.list);
      in_turn = subst (λ (l : List ℕ). InTurn element_bytes FitsElement r.stand.list l) last.0 r.stand.in_turn;
      in_place = sym read.2 ∙ ap (placed 0) r.stand.are ∙ placed_is 0 r.stand.list;
    }

fronted_listed : (vs : List Seen) (rest : List ℕ) → fronted vs (Ok ([], rest)) ≡ Ok (vs, rest)
fronted_listed [] rest = refl
fronted_listed (v ∷ vs) rest = ap (ahead v) (fronted_listed vs rest)

fronted_stuck : (vs : List Seen) (d : Cause × ℕ) → fronted vs (Err d) ≡ Err d
fronted_stuck [] d = refl
fronted_stuck (v ∷ vs) d = ap (ahead v) (fronted_stuck vs d)

nothing_left : items item_at [] ≡ Ok ([], [])
unfolding items items_for item_at
nothing_left = refl

tokens_again : (text : List ℕ) (tokens : List Token) → Spells text tokens → tokens_at text ≡ Ok tokens
unfolding tokens_at
tokens_again text tokens s =
    let whole : text ≡ flat_map element_bytes s.elements ++ [] = s.spelled ∙ sym (append-nil (flat_map element_bytes s.elements)) in
    let read : items item_at text ≡ Ok (map seen s.elements, []) =
    ap (items item_at) whole ∙ read_again element_bytes FitsElement seen item_at item_reading s.elements [] s.in_turn ∙ ap (fronted (map seen s.elements)) nothing_left ∙ fronted_listed (map seen s.elements) [] in
    ap (λ (r : Outcome Listed). then_with r (λ x. Ok (placed 0 x.0))) read ∙ ap (λ (ts : List Token). Ok ts) (placed_is 0 s.elements ∙ sym s.in_place)

-- ---- faults

-- where a text stops
pub record Stopped (text : List ℕ) (d : Cause × ℕ) : Type 0 where
  pub place : ℕ
  pub fails : (short : length text ≤ 8388608) → FailsAt text (fault_at d.0 place) place
  pub total : d.1 + place ≡ length text

pub tokens_stopped : (text : List ℕ) (d : Cause × ℕ) → tokens_at text ≡ Err d → Stopped text d
unfolding tokens_at
tokens_stopped text d e =
    let read = then_stuck (items item_at text) d e in
    let r = read_stuck element_bytes FitsElement seen item_at item_reading text d read in
    let f = item_stuck r.mid d r.stuck in
    let list = r.stand.list in
    record {
      place = length (flat_map element_bytes list) + f.behind;
      fails = λ short. record {
        short = short;
        elements = list;
        rest = r.mid;
        behind = f.behind;
        read = r.stand.spelled;
        in_turn = r.stand.in_turn;
        fails = f.fails (length (flat_map element_bytes list) + f.behind);
        place_is = refl;
      };
      total = let l = ap length r.stand.spelled in let m = length-append (flat_map element_bytes list) r.mid in let t = f.left in omega arith;
    }

pub left_within : (text : List ℕ) (d : Cause × ℕ) → tokens_at text ≡ Err d → d.1 ≤ length text
left_within text d e = let s = (tokens_stopped text d e).total in omega arith

has_fault : (text : List ℕ) (cause : Cause) (place : ℕ) → FailsAt text (fault_at cause place) place → HasFault text (fault_at cause place)
has_fault text causes.BadByte place f = f
has_fault text causes.OpenString place f = f
has_fault text causes.OpenBracket place f = f
has_fault text causes.BadEscape place f = f
has_fault text causes.BadNumeral place f = f
has_fault text causes.NumberTooLarge place f = f

-- a text that stops somewhere
stopped_again : (text : List ℕ) (fault : LexFault) (place : ℕ) (f : FailsAt text fault place) → placed_faults text (tokens_at text) ≡ Err (with_place fault place)
unfolding tokens_at
stopped_again text fault place f =
    let a = element_answered fault f.rest f.behind f.fails in
    let d : Cause × ℕ = (a.cause, a.left) in
    let last : items item_at f.rest ≡ Err d = unroll item_at item_shrinks f.rest ∙ ap (items_by (items item_at)) (item_refuses f.rest d a.answer) in
    let read : items item_at text ≡ Err d =
    ap (items item_at) f.read ∙ read_again element_bytes FitsElement seen item_at item_reading f.elements f.rest f.in_turn ∙ ap (fronted (map seen f.elements)) last ∙ fronted_stuck (map seen f.elements) d in
    let at : length text - a.left ≡ place = (let l = ap length f.read in let m = length-append (flat_map element_bytes f.elements) f.rest in let t = a.total in let p = f.place_is in omega arith) in
    ap (λ (r : Outcome Listed). placed_faults text (then_with r (λ x. Ok (placed 0 x.0)))) read
    ∙ ap (λ (n : ℕ). Err (fault_at a.cause n)) at ∙ ap (λ (x : LexFault). Err x) (a.fault_is place)

-- ---- a whole text

abbrev Lexed : Type 0
Lexed = Result (List Token) LexFault

abbrev wrong : LexFault → Lexed
wrong fault = Err fault

abbrev right : List Token → Lexed
right tokens = Ok tokens

pub lex_sound : (text : List ℕ) (tokens : List Token) → lex text ≡ Ok tokens → Spells text tokens
unfolding lex
lex_sound text tokens e = elim (chosen (ltb 8388608 (length text)) (wrong (faults.TooLong (length text))) (placed_faults text (tokens_at text)) (right tokens) e) [
  | inl p ↦ absurd (let h : wrong (faults.TooLong (length text)) ≡ right tokens = p.1 in cc)
  | inr p ↦ tokens_sound text tokens (ltb-false 8388608 (length text) p.0) (by_read (tokens_at text) p.1)
]
  where
    by_read : (r : Outcome (List Token)) → placed_faults text r ≡ right tokens → r ≡ Ok tokens
    by_read (Ok ts) h = ap (λ (l : List Token). Ok l) (ok_is faults.NoMemory ts tokens h)
    by_read (Err d) h = absurd cc

pub lex_again : (text : List ℕ) (tokens : List Token) → Spells text tokens → lex text ≡ Ok tokens
unfolding lex
lex_again text tokens s =
    ap (λ (t : Bool). cond t (wrong (faults.TooLong (length text))) (placed_faults text (tokens_at text))) (le-ltb 8388608 (length text) s.short)
    ∙ ap (placed_faults text) (tokens_again text tokens s)

pub lex_fault : (text : List ℕ) (fault : LexFault) → lex text ≡ Err fault → HasFault text fault
unfolding lex
lex_fault text fault e = elim (chosen (ltb 8388608 (length text)) (wrong (faults.TooLong (length text))) (placed_faults text (tokens_at text)) (wrong fault) e) [
  | inl p ↦ subst (λ (f : LexFault). HasFault text f) (err_is [] (faults.TooLong (length text)) fault p.1) (ltb-true 8388608 (length text) p.0, refl)
  | inr p ↦ by_read (ltb-false 8388608 (length text) p.0) (tokens_at text) refl p.1
]
  where
    by_read : length text ≤ 8388608 → (r : Outcome (List Token)) → tokens_at text ≡ r → placed_faults text r ≡ wrong fault → HasFault text fault
    by_read short (Ok ts) is h = absurd cc
    by_read short (Err d) is h =
        let s = tokens_stopped text d is in
        let at : length text - d.1 ≡ s.place = (let t = s.total in omega arith) in
        subst (λ (f : LexFault). HasFault text f) (ap (fault_at d.0) (sym at) ∙ err_is [] (fault_at d.0 (length text - d.1)) fault h) (has_fault text d.0 s.place (s.fails short))

short_lex : (text : List ℕ) → length text ≤ 8388608 → lex text ≡ placed_faults text (tokens_at text)
unfolding lex
short_lex text short = ap (λ (t : Bool). cond t (wrong (faults.TooLong (length text))) (placed_faults text (tokens_at text))) (le-ltb 8388608 (length text) short)

long_lex : (text : List ℕ) → 8388608 < length text → lex text ≡ Err (faults.TooLong (length text))
unfolding lex
long_lex text long = ap (λ (t : Bool). cond t (wrong (faults.TooLong (length text))) (placed_faults text (tokens_at text))) (lt-ltb 8388608 (length text) long)

fault_again : (text : List ℕ) (fault : LexFault) (place : ℕ) (f : FailsAt text fault place) → lex text ≡ Err (with_place fault place)
fault_again text fault place f = short_lex text f.short ∙ stopped_again text fault place f

pub lex_fault_again : (text : List ℕ) (fault : LexFault) → HasFault text fault → lex text ≡ Err fault
lex_fault_again text (faults.TooLong n) h = long_lex text h.0 ∙ ap (λ (m : ℕ). Err (faults.TooLong m)) (sym h.1)
lex_fault_again text (faults.BadByte place) h = fault_again text (faults.BadByte place) place h
lex_fault_again text (faults.OpenString place) h = fault_again text (faults.OpenString place) place h
lex_fault_again text (faults.OpenBracket place) h = fault_again text (faults.OpenBracket place) place h
lex_fault_again text (faults.BadEscape place) h = fault_again text (faults.BadEscape place) place h
lex_fault_again text (faults.BadNumeral place) h = fault_again text (faults.BadNumeral place) place h
lex_fault_again text (faults.NumberTooLarge place) h = fault_again text (faults.NumberTooLarge place) place h
lex_fault_again text faults.NoMemory h = absurd h

-- ---- the end

no_end : (kind : TokenKind) (bytes after : List ℕ) → SpellsToken kind bytes after → kind ≡ kinds.End → ⊥
no_end kind bytes after s e = subst (λ (k : TokenKind). SpellsToken k bytes after) e s

ends_more : (t : Token) (ts : List Token) → t.kind ≢ kinds.End → EndsOnce ts → EndsOnce (t ∷ ts)
ends_more t [] differ ends = absurd ends
ends_more t (u ∷ ts) differ ends = (differ, ends)

ends_once : (place : ℕ) (elements : List Element) (after : List ℕ) → InTurn element_bytes FitsElement elements after → EndsOnce (tokens_from place elements)
ends_once place [] after turn = refl
ends_once place (Gap bytes ∷ elements) after turn = ends_once (place + length bytes) elements after turn.1
ends_once place (Spelled kind bytes ∷ elements) after turn =
    let rest : List ℕ = flat_map element_bytes elements ++ after in
    ends_more (record { place = place; kind = kind }) (tokens_from (place + length bytes) elements) (no_end kind bytes rest turn.0.0) (ends_once (place + length bytes) elements after turn.1)

pub spells_ends : (text : List ℕ) (tokens : List Token) → Spells text tokens → EndsOnce tokens
spells_ends text tokens s = subst (λ (ts : List Token). EndsOnce ts) (sym s.in_place) (ends_once 0 s.elements [] s.in_turn)

pub lex_short : (text : List ℕ) → length text ≤ 8388608 → lex text ≡ placed_faults text (tokens_at text)
lex_short text short = short_lex text short

pub lex_long : (text : List ℕ) → 8388608 < length text → lex text ≡ Err (faults.TooLong (length text))
lex_long text long = long_lex text long
