-- The tokens of a text of bytes are in range: bytes make bytes, and no place lies behind the text's end.
use Rattle.std.proofs.Common.{◌≡◌, ℕ, suc, ◌+◌, ◌/◌, ◌<◌, ◌≤◌, ◌^◌, Bool, true, false, cond, List, [], ◌∷◌, ◌++◌, length, get_or, Option, Some, None, refl, sym, ap, subst, length-append, arith, inl, inr}
use Rattle.std.specs.Prelude.{◌&&◌, not, ◌==◌, nat_lt, unwrap_or}
use Rattle.std.specs.List.{AllByRecursion, flat_map}
use Rattle.std.proofs.lemmas.Bool.Decides.{nat_tests}
use borrow.Author.Tests.{ltb-true}
use Rattle.lua_names.specs.Names.{is_name}
use Rattle.lua_lexer.specs.declared.token.Token.{Token}
use Rattle.lua_lexer.specs.declared.token.TokenKind.{TokenKind}
use Rattle.lua_lexer.specs.declared.token.TokenKind.TheVariants as kinds
use Rattle.lua_lexer.specs.Alphabet.{is_line_break, digit_of, value}
use Rattle.lua_lexer.specs.Turns.{InTurn}
use Rattle.lua_lexer.specs.QuotedText.{Piece, Plain, Letter, Break, Hexadecimal, Decimal, Skip, Unicode, piece_bytes, piece_text, letter_value, continuation, utf8, IsPiece, FitsPiece}
use Rattle.lua_lexer.specs.LongBracket.{opening, closing, without_break, lines_of}
use Rattle.lua_lexer.specs.TokenLists.{IsByte, IsInRange, FitsToken, IsTokenList}
use Rattle.lua_lexer.specs.Spelling.{SpellsToken, Element, Gap, Spelled, element_bytes, FitsElement, tokens_from, Spells}
use Rattle.lua_lexer.proofs.Lexing.{spells_ends}

abbrev AreBytes : List ℕ → Type 0
AreBytes bytes = AllByRecursion IsByte bytes

pub bytes_from : (bytes : List ℕ) → ((k : ℕ) → get_or bytes k 0 < 256) → AreBytes bytes
bytes_from [] each = tt
bytes_from (b ∷ bs) each = (each 0, bytes_from bs (λ k. each (suc k)))

front_bytes : (a b : List ℕ) → AreBytes (a ++ b) → AreBytes a
front_bytes [] b all = tt
front_bytes (x ∷ xs) b all = (all.0, front_bytes xs b all.1)

rest_bytes : (a b : List ℕ) → AreBytes (a ++ b) → AreBytes b
rest_bytes [] b all = all
rest_bytes (x ∷ xs) b all = rest_bytes xs b all.1

joined_bytes : (a b : List ℕ) → AreBytes a → AreBytes b → AreBytes (a ++ b)
joined_bytes [] b p q = q
joined_bytes (x ∷ xs) b p q = (p.0, joined_bytes xs b p.1 q)

either_bytes : (t : Bool) (a b : List ℕ) → (t ≡ true → AreBytes a) → (t ≡ false → AreBytes b) → AreBytes (cond t a b)
either_bytes true a b p q = p refl
either_bytes false a b p q = q refl

-- ---- long brackets

without_break_bytes : (bytes : List ℕ) → AreBytes bytes → AreBytes (without_break bytes)
without_break_bytes [] all = tt
without_break_bytes (a ∷ []) all = either_bytes (is_line_break a) [] (a ∷ []) (λ _. tt) (λ _. all)
without_break_bytes (a ∷ b ∷ bs) all =
    let two : Bool = is_line_break b && not (b == a) in
    either_bytes (is_line_break a) (cond two bs (b ∷ bs)) (a ∷ b ∷ bs) (λ _. either_bytes two bs (b ∷ bs) (λ _. all.1.1) (λ _. all.1)) (λ _. all)

lines_bytes : (bytes : List ℕ) → AreBytes bytes → AreBytes (lines_of bytes)
lines_bytes [] all = tt
lines_bytes (a ∷ []) all = either_bytes (is_line_break a) (10 ∷ []) (a ∷ []) (λ _. (omega arith, tt)) (λ _. all)
lines_bytes (a ∷ b ∷ bs) all =
    let two : Bool = is_line_break b && not (b == a) in
    let later : AreBytes (lines_of (b ∷ bs)) = lines_bytes (b ∷ bs) all.1 in
    either_bytes (is_line_break a) (10 ∷ cond two (lines_of bs) (lines_of (b ∷ bs))) (a ∷ lines_of (b ∷ bs))
    (λ _. (omega arith, either_bytes two (lines_of bs) (lines_of (b ∷ bs)) (λ _. lines_bytes bs all.1.1) (λ _. later)))
    (λ _. (all.0, later))

-- ---- quoted texts

weight_small : (d : ℕ) → unwrap_or (digit_of d) 0 < 16
weight_small d = grind (arith, nat_tests)

letter_or : (t : Bool) (n : ℕ) (other : Option ℕ) → n < 256 → unwrap_or other 0 < 256 → unwrap_or (cond t (Some n) other) 0 < 256
letter_or true n other lt later = lt
letter_or false n other lt later = later

letter_small : (c : ℕ) → unwrap_or (letter_value c) 0 < 256
letter_small c =
    letter_or (c == 97) 7 _ (omega arith) (letter_or (c == 98) 8 _ (omega arith) (letter_or (c == 116) 9 _ (omega arith)
    (letter_or (c == 110) 10 _ (omega arith) (letter_or (c == 118) 11 _ (omega arith) (letter_or (c == 102) 12 _ (omega arith)
    (letter_or (c == 114) 13 _ (omega arith) (letter_or (c == 92) 92 _ (omega arith) (letter_or (c == 34) 34 _ (omega arith)
    (letter_or (c == 39) 39 None (omega arith) (omega arith))))))))))

-- a number below 2 to the 31st, as UTF-8 has it
utf8_bytes : (n : ℕ) → n < 2 ^ 31 → AreBytes (utf8 n)
unfolding utf8
utf8_bytes n lt =
    let last : continuation n < 256 = omega arith in
    let fifth : continuation (n / 0x40) < 256 = omega arith in
    let fourth : continuation (n / 0x1000) < 256 = omega arith in
    let third : continuation (n / 0x40000) < 256 = omega arith in
    let second : continuation (n / 0x1000000) < 256 = omega arith in
    either_bytes (nat_lt n 0x80) _ _ (λ e. let l = ltb-true n 0x80 e in (omega (arith, l), tt))
    (λ _. either_bytes (nat_lt n 0x800) _ _ (λ e. let l = ltb-true n 0x800 e in (omega (arith, l), (last, tt)))
    (λ _. either_bytes (nat_lt n 0x10000) _ _ (λ e. let l = ltb-true n 0x10000 e in (omega (arith, l), (fifth, (last, tt))))
    (λ _. either_bytes (nat_lt n 0x200000) _ _ (λ e. let l = ltb-true n 0x200000 e in (omega (arith, l), (fourth, (fifth, (last, tt)))))
    (λ _. either_bytes (nat_lt n 0x4000000) _ _ (λ e. let l = ltb-true n 0x4000000 e in (omega (arith, l), (third, (fourth, (fifth, (last, tt))))))
    (λ _. (omega (arith, lt), (second, (third, (fourth, (fifth, (last, tt)))))))))))

piece_text_bytes : (quote : ℕ) (piece : Piece) → IsPiece quote piece → AreBytes (piece_bytes piece) → AreBytes (piece_text piece)
piece_text_bytes quote (Plain b) is all = all
piece_text_bytes quote (Letter c) is all = (letter_small c, tt)
piece_text_bytes quote (Break bytes) is all = (omega arith, tt)
piece_text_bytes quote (Hexadecimal high low) is all = (omega (arith, weight_small high, weight_small low), tt)
piece_text_bytes quote (Decimal digits) is all = (omega (arith, is.3), tt)
piece_text_bytes quote (Skip space) is all = tt
piece_text_bytes quote (Unicode digits) is all = utf8_bytes (value 16 digits) is.2

pieces_bytes : (quote : ℕ) (pieces : List Piece) (after : List ℕ) → InTurn piece_bytes (FitsPiece quote) pieces after
    → AreBytes (flat_map piece_bytes pieces) → AreBytes (flat_map piece_text pieces)
pieces_bytes quote [] after turn all = tt
pieces_bytes quote (piece ∷ pieces) after turn all =
    joined_bytes (piece_text piece) (flat_map piece_text pieces)
    (piece_text_bytes quote piece turn.0.0 (front_bytes (piece_bytes piece) (flat_map piece_bytes pieces) all))
    (pieces_bytes quote pieces after turn.1 (rest_bytes (piece_bytes piece) (flat_map piece_bytes pieces) all))

-- ---- tokens

kind_fits : (kind : TokenKind) (bytes after : List ℕ) → SpellsToken kind bytes after → AreBytes bytes → IsInRange kind
kind_fits (kinds.Name name) bytes after s all = subst (λ (l : List ℕ). is_name l ≡ true) s.0 s.1
kind_fits (kinds.Text text) bytes after (inl q) all =
    let inside : AreBytes (q.quote ∷ flat_map piece_bytes q.pieces ++ q.quote ∷ []) = subst (λ (l : List ℕ). AreBytes l) q.spelled all in
    subst (λ (l : List ℕ). AreBytes l) (sym q.stands_for) (pieces_bytes q.quote q.pieces (q.quote ∷ []) q.in_turn (front_bytes (flat_map piece_bytes q.pieces) (q.quote ∷ []) inside.1))
kind_fits (kinds.Text text) bytes after (inr b) all =
    let inside : AreBytes (opening b.2.level ++ (b.0 ++ closing b.2.level)) = subst (λ (l : List ℕ). AreBytes l) b.2.spelled all in
    let body : AreBytes b.0 = front_bytes b.0 (closing b.2.level) (rest_bytes (opening b.2.level) (b.0 ++ closing b.2.level) inside) in
    subst (λ (l : List ℕ). AreBytes l) (sym b.1) (lines_bytes (without_break b.0) (without_break_bytes b.0 body))
kind_fits (kinds.Int n) bytes after s all = s.1
kind_fits (kinds.Keyword k) bytes after s all = tt
kind_fits (kinds.Symbol k) bytes after s all = tt
kind_fits kinds.End bytes after s all = tt

each_fits : (place : ℕ) (elements : List Element) (after : List ℕ) → InTurn element_bytes FitsElement elements after
    → AreBytes (flat_map element_bytes elements) → place + length (flat_map element_bytes elements) ≤ 8388608
    → AllByRecursion FitsToken (tokens_from place elements)
each_fits place [] after turn all short = ((omega arith, tt), tt)
each_fits place (Gap bytes ∷ elements) after turn all short =
    let later : List ℕ = flat_map element_bytes elements in
    each_fits (place + length bytes) elements after turn.1 (rest_bytes bytes later all) (omega (arith, length-append bytes later))
each_fits place (Spelled kind bytes ∷ elements) after turn all short =
    let later : List ℕ = flat_map element_bytes elements in (
      (omega arith, kind_fits kind bytes (later ++ after) turn.0.0 (front_bytes bytes later all)),
      each_fits (place + length bytes) elements after turn.1 (rest_bytes bytes later all) (omega (arith, length-append bytes later)),
    )

pub spells_list : (text : List ℕ) (tokens : List Token) → AreBytes text → Spells text tokens → IsTokenList tokens
spells_list text tokens all s = record {
  ended = spells_ends text tokens s;
  fitting =
      let e = ap length s.spelled in
      subst (λ (ts : List Token). AllByRecursion FitsToken ts) (sym s.in_place)
      (each_fits 0 s.elements [] s.in_turn (subst (λ (l : List ℕ). AreBytes l) s.spelled all) (omega (arith, s.short)));
}
