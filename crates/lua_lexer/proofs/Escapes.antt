-- What an escape reader gives is a piece that stands there, and where it fails no piece goes on.
use Rattle.std.proofs.Common.{◌≡◌, ℕ, ◌+◌, ◌*◌, ◌<◌, ◌≤◌, ◌^◌, Bool, true, false, cond, ◌&&◌, eqb, ltb, leb, List, [], ◌∷◌, ◌++◌, length, take, drop, Option, Some, None, Ok, Err, refl, sym, ap, subst, ◌∙◌, append_assoc, eq-eqb, arith, inl, inr}
use Rattle.std.specs.Prelude.{IsTrue, unwrap_or, not, is_some, ◌==◌}
use Rattle.std.specs.List.{list_all}
use Rattle.std.proofs.lemmas.Bool.{eqb-true, ltb-true, leb-true, le-leb}
use Rattle.std.proofs.lemmas.Bool.Decides.{nat_tests}
use Rattle.lua_lexer.specs.declared.escape.Meaning.{Meaning}
use Rattle.lua_lexer.specs.declared.escape.Meaning.TheVariants as meanings
use Rattle.lua_names.specs.Names.{is_digit}
use Rattle.lua_lexer.specs.Alphabet.{is_space, is_line_break, is_hexadecimal, digit_of, value, begins_with}
use Rattle.lua_lexer.specs.QuotedText.{Piece, Plain, Letter, Break, Hexadecimal, Decimal, Skip, Unicode, piece_bytes, piece_text, letter_value, IsPiece, MayPrecede}
use Rattle.lua_lexer.specs.LongBracket.{without_break}
use Rattle.lua_lexer.specs.Reading.{run, after_run, Escape, meaning_bytes, within, low_digit, high_digit, hexadecimal_at, decimal_by, decimal_at, code_end, code_at, first_code, unicode_at, letter_by, escape_z, escape_u, escape_x, escape_digit, escape_at}
use Rattle.lua_lexer.proofs.Choices.{chosen, ok_is, some_is, and_both, and_cases}
use Rattle.lua_lexer.proofs.Runs.{run_then_rest, run_passes, rest_stops, limited_then_rest, limited_length, limited_stops}
use Rattle.lua_lexer.proofs.DigitValues.{value_from}

-- what a piece stands for, as a meaning
abbrev pub piece_meaning : Piece → Meaning
piece_meaning (Plain b) = meanings.Byte b
piece_meaning (Letter c) = meanings.Byte (unwrap_or (letter_value c) 0)
piece_meaning (Break bytes) = meanings.Byte 10
piece_meaning (Hexadecimal high low) = meanings.Byte (value 16 (high ∷ low ∷ []))
piece_meaning (Decimal digits) = meanings.Byte (value 10 digits)
piece_meaning (Skip space) = meanings.Nothing
piece_meaning (Unicode digits) = meanings.Code (value 16 digits)

pub meaning_is : (piece : Piece) → meaning_bytes (piece_meaning piece) ≡ piece_text piece
meaning_is (Plain b) = refl
meaning_is (Letter c) = refl
meaning_is (Break bytes) = refl
meaning_is (Hexadecimal high low) = refl
meaning_is (Decimal digits) = refl
meaning_is (Skip space) = refl
meaning_is (Unicode digits) = refl

-- the bytes behind a `\` and the answer are those of a piece that stands there
pub record Found (bs : List ℕ) (x : Meaning × List ℕ) : Type 0 where
  pub piece : Piece
  pub spelled : 92 ∷ bs ≡ piece_bytes piece ++ x.1
  pub is : (quote : ℕ) → IsPiece quote piece
  pub may : MayPrecede piece x.1
  pub means : x.0 ≡ piece_meaning piece

abbrev given : Meaning × List ℕ → Escape
given x = Ok x

found_at : (bs : List ℕ) (made x : Meaning × List ℕ) → given made ≡ given x → Found bs made → Found bs x
found_at bs made x e f = subst (λ (y : Meaning × List ℕ). Found bs y) (ok_is [] made x e) f

-- ---- two hexadecimal digits

some_digit : (b v : ℕ) → digit_of b ≡ Some v → is_hexadecimal b ≡ true
some_digit b v e = ap is_some e

low_sound : (b c h : ℕ) (cs : List ℕ) (o : Option ℕ) (x : Meaning × List ℕ) → digit_of b ≡ Some h → digit_of c ≡ o → low_digit h o (c ∷ cs) cs ≡ Ok x → Found (120 ∷ b ∷ c ∷ cs) x
low_sound b c h cs None x eb ec e = absurd cc
low_sound b c h cs (Some l) x eb ec e = found_at (120 ∷ b ∷ c ∷ cs) (meanings.Byte (h * 16 + l), cs) x e (record {
  piece = Hexadecimal b c;
  spelled = refl;
  is = λ quote. (some_digit b h eb, some_digit c l ec);
  may = tt;
  means = ap meanings.Byte (let eh : unwrap_or (digit_of b) 0 ≡ h = ap (λ o. unwrap_or o 0) eb in let el : unwrap_or (digit_of c) 0 ≡ l = ap (λ o. unwrap_or o 0) ec in omega arith);
})

high_sound : (b : ℕ) (bs : List ℕ) (o : Option ℕ) (x : Meaning × List ℕ) → digit_of b ≡ o → high_digit o (b ∷ bs) bs ≡ Ok x → Found (120 ∷ b ∷ bs) x
high_sound b bs None x eb e = absurd cc
high_sound b [] (Some h) x eb e = absurd cc
high_sound b (c ∷ cs) (Some h) x eb e = low_sound b c h cs (digit_of c) x eb refl e

hexadecimal_sound : (bs : List ℕ) (x : Meaning × List ℕ) → hexadecimal_at bs ≡ Ok x → Found (120 ∷ bs) x
unfolding hexadecimal_at
hexadecimal_sound [] x e = absurd cc
hexadecimal_sound (b ∷ bs) x e = high_sound b bs (digit_of b) x refl e

-- ---- white space to be skipped, and letters

skip_found : (bs : List ℕ) → Found (122 ∷ bs) (meanings.Nothing, after_run is_space bs)
skip_found bs = record {
  piece = Skip (run is_space bs);
  spelled = ap (λ (l : List ℕ). 92 ∷ 122 ∷ l) (sym (run_then_rest is_space bs));
  is = λ quote. run_passes is_space bs;
  may = rest_stops is_space bs;
  means = refl;
}

letter_sound : (b : ℕ) (bs : List ℕ) (o : Option ℕ) (x : Meaning × List ℕ) → letter_value b ≡ o → letter_by o (b ∷ bs) bs ≡ Ok x → Found (b ∷ bs) x
letter_sound b bs None x eb e = absurd cc
letter_sound b bs (Some v) x eb e = found_at (b ∷ bs) (meanings.Byte v, bs) x e (record {
  piece = Letter b;
  spelled = refl;
  is = λ quote. ap is_some eb;
  may = tt;
  means = ap (λ (o : Option ℕ). meanings.Byte (unwrap_or o 0)) (sym eb);
})

-- ---- a line break

not_same : (b c : ℕ) → not (eqb c b) ≡ true → b ≡ c → ⊥
not_same b c e p = let same : eqb c b ≡ true = eq-eqb c b (sym p) in let h : not true ≡ true = rw same at e in absurd cc

pub one_break : (b c : ℕ) (cs : List ℕ) → is_line_break b ≡ true → (is_line_break c && not (c == b)) ≡ false → without_break (b ∷ c ∷ cs) ≡ c ∷ cs
one_break b c cs e t = ap (λ (u : Bool). cond u (cond (is_line_break c && not (c == b)) cs (c ∷ cs)) (b ∷ c ∷ cs)) e ∙ ap (λ (u : Bool). cond u cs (c ∷ cs)) t

pub two_breaks : (b c : ℕ) (cs : List ℕ) → is_line_break b ≡ true → (is_line_break c && not (c == b)) ≡ true → without_break (b ∷ c ∷ cs) ≡ cs
two_breaks b c cs e t = ap (λ (u : Bool). cond u (cond (is_line_break c && not (c == b)) cs (c ∷ cs)) (b ∷ c ∷ cs)) e ∙ ap (λ (u : Bool). cond u cs (c ∷ cs)) t

break_found : (b : ℕ) (bs : List ℕ) → is_line_break b ≡ true → Found (b ∷ bs) (meanings.Byte 10, without_break (b ∷ bs))
break_found b [] e = rw e (record { piece = Break (b ∷ []); spelled = refl; is = λ quote. e; may = refl; means = refl })
break_found b (c ∷ cs) e = at_second (is_line_break c && not (c == b)) refl
  where
    at_second : (t : Bool) → (is_line_break c && not (c == b)) ≡ t → Found (b ∷ c ∷ cs) (meanings.Byte 10, without_break (b ∷ c ∷ cs))
    at_second true t =
        let both = and_cases (is_line_break c) (not (c == b)) t in
        subst (λ (r : List ℕ). Found (b ∷ c ∷ cs) (meanings.Byte 10, r)) (sym (two_breaks b c cs e t))
        (record { piece = Break (b ∷ c ∷ []); spelled = refl; is = λ quote. (e, both.0, not_same b c both.1); may = tt; means = refl })
    at_second false t =
        subst (λ (r : List ℕ). Found (b ∷ c ∷ cs) (meanings.Byte 10, r)) (sym (one_break b c cs e t))
        (record { piece = Break (b ∷ []); spelled = refl; is = λ quote. e; may = t; means = refl })

-- ---- decimal digits

pub within_is : (limit n m : ℕ) → within limit n ≡ Some m → (n ≤ limit) × (m ≡ n)
within_is limit n m e = elim (chosen (leb n limit) (Some n) None (Some m) e) [
  | inl p ↦ (leb-true n limit p.0, sym (some_is n m p.1))
  | inr p ↦ absurd (let h : None ≡ Some m = p.1 in cc)
]

pub within_some : (limit n : ℕ) → n ≤ limit → within limit n ≡ Some n
within_some limit n le = rw (le-leb n limit le) refl

begins_run : (b : ℕ) (bs : List ℕ) → is_digit b ≡ true → IsTrue (begins_with is_digit (run is_digit (take 3 (b ∷ bs))))
begins_run b bs e = rw e e

decimal_sound : (b : ℕ) (bs : List ℕ) (x : Meaning × List ℕ) → is_digit b ≡ true → decimal_at (b ∷ bs) ≡ Ok x → Found (b ∷ bs) x
unfolding decimal_at
decimal_sound b bs x digit e = by_value (within 255 (value 10 digits)) refl e
  where
    digits : List ℕ
    digits = run is_digit (take 3 (b ∷ bs))

    by_value : (o : Option ℕ) → within 255 (value 10 digits) ≡ o → decimal_by o (drop 2 (b ∷ bs)) (drop (length digits) (b ∷ bs)) ≡ Ok x → Found (b ∷ bs) x
    by_value None w e' = absurd cc
    by_value (Some n) w e' =
        let is = within_is 255 (value 10 digits) n w in
        found_at (b ∷ bs) (meanings.Byte n, drop (length digits) (b ∷ bs)) x e' (record {
          piece = Decimal digits;
          spelled = ap (λ (l : List ℕ). 92 ∷ l) (sym (limited_then_rest is_digit 3 (b ∷ bs)));
          is = λ quote. (begins_run b bs digit, run_passes is_digit (take 3 (b ∷ bs)), limited_length is_digit 3 (b ∷ bs), is.0);
          may = limited_stops is_digit 3 (b ∷ bs);
          means = ap meanings.Byte is.1;
        })

-- ---- a number in braces

pub digit_small : (b : ℕ) → unwrap_or (digit_of b) 0 < 16
digit_small b = grind (arith, nat_tests)

-- the digits of \u{..} that were read
pub record Digits (n : ℕ) (bs : List ℕ) (x : Meaning × List ℕ) : Type 0 where
  pub digits : List ℕ
  pub spelled : bs ≡ digits ++ 125 ∷ x.1
  pub are : IsTrue (list_all is_hexadecimal digits)
  pub small : value_from 16 n digits < 2 ^ 31
  pub means : x.0 ≡ meanings.Code (value_from 16 n digits)

end_sound : (n b : ℕ) (bs : List ℕ) (x : Meaning × List ℕ) → n < 2 ^ 31 → code_end n (b ∷ bs) ≡ Ok x → Digits n (b ∷ bs) x
end_sound n b bs x small e = elim (chosen (b == 125) (given (meanings.Code n, bs)) (Err (b ∷ bs)) (Ok x) e) [
  | inl p ↦ subst (λ (y : Meaning × List ℕ). Digits n (b ∷ bs) y) (ok_is [] (meanings.Code n, bs) x p.1)
      (record { digits = []; spelled = ap (λ (c : ℕ). c ∷ bs) (eqb-true b 125 p.0); are = refl; small = small; means = refl })
  | inr p ↦ absurd (let h : Err (b ∷ bs) ≡ given x = p.1 in cc)
]

code_sound : (n : ℕ) (bs : List ℕ) (x : Meaning × List ℕ) → n < 2 ^ 31 → code_at n bs ≡ Ok x → Digits n bs x
unfolding code_at
code_sound n [] x small e = absurd cc
code_sound n (b ∷ bs) x small e =
    let m = n * 16 + unwrap_or (digit_of b) 0 in
    elim (chosen (is_hexadecimal b) (cond (ltb m 0x80000000) (code_at m bs) (Err (b ∷ bs))) (code_end n (b ∷ bs)) (Ok x) e) [
      | inl p ↦ elim (chosen (ltb m 0x80000000) (code_at m bs) (Err (b ∷ bs)) (Ok x) p.1) [
        | inl q ↦
            let more = code_sound m bs x (ltb-true m 0x80000000 q.0) q.1 in
            record {
              digits = b ∷ more.digits;
              spelled = ap (λ (l : List ℕ). b ∷ l) more.spelled;
              are = and_both (is_hexadecimal b) (list_all is_hexadecimal more.digits) p.0 more.are;
              small = more.small;
              means = more.means;
            }
        | inr q ↦ absurd (let h : Err (b ∷ bs) ≡ given x = q.1 in cc)
      ]
      | inr p ↦ end_sound n b bs x small p.1
    ]

first_sound : (bs : List ℕ) (x : Meaning × List ℕ) → first_code bs ≡ Ok x → Found (117 ∷ 123 ∷ bs) x
first_sound [] x e = absurd cc
first_sound (b ∷ bs) x e = elim (chosen (is_hexadecimal b) (code_at (unwrap_or (digit_of b) 0) bs) (Err (b ∷ bs)) (Ok x) e) [
  | inl p ↦
      let small = digit_small b in
      let d = code_sound (unwrap_or (digit_of b) 0) bs x (omega arith) p.1 in
      let whole : value 16 (b ∷ d.digits) ≡ value_from 16 (unwrap_or (digit_of b) 0) d.digits = ap (λ (n : ℕ). value_from 16 n d.digits) (omega arith) in
      record {
        piece = Unicode (b ∷ d.digits);
        spelled = ap (λ (l : List ℕ). 92 ∷ 117 ∷ 123 ∷ b ∷ l) (d.spelled ∙ sym (append_assoc d.digits (125 ∷ []) x.1));
        is = λ quote. (p.0, and_both (is_hexadecimal b) (list_all is_hexadecimal d.digits) p.0 d.are, subst (λ (n : ℕ). n < 2 ^ 31) (sym whole) d.small);
        may = tt;
        means = d.means ∙ ap meanings.Code (sym whole);
      }
  | inr p ↦ absurd (let h : Err (b ∷ bs) ≡ given x = p.1 in cc)
]

unicode_sound : (bs : List ℕ) (x : Meaning × List ℕ) → unicode_at bs ≡ Ok x → Found (117 ∷ bs) x
unfolding unicode_at
unicode_sound [] x e = absurd cc
unicode_sound (b ∷ bs) x e = elim (chosen (b == 123) (first_code bs) (Err (b ∷ bs)) (Ok x) e) [
  | inl p ↦ subst (λ (c : ℕ). Found (117 ∷ c ∷ bs) x) (sym (eqb-true b 123 p.0)) (first_sound bs x p.1)
  | inr p ↦ absurd (let h : Err (b ∷ bs) ≡ given x = p.1 in cc)
]

-- ---- any escape

z_sound : (b : ℕ) (bs : List ℕ) (x : Meaning × List ℕ) → escape_z b bs ≡ Ok x → Found (b ∷ bs) x
z_sound b bs x e = elim (chosen (b == 122) (given (meanings.Nothing, after_run is_space bs)) (letter_by (letter_value b) (b ∷ bs) bs) (Ok x) e) [
  | inl p ↦ subst (λ (c : ℕ). Found (c ∷ bs) x) (sym (eqb-true b 122 p.0)) (found_at (122 ∷ bs) (meanings.Nothing, after_run is_space bs) x p.1 (skip_found bs))
  | inr p ↦ letter_sound b bs (letter_value b) x refl p.1
]

u_sound : (b : ℕ) (bs : List ℕ) (x : Meaning × List ℕ) → escape_u b bs ≡ Ok x → Found (b ∷ bs) x
u_sound b bs x e = elim (chosen (b == 117) (unicode_at bs) (escape_z b bs) (Ok x) e) [
  | inl p ↦ subst (λ (c : ℕ). Found (c ∷ bs) x) (sym (eqb-true b 117 p.0)) (unicode_sound bs x p.1)
  | inr p ↦ z_sound b bs x p.1
]

x_sound : (b : ℕ) (bs : List ℕ) (x : Meaning × List ℕ) → escape_x b bs ≡ Ok x → Found (b ∷ bs) x
x_sound b bs x e = elim (chosen (b == 120) (hexadecimal_at bs) (escape_u b bs) (Ok x) e) [
  | inl p ↦ subst (λ (c : ℕ). Found (c ∷ bs) x) (sym (eqb-true b 120 p.0)) (hexadecimal_sound bs x p.1)
  | inr p ↦ u_sound b bs x p.1
]

digit_sound : (b : ℕ) (bs : List ℕ) (x : Meaning × List ℕ) → escape_digit b bs ≡ Ok x → Found (b ∷ bs) x
digit_sound b bs x e = elim (chosen (is_digit b) (decimal_at (b ∷ bs)) (escape_x b bs) (Ok x) e) [
  | inl p ↦ decimal_sound b bs x p.0 p.1
  | inr p ↦ x_sound b bs x p.1
]

pub escape_sound : (bs : List ℕ) (x : Meaning × List ℕ) → escape_at bs ≡ Ok x → Found bs x
unfolding escape_at
escape_sound [] x e = absurd cc
escape_sound (b ∷ bs) x e = elim (chosen (is_line_break b) (given (meanings.Byte 10, without_break (b ∷ bs))) (escape_digit b bs) (Ok x) e) [
  | inl p ↦ found_at (b ∷ bs) (meanings.Byte 10, without_break (b ∷ bs)) x p.1 (break_found b bs p.0)
  | inr p ↦ digit_sound b bs x p.1
]
