-- The pieces of a quoted text are those that the reader gives, and it gives each.
use Rattle.std.proofs.Common.{◌≡◌, ◌≢◌, ℕ, suc, ◌+◌, ◌*◌, ◌<◌, ◌≤◌, ◌^◌, Bool, true, false, cond, ◌&&◌, eqb, ltb, List, [], ◌∷◌, ◌++◌, length, take, drop, Option, Some, None, Ok, Err, refl, sym, ap, subst, ◌∙◌, append_assoc, length-append, eq-eqb, arith, inl, inr}
use Rattle.std.specs.Prelude.{IsTrue, IsFalse, IsSome, unwrap_or, not, is_some, ◌==◌}
use Rattle.std.specs.List.{list_all}
use Rattle.std.proofs.lemmas.Bool.{eqb-true, lt-ltb}
use Rattle.std.proofs.lemmas.Bool.Decides.{nat_tests}
use Rattle.std.proofs.lemmas.List.{drop_at}
use Rattle.lua_lexer.specs.declared.escape.Meaning.{Meaning}
use Rattle.lua_lexer.specs.declared.escape.Meaning.TheVariants as meanings
use Rattle.lua_lexer.specs.declared.stop.Cause.{Cause}
use Rattle.lua_lexer.specs.declared.stop.Cause.TheVariants as causes
use Rattle.lua_names.specs.Names.{is_digit}
use Rattle.lua_lexer.specs.Alphabet.{is_space, is_line_break, is_hexadecimal, is_quote, digit_of, value, begins_with}
use Rattle.lua_lexer.specs.QuotedText.{Piece, Plain, Letter, Break, Hexadecimal, Decimal, Skip, Unicode, piece_bytes, letter_value, IsBreak, IsPiece, MayPrecede, FitsPiece}
use Rattle.lua_lexer.specs.LongBracket.{without_break}
use Rattle.lua_lexer.specs.Reading.{Outcome, run, Escape, within, low_digit, high_digit, hexadecimal_at, decimal_by, decimal_at, code_end, code_at, unicode_at, escape_x, escape_digit, escape_at, piece_by, piece_at}
use Rattle.lua_lexer.proofs.Choices.{chosen, ok_is, some_is, and_both, and_cases, true_not_false}
use Rattle.lua_lexer.proofs.Runs.{run_is, limited_is}
use Rattle.lua_lexer.proofs.DigitValues.{value_from, grows}
use Rattle.lua_lexer.proofs.Escapes.{piece_meaning, within_some, one_break, two_breaks, escape_sound}
use Rattle.lua_lexer.proofs.Items.{Shrinks, IsReading}

-- ---- what is read is a piece

abbrev PieceAt : ℕ → List ℕ → Meaning × List ℕ → Type 0
PieceAt quote bytes x = (piece : Piece) × (bytes ≡ piece_bytes piece ++ x.1) × FitsPiece quote piece x.1 × (x.0 ≡ piece_meaning piece)

abbrev PieceRead : Type 0
PieceRead = Option Meaning × List ℕ

abbrev gave : PieceRead → Outcome PieceRead
gave x = Ok x

abbrev some_meaning : Meaning × List ℕ → PieceRead
some_meaning x = (Some x.0, x.1)

abbrev nowhere : Cause × ℕ
nowhere = (causes.BadByte, 0)

piece_seen : (quote : ℕ) (bytes : List ℕ) (made x : Meaning × List ℕ) → gave (some_meaning made) ≡ gave (some_meaning x) → PieceAt quote bytes made → PieceAt quote bytes x
piece_seen quote bytes made x e p =
    let both = ok_is nowhere (some_meaning made) (some_meaning x) e in
    let m : made.0 ≡ x.0 = some_is made.0 x.0 (ap (λ (y : PieceRead). y.0) both) in
    let r : made.1 ≡ x.1 = ap (λ (y : PieceRead). y.1) both in
    (p.0, subst (λ (l : List ℕ). bytes ≡ piece_bytes p.0 ++ l) r p.1, subst (λ (l : List ℕ). FitsPiece quote p.0 l) r p.2, sym m ∙ p.3)

escape_seen : (quote opening left : ℕ) (bs : List ℕ) (x : Meaning × List ℕ) (read : Escape) → escape_at bs ≡ read → piece_by opening left read ≡ Ok (some_meaning x) → PieceAt quote (92 ∷ bs) x
escape_seen quote opening left bs x (Err f) e e' = absurd cc
escape_seen quote opening left bs x (Ok y) e e' =
    let f = escape_sound bs y e in
    piece_seen quote (92 ∷ bs) y x e' (f.piece, f.spelled, (f.is quote, f.may), f.means)

not_eq : (a b : ℕ) → (a == b) ≡ false → a ≢ b
not_eq a b e p = true_not_false (eqb a b) (eq-eqb a b p) e

pub piece_sound : (quote opening : ℕ) (bytes : List ℕ) (x : Meaning × List ℕ) → piece_at quote opening bytes ≡ Ok (some_meaning x) → PieceAt quote bytes x
unfolding piece_at
piece_sound quote opening [] x e = absurd cc
piece_sound quote opening (b ∷ bs) x e =
    let plain : Outcome PieceRead = Ok (Some (meanings.Byte b), bs) in
    let broken : Outcome PieceRead = cond (is_line_break b) (Err (causes.OpenString, opening)) plain in
    elim (chosen (b == quote) (gave (None, bs)) (cond (b == 92) (piece_by opening (suc (length bs)) (escape_at bs)) broken) (gave (some_meaning x)) e) [
      | inl p ↦ absurd (let h = ap (λ (y : PieceRead). y.0) (ok_is nowhere (None, bs) (some_meaning x) p.1) in cc)
      | inr p ↦ elim (chosen (b == 92) (piece_by opening (suc (length bs)) (escape_at bs)) broken (gave (some_meaning x)) p.1) [
        | inl q ↦ subst (λ (c : ℕ). PieceAt quote (c ∷ bs) x) (sym (eqb-true b 92 q.0)) (escape_seen quote opening (suc (length bs)) bs x (escape_at bs) refl q.1)
        | inr q ↦ elim (chosen (is_line_break b) (Err (causes.OpenString, opening)) plain (gave (some_meaning x)) q.1) [
          | inl r ↦ absurd (let h : Err (causes.OpenString, opening) ≡ gave (some_meaning x) = r.1 in cc)
          | inr r ↦ piece_seen quote (b ∷ bs) (meanings.Byte b, bs) x r.1 (Plain b, refl, ((not_eq b quote p.0, not_eq b 92 q.0, r.0), tt), refl)
        ]
      ]
    ]

-- the end of a quoted text is its quote
by_escape_not_end : (opening left : ℕ) (rest : List ℕ) (read : Escape) → piece_by opening left read ≡ Ok (None, rest) → ⊥
by_escape_not_end opening left rest (Ok y) e = let h = ap (λ (z : PieceRead). z.0) (ok_is nowhere (some_meaning y) (None, rest) e) in cc
by_escape_not_end opening left rest (Err f) e = cc

pub piece_ends : (quote opening : ℕ) (bytes rest : List ℕ) → piece_at quote opening bytes ≡ Ok (None, rest) → bytes ≡ quote ∷ rest
unfolding piece_at
piece_ends quote opening [] rest e = absurd cc
piece_ends quote opening (b ∷ bs) rest e =
    let plain : Outcome PieceRead = Ok (Some (meanings.Byte b), bs) in
    let broken : Outcome PieceRead = cond (is_line_break b) (Err (causes.OpenString, opening)) plain in
    elim (chosen (b == quote) (gave (None, bs)) (cond (b == 92) (piece_by opening (suc (length bs)) (escape_at bs)) broken) (gave (None, rest)) e) [
      | inl p ↦ let r = ap (λ (y : PieceRead). y.1) (ok_is nowhere (None, bs) (None, rest) p.1) in ap (λ (c : ℕ). c ∷ bs) (eqb-true b quote p.0) ∙ ap (λ (l : List ℕ). quote ∷ l) r
      | inr p ↦ elim (chosen (b == 92) (piece_by opening (suc (length bs)) (escape_at bs)) broken (gave (None, rest)) p.1) [
        | inl q ↦ absurd (by_escape_not_end opening (suc (length bs)) rest (escape_at bs) q.1)
        | inr q ↦ elim (chosen (is_line_break b) (Err (causes.OpenString, opening)) plain (gave (None, rest)) q.1) [
          | inl r ↦ absurd (let h : Err (causes.OpenString, opening) ≡ gave (None, rest) = r.1 in cc)
          | inr r ↦ absurd (let h = ap (λ (y : PieceRead). y.0) (ok_is nowhere (Some (meanings.Byte b), bs) (None, rest) r.1) in cc)
        ]
      ]
    ]

-- a piece takes something
takes_some : (piece : Piece) → 0 < length (piece_bytes piece)
takes_some (Plain b) = omega arith
takes_some (Letter c) = omega arith
takes_some (Break bytes) = omega arith
takes_some (Hexadecimal high low) = omega arith
takes_some (Decimal digits) = omega arith
takes_some (Skip space) = omega arith
takes_some (Unicode digits) = omega arith

pub piece_shrinks : (quote opening : ℕ) → Shrinks (piece_at quote opening)
piece_shrinks quote opening bytes v rest e =
    let p = piece_sound quote opening bytes (v, rest) e in
    let some = takes_some p.0 in
    let both : length bytes ≡ length (piece_bytes p.0) + length rest = ap length p.1 ∙ length-append (piece_bytes p.0) rest in
    omega arith

-- ---- each piece is read

abbrev escaped : Piece → List ℕ → Escape
escaped piece after = Ok (piece_meaning piece, after)

-- a step of a chain of tests for a byte
at_byte : (P : ℕ → Type 0) (c k : ℕ) (t : Bool) → (c == k) ≡ t → P k → ((c == k) ≡ false → P c) → P c
at_byte P c k true e here there = subst P (sym (eqb-true c k e)) here
at_byte P c k false e here there = there e

-- what holds of each letter that may stand behind a `\` holds of any
pub by_letter : (P : ℕ → Type 0) (c : ℕ) → IsSome (letter_value c) → P 97 → P 98 → P 116 → P 110 → P 118 → P 102 → P 114 → P 92 → P 34 → P 39 → P c
by_letter P c some a b t n v f r s d q =
    at_byte P c 97 (c == 97) refl a (λ e0. at_byte P c 98 (c == 98) refl b (λ e1. at_byte P c 116 (c == 116) refl t (λ e2.
    at_byte P c 110 (c == 110) refl n (λ e3. at_byte P c 118 (c == 118) refl v (λ e4. at_byte P c 102 (c == 102) refl f (λ e5.
    at_byte P c 114 (c == 114) refl r (λ e6. at_byte P c 92 (c == 92) refl s (λ e7. at_byte P c 34 (c == 34) refl d (λ e8.
    at_byte P c 39 (c == 39) refl q (λ e9. absurd (let h : is_some (letter_value c) ≡ true = some in
    let g : false ≡ true = rw (e0, e1, e2, e3, e4, e5, e6, e7, e8, e9) at h in cc)))))))))))

letter_reads : (c : ℕ) (after : List ℕ) → IsSome (letter_value c) → escape_at (c ∷ after) ≡ escaped (Letter c) after
unfolding escape_at
letter_reads c after some = by_letter (λ (b : ℕ). escape_at (b ∷ after) ≡ escaped (Letter b) after) c some refl refl refl refl refl refl refl refl refl refl

after_one : (a : ℕ) (after : List ℕ) → is_line_break a ≡ true → IsFalse (begins_with (λ b. is_line_break b && not (b == a)) after) → without_break (a ∷ after) ≡ after
after_one a [] is may = ap (λ (t : Bool). cond t [] (a ∷ [])) is
after_one a (b ∷ bs) is may = one_break a b bs is may

other_half : (a b : ℕ) → is_line_break b ≡ true → a ≢ b → (is_line_break b && not (b == a)) ≡ true
other_half a b is differ = and_both (is_line_break b) (not (b == a)) is (by_same (b == a) refl)
  where
    by_same : (t : Bool) → (b == a) ≡ t → not t ≡ true
    by_same true e = absurd (differ (sym (eqb-true b a e)))
    by_same false e = refl

broken_at : (a : ℕ) (after : List ℕ) → is_line_break a ≡ true → escape_at (a ∷ after) ≡ Ok (meanings.Byte 10, without_break (a ∷ after))
unfolding escape_at
broken_at a after is = ap (λ (t : Bool). cond t (Ok (meanings.Byte 10, without_break (a ∷ after))) (escape_digit a after)) is

break_reads : (bytes after : List ℕ) → IsBreak bytes → MayPrecede (Break bytes) after → escape_at (bytes ++ after) ≡ escaped (Break bytes) after
break_reads [] after is may = absurd is
break_reads (a ∷ []) after is may = broken_at a after is ∙ ap (λ (l : List ℕ). Ok (meanings.Byte 10, l)) (after_one a after is may)
break_reads (a ∷ b ∷ []) after is may = broken_at a (b ∷ after) is.0 ∙ ap (λ (l : List ℕ). Ok (meanings.Byte 10, l)) (two_breaks a b after is.0 (other_half a b is.1 is.2))
break_reads (a ∷ b ∷ c ∷ more) after is may = absurd is

some_of : (o : Option ℕ) → is_some o ≡ true → (v : ℕ) × (o ≡ Some v)
some_of None e = absurd cc
some_of (Some v) e = (v, refl)

hexadecimal_reads : (high low : ℕ) (after : List ℕ) → is_hexadecimal high ≡ true → is_hexadecimal low ≡ true → escape_at (120 ∷ high ∷ low ∷ after) ≡ escaped (Hexadecimal high low) after
unfolding escape_at hexadecimal_at
hexadecimal_reads high low after h l =
    let v = some_of (digit_of high) h in
    let w = some_of (digit_of low) l in
    let v-is : unwrap_or (digit_of high) 0 ≡ v.0 = ap (λ o. unwrap_or o 0) v.1 in
    let w-is : unwrap_or (digit_of low) 0 ≡ w.0 = ap (λ o. unwrap_or o 0) w.1 in
    ap (λ (o : Option ℕ). high_digit o (high ∷ low ∷ after) (low ∷ after)) v.1
    ∙ ap (λ (o : Option ℕ). low_digit v.0 o (low ∷ after) after) w.1
    ∙ ap (λ (n : ℕ). Ok (meanings.Byte n, after)) (omega arith)

-- a digit is no line break
digit_no_break : (b : ℕ) → is_digit b ≡ true → is_line_break b ≡ false
digit_no_break b e = grind (arith, nat_tests)

digit_at : (b : ℕ) (bs : List ℕ) → is_digit b ≡ true → escape_at (b ∷ bs) ≡ decimal_at (b ∷ bs)
unfolding escape_at
digit_at b bs e =
    ap (λ (t : Bool). cond t (Ok (meanings.Byte 10, without_break (b ∷ bs))) (escape_digit b bs)) (digit_no_break b e)
    ∙ ap (λ (t : Bool). cond t (decimal_at (b ∷ bs)) (escape_x b bs)) e

decimal_reads : (digits after : List ℕ) → IsTrue (begins_with is_digit digits) → IsTrue (list_all is_digit digits) → length digits ≤ 3 → value 10 digits ≤ 255
    → (length digits < 3 → IsFalse (begins_with is_digit after)) → escape_at (digits ++ after) ≡ escaped (Decimal digits) after
unfolding decimal_at
decimal_reads [] after begins all le small stops = absurd (let h : false ≡ true = begins in cc)
decimal_reads (d ∷ ds) after begins all le small stops =
    let whole : run is_digit (take 3 ((d ∷ ds) ++ after)) ≡ d ∷ ds = limited_is is_digit 3 (d ∷ ds) after all le stops in
    digit_at d (ds ++ after) begins
    ∙ ap (λ (l : List ℕ). decimal_by (within 255 (value 10 l)) (drop 2 ((d ∷ ds) ++ after)) (drop (length l) ((d ∷ ds) ++ after))) whole
    ∙ ap (λ (o : Option ℕ). decimal_by o (drop 2 ((d ∷ ds) ++ after)) (drop (length (d ∷ ds)) ((d ∷ ds) ++ after))) (within_some 255 (value 10 (d ∷ ds)) small)
    ∙ ap (λ (l : List ℕ). Ok (meanings.Byte (value 10 (d ∷ ds)), l)) (drop_at (d ∷ ds) after (length (d ∷ ds)) refl)

skip_reads : (space after : List ℕ) → IsTrue (list_all is_space space) → IsFalse (begins_with is_space after) → escape_at (122 ∷ space ++ after) ≡ escaped (Skip space) after
unfolding escape_at
skip_reads space after all stops = ap (λ (l : List ℕ). Ok (meanings.Nothing, l)) (run_is is_space space after all stops).1

code_reads : (n : ℕ) (digits after : List ℕ) → IsTrue (list_all is_hexadecimal digits) → value_from 16 n digits < 2 ^ 31 → code_at n (digits ++ 125 ∷ after) ≡ Ok (meanings.Code (value_from 16 n digits), after)
unfolding code_at
code_reads n [] after all small = refl
code_reads n (d ∷ ds) after all small =
    let both = and_cases (is_hexadecimal d) (list_all is_hexadecimal ds) all in
    let m : ℕ = n * 16 + unwrap_or (digit_of d) 0 in
    let more : m ≤ value_from 16 m ds = grows 16 m ds (omega arith) in
    let under : ltb m 0x80000000 ≡ true = lt-ltb m 0x80000000 (omega arith) in
    ap (λ (t : Bool). cond t (cond (ltb m 0x80000000) (code_at m (ds ++ 125 ∷ after)) (Err (d ∷ (ds ++ 125 ∷ after)))) (code_end n (d ∷ (ds ++ 125 ∷ after)))) both.0
    ∙ ap (λ (t : Bool). cond t (code_at m (ds ++ 125 ∷ after)) (Err (d ∷ (ds ++ 125 ∷ after)))) under
    ∙ code_reads m ds after both.1 small

unicode_reads : (digits after : List ℕ) → IsTrue (begins_with is_hexadecimal digits) → IsTrue (list_all is_hexadecimal digits) → value 16 digits < 2 ^ 31
    → escape_at (117 ∷ 123 ∷ (digits ++ 125 ∷ after)) ≡ escaped (Unicode digits) after
unfolding escape_at unicode_at
unicode_reads [] after begins all small = absurd (let h : false ≡ true = begins in cc)
unicode_reads (d ∷ ds) after begins all small =
    let both = and_cases (is_hexadecimal d) (list_all is_hexadecimal ds) all in
    let whole : value 16 (d ∷ ds) ≡ value_from 16 (unwrap_or (digit_of d) 0) ds = ap (λ (n : ℕ). value_from 16 n ds) (omega arith) in
    ap (λ (t : Bool). cond t (code_at (unwrap_or (digit_of d) 0) (ds ++ 125 ∷ after)) (Err (d ∷ (ds ++ 125 ∷ after)))) begins
    ∙ code_reads (unwrap_or (digit_of d) 0) ds after both.1 (subst (λ (n : ℕ). n < 2 ^ 31) whole small)
    ∙ ap (λ (n : ℕ). Ok (meanings.Code n, after)) (sym whole)

-- ---- any piece

quote_not_slash : (quote : ℕ) → is_quote quote ≡ true → (92 == quote) ≡ false
quote_not_slash quote e = grind (arith, nat_tests)

by_escape : (quote opening : ℕ) (piece : Piece) (bs after : List ℕ) → is_quote quote ≡ true → escape_at bs ≡ escaped piece after → piece_at quote opening (92 ∷ bs) ≡ Ok (Some (piece_meaning piece), after)
unfolding piece_at
by_escape quote opening piece bs after q e =
    ap (λ (t : Bool). cond t (gave (None, bs)) (piece_by opening (suc (length bs)) (escape_at bs))) (quote_not_slash quote q)
    ∙ ap (piece_by opening (suc (length bs))) e

neq-false : (a b : ℕ) → a ≢ b → (a == b) ≡ false
neq-false a b differ = by_test (a == b) refl
  where
    by_test : (t : Bool) → (a == b) ≡ t → t ≡ false
    by_test true e = absurd (differ (eqb-true a b e))
    by_test false e = refl

plain_reads : (quote opening b : ℕ) (after : List ℕ) → IsPiece quote (Plain b) → piece_at quote opening (b ∷ after) ≡ Ok (Some (meanings.Byte b), after)
unfolding piece_at
plain_reads quote opening b after p =
    let plain : Outcome PieceRead = Ok (Some (meanings.Byte b), after) in
    let broken : Outcome PieceRead = cond (is_line_break b) (Err (causes.OpenString, opening)) plain in
    ap (λ (t : Bool). cond t (gave (None, after)) (cond (b == 92) (piece_by opening (suc (length after)) (escape_at after)) broken)) (neq-false b quote p.0)
    ∙ ap (λ (t : Bool). cond t (piece_by opening (suc (length after)) (escape_at after)) broken) (neq-false b 92 p.1)
    ∙ ap (λ (t : Bool). cond t (Err (causes.OpenString, opening)) plain) p.2

pub piece_reads : (quote opening : ℕ) (piece : Piece) (after : List ℕ) → is_quote quote ≡ true → FitsPiece quote piece after → piece_at quote opening (piece_bytes piece ++ after) ≡ Ok (Some (piece_meaning piece), after)
piece_reads quote opening (Plain b) after q fits = plain_reads quote opening b after fits.0
piece_reads quote opening (Letter c) after q fits = by_escape quote opening (Letter c) (c ∷ after) after q (letter_reads c after fits.0)
piece_reads quote opening (Break bytes) after q fits = by_escape quote opening (Break bytes) (bytes ++ after) after q (break_reads bytes after fits.0 fits.1)
piece_reads quote opening (Hexadecimal high low) after q fits = by_escape quote opening (Hexadecimal high low) (120 ∷ high ∷ low ∷ after) after q (hexadecimal_reads high low after fits.0.0 fits.0.1)
piece_reads quote opening (Decimal digits) after q fits = by_escape quote opening (Decimal digits) (digits ++ after) after q (decimal_reads digits after fits.0.0 fits.0.1 fits.0.2 fits.0.3 fits.1)
piece_reads quote opening (Skip space) after q fits = by_escape quote opening (Skip space) (122 ∷ space ++ after) after q (skip_reads space after fits.0 fits.1)
piece_reads quote opening (Unicode digits) after q fits =
    let regrouped : piece_bytes (Unicode digits) ++ after ≡ 92 ∷ 117 ∷ 123 ∷ (digits ++ 125 ∷ after) = ap (λ (l : List ℕ). 92 ∷ 117 ∷ 123 ∷ l) (append_assoc digits (125 ∷ []) after) in
    ap (piece_at quote opening) regrouped ∙ by_escape quote opening (Unicode digits) (117 ∷ 123 ∷ (digits ++ 125 ∷ after)) after q (unicode_reads digits after fits.0.0 fits.0.1 fits.0.2)

pub piece_reading : (quote opening : ℕ) → is_quote quote ≡ true → IsReading piece_bytes (FitsPiece quote) piece_meaning (piece_at quote opening)
piece_reading quote opening q = record {
  shrinks = piece_shrinks quote opening;
  sound = λ bytes v rest e. piece_sound quote opening bytes (v, rest) e;
  reads = λ piece rest fits. piece_reads quote opening piece rest q fits;
}
