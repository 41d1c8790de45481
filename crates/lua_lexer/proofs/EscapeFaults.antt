-- Where reading an escape fails: what was read begins a piece, and with the next byte it doesn't.
use Rattle.std.proofs.Common.{◌≡◌, ◌≢◌, ℕ, ◌+◌, ◌-◌, ◌*◌, ◌<◌, ◌≤◌, ◌^◌, Bool, true, false, cond, ◌&&◌, eqb, ltb, leb, List, [], ◌∷◌, ◌++◌, length, take, drop, Option, Some, None, Ok, Err, refl, sym, ap, subst, ◌∙◌, append_assoc, eq-eqb, lit<, arith, inl, inr}
use Rattle.std.specs.Prelude.{IsTrue, IsSome, unwrap_or, is_some, ◌⊎◌, ◌==◌}
use Rattle.std.specs.List.{list_all}
use Rattle.std.proofs.lemmas.Bool.{eqb-true, ltb-true, ltb-false, leb-true, leb-false}
use Rattle.std.proofs.lemmas.Bool.Decides.{nat_tests}
use Rattle.std.proofs.lemmas.List.{nil_from_length}
use Rattle.lua_lexer.specs.declared.escape.Meaning.TheVariants as meanings
use Rattle.lua_names.specs.Names.{is_digit}
use Rattle.lua_lexer.specs.Alphabet.{is_space, is_line_break, is_hexadecimal, digit_of, value, begins_with}
use Rattle.lua_lexer.specs.QuotedText.{Piece, Plain, Letter, Break, Hexadecimal, Decimal, Skip, Unicode, piece_bytes, letter_value, IsBreak, IsPiece, BeginsPiece}
use Rattle.lua_lexer.specs.LongBracket.{without_break}
use Rattle.lua_lexer.specs.Reading.{run, after_run, Escape, within, low_digit, high_digit, hexadecimal_at, decimal_by, decimal_at, code_end, code_at, first_code, unicode_at, letter_by, escape_z, escape_u, escape_x, escape_digit, escape_at}
use Rattle.lua_lexer.proofs.Choices.{chosen, err_is, and_both, and_cases, true_not_false}
use Rattle.lua_lexer.proofs.DigitValues.{value_from, grows}
use Rattle.lua_lexer.proofs.Escapes.{digit_small}
use Rattle.lua_lexer.proofs.Pieces.{by_letter}
use Rattle.lua_lexer.proofs.Pieces.{by_letter}

pub record EscapeFails (bs failed : List ℕ) : Type 0 where
  pub front : List ℕ
  pub split : 92 ∷ bs ≡ front ++ failed
  pub begun : (quote : ℕ) → BeginsPiece quote front
  pub stuck : (quote b : ℕ) (more : List ℕ) → failed ≡ b ∷ more → BeginsPiece quote (front ++ b ∷ []) → ⊥

abbrev refused : List ℕ → Escape
refused l = Err l

fails_at : (bs made failed : List ℕ) → refused made ≡ refused failed → EscapeFails bs made → EscapeFails bs failed
fails_at bs made failed e f = subst (λ (l : List ℕ). EscapeFails bs l) (err_is (meanings.Nothing, []) made failed e) f

-- ---- what stands behind a `\` in a piece

data Behind (c : ℕ) (tail : List ℕ) : Type 0 where
  letter : IsSome (letter_value c) → Behind c tail
  line : is_line_break c ≡ true → Behind c tail
  hexadecimal : (high low : ℕ) → c ≡ 120 → tail ≡ high ∷ low ∷ [] → is_hexadecimal high ≡ true → is_hexadecimal low ≡ true → Behind c tail
  decimal : is_digit c ≡ true → length (c ∷ tail) ≤ 3 → value 10 (c ∷ tail) ≤ 255 → Behind c tail
  skip : c ≡ 122 → Behind c tail
  unicode : (digits : List ℕ) → c ≡ 117 → tail ≡ 123 ∷ digits ++ 125 ∷ [] → begins_with is_hexadecimal digits ≡ true → list_all is_hexadecimal digits ≡ true → value 16 digits < 2 ^ 31 → Behind c tail

head_is : (a b : ℕ) (x y : List ℕ) → a ∷ x ≡ b ∷ y → a ≡ b
head_is a b x y e = cc

tail_is : (a b : ℕ) (x y : List ℕ) → a ∷ x ≡ b ∷ y → x ≡ y
tail_is a b x y e = cc

break_first : (bytes : List ℕ) (c : ℕ) (tail : List ℕ) → IsBreak bytes → bytes ≡ c ∷ tail → is_line_break c ≡ true
break_first [] c tail is e = absurd is
break_first (a ∷ []) c tail is e = subst (λ (b : ℕ). is_line_break b ≡ true) (head_is a c [] tail e) is
break_first (a ∷ b ∷ []) c tail is e = subst (λ (d : ℕ). is_line_break d ≡ true) (head_is a c (b ∷ []) tail e) is.0
break_first (a ∷ b ∷ d ∷ more) c tail is e = absurd is

digits_first : (digits : List ℕ) (c : ℕ) (tail : List ℕ) → IsTrue (begins_with is_digit digits) → length digits ≤ 3 → value 10 digits ≤ 255 → digits ≡ c ∷ tail → Behind c tail
digits_first digits c tail begins le small e =
    decimal (subst (λ (l : List ℕ). begins_with is_digit l ≡ true) e begins) (subst (λ (l : List ℕ). length {A = ℕ} l ≤ 3) e le) (subst (λ (l : List ℕ). value 10 l ≤ 255) e small)

behind : (quote : ℕ) (piece : Piece) (c : ℕ) (tail : List ℕ) → IsPiece quote piece → piece_bytes piece ≡ 92 ∷ c ∷ tail → Behind c tail
behind quote (Plain b) c tail is e = absurd (is.1 (head_is b 92 [] (c ∷ tail) e))
behind quote (Letter b) c tail is e = letter (subst (λ (d : ℕ). IsSome (letter_value d)) (head_is b c [] tail (tail_is 92 92 (b ∷ []) (c ∷ tail) e)) is)
behind quote (Break bytes) c tail is e = line (break_first bytes c tail is (tail_is 92 92 bytes (c ∷ tail) e))
behind quote (Hexadecimal high low) c tail is e =
    let e1 = tail_is 92 92 (120 ∷ high ∷ low ∷ []) (c ∷ tail) e in
    hexadecimal high low (sym (head_is 120 c (high ∷ low ∷ []) tail e1)) (sym (tail_is 120 c (high ∷ low ∷ []) tail e1)) is.0 is.1
behind quote (Decimal digits) c tail is e = digits_first digits c tail is.0 is.2 is.3 (tail_is 92 92 digits (c ∷ tail) e)
behind quote (Skip space) c tail is e = skip (sym (head_is 122 c space tail (tail_is 92 92 (122 ∷ space) (c ∷ tail) e)))
behind quote (Unicode digits) c tail is e =
    let e1 = tail_is 92 92 (117 ∷ 123 ∷ digits ++ 125 ∷ []) (c ∷ tail) e in
    unicode digits (sym (head_is 117 c (123 ∷ digits ++ 125 ∷ []) tail e1)) (sym (tail_is 117 c (123 ∷ digits ++ 125 ∷ []) tail e1)) is.0 is.1 is.2

-- ---- behind the `\` itself

alone : (quote : ℕ) → BeginsPiece quote (92 ∷ [])
alone quote = (Letter 97, 97 ∷ [], refl, refl)

nothing_behind : EscapeFails [] []
nothing_behind = record { front = 92 ∷ []; split = refl; begun = alone; stuck = λ quote b more e. absurd cc }

no_letter : (b : ℕ) (bs : List ℕ) → is_line_break b ≡ false → is_digit b ≡ false → (b == 120) ≡ false → (b == 117) ≡ false → (b == 122) ≡ false → letter_value b ≡ None → EscapeFails (b ∷ bs) (b ∷ bs)
no_letter b bs no_line no_digit no_x no_u no_z no_value = record { front = 92 ∷ []; split = refl; begun = alone; stuck = λ quote c more e begins. refused_by quote c more (head_is b c bs more e) begins }
  where
    by_behind : (c : ℕ) (tail : List ℕ) → b ≡ c → Behind c tail → ⊥
    by_behind c tail e (letter some) = let h : is_some (letter_value b) ≡ true = subst (λ (d : ℕ). IsSome (letter_value d)) (sym e) some in let g : false ≡ true = rw no_value at h in cc
    by_behind c tail e (line is) = true_not_false (is_line_break b) (subst (λ (d : ℕ). is_line_break d ≡ true) (sym e) is) no_line
    by_behind c tail e (hexadecimal high low is cut h l) = true_not_false (eqb b 120) (eq-eqb b 120 (e ∙ is)) no_x
    by_behind c tail e (decimal is le small) = true_not_false (is_digit b) (subst (λ (d : ℕ). is_digit d ≡ true) (sym e) is) no_digit
    by_behind c tail e (skip is) = true_not_false (eqb b 122) (eq-eqb b 122 (e ∙ is)) no_z
    by_behind c tail e (unicode digits is cut begins all small) = true_not_false (eqb b 117) (eq-eqb b 117 (e ∙ is)) no_u

    refused_by : (quote c : ℕ) (more : List ℕ) → b ≡ c → BeginsPiece quote (92 ∷ c ∷ []) → ⊥
    refused_by quote c more e begins = by_behind c begins.1 e (behind quote begins.0 c begins.1 begins.2 begins.3)

-- ---- two hexadecimal digits

x_begins : (quote : ℕ) → BeginsPiece quote (92 ∷ 120 ∷ [])
x_begins quote = (Hexadecimal 48 48, 48 ∷ 48 ∷ [], (refl, refl), refl)

xh_begins : (h : ℕ) → is_hexadecimal h ≡ true → (quote : ℕ) → BeginsPiece quote (92 ∷ 120 ∷ h ∷ [])
xh_begins h is quote = (Hexadecimal h 48, 48 ∷ [], (is, refl), refl)

-- behind `\x` only hexadecimal digits stand
x_behind : (tail : List ℕ) → Behind 120 tail → (high low : ℕ) × (tail ≡ high ∷ low ∷ []) × (is_hexadecimal high ≡ true) × (is_hexadecimal low ≡ true)
x_behind tail (letter some) = absurd cc
x_behind tail (line is) = absurd cc
x_behind tail (hexadecimal high low is cut h l) = (high, low, cut, h, l)
x_behind tail (decimal is le small) = absurd cc
x_behind tail (skip is) = absurd (omega arith)
x_behind tail (unicode digits is cut begins all small) = absurd (omega arith)

x_stuck : (b : ℕ) (bs : List ℕ) → is_hexadecimal b ≡ false → EscapeFails (120 ∷ b ∷ bs) (b ∷ bs)
x_stuck b bs none = record {
  front = 92 ∷ 120 ∷ [];
  split = refl;
  begun = x_begins;
  stuck = λ quote c more e begins.
      let p = x_behind (c ∷ begins.1) (behind quote begins.0 120 (c ∷ begins.1) begins.2 begins.3) in
      true_not_false (is_hexadecimal b) (subst (λ (d : ℕ). is_hexadecimal d ≡ true) (sym (head_is b c bs more e ∙ head_is c p.0 begins.1 (p.1 ∷ []) p.2)) p.3) none;
}

xh_stuck : (h b : ℕ) (bs : List ℕ) → is_hexadecimal h ≡ true → is_hexadecimal b ≡ false → EscapeFails (120 ∷ h ∷ b ∷ bs) (b ∷ bs)
xh_stuck h b bs is none = record {
  front = 92 ∷ 120 ∷ h ∷ [];
  split = refl;
  begun = xh_begins h is;
  stuck = λ quote c more e begins.
      let p = x_behind (h ∷ c ∷ begins.1) (behind quote begins.0 120 (h ∷ c ∷ begins.1) begins.2 begins.3) in
      let second = head_is c p.1 begins.1 [] (tail_is h p.0 (c ∷ begins.1) (p.1 ∷ []) p.2) in
      true_not_false (is_hexadecimal b) (subst (λ (d : ℕ). is_hexadecimal d ≡ true) (sym (head_is b c bs more e ∙ second)) p.4) none;
}

low_fails : (h b : ℕ) (bs failed : List ℕ) (v : ℕ) (o : Option ℕ) → is_hexadecimal h ≡ true → digit_of b ≡ o → low_digit v o (b ∷ bs) bs ≡ Err failed → EscapeFails (120 ∷ h ∷ b ∷ bs) failed
low_fails h b bs failed v None is eb e = fails_at (120 ∷ h ∷ b ∷ bs) (b ∷ bs) failed e (xh_stuck h b bs is (ap is_some eb))
low_fails h b bs failed v (Some l) is eb e = absurd cc

high_fails : (b : ℕ) (bs failed : List ℕ) (o : Option ℕ) → digit_of b ≡ o → high_digit o (b ∷ bs) bs ≡ Err failed → EscapeFails (120 ∷ b ∷ bs) failed
high_fails b bs failed None eb e = fails_at (120 ∷ b ∷ bs) (b ∷ bs) failed e (x_stuck b bs (ap is_some eb))
high_fails b [] failed (Some h) eb e = fails_at (120 ∷ b ∷ []) [] failed e (record { front = 92 ∷ 120 ∷ b ∷ []; split = refl; begun = xh_begins b (ap is_some eb); stuck = λ quote c more e'. absurd cc })
high_fails b (c ∷ cs) failed (Some h) eb e = low_fails b c cs failed h (digit_of c) (ap is_some eb) refl e

hexadecimal_fails : (bs failed : List ℕ) → hexadecimal_at bs ≡ Err failed → EscapeFails (120 ∷ bs) failed
unfolding hexadecimal_at
hexadecimal_fails [] failed e = fails_at (120 ∷ []) [] failed e (record { front = 92 ∷ 120 ∷ []; split = refl; begun = x_begins; stuck = λ quote c more e'. absurd cc })
hexadecimal_fails (b ∷ bs) failed e = high_fails b bs failed (digit_of b) refl e

-- ---- decimal digits

pub digit_weight : (b : ℕ) → is_digit b ≡ true → unwrap_or (digit_of b) 0 ≤ 9
digit_weight b e =
    let d : digit_of b ≡ Some (b - 48) = rw e refl in
    let w : unwrap_or (digit_of b) 0 ≡ b - 48 = ap (λ o. unwrap_or o 0) d in
    let top : b ≤ 57 = leb-true b 57 (and_cases (leb 48 b) (leb b 57) e).1 in
    omega arith

letter_no_digit : (c : ℕ) → IsSome (letter_value c) → is_digit c ≡ false
letter_no_digit c some = by_letter (λ (b : ℕ). is_digit b ≡ false) c some refl refl refl refl refl refl refl refl refl refl

digit_no_line : (b : ℕ) → is_digit b ≡ true → is_line_break b ≡ false
digit_no_line b e = grind (arith, nat_tests)

-- behind `\` and a digit only digits stand
digit_behind : (b : ℕ) (tail : List ℕ) → is_digit b ≡ true → Behind b tail → (length (b ∷ tail) ≤ 3) × (value 10 (b ∷ tail) ≤ 255)
digit_behind b tail d (letter some) = true_not_false (is_digit b) d (letter_no_digit b some)
digit_behind b tail d (line is) = true_not_false (is_line_break b) is (digit_no_line b d)
digit_behind b tail d (hexadecimal high low is cut h l) = absurd (let g : is_digit 120 ≡ true = subst (λ (c : ℕ). is_digit c ≡ true) is d in cc)
digit_behind b tail d (decimal is le small) = (le, small)
digit_behind b tail d (skip is) = absurd (let g : is_digit 122 ≡ true = subst (λ (c : ℕ). is_digit c ≡ true) is d in cc)
digit_behind b tail d (unicode digits is cut begins all small) = absurd (let g : is_digit 117 ≡ true = subst (λ (c : ℕ). is_digit c ≡ true) is d in cc)

third_stuck : (b c d : ℕ) (ds : List ℕ) → is_digit b ≡ true → is_digit c ≡ true → is_digit d ≡ true → 255 < value 10 (b ∷ c ∷ d ∷ []) → EscapeFails (b ∷ c ∷ d ∷ ds) (d ∷ ds)
third_stuck b c d ds db dc dd over =
    let wb = digit_weight b db in
    let wc = digit_weight c dc in
    record {
      front = 92 ∷ b ∷ c ∷ [];
      split = refl;
      begun = λ quote. (Decimal (b ∷ c ∷ []), [], (db, and_both (is_digit b) (is_digit c && true) db (and_both (is_digit c) true dc refl), omega arith, omega arith), refl);
      stuck = λ quote f more e begins.
          let p = digit_behind b (c ∷ f ∷ begins.1) db (behind quote begins.0 b (c ∷ f ∷ begins.1) begins.2 begins.3) in
          let none : begins.1 ≡ [] = nil_from_length begins.1 (let l = p.0 in omega arith) in
          let same : value 10 (b ∷ c ∷ f ∷ []) ≤ 255 = subst (λ (l : List ℕ). value 10 (b ∷ c ∷ f ∷ l) ≤ 255) none p.1 in
          let again : value 10 (b ∷ c ∷ d ∷ []) ≤ 255 = subst (λ (n : ℕ). value 10 (b ∷ c ∷ n ∷ []) ≤ 255) (sym (head_is d f ds more e)) same in
          omega arith;
    }

pub within_none : (limit n : ℕ) → within limit n ≡ None → limit < n
within_none limit n e = by_test (leb n limit) refl
  where
    by_test : (t : Bool) → leb n limit ≡ t → limit < n
    by_test true q = absurd (let h : Some n ≡ None = sym (ap (λ (u : Bool). cond u (Some n) None) q) ∙ e in cc)
    by_test false q = leb-false n limit q

decimal_over : (bytes failed : List ℕ) → decimal_at bytes ≡ Err failed → (255 < value 10 (run is_digit (take 3 bytes))) × (drop 2 bytes ≡ failed)
unfolding decimal_at
decimal_over bytes failed e = by_value (within 255 (value 10 (run is_digit (take 3 bytes)))) refl e
  where
    by_value : (o : Option ℕ) → within 255 (value 10 (run is_digit (take 3 bytes))) ≡ o → decimal_by o (drop 2 bytes) (drop (length (run is_digit (take 3 bytes))) bytes) ≡ Err failed
        → (255 < value 10 (run is_digit (take 3 bytes))) × (drop 2 bytes ≡ failed)
    by_value None w e' = (within_none 255 (value 10 (run is_digit (take 3 bytes))) w, err_is (meanings.Nothing, []) (drop 2 bytes) failed e')
    by_value (Some n) w e' = absurd cc

one_run : (b : ℕ) → is_digit b ≡ true → run is_digit (b ∷ []) ≡ b ∷ []
one_run b e = ap (λ (t : Bool). cond t (b ∷ []) []) e

decimal_fails : (b : ℕ) (bs failed : List ℕ) → is_digit b ≡ true → decimal_at (b ∷ bs) ≡ Err failed → EscapeFails (b ∷ bs) failed
decimal_fails b [] failed db e =
    let over = (decimal_over (b ∷ []) failed e).0 in
    let is : run is_digit (b ∷ []) ≡ b ∷ [] = one_run b db in
    let big : 255 < value 10 (b ∷ []) = subst (λ (l : List ℕ). 255 < value 10 l) is over in
    absurd (let w = digit_weight b db in omega arith)
decimal_fails b (c ∷ cs) failed db e = by_second (is_digit c) refl
  where
    over : 255 < value 10 (run is_digit (take 3 (b ∷ c ∷ cs)))
    over = (decimal_over (b ∷ c ∷ cs) failed e).0

    rest : cs ≡ failed
    rest = (decimal_over (b ∷ c ∷ cs) failed e).1

    first_run : run is_digit (take 3 (b ∷ c ∷ cs)) ≡ b ∷ run is_digit (take 2 (c ∷ cs))
    first_run = ap (λ (t : Bool). cond t (b ∷ run is_digit (take 2 (c ∷ cs))) []) db

    by_third : is_digit c ≡ true → (ds : List ℕ) → ds ≡ cs → run is_digit (take 3 (b ∷ c ∷ cs)) ≡ b ∷ c ∷ run is_digit (take 1 ds) → EscapeFails (b ∷ c ∷ cs) failed
    by_third dc [] cut is =
        let big : 255 < value 10 (b ∷ c ∷ []) = subst (λ (l : List ℕ). 255 < value 10 l) is over in
        absurd (let w = digit_weight b db in let v = digit_weight c dc in omega arith)
    by_third dc (d ∷ ds) cut is = by_last (is_digit d) refl
      where
        by_last : (t : Bool) → is_digit d ≡ t → EscapeFails (b ∷ c ∷ cs) failed
        by_last true dd =
            let whole : run is_digit (take 3 (b ∷ c ∷ cs)) ≡ b ∷ c ∷ d ∷ [] = is ∙ ap (λ (t : Bool). b ∷ c ∷ cond t (d ∷ []) []) dd in
            let big : 255 < value 10 (b ∷ c ∷ d ∷ []) = subst (λ (l : List ℕ). 255 < value 10 l) whole over in
            subst (λ (l : List ℕ). EscapeFails (b ∷ c ∷ l) failed) cut (subst (λ (l : List ℕ). EscapeFails (b ∷ c ∷ d ∷ ds) l) (cut ∙ rest) (third_stuck b c d ds db dc dd big))
        by_last false dd =
            let whole : run is_digit (take 3 (b ∷ c ∷ cs)) ≡ b ∷ c ∷ [] = is ∙ ap (λ (t : Bool). b ∷ c ∷ cond t (d ∷ []) []) dd in
            let big : 255 < value 10 (b ∷ c ∷ []) = subst (λ (l : List ℕ). 255 < value 10 l) whole over in
            absurd (let w = digit_weight b db in let v = digit_weight c dc in omega arith)

    by_second : (t : Bool) → is_digit c ≡ t → EscapeFails (b ∷ c ∷ cs) failed
    by_second true dc = by_third dc cs refl (first_run ∙ ap (λ (t : Bool). b ∷ cond t (c ∷ run is_digit (take 1 cs)) []) dc)
    by_second false dc =
        let whole : run is_digit (take 3 (b ∷ c ∷ cs)) ≡ b ∷ [] = first_run ∙ ap (λ (t : Bool). b ∷ cond t (c ∷ run is_digit (take 1 cs)) []) dc in
        let big : 255 < value 10 (b ∷ []) = subst (λ (l : List ℕ). 255 < value 10 l) whole over in
        absurd (let w = digit_weight b db in omega arith)

-- ---- a number in braces

-- the byte neither goes on with the number nor closes it
abbrev GoesNoFurther : ℕ → ℕ → Type 0
GoesNoFurther n b = ((is_hexadecimal b ≡ false) × (b ≢ 125)) ⊎ ((is_hexadecimal b ≡ true) × (2 ^ 31 ≤ n * 16 + unwrap_or (digit_of b) 0))

record CodeFails (n : ℕ) (bs failed : List ℕ) : Type 0 where
  digits : List ℕ
  split : bs ≡ digits ++ failed
  all : list_all is_hexadecimal digits ≡ true
  small : value_from 16 n digits < 2 ^ 31
  stuck : (b : ℕ) (more : List ℕ) → failed ≡ b ∷ more → GoesNoFurther (value_from 16 n digits) b

code_fails_at : (n : ℕ) (bs made failed : List ℕ) → refused made ≡ refused failed → CodeFails n bs made → CodeFails n bs failed
code_fails_at n bs made failed e f = subst (λ (l : List ℕ). CodeFails n bs l) (err_is (meanings.Nothing, []) made failed e) f

stops_here : (n b : ℕ) (bs : List ℕ) → n < 2 ^ 31 → GoesNoFurther n b → CodeFails n (b ∷ bs) (b ∷ bs)
stops_here n b bs small no_further = record { digits = []; split = refl; all = refl; small = small; stuck = λ c more e. subst (λ (d : ℕ). GoesNoFurther n d) (head_is b c bs more e) no_further }

end_fails : (n b : ℕ) (bs failed : List ℕ) → n < 2 ^ 31 → is_hexadecimal b ≡ false → code_end n (b ∷ bs) ≡ Err failed → CodeFails n (b ∷ bs) failed
end_fails n b bs failed small none e = elim (chosen (b == 125) (Ok (meanings.Code n, bs)) (refused (b ∷ bs)) (Err failed) e) [
  | inl p ↦ absurd (let h : Ok (meanings.Code n, bs) ≡ refused failed = p.1 in cc)
  | inr p ↦ code_fails_at n (b ∷ bs) (b ∷ bs) failed p.1 (stops_here n b bs small (inl (none, λ same. true_not_false (eqb b 125) (eq-eqb b 125 same) p.0)))
]

code_fails : (n : ℕ) (bs failed : List ℕ) → n < 2 ^ 31 → code_at n bs ≡ Err failed → CodeFails n bs failed
unfolding code_at
code_fails n [] failed small e = code_fails_at n [] [] failed e (record { digits = []; split = refl; all = refl; small = small; stuck = λ c more e'. absurd cc })
code_fails n (b ∷ bs) failed small e =
    let m = n * 16 + unwrap_or (digit_of b) 0 in
    elim (chosen (is_hexadecimal b) (cond (ltb m 0x80000000) (code_at m bs) (Err (b ∷ bs))) (code_end n (b ∷ bs)) (Err failed) e) [
      | inl p ↦ elim (chosen (ltb m 0x80000000) (code_at m bs) (refused (b ∷ bs)) (Err failed) p.1) [
        | inl q ↦
            let more = code_fails m bs failed (ltb-true m 0x80000000 q.0) q.1 in
            record { digits = b ∷ more.digits; split = ap (λ (l : List ℕ). b ∷ l) more.split; all = and_both (is_hexadecimal b) (list_all is_hexadecimal more.digits) p.0 more.all; small = more.small; stuck = more.stuck }
        | inr q ↦ code_fails_at n (b ∷ bs) (b ∷ bs) failed q.1 (stops_here n b bs small (inr (p.0, ltb-false m 0x80000000 q.0)))
      ]
      | inr p ↦ end_fails n b bs failed small p.0 p.1
    ]

-- no digits and close go on so
no_code : (n : ℕ) (ds digits : List ℕ) (b : ℕ) (more : List ℕ) → ds ++ 125 ∷ [] ≡ digits ++ b ∷ more → list_all is_hexadecimal ds ≡ true → list_all is_hexadecimal digits ≡ true
    → value_from 16 n ds < 2 ^ 31 → GoesNoFurther (value_from 16 n digits) b → ⊥
no_code n [] [] b more e all all' small (inl p) = p.1 (sym (head_is 125 b [] more e))
no_code n [] [] b more e all all' small (inr p) = let h : is_hexadecimal 125 ≡ true = subst (λ (d : ℕ). is_hexadecimal d ≡ true) (sym (head_is 125 b [] more e)) p.0 in cc
no_code n [] (d ∷ digits) b more e all all' small stop =
    let h : is_hexadecimal 125 ≡ true = subst (λ (c : ℕ). is_hexadecimal c ≡ true) (sym (head_is 125 d [] (digits ++ b ∷ more) e)) (and_cases (is_hexadecimal d) (list_all is_hexadecimal digits) all').0 in cc
no_code n (c ∷ ds) [] b more e all all' small (inl p) =
    true_not_false (is_hexadecimal c) (and_cases (is_hexadecimal c) (list_all is_hexadecimal ds) all).0 (subst (λ (d : ℕ). is_hexadecimal d ≡ false) (sym (head_is c b (ds ++ 125 ∷ []) more e)) p.0)
no_code n (c ∷ ds) [] b more e all all' small (inr p) =
    let over : 2 ^ 31 ≤ n * 16 + unwrap_or (digit_of c) 0 = subst (λ (d : ℕ). 2 ^ 31 ≤ n * 16 + unwrap_or (digit_of d) 0) (sym (head_is c b (ds ++ 125 ∷ []) more e)) p.1 in
    let le = grows 16 (n * 16 + unwrap_or (digit_of c) 0) ds (omega arith) in
    omega arith
no_code n (c ∷ ds) (d ∷ digits) b more e all all' small stop =
    let same : d ≡ c = sym (head_is c d (ds ++ 125 ∷ []) (digits ++ b ∷ more) e) in
    no_code (n * 16 + unwrap_or (digit_of c) 0) ds digits b more (tail_is c d (ds ++ 125 ∷ []) (digits ++ b ∷ more) e)
    (and_cases (is_hexadecimal c) (list_all is_hexadecimal ds) all).1 (and_cases (is_hexadecimal d) (list_all is_hexadecimal digits) all').1 small
    (subst (λ (x : ℕ). GoesNoFurther (value_from 16 (n * 16 + unwrap_or (digit_of x) 0) digits) b) same stop)

-- behind `\u` stands `{`, and digits and `}`
u_behind : (tail : List ℕ) → Behind 117 tail → (digits : List ℕ) × (tail ≡ 123 ∷ digits ++ 125 ∷ []) × (list_all is_hexadecimal digits ≡ true) × (value 16 digits < 2 ^ 31) × (begins_with is_hexadecimal digits ≡ true)
u_behind tail (letter some) = absurd cc
u_behind tail (line is) = absurd cc
u_behind tail (hexadecimal high low is cut h l) = absurd (omega arith)
u_behind tail (decimal is le small) = absurd cc
u_behind tail (skip is) = absurd (omega arith)
u_behind tail (unicode digits is cut begins all small) = (digits, cut, all, small, begins)

u_begins : (quote : ℕ) → BeginsPiece quote (92 ∷ 117 ∷ [])
u_begins quote = (Unicode (48 ∷ []), 123 ∷ 48 ∷ 125 ∷ [], (refl, refl, lit< tt), refl)

brace_begins : (quote : ℕ) → BeginsPiece quote (92 ∷ 117 ∷ 123 ∷ [])
brace_begins quote = (Unicode (48 ∷ []), 48 ∷ 125 ∷ [], (refl, refl, lit< tt), refl)

code_begins : (d : ℕ) (digits : List ℕ) → is_hexadecimal d ≡ true → list_all is_hexadecimal digits ≡ true → value_from 16 (unwrap_or (digit_of d) 0) digits < 2 ^ 31
    → (quote : ℕ) → BeginsPiece quote (92 ∷ 117 ∷ 123 ∷ d ∷ digits)
code_begins d digits is all small quote =
    let whole : value_from 16 (unwrap_or (digit_of d) 0) digits ≡ value 16 (d ∷ digits) = ap (λ (n : ℕ). value_from 16 n digits) (omega arith) in
    (Unicode (d ∷ digits), 125 ∷ [], (is, and_both (is_hexadecimal d) (list_all is_hexadecimal digits) is all, subst (λ (n : ℕ). n < 2 ^ 31) whole small), refl)

u_stuck : (b : ℕ) (bs : List ℕ) → (b == 123) ≡ false → EscapeFails (117 ∷ b ∷ bs) (b ∷ bs)
u_stuck b bs none = record {
  front = 92 ∷ 117 ∷ [];
  split = refl;
  begun = u_begins;
  stuck = λ quote c more e begins.
      let p = u_behind (c ∷ begins.1) (behind quote begins.0 117 (c ∷ begins.1) begins.2 begins.3) in
      let same : b ≡ 123 = head_is b c bs more e ∙ head_is c 123 begins.1 (p.0 ++ 125 ∷ []) p.1 in
      true_not_false (eqb b 123) (eq-eqb b 123 same) none;
}

-- where the digits are those of the code so far
code_stuck : (front digits more ds : List ℕ) (b : ℕ) → front ++ b ∷ more ≡ ds ++ 125 ∷ [] → list_all is_hexadecimal front ≡ true → list_all is_hexadecimal ds ≡ true → value 16 ds < 2 ^ 31 → GoesNoFurther (value 16 front) b → ⊥
code_stuck front digits more ds b e all all' small stop = no_code 0 ds front b more (sym e) all' all small stop

first_digit : (c : ℕ) (more ds : List ℕ) → c ∷ more ≡ ds ++ 125 ∷ [] → begins_with is_hexadecimal ds ≡ true → is_hexadecimal c ≡ true
first_digit c more [] e begins = absurd (let h : false ≡ true = begins in cc)
first_digit c more (d ∷ ds) e begins = subst (λ (x : ℕ). is_hexadecimal x ≡ true) (sym (head_is c d more (ds ++ 125 ∷ []) e)) begins

brace_stuck : (b : ℕ) (bs : List ℕ) → is_hexadecimal b ≡ false → EscapeFails (117 ∷ 123 ∷ b ∷ bs) (b ∷ bs)
brace_stuck b bs none = record {
  front = 92 ∷ 117 ∷ 123 ∷ [];
  split = refl;
  begun = brace_begins;
  stuck = λ quote c more e begins.
      let p = u_behind (123 ∷ c ∷ begins.1) (behind quote begins.0 117 (123 ∷ c ∷ begins.1) begins.2 begins.3) in
      let is = first_digit c begins.1 p.0 (tail_is 123 123 (c ∷ begins.1) (p.0 ++ 125 ∷ []) p.1) p.4 in
      true_not_false (is_hexadecimal b) (subst (λ (d : ℕ). is_hexadecimal d ≡ true) (sym (head_is b c bs more e)) is) none;
}

unicode_code : (d : ℕ) (bs failed : List ℕ) → is_hexadecimal d ≡ true → CodeFails (unwrap_or (digit_of d) 0) bs failed → EscapeFails (117 ∷ 123 ∷ d ∷ bs) failed
unicode_code d bs failed is f = record {
  front = 92 ∷ 117 ∷ 123 ∷ d ∷ f.digits;
  split = ap (λ (l : List ℕ). 92 ∷ 117 ∷ 123 ∷ d ∷ l) f.split;
  begun = code_begins d f.digits is f.all f.small;
  stuck = λ quote c more e begins.
      let tail : List ℕ = 123 ∷ d ∷ ((f.digits ++ c ∷ []) ++ begins.1) in
      let p = u_behind tail (behind quote begins.0 117 tail begins.2 begins.3) in
      let cut : d ∷ (f.digits ++ c ∷ begins.1) ≡ p.0 ++ 125 ∷ [] = ap (λ (l : List ℕ). d ∷ l) (sym (append_assoc f.digits (c ∷ []) begins.1)) ∙ tail_is 123 123 (d ∷ ((f.digits ++ c ∷ []) ++ begins.1)) (p.0 ++ 125 ∷ []) p.1 in
      let whole : value_from 16 (unwrap_or (digit_of d) 0) f.digits ≡ value 16 (d ∷ f.digits) = ap (λ (n : ℕ). value_from 16 n f.digits) (omega arith) in
      code_stuck (d ∷ f.digits) [] begins.1 p.0 c cut (and_both (is_hexadecimal d) (list_all is_hexadecimal f.digits) is f.all) p.2 p.3 (subst (λ (n : ℕ). GoesNoFurther n c) whole (f.stuck c more e));
}

first_fails : (bs failed : List ℕ) → first_code bs ≡ Err failed → EscapeFails (117 ∷ 123 ∷ bs) failed
first_fails [] failed e = fails_at (117 ∷ 123 ∷ []) [] failed e (record { front = 92 ∷ 117 ∷ 123 ∷ []; split = refl; begun = brace_begins; stuck = λ quote c more e'. absurd cc })
first_fails (b ∷ bs) failed e = elim (chosen (is_hexadecimal b) (code_at (unwrap_or (digit_of b) 0) bs) (refused (b ∷ bs)) (Err failed) e) [
  | inl p ↦ let small = digit_small b in unicode_code b bs failed p.0 (code_fails (unwrap_or (digit_of b) 0) bs failed (omega arith) p.1)
  | inr p ↦ fails_at (117 ∷ 123 ∷ b ∷ bs) (b ∷ bs) failed p.1 (brace_stuck b bs p.0)
]

unicode_fails : (bs failed : List ℕ) → unicode_at bs ≡ Err failed → EscapeFails (117 ∷ bs) failed
unfolding unicode_at
unicode_fails [] failed e = fails_at (117 ∷ []) [] failed e (record { front = 92 ∷ 117 ∷ []; split = refl; begun = u_begins; stuck = λ quote c more e'. absurd cc })
unicode_fails (b ∷ bs) failed e = elim (chosen (b == 123) (first_code bs) (refused (b ∷ bs)) (Err failed) e) [
  | inl p ↦ subst (λ (c : ℕ). EscapeFails (117 ∷ c ∷ bs) failed) (sym (eqb-true b 123 p.0)) (first_fails bs failed p.1)
  | inr p ↦ fails_at (117 ∷ b ∷ bs) (b ∷ bs) failed p.1 (u_stuck b bs p.0)
]

-- ---- any escape

letter_fails : (b : ℕ) (bs failed : List ℕ) (o : Option ℕ) → letter_value b ≡ o → is_line_break b ≡ false → is_digit b ≡ false → (b == 120) ≡ false → (b == 117) ≡ false → (b == 122) ≡ false
    → letter_by o (b ∷ bs) bs ≡ Err failed → EscapeFails (b ∷ bs) failed
letter_fails b bs failed None v l d x u z e = fails_at (b ∷ bs) (b ∷ bs) failed e (no_letter b bs l d x u z v)
letter_fails b bs failed (Some n) v l d x u z e = absurd cc

pub escape_fails : (bs failed : List ℕ) → escape_at bs ≡ Err failed → EscapeFails bs failed
unfolding escape_at
escape_fails [] failed e = fails_at [] [] failed e nothing_behind
escape_fails (b ∷ bs) failed e = elim (chosen (is_line_break b) (Ok (meanings.Byte 10, without_break (b ∷ bs))) (escape_digit b bs) (refused failed) e) [
  | inl l ↦ absurd (let h : Ok (meanings.Byte 10, without_break (b ∷ bs)) ≡ refused failed = l.1 in cc)
  | inr l ↦ elim (chosen (is_digit b) (decimal_at (b ∷ bs)) (escape_x b bs) (refused failed) l.1) [
    | inl d ↦ decimal_fails b bs failed d.0 d.1
    | inr d ↦ elim (chosen (b == 120) (hexadecimal_at bs) (escape_u b bs) (refused failed) d.1) [
      | inl x ↦ subst (λ (c : ℕ). EscapeFails (c ∷ bs) failed) (sym (eqb-true b 120 x.0)) (hexadecimal_fails bs failed x.1)
      | inr x ↦ elim (chosen (b == 117) (unicode_at bs) (escape_z b bs) (refused failed) x.1) [
        | inl u ↦ subst (λ (c : ℕ). EscapeFails (c ∷ bs) failed) (sym (eqb-true b 117 u.0)) (unicode_fails bs failed u.1)
        | inr u ↦ elim (chosen (b == 122) (Ok (meanings.Nothing, after_run is_space bs)) (letter_by (letter_value b) (b ∷ bs) bs) (refused failed) u.1) [
          | inl z ↦ absurd (let h : Ok (meanings.Nothing, after_run is_space bs) ≡ refused failed = z.1 in cc)
          | inr z ↦ letter_fails b bs failed (letter_value b) refl l.0 d.0 x.0 u.0 z.0 z.1
        ]
      ]
    ]
  ]
]
