-- Quoted texts: what is read stands there, what stands there is read, and each fault is the one that is defined.
use Rattle.std.proofs.Common.{◌≡◌, ℕ, suc, ◌+◌, Bool, true, false, cond, ◌&&◌, List, [], ◌∷◌, ◌++◌, length, map, Option, Some, None, Ok, Err, refl, sym, ap, subst, ◌∙◌, append_assoc, eq-eqb, inl, inr}
use Rattle.std.specs.Prelude.{IsFalse, not, ◌==◌}
use Rattle.std.specs.List.{flat_map}
use Rattle.std.proofs.lemmas.Bool.{eqb-true}
use Rattle.lua_lexer.specs.declared.escape.Meaning.{Meaning}
use Rattle.lua_lexer.specs.declared.escape.Meaning.TheVariants as meanings
use Rattle.lua_lexer.specs.declared.stop.Cause.{Cause}
use Rattle.lua_lexer.specs.declared.stop.Cause.TheVariants as causes
use Rattle.lua_names.specs.Names.{is_digit}
use Rattle.lua_lexer.specs.Alphabet.{is_space, is_line_break, is_quote, begins_with}
use Rattle.lua_lexer.specs.Turns.{InTurn}
use Rattle.lua_lexer.specs.QuotedText.{Piece, Plain, Letter, Break, Hexadecimal, Decimal, Skip, Unicode, piece_bytes, piece_text, IsPiece, MayPrecede, FitsPiece, IsQuoted, BeginsPiece, FailsToClose}
use Rattle.lua_lexer.specs.Reading.{Outcome, then_with, ahead, Escape, escape_at, meaning_bytes, items_by, items, escape_fault, piece_by, piece_at, pieces_at, quoted_at}
use Rattle.lua_lexer.proofs.Choices.{chosen, ok_is, err_is, true_not_false}
use Rattle.lua_lexer.proofs.Appended.{fronts}
use Rattle.lua_lexer.proofs.Escapes.{piece_meaning, meaning_is}
use Rattle.lua_lexer.proofs.EscapeFaults.{escape_fails}
use Rattle.lua_lexer.proofs.Items.{unroll, fronted, read_sound, read_stuck, read_again}
use Rattle.lua_lexer.proofs.Pieces.{piece_sound, piece_ends, piece_shrinks, piece_reads, piece_reading}

abbrev TextRead : Type 0
TextRead = List ℕ × List ℕ

abbrev nowhere : Cause × ℕ
nowhere = (causes.BadByte, 0)

-- ---- only the next byte counts for what may stand before it

begins_same : (test : ℕ → Bool) (l : List ℕ) (q : ℕ) (a b : List ℕ) → begins_with test (l ++ q ∷ a) ≡ begins_with test (l ++ q ∷ b)
begins_same test [] q a b = refl
begins_same test (c ∷ l) q a b = refl

may_same : (piece : Piece) (l : List ℕ) (q : ℕ) (a b : List ℕ) → MayPrecede piece (l ++ q ∷ a) → MayPrecede piece (l ++ q ∷ b)
may_same (Plain c) l q a b m = tt
may_same (Letter c) l q a b m = tt
may_same (Break []) l q a b m = tt
may_same (Break (c ∷ [])) l q a b m = sym (begins_same (λ d. is_line_break d && not (d == c)) l q a b) ∙ m
may_same (Break (c ∷ d ∷ more)) l q a b m = tt
may_same (Hexadecimal high low) l q a b m = tt
may_same (Decimal digits) l q a b m = λ lt. sym (begins_same is_digit l q a b) ∙ m lt
may_same (Skip space) l q a b m = sym (begins_same is_space l q a b) ∙ m
may_same (Unicode digits) l q a b m = tt

turn_same : (quote : ℕ) (pieces : List Piece) (a b : List ℕ) → InTurn piece_bytes (FitsPiece quote) pieces (quote ∷ a) → InTurn piece_bytes (FitsPiece quote) pieces (quote ∷ b)
turn_same quote [] a b t = tt
turn_same quote (piece ∷ pieces) a b t = ((t.0.0, may_same piece (flat_map piece_bytes pieces) quote a b t.0.1), turn_same quote pieces a b t.1)

texts_are : (pieces : List Piece) → flat_map meaning_bytes (map piece_meaning pieces) ≡ flat_map piece_text pieces
texts_are [] = refl
texts_are (piece ∷ pieces) = ap (λ (l : List ℕ). l ++ flat_map meaning_bytes (map piece_meaning pieces)) (meaning_is piece) ∙ ap (λ (l : List ℕ). piece_text piece ++ l) (texts_are pieces)

-- ---- what is read stands there

then_ok : {A B : Type 0} (r : Outcome A) (f : A → Outcome B) (y : B) → then_with r f ≡ Ok y → (x : A) × (r ≡ Ok x) × (f x ≡ Ok y)
then_ok (Ok x) f y e = (x, refl, e)
then_ok (Err d) f y e = absurd cc

then_err : {A B : Type 0} (r : Outcome A) (f : A → B) (d : Cause × ℕ) → then_with r (λ x. Ok (f x)) ≡ Err d → r ≡ Err d
then_err (Ok x) f d e = absurd cc
then_err (Err c) f d e = cc

pub record QuotedFound (rest : List ℕ) (x : TextRead) : Type 0 where
  pub bytes : List ℕ
  pub spelled : rest ≡ bytes ++ x.1
  pub is : IsQuoted x.0 bytes

pub quoted_sound : (quote : ℕ) (bytes : List ℕ) (x : TextRead) → is_quote quote ≡ true → quoted_at (quote ∷ bytes) ≡ Ok x → QuotedFound (quote ∷ bytes) x
unfolding pieces_at
quoted_sound quote bytes x q e =
    let item = piece_at quote (suc (length bytes)) in
    let read = then_ok (items item bytes) (λ y. Ok (flat_map meaning_bytes y.0, y.1)) x e in
    let made : TextRead = (flat_map meaning_bytes read.0.0, read.0.1) in
    let r = read_sound piece_bytes (FitsPiece quote) piece_meaning item (piece_reading quote (suc (length bytes)) q) bytes read.0 read.1 in
    let closed : r.mid ≡ quote ∷ read.0.1 = piece_ends quote (suc (length bytes)) r.mid read.0.1 r.ended in
    let list = r.stand.list in
    subst (λ (y : TextRead). QuotedFound (quote ∷ bytes) y) (ok_is nowhere made x read.2) (record {
      bytes = quote ∷ flat_map piece_bytes list ++ quote ∷ [];
      spelled = ap (λ (l : List ℕ). quote ∷ l) (r.stand.spelled ∙ ap (λ (l : List ℕ). flat_map piece_bytes list ++ l) closed ∙ sym (append_assoc (flat_map piece_bytes list) (quote ∷ []) read.0.1));
      is = record {
        quote = quote;
        pieces = list;
        is_quote = q;
        in_turn = turn_same quote list read.0.1 [] (subst (λ (l : List ℕ). InTurn piece_bytes (FitsPiece quote) list l) closed r.stand.in_turn);
        spelled = refl;
        stands_for = ap (flat_map meaning_bytes) r.stand.are ∙ texts_are list;
      };
    })

-- ---- what stands there is read

fronted_ok : (vs : List Meaning) (rest : List ℕ) → fronted vs (Ok ([], rest)) ≡ Ok (vs, rest)
fronted_ok [] rest = refl
fronted_ok (v ∷ vs) rest = ap (ahead v) (fronted_ok vs rest)

fronted_err : (vs : List Meaning) (d : Cause × ℕ) → fronted vs (Err d) ≡ Err d
fronted_err [] d = refl
fronted_err (v ∷ vs) d = ap (ahead v) (fronted_err vs d)

closes : (quote opening : ℕ) (after : List ℕ) → piece_at quote opening (quote ∷ after) ≡ Ok (None, after)
unfolding piece_at
closes quote opening after = ap (λ (t : Bool). cond t (Ok (None, after)) (cond (quote == 92) (piece_by opening (suc (length after)) (escape_at after)) (cond (is_line_break quote) (Err (causes.OpenString, opening)) (Ok (Some (meanings.Byte quote), after))))) (eq-eqb quote quote refl)

pub quoted_again : (text bytes after : List ℕ) → IsQuoted text bytes → quoted_at (bytes ++ after) ≡ Ok (text, after)
unfolding pieces_at
quoted_again text bytes after is =
    let quote = is.quote in
    let inner : List ℕ = flat_map piece_bytes is.pieces ++ (quote ∷ after) in
    let opening : ℕ = suc (length inner) in
    let item = piece_at quote opening in
    let regrouped : bytes ++ after ≡ quote ∷ inner = ap (λ (l : List ℕ). l ++ after) is.spelled ∙ ap (λ (l : List ℕ). quote ∷ l) (append_assoc (flat_map piece_bytes is.pieces) (quote ∷ []) after) in
    let turn = turn_same quote is.pieces [] after is.in_turn in
    let last : items item (quote ∷ after) ≡ Ok ([], after) = unroll item (piece_shrinks quote opening) (quote ∷ after) ∙ ap (items_by (items item)) (closes quote opening after) in
    let read : items item inner ≡ Ok (map piece_meaning is.pieces, after) =
    read_again piece_bytes (FitsPiece quote) piece_meaning item (piece_reading quote opening is.is_quote) is.pieces (quote ∷ after) turn ∙ ap (fronted (map piece_meaning is.pieces)) last ∙ fronted_ok (map piece_meaning is.pieces) after in
    ap quoted_at regrouped ∙ ap (λ r. then_with r (λ y. Ok (flat_map meaning_bytes y.0, y.1))) read
    ∙ ap (λ (l : List ℕ). Ok (l, after)) (texts_are is.pieces ∙ sym is.stands_for)

-- ---- where a quoted text can't be read

-- where no piece can be read
pub record PieceFails (quote opening : ℕ) (mid : List ℕ) (d : Cause × ℕ) : Type 0 where
  pub front : List ℕ
  pub failed : List ℕ
  pub split : mid ≡ front ++ failed
  pub not_closed : IsFalse (begins_with (λ b. b == quote) mid)
  pub begun : BeginsPiece quote front
  pub stuck : (b : ℕ) (more : List ℕ) → failed ≡ b ∷ more → BeginsPiece quote (front ++ b ∷ []) → ⊥
  pub is : d ≡ escape_fault opening (length mid) failed

abbrev stopped : Cause × ℕ → Outcome (Option Meaning × List ℕ)
stopped d = Err d

some_piece : (quote : ℕ) → BeginsPiece quote []
some_piece quote = (Letter 97, 92 ∷ 97 ∷ [], refl, refl)

line_no_slash : (b : ℕ) → is_line_break b ≡ true → b ≡ 92 → ⊥
line_no_slash b e p = let h : is_line_break 92 ≡ true = subst (λ (c : ℕ). is_line_break c ≡ true) p e in cc

-- a line break begins no piece
line_stuck : (quote b : ℕ) → is_line_break b ≡ true → BeginsPiece quote (b ∷ []) → ⊥
line_stuck quote b line begins = by_piece begins.0 begins.2 begins.3
  where
    first : (c : ℕ) (x y : List ℕ) → c ∷ x ≡ b ∷ y → c ≡ b
    first c x y e = cc

    slash : (x y : List ℕ) → 92 ∷ x ≡ b ∷ y → ⊥
    slash x y e = line_no_slash b line (sym (first 92 x y e))

    by_piece : (piece : Piece) → IsPiece quote piece → piece_bytes piece ≡ (b ∷ []) ++ begins.1 → ⊥
    by_piece (Plain c) is e = true_not_false (is_line_break b) line (subst (λ (d : ℕ). is_line_break d ≡ false) (first c [] begins.1 e) is.2)
    by_piece (Letter c) is e = slash (c ∷ []) begins.1 e
    by_piece (Break bytes) is e = slash bytes begins.1 e
    by_piece (Hexadecimal high low) is e = slash (120 ∷ high ∷ low ∷ []) begins.1 e
    by_piece (Decimal digits) is e = slash digits begins.1 e
    by_piece (Skip space) is e = slash (122 ∷ space) begins.1 e
    by_piece (Unicode digits) is e = slash (117 ∷ 123 ∷ digits ++ 125 ∷ []) begins.1 e

by_escape : (quote opening : ℕ) (bs : List ℕ) (d : Cause × ℕ) (read : Escape) → escape_at bs ≡ read → (92 == quote) ≡ false → piece_by opening (suc (length bs)) read ≡ stopped d → PieceFails quote opening (92 ∷ bs) d
by_escape quote opening bs d (Ok y) e none e' = absurd cc
by_escape quote opening bs d (Err failed) e none e' =
    let f = escape_fails bs failed e in
    record { front = f.front; failed = failed; split = f.split; not_closed = none; begun = f.begun quote; stuck = f.stuck quote; is = sym (err_is (None, []) (escape_fault opening (suc (length bs)) failed) d e') }

pub piece_fails : (quote opening : ℕ) (mid : List ℕ) (d : Cause × ℕ) → piece_at quote opening mid ≡ Err d → PieceFails quote opening mid d
unfolding piece_at
piece_fails quote opening [] d e = record { front = []; failed = []; split = refl; not_closed = refl; begun = some_piece quote; stuck = λ b more e'. absurd cc; is = sym (err_is (None, []) (causes.OpenString, opening) d e) }
piece_fails quote opening (b ∷ bs) d e =
    let plain : Outcome (Option Meaning × List ℕ) = Ok (Some (meanings.Byte b), bs) in
    let broken : Outcome (Option Meaning × List ℕ) = cond (is_line_break b) (stopped (causes.OpenString, opening)) plain in
    elim (chosen (b == quote) (Ok (None, bs)) (cond (b == 92) (piece_by opening (suc (length bs)) (escape_at bs)) broken) (stopped d) e) [
      | inl p ↦ absurd (let h : Ok (None, bs) ≡ stopped d = p.1 in cc)
      | inr p ↦ elim (chosen (b == 92) (piece_by opening (suc (length bs)) (escape_at bs)) broken (stopped d) p.1) [
        | inl s ↦ let same = eqb-true b 92 s.0 in
            subst (λ (c : ℕ). PieceFails quote opening (c ∷ bs) d) (sym same) (by_escape quote opening bs d (escape_at bs) refl (subst (λ (c : ℕ). (c == quote) ≡ false) same p.0) s.1)
        | inr s ↦ elim (chosen (is_line_break b) (stopped (causes.OpenString, opening)) plain (stopped d) s.1) [
          | inl l ↦ record {
            front = [];
            failed = b ∷ bs;
            split = refl;
            not_closed = p.0;
            begun = some_piece quote;
            stuck = λ c more e' begins. line_stuck quote b l.0 (subst (λ (f : ℕ). BeginsPiece quote (f ∷ [])) (sym (let h : b ≡ c = cc in h)) begins);
            is = sym (err_is (None, []) (causes.OpenString, opening) d l.1) ∙ ap (λ (t : Bool). cond t (causes.OpenString, opening) (causes.BadEscape, suc (length bs))) (sym l.0);
          }
          | inr l ↦ absurd (let h : plain ≡ stopped d = l.1 in cc)
        ]
      ]
    ]

pub record QuotedFails (rest : List ℕ) (d : Cause × ℕ) : Type 0 where
  pub front : List ℕ
  pub failed : List ℕ
  pub place : ℕ
  pub fails : FailsToClose rest front failed place
  pub is : d ≡ escape_fault (length rest) (length (front ++ failed)) failed

pub quoted_stuck : (quote : ℕ) (bytes : List ℕ) (d : Cause × ℕ) → is_quote quote ≡ true → quoted_at (quote ∷ bytes) ≡ Err d → QuotedFails (quote ∷ bytes) d
unfolding pieces_at
quoted_stuck quote bytes d q e =
    let opening : ℕ = suc (length bytes) in
    let item = piece_at quote opening in
    let read : items item bytes ≡ Err d = then_err (items item bytes) (λ y. (flat_map meaning_bytes y.0, y.1)) d e in
    let r = read_stuck piece_bytes (FitsPiece quote) piece_meaning item (piece_reading quote opening q) bytes d read in
    let f = piece_fails quote opening r.mid d r.stuck in
    let list = r.stand.list in
    record {
      front = f.front;
      failed = f.failed;
      place = 1 + length (flat_map piece_bytes list);
      fails = record {
        quote = quote;
        pieces = list;
        is_quote = q;
        in_turn = subst (λ (l : List ℕ). InTurn piece_bytes (FitsPiece quote) list l) f.split r.stand.in_turn;
        spelled = ap (λ (l : List ℕ). quote ∷ l) (r.stand.spelled ∙ ap (λ (l : List ℕ). flat_map piece_bytes list ++ l) f.split);
        place_is = refl;
        not_closed = subst (λ (l : List ℕ). IsFalse (begins_with (λ b. b == quote) l)) f.split f.not_closed;
        no_piece = λ piece after cut fits. let h : Ok (Some (piece_meaning piece), after) ≡ stopped d = sym (piece_reads quote opening piece after q fits) ∙ ap item (sym (f.split ∙ cut)) ∙ r.stuck in cc;
        begun = f.begun;
        stuck = f.stuck;
      };
      is = f.is ∙ ap (λ (l : List ℕ). escape_fault opening (length {A = ℕ} l) f.failed) f.split;
    }

-- ---- a quoted text that can't be read has this fault

begins_less : (quote : ℕ) (x : List ℕ) (c : ℕ) (more : List ℕ) → BeginsPiece quote (x ++ c ∷ more) → BeginsPiece quote (x ++ c ∷ [])
begins_less quote x c more begins =
    (begins.0, more ++ begins.1, begins.2, begins.3 ∙ append_assoc x (c ∷ more) begins.1 ∙ sym (append_assoc x (c ∷ []) (more ++ begins.1)))

one_split : (quote : ℕ) (x a y b : List ℕ) → x ++ a ≡ y ++ b → BeginsPiece quote x → ((c : ℕ) (more : List ℕ) → a ≡ c ∷ more → BeginsPiece quote (x ++ c ∷ []) → ⊥)
    → BeginsPiece quote y → ((c : ℕ) (more : List ℕ) → b ≡ c ∷ more → BeginsPiece quote (y ++ c ∷ []) → ⊥) → a ≡ b
one_split quote x a y b e bx sx by sy = elim (fronts x a y b e) [
  | inl p ↦ p
  | inr q ↦ elim q [
    | inl p ↦ absurd (sx p.0 p.2 p.3 (begins_less quote x p.0 p.1 (subst (λ (l : List ℕ). BeginsPiece quote l) p.4 by)))
    | inr p ↦ absurd (sy p.0 p.2 p.3 (begins_less quote y p.0 p.1 (subst (λ (l : List ℕ). BeginsPiece quote l) p.4 bx)))
  ]
]

quote_begins : (quote : ℕ) (mid rest : List ℕ) → mid ≡ quote ∷ rest → begins_with (λ b. b == quote) mid ≡ true
quote_begins quote mid rest e = ap (begins_with (λ b. b == quote)) e ∙ eq-eqb quote quote refl

module _ (rest front failed : List ℕ) (place : ℕ) (f : FailsToClose rest front failed place) where
  mid : List ℕ
  mid = front ++ failed

  refuses : (opening : ℕ) → (read : Outcome (Option Meaning × List ℕ)) → piece_at f.quote opening (front ++ failed) ≡ read → read ≡ stopped (escape_fault opening (length (front ++ failed)) failed)
  refuses opening (Ok (None, after)) e = absurd (true_not_false (begins_with (λ b. b == f.quote) (front ++ failed)) (quote_begins f.quote (front ++ failed) after (piece_ends f.quote opening (front ++ failed) after e)) f.not_closed)
  refuses opening (Ok (Some m, after)) e = let p = piece_sound f.quote opening (front ++ failed) (m, after) e in absurd (f.no_piece p.0 after p.1 p.2)
  refuses opening (Err d) e =
      let g = piece_fails f.quote opening (front ++ failed) d e in
      let same : g.failed ≡ failed = one_split f.quote g.front g.failed front failed (sym g.split) g.begun g.stuck f.begun f.stuck in
      ap stopped (g.is ∙ ap (escape_fault opening (length (front ++ failed))) same)

  pub quoted_refuses : quoted_at rest ≡ Err (escape_fault (length rest) (length (front ++ failed)) failed)
  unfolding pieces_at
  quoted_refuses =
      let inner : List ℕ = flat_map piece_bytes f.pieces ++ (front ++ failed) in
      let opening : ℕ = suc (length inner) in
      let item = piece_at f.quote opening in
      let d = escape_fault opening (length (front ++ failed)) failed in
      let last : items item (front ++ failed) ≡ Err d = unroll item (piece_shrinks f.quote opening) (front ++ failed) ∙ ap (items_by (items item)) (refuses opening (item (front ++ failed)) refl) in
      let read : items item inner ≡ Err d =
      read_again piece_bytes (FitsPiece f.quote) piece_meaning item (piece_reading f.quote opening f.is_quote) f.pieces (front ++ failed) f.in_turn ∙ ap (fronted (map piece_meaning f.pieces)) last ∙ fronted_err (map piece_meaning f.pieces) d in
      ap quoted_at f.spelled ∙ ap (λ r. then_with r (λ y. Ok (flat_map meaning_bytes y.0, y.1))) read
      ∙ ap (λ (l : List ℕ). Err (escape_fault (length l) (length (front ++ failed)) failed)) (sym f.spelled)
