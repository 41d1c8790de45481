-- A quoted text read piece by piece, as the loop does.
use Rattle.std.proofs.Common.{◌≡◌, ℕ, List, [], ◌++◌, Some, None, Ok, Err, refl, sym, ap, subst, ◌∙◌, append_assoc}
use Rattle.std.specs.List.{flat_map}
use Rattle.std.proofs.lemmas.List.{append-nil}
use Rattle.lua_lexer.specs.declared.escape.Meaning.{Meaning}
use Rattle.lua_lexer.specs.declared.stop.Stop.{Stop}
use Rattle.lua_lexer.specs.declared.stop.Stop.TheVariants as stops
use Rattle.lua_lexer.specs.QuotedText.{Piece, Plain, Letter, Break, Hexadecimal, Decimal, Skip, Unicode, IsPiece}
use Rattle.lua_lexer.specs.Reading.{Outcome, then_with, Stops, ahead, items_by, items, meaning_bytes, IsMeaning, piece_at, pieces_at}
use Rattle.lua_lexer.proofs.Escapes.{piece_meaning}
use Rattle.lua_lexer.proofs.Items.{unroll}
use Rattle.lua_lexer.proofs.Pieces.{piece_sound, piece_shrinks}

abbrev pub with_text : List ℕ → Outcome (List ℕ × List ℕ) → Outcome (List ℕ × List ℕ)
with_text text read = then_with read (λ x. Ok (text ++ x.0, x.1))

abbrev text_of : Outcome (List Meaning × List ℕ) → Outcome (List ℕ × List ℕ)
text_of read = then_with read (λ x. Ok (flat_map meaning_bytes x.0, x.1))

text-ahead : (m : Meaning) (read : Outcome (List Meaning × List ℕ)) → text_of (ahead m read) ≡ with_text (meaning_bytes m) (text_of read)
text-ahead m (Ok x) = refl
text-ahead m (Err e) = refl

with-with : (a b : List ℕ) (read : Outcome (List ℕ × List ℕ)) → with_text a (with_text b read) ≡ with_text (a ++ b) read
with-with a b (Ok x) = ap (λ (l : List ℕ). Ok (l, x.1)) (sym (append_assoc a b x.0))
with-with a b (Err e) = refl

module _ (quote opening : ℕ) where
  first_piece : (rest : List ℕ) → pieces_at quote opening rest ≡ text_of (items_by (items (piece_at quote opening)) (piece_at quote opening rest))
  unfolding pieces_at
  first_piece rest = ap text_of (unroll (piece_at quote opening) (piece_shrinks quote opening) rest)

  pub piece_goes_on : (text rest : List ℕ) (m : Meaning) (after : List ℕ) (total : Outcome (List ℕ × List ℕ)) → piece_at quote opening rest ≡ Ok (Some m, after)
      → with_text text (pieces_at quote opening rest) ≡ total → with_text (text ++ meaning_bytes m) (pieces_at quote opening after) ≡ total
  unfolding pieces_at
  piece_goes_on text rest m after total e so_far =
      sym (with-with text (meaning_bytes m) (pieces_at quote opening after))
      ∙ ap (with_text text) (sym (text-ahead m (items (piece_at quote opening) after)))
      ∙ ap (λ read. with_text text (text_of (items_by (items (piece_at quote opening)) read))) (sym e)
      ∙ ap (with_text text) (sym (first_piece rest)) ∙ so_far

  pub piece_is_end : (text rest after : List ℕ) (total : Outcome (List ℕ × List ℕ)) → piece_at quote opening rest ≡ Ok (None, after)
      → with_text text (pieces_at quote opening rest) ≡ total → total ≡ Ok (text, after)
  piece_is_end text rest after total e so_far =
      sym so_far ∙ ap (with_text text) (first_piece rest) ∙ ap (λ read. with_text text (text_of (items_by (items (piece_at quote opening)) read))) e
      ∙ ap (λ (l : List ℕ). Ok (l, after)) (append-nil text)

  pub piece_stops : (stop : Stop) (text rest : List ℕ) (total : Outcome (List ℕ × List ℕ)) → Stops stop (piece_at quote opening rest)
      → with_text text (pieces_at quote opening rest) ≡ total → Stops stop total
  piece_stops stops.NoMemory text rest total e so_far = tt
  piece_stops (stops.At cause left) text rest total e so_far =
      sym so_far ∙ ap (with_text text) (first_piece rest) ∙ ap (λ read. with_text text (text_of (items_by (items (piece_at quote opening)) read))) e

is_meaning : (quote : ℕ) (piece : Piece) → IsPiece quote piece → IsMeaning (piece_meaning piece)
is_meaning quote (Plain b) p = tt
is_meaning quote (Letter c) p = tt
is_meaning quote (Break bytes) p = tt
is_meaning quote (Hexadecimal high low) p = tt
is_meaning quote (Decimal digits) p = tt
is_meaning quote (Skip space) p = tt
is_meaning quote (Unicode digits) p = p.2

pub piece_meaning_small : (quote opening : ℕ) (bytes : List ℕ) (m : Meaning) (rest : List ℕ) → piece_at quote opening bytes ≡ Ok (Some m, rest) → IsMeaning m
piece_meaning_small quote opening bytes m rest e =
    let p = piece_sound quote opening bytes (m, rest) e in
    subst (λ (n : Meaning). IsMeaning n) (sym p.3) (is_meaning quote p.0 p.2.0)

pub no_text : (read : Outcome (List ℕ × List ℕ)) → with_text [] read ≡ read
no_text (Ok x) = refl
no_text (Err e) = refl
