-- The tokens of a text read one after another, as the loop does.
use Rattle.std.proofs.Common.{◌≡◌, ℕ, zero, suc, ◌+◌, ◌-◌, ◌<◌, ◌≤◌, true, false, eqb, List, [], ◌∷◌, ◌++◌, length, Option, Some, None, Ok, Err, refl, sym, ap, ◌∙◌, append_assoc, length-append, arith}
use Rattle.std.proofs.lemmas.Bool.{eqb-true}
use Rattle.std.proofs.lemmas.List.{nil_from_length}
use Rattle.lua_lexer.specs.declared.stop.Cause.{Cause}
use Rattle.lua_lexer.specs.declared.stop.Stop.{Stop}
use Rattle.lua_lexer.specs.declared.stop.Stop.TheVariants as stops
use Rattle.lua_lexer.specs.declared.token.Token.{Token}
use Rattle.lua_lexer.specs.declared.token.TokenKind.{TokenKind}
use Rattle.lua_lexer.specs.declared.token.TokenKind.TheVariants as kinds
use Rattle.lua_lexer.specs.Spelling.{element_bytes}
use Rattle.lua_lexer.specs.Reading.{Outcome, then_with, Stops, LiesWithin, ahead, items_by, items, items_for, Read, element_at, sized, item_at, placed, tokens_at}
use Rattle.lua_lexer.proofs.Items.{unroll}
use Rattle.lua_lexer.proofs.Elements.{element_sound}
use Rattle.lua_lexer.proofs.Lexing.{Seen, item_shrinks, left_within}

abbrev Listed : Type 0
Listed = List Seen × List ℕ

-- the tokens so far, and those of the items that are left, from this place on
abbrev listed : List Token → ℕ → Outcome Listed → Outcome (List Token)
listed tokens place read = then_with read (λ x. Ok (tokens ++ placed place x.0))

abbrev pub with_tokens : List Token → ℕ → List ℕ → Outcome (List Token)
with_tokens tokens place rest = listed tokens place (items item_at rest)

step : (rest : List ℕ) (kind : Option TokenKind) (after : List ℕ) → 0 < length rest → element_at rest ≡ Ok (kind, after) → items item_at rest ≡ ahead (kind, length rest - length after) (items item_at after)
unfolding item_at
step [] kind after some e = absurd (omega arith)
step (b ∷ bs) kind after some e = unroll item_at item_shrinks (b ∷ bs) ∙ ap (λ (r : Read). items_by (items item_at) (sized (b ∷ bs) r)) e

refused : (rest : List ℕ) (d : Cause × ℕ) → 0 < length rest → element_at rest ≡ Err d → items item_at rest ≡ Err d
unfolding item_at
refused [] d some e = absurd (omega arith)
refused (b ∷ bs) d some e = unroll item_at item_shrinks (b ∷ bs) ∙ ap (λ (r : Read). items_by (items item_at) (sized (b ∷ bs) r)) e

gap_listed : (tokens : List Token) (place taken : ℕ) (read : Outcome Listed) → listed tokens place (ahead (None, taken) read) ≡ listed tokens (place + taken) read
gap_listed tokens place taken (Ok x) = refl
gap_listed tokens place taken (Err d) = refl

token_listed : (tokens : List Token) (place taken : ℕ) (kind : TokenKind) (read : Outcome Listed)
    → listed tokens place (ahead (Some kind, taken) read) ≡ listed (tokens ++ record { place = place; kind = kind } ∷ []) (place + taken) read
token_listed tokens place taken kind (Ok x) = ap (λ (ts : List Token). Ok ts) (sym (append_assoc tokens (record { place = place; kind = kind } ∷ []) (placed (place + taken) x.0)))
token_listed tokens place taken kind (Err d) = refl

pub element_shrinks : (rest : List ℕ) (kind : Option TokenKind) (after : List ℕ) → 0 < length rest → element_at rest ≡ Ok (kind, after) → length after < length rest
element_shrinks [] kind after some e = absurd (omega arith)
element_shrinks (b ∷ bs) kind after some e =
    let f = element_sound b bs (kind, after) e in
    let l = ap length f.spelled in
    let s = f.some in
    let m = length-append (element_bytes f.element) after in
    omega arith

module _ (total : ℕ) (tokens : List Token) (rest : List ℕ) (all : Outcome (List Token)) (some : 0 < length rest) (within : length rest ≤ total) (so_far : with_tokens tokens (total - length rest) rest ≡ all) where
  pub gap_goes_on : (after : List ℕ) → element_at rest ≡ Ok (None, after) → with_tokens tokens (total - length after) after ≡ all
  gap_goes_on after e =
      let shorter = element_shrinks rest None after some e in
      let at : total - length after ≡ (total - length rest) + (length rest - length after) = omega arith in
      ap (λ (p : ℕ). with_tokens tokens p after) at ∙ sym (gap_listed tokens (total - length rest) (length rest - length after) (items item_at after))
      ∙ ap (listed tokens (total - length rest)) (sym (step rest None after some e)) ∙ so_far

  pub token_goes_on : (kind : TokenKind) (after : List ℕ) → element_at rest ≡ Ok (Some kind, after)
      → with_tokens (tokens ++ record { place = total - length rest; kind = kind } ∷ []) (total - length after) after ≡ all
  token_goes_on kind after e =
      let shorter = element_shrinks rest (Some kind) after some e in
      let at : total - length after ≡ (total - length rest) + (length rest - length after) = omega arith in
      ap (λ (p : ℕ). with_tokens (tokens ++ record { place = total - length rest; kind = kind } ∷ []) p after) at ∙ sym (token_listed tokens (total - length rest) (length rest - length after) kind (items item_at after))
      ∙ ap (listed tokens (total - length rest)) (sym (step rest (Some kind) after some e)) ∙ so_far

  pub stop_listed : (stop : Stop) → Stops stop (element_at rest) → Stops stop all
  stop_listed stops.NoMemory e = tt
  stop_listed (stops.At cause left) e = sym so_far ∙ ap (listed tokens (total - length rest)) (refused rest (cause, left) some e)

pub begins : (text : List ℕ) → with_tokens [] (length text - length text) text ≡ tokens_at text
unfolding tokens_at
begins text = ap (λ (p : ℕ). with_tokens [] p text) (omega arith)

pub is_done : (total : ℕ) (tokens : List Token) (rest : List ℕ) (all : Outcome (List Token)) → length rest ≡ 0 → with_tokens tokens (total - length rest) rest ≡ all
    → all ≡ Ok (tokens ++ record { place = total; kind = kinds.End } ∷ [])
unfolding items items_for item_at
is_done total tokens rest all none so_far =
    let nil = nil_from_length rest none in
    sym (rw nil at so_far) ∙ ap (λ (p : ℕ). Ok (tokens ++ record { place = p; kind = kinds.End } ∷ [])) (omega arith)

-- the place of a fault lies within the text
pub lies_within : (text : List ℕ) (stop : Stop) → Stops stop (tokens_at text) → LiesWithin (length text) stop
lies_within text stops.NoMemory e = tt
lies_within text (stops.At cause left) e = left_within text (cause, left) e

-- what the loop's test says
pub some_left : (n : ℕ) → false ≡ eqb n 0 → 0 < n
some_left zero e = absurd cc
some_left (suc n) e = omega arith

pub none_left : (n : ℕ) → true ≡ eqb n 0 → n ≡ 0
none_left n e = eqb-true n 0 (sym e)
