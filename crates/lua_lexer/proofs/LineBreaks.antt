-- Line breaks turned into line feeds, one after another.
use Rattle.std.proofs.Common.{◌≡◌, ℕ, ◌==◌, Bool, true, false, cond, ◌&&◌, List, [], ◌∷◌, ◌++◌, refl, sym, ap, ◌∙◌, append_assoc}
use Rattle.std.specs.Prelude.{not}
use Rattle.lua_lexer.specs.Alphabet.{is_line_break}
use Rattle.lua_lexer.specs.LongBracket.{without_break, lines_of}

two : (a b : ℕ) (bs : List ℕ) (t : Bool) → 10 ∷ cond t (lines_of bs) (lines_of (b ∷ bs)) ≡ 10 ∷ lines_of (cond t bs (b ∷ bs))
two a b bs true = refl
two a b bs false = refl

-- a line break at the front
pub lines_break : (a : ℕ) (bs : List ℕ) → is_line_break a ≡ true → lines_of (a ∷ bs) ≡ 10 ∷ lines_of (without_break (a ∷ bs))
lines_break a [] e = rw e refl
lines_break a (b ∷ bs) e =
    ap (λ (t : Bool). cond t (10 ∷ cond (is_line_break b && not (b == a)) (lines_of bs) (lines_of (b ∷ bs))) (a ∷ lines_of (b ∷ bs))) e
    ∙ two a b bs (is_line_break b && not (b == a))
    ∙ ap (λ (t : Bool). 10 ∷ lines_of (cond t (cond (is_line_break b && not (b == a)) bs (b ∷ bs)) (a ∷ b ∷ bs))) (sym e)

pub break_goes_on : (text : List ℕ) (a : ℕ) (bs rest total : List ℕ) → rest ≡ a ∷ bs → is_line_break a ≡ true → text ++ lines_of rest ≡ total
    → (text ++ 10 ∷ []) ++ lines_of (without_break rest) ≡ total
break_goes_on text a bs rest total cut e so_far =
    rw cut (append_assoc text (10 ∷ []) (lines_of (without_break (a ∷ bs))) ∙ ap (λ (l : List ℕ). text ++ l) (sym (lines_break a bs e)) ∙ rw cut at so_far)
