-- Long brackets are found where they stand, with their first close.
use Rattle.std.proofs.Common.{◌≡◌, ℕ, zero, suc, ◌≤◌, Bool, true, false, cond, List, [], ◌∷◌, ◌++◌, length, Option, Some, None, replicate, refl, sym, ap, subst, ◌∙◌, append_assoc, eq-eqb, arith, inl, inr}
use Rattle.std.specs.Prelude.{IsTrue, ◌==◌}
use Rattle.std.specs.List.{list_all}
use Rattle.std.proofs.lemmas.Bool.{eqb-true}
use Rattle.std.proofs.lemmas.List.{length-replicate}
use Rattle.lua_lexer.specs.LongBracket.{opening, closing}
use Rattle.lua_lexer.specs.Reading.{run, after_run, level_after, level_at, opened, same_level, closed_at, body_or, close_at}
use Rattle.lua_lexer.proofs.Choices.{chosen, some_is}
use Rattle.lua_lexer.proofs.Runs.{run_then_rest, run_is}
use Rattle.lua_lexer.proofs.Appended.{append_same, append_after}

abbrev equals : ℕ → Bool
equals b = b == 61

-- ---- so many `=`

run_equals : (bytes : List ℕ) → run equals bytes ≡ replicate (length (run equals bytes)) 61
run_equals [] = refl
run_equals (b ∷ bs) = at_head (equals b) refl (run_equals bs)
  where
    at_head : (t : Bool) → equals b ≡ t → run equals bs ≡ replicate (length (run equals bs)) 61
        → cond t (b ∷ run equals bs) [] ≡ replicate (length (cond t (b ∷ run equals bs) [])) 61
    at_head true e more = ap (λ (c : ℕ). c ∷ run equals bs) (eqb-true b 61 e) ∙ ap (λ (l : List ℕ). 61 ∷ l) more
    at_head false e more = refl

all_equal : (n : ℕ) → IsTrue (list_all equals (replicate n 61))
all_equal zero = refl
all_equal (suc n) = all_equal n

after_sound : (last : ℕ) (rest : List ℕ) (level : ℕ) (x : ℕ × List ℕ) → level_after last rest level ≡ Some x → (rest ≡ last ∷ x.1) × (level ≡ x.0)
after_sound last [] level x e = absurd cc
after_sound last (b ∷ bs) level x e = elim (chosen (b == last) (Some (level, bs)) None (Some x) e) [
  | inl p ↦ let both = some_is (level, bs) x p.1 in
      (ap (λ (c : ℕ). c ∷ bs) (eqb-true b last p.0) ∙ ap (λ (y : ℕ × List ℕ). last ∷ y.1) both, ap (λ (y : ℕ × List ℕ). y.0) both)
  | inr p ↦ absurd (let h : None ≡ Some x = p.1 in cc)
]

level_sound : (last : ℕ) (bytes : List ℕ) (x : ℕ × List ℕ) → level_at last bytes ≡ Some x → bytes ≡ replicate x.0 61 ++ (last ∷ x.1)
unfolding level_at
level_sound last bytes x e =
    let both = after_sound last (after_run equals bytes) (length (run equals bytes)) x e in
    sym (run_then_rest equals bytes) ∙ ap (λ (l : List ℕ). l ++ after_run equals bytes) (run_equals bytes)
    ∙ ap (λ (l : List ℕ). replicate (length (run equals bytes)) 61 ++ l) both.0 ∙ ap (λ (n : ℕ). replicate n 61 ++ (last ∷ x.1)) both.1

level_again : (last level : ℕ) (after : List ℕ) → (last == 61) ≡ false → level_at last (replicate level 61 ++ (last ∷ after)) ≡ Some (level, after)
unfolding level_at
level_again last level after differ =
    let is = run_is equals (replicate level 61) (last ∷ after) (all_equal level) differ in
    ap (λ (l : List ℕ). level_after last l (length {A = ℕ} (run equals (replicate level 61 ++ (last ∷ after))))) is.1
    ∙ ap (λ (l : List ℕ). level_after last (last ∷ after) (length {A = ℕ} l)) is.0
    ∙ ap (λ (t : Bool). cond t (Some (length {A = ℕ} (replicate level 61), after)) None) (eq-eqb last last refl)
    ∙ ap (λ (n : ℕ). Some (n, after)) (length-replicate level 61)

-- ---- the opening

pub opened_sound : (bytes : List ℕ) (x : ℕ × List ℕ) → opened bytes ≡ Some x → bytes ≡ opening x.0 ++ x.1
unfolding opened
opened_sound [] x e = absurd cc
opened_sound (b ∷ bs) x e = elim (chosen (b == 91) (level_at 91 bs) None (Some x) e) [
  | inl p ↦ ap (λ (c : ℕ). c ∷ bs) (eqb-true b 91 p.0) ∙ ap (λ (l : List ℕ). 91 ∷ l) (level_sound 91 bs x p.1 ∙ sym (append_assoc (replicate x.0 61) (91 ∷ []) x.1))
  | inr p ↦ absurd (let h : None ≡ Some x = p.1 in cc)
]

pub opened_again : (level : ℕ) (inner : List ℕ) → opened (opening level ++ inner) ≡ Some (level, inner)
unfolding opened
opened_again level inner = ap (level_at 91) (append_assoc (replicate level 61) (91 ∷ []) inner) ∙ level_again 91 level inner refl

-- ---- the close

same_sound : (wanted : ℕ) (o : Option (ℕ × List ℕ)) (after : List ℕ) → same_level wanted o ≡ Some after → o ≡ Some (wanted, after)
same_sound wanted None after e = absurd cc
same_sound wanted (Some found) after e = elim (chosen (found.0 == wanted) (Some found.1) None (Some after) e) [
  | inl p ↦ ap (λ (n : ℕ). Some (n, found.1)) (eqb-true found.0 wanted p.0) ∙ ap (λ (l : List ℕ). Some (wanted, l)) (some_is found.1 after p.1)
  | inr p ↦ absurd (let h : None ≡ Some after = p.1 in cc)
]

pub closed_sound : (level : ℕ) (bytes after : List ℕ) → closed_at level bytes ≡ Some after → bytes ≡ closing level ++ after
unfolding closed_at
closed_sound level [] after e = absurd cc
closed_sound level (b ∷ bs) after e = elim (chosen (b == 93) (same_level level (level_at 93 bs)) None (Some after) e) [
  | inl p ↦ ap (λ (c : ℕ). c ∷ bs) (eqb-true b 93 p.0) ∙ ap (λ (l : List ℕ). 93 ∷ l) (level_sound 93 bs (level, after) (same_sound level (level_at 93 bs) after p.1) ∙ sym (append_assoc (replicate level 61) (93 ∷ []) after))
  | inr p ↦ absurd (let h : None ≡ Some after = p.1 in cc)
]

pub closed_again : (level : ℕ) (after : List ℕ) → closed_at level (closing level ++ after) ≡ Some after
unfolding closed_at
closed_again level after =
    ap (λ (l : List ℕ). same_level level (level_at 93 l)) (append_assoc (replicate level 61) (93 ∷ []) after)
    ∙ ap (same_level level) (level_again 93 level after refl)
    ∙ ap (λ (t : Bool). cond t (Some after) None) (eq-eqb level level refl)

-- ---- the first close

-- the body stands before a close, and no close begins earlier
pub record IsFirst (level : ℕ) (bytes : List ℕ) (x : List ℕ × List ℕ) : Type 0 where
  pub spelled : bytes ≡ x.0 ++ (closing level ++ x.1)
  pub first : (y z : List ℕ) → bytes ≡ y ++ (closing level ++ z) → length x.0 ≤ length y

abbrev Body : Type 0
Body = List ℕ × List ℕ

no_close_here : (level : ℕ) (bytes z : List ℕ) → closed_at level bytes ≡ None → bytes ≡ closing level ++ z → ⊥
no_close_here level bytes z none e = let h : closed_at level bytes ≡ Some z = ap (closed_at level) e ∙ closed_again level z in cc

pass_first : (level b : ℕ) (bs : List ℕ) (x : Body) → closed_at level (b ∷ bs) ≡ None → IsFirst level bs x → IsFirst level (b ∷ bs) (b ∷ x.0, x.1)
pass_first level b bs x none f = record { spelled = ap (λ (l : List ℕ). b ∷ l) f.spelled; first = earliest }
  where
    earliest : (y z : List ℕ) → b ∷ bs ≡ y ++ (closing level ++ z) → length (b ∷ x.0) ≤ length y
    earliest [] z e = absurd (no_close_here level (b ∷ bs) z none e)
    earliest (c ∷ y) z e = let tail : bs ≡ y ++ (closing level ++ z) = cc in let le = f.first y z tail in omega arith

pub close_sound : (level : ℕ) (bytes : List ℕ) (x : Body) → close_at level bytes ≡ Some x → IsFirst level bytes x
unfolding close_at
close_sound level [] x e = absurd cc
close_sound level (b ∷ bs) x e = here (closed_at level (b ∷ bs)) refl (close_at level bs) (close_sound level bs) e
  where
    here : (o : Option (List ℕ)) → closed_at level (b ∷ bs) ≡ o → (later : Option Body) → ((y : Body) → later ≡ Some y → IsFirst level bs y) → body_or b o later ≡ Some x → IsFirst level (b ∷ bs) x
    here (Some after) c later more e' = subst (λ (y : Body). IsFirst level (b ∷ bs) y) (some_is ([], after) x e') (record { spelled = closed_sound level (b ∷ bs) after c; first = λ y z e''. omega arith })
    here None c None more e' = absurd cc
    here None c (Some y) more e' = subst (λ (w : Body). IsFirst level (b ∷ bs) w) (some_is (b ∷ y.0, y.1) x e') (pass_first level b bs y c (more y refl))

pub close_none : (level : ℕ) (bytes : List ℕ) → close_at level bytes ≡ None → (y z : List ℕ) → bytes ≡ y ++ (closing level ++ z) → ⊥
unfolding close_at
close_none level [] none [] z e = let h : length (closing level ++ z) ≡ 0 = ap length (sym e) in omega arith
close_none level [] none (c ∷ y) z e = absurd cc
close_none level (b ∷ bs) none y z e = here (closed_at level (b ∷ bs)) refl (close_at level bs) (close_none level bs) none y e
  where
    here : (o : Option (List ℕ)) → closed_at level (b ∷ bs) ≡ o → (later : Option Body) → (later ≡ None → (y z : List ℕ) → bs ≡ y ++ (closing level ++ z) → ⊥) → body_or b o later ≡ None
        → (y : List ℕ) → b ∷ bs ≡ y ++ (closing level ++ z) → ⊥
    here (Some after) c later more none' y e = absurd cc
    here None c (Some w) more none' y e = absurd cc
    here None c None more none' [] e = no_close_here level (b ∷ bs) z c e
    here None c None more none' (d ∷ y) e = more refl y z cc

pub close_again : (level : ℕ) (bytes : List ℕ) (x : Body) → IsFirst level bytes x → close_at level bytes ≡ Some x
close_again level bytes x f = by_answer (close_at level bytes) refl
  where
    by_answer : (o : Option Body) → close_at level bytes ≡ o → o ≡ Some x
    by_answer None e = absurd (close_none level bytes e x.0 x.1 f.spelled)
    by_answer (Some y) e =
        let g = close_sound level bytes y e in
        let le = g.first x.0 x.1 f.spelled in
        let ge = f.first y.0 y.1 g.spelled in
        let same = append_same y.0 x.0 (closing level ++ y.1) (closing level ++ x.1) (omega arith) (sym g.spelled ∙ f.spelled) in
        let rest = append_after (closing level) y.1 x.1 same.1 in
        ap (λ (l : List ℕ). Some (l, y.1)) same.0 ∙ ap (λ (l : List ℕ). Some (x.0, l)) rest
