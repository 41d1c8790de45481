-- Lists of which one begins another.
use Rattle.std.proofs.Common.{◌≡◌, ℕ, ◌≤◌, List, [], ◌∷◌, ◌++◌, length, refl, sym, ap, ◌∙◌, length-append, arith, inl, inr}
use Rattle.std.specs.Prelude.{◌⊎◌}
use Rattle.std.proofs.lemmas.List.{nil_from_length}

-- fronts of one length are equal, and so is what follows them
pub append_same : (x y a b : List ℕ) → length x ≡ length y → x ++ a ≡ y ++ b → (x ≡ y) × (a ≡ b)
append_same [] [] a b len e = (refl, e)
append_same [] (d ∷ y) a b len e = absurd (let h : length (d ∷ y) ≡ 0 = sym len in omega arith)
append_same (c ∷ x) [] a b len e = absurd (let h : length (c ∷ x) ≡ 0 = len in omega arith)
append_same (c ∷ x) (d ∷ y) a b len e =
    let head : c ≡ d = cc in
    let tail : x ++ a ≡ y ++ b = cc in
    let more = append_same x y a b (omega arith) tail in
    (ap (λ (h : ℕ). h ∷ x) head ∙ ap (λ (l : List ℕ). d ∷ l) more.0, more.1)

-- one front, two continuations
pub append_after : (x a b : List ℕ) → x ++ a ≡ x ++ b → a ≡ b
append_after x a b e = (append_same x x a b refl e).1

-- a longer front with as much left has nothing more
pub no_more : (x more rest after : List ℕ) → after ≡ more ++ rest → length after ≤ length rest → more ≡ []
no_more x more rest after e le = nil_from_length more (let l = ap length e ∙ length-append more rest in omega arith)

-- of two fronts of one list, one begins the other
abbrev pub Fronts : List ℕ → List ℕ → List ℕ → List ℕ → Type 0
Fronts x a y b =
    (a ≡ b) ⊎ (((c : ℕ) × (more : List ℕ) × (rest : List ℕ) × (a ≡ c ∷ rest) × (y ≡ x ++ c ∷ more))
    ⊎ ((c : ℕ) × (more : List ℕ) × (rest : List ℕ) × (b ≡ c ∷ rest) × (x ≡ y ++ c ∷ more)))

pub fronts : (x a y b : List ℕ) → x ++ a ≡ y ++ b → Fronts x a y b
fronts [] a [] b e = inl e
fronts [] a (c ∷ y) b e = inr (inl (c, y, y ++ b, e, refl))
fronts (c ∷ x) a [] b e = inr (inr (c, x, x ++ a, sym e, refl))
fronts (c ∷ x) a (d ∷ y) b e =
    let head : c ≡ d = cc in
    let tail : x ++ a ≡ y ++ b = cc in
    elim (fronts x a y b tail) [
      | inl p ↦ inl p
      | inr q ↦ elim q [
        | inl p ↦ inr (inl (p.0, p.1, p.2, p.3, ap (λ (l : List ℕ). d ∷ l) p.4 ∙ ap (λ (f : ℕ). f ∷ (x ++ p.0 ∷ p.1)) (sym head)))
        | inr p ↦ inr (inr (p.0, p.1, p.2, p.3, ap (λ (l : List ℕ). c ∷ l) p.4 ∙ ap (λ (f : ℕ). f ∷ (y ++ p.0 ∷ p.1)) head))
      ]
    ]
