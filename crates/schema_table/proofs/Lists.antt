-- Last items of lists, references, and joined texts.
use Rattle.std.proofs.Common.{◌≡◌, ◌≢◌, ℕ, List, [], ◌∷◌, ◌++◌, refl, sym, ap, ◌∙◌, append_assoc}
use Rattle.std.proofs.lemmas.List.{map-append}
use Rattle.std.specs.Borrow.{Bor}
use Rattle.std.specs.List.{join_with_byte}
use Rattle.schema_table.specs.Paths.{referents}

pub no_last : {T : Type 0} (xs : List T) (x : T) → [] ≢ xs ++ x ∷ []
no_last [] x e = cc
no_last (a ∷ xs) x e = cc

-- lists with a last item are equal only where what stands before it is, and it is
pub last_same : {T : Type 0} (xs ys : List T) (x y : T) → xs ++ x ∷ [] ≡ ys ++ y ∷ [] → (xs ≡ ys) × (x ≡ y)
last_same [] [] x y e = (refl, cc)
last_same [] (b ∷ ys) x y e = let rest : [] ≡ ys ++ y ∷ [] = cc in absurd (no_last ys y rest)
last_same (a ∷ xs) [] x y e = let rest : [] ≡ xs ++ x ∷ [] = cc in absurd (no_last xs x rest)
last_same (a ∷ xs) (b ∷ ys) x y e =
    let rest : xs ++ x ∷ [] ≡ ys ++ y ∷ [] = cc in
    let first : a ≡ b = cc in
    let same = last_same xs ys x y rest in
    ((λ i. first i ∷ same.0 i), same.1)

pub referents-last : {T : Type 0} (whole rest : List (Bor T)) (last : Bor T) → whole ≡ rest ++ last ∷ [] →
    referents whole ≡ referents rest ++ last.now ∷ []
referents-last whole rest last e = ap referents e ∙ map-append (λ (r : Bor _). r.now) rest (last ∷ [])

-- one more piece joined behind others
pub join-last : (c : ℕ) (first : List ℕ) (pieces : List (List ℕ)) (last : List ℕ) →
    join_with_byte c ((first ∷ pieces) ++ last ∷ []) ≡ (join_with_byte c (first ∷ pieces) ++ c ∷ []) ++ last
join-last c first [] last = sym (append_assoc first (c ∷ []) last)
join-last c first (piece ∷ pieces) last =
    ap (λ text. first ++ c ∷ text) (join-last c piece pieces last)
    ∙ sym (append_assoc first (c ∷ join_with_byte c (piece ∷ pieces) ++ c ∷ []) last)
    ∙ ap (λ text. text ++ last) (sym (append_assoc first (c ∷ join_with_byte c (piece ∷ pieces)) (c ∷ [])))
