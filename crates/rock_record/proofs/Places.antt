-- A file in its place among others.
use Rattle.std.proofs.Common.{◌≡◌, ℕ, ◌+◌, List, [], ◌∷◌, ◌++◌, take, drop, refl, sym, ap, ◌∙◌, true, false, Bool, cond, append_assoc}
use Rattle.std.specs.List.{prefix_len}
use Rattle.std.specs.Ordering.{is_lt}
use Rattle.std.proofs.Math.Numerals.{one-add}
use Rattle.rocks_text.specs.Files.{path_cmp}
use Rattle.rock_record.specs.Rocks.{digested, put_in_order}

abbrev is_below : List ℕ → List ℕ × List ℕ → Bool
is_below path file = is_lt (path_cmp file.0 path)

placed : (file : List ℕ × List ℕ) (own : List (List ℕ × List ℕ)) → put_in_order file (digested own)
    ≡ digested (take (prefix_len (is_below file.0) own) own) ++ file ∷ digested
    (drop (prefix_len (is_below file.0) own) own)
placed file [] = refl
placed file (first ∷ own) =
    elim (is_below file.0 first) as
    (λ t. cond t (digested (first ∷ []) ++ put_in_order file (digested own)) (file ∷ digested (first ∷ own))
    ≡ digested (take (cond t (1 + prefix_len (is_below file.0) own) 0) (first ∷ own)) ++ file ∷ digested
    (drop (cond t (1 + prefix_len (is_below file.0) own) 0) (first ∷ own))) [
      | true ↦ rw (one-add (prefix_len (is_below file.0) own))
          (ap (λ (l : List (List ℕ × List ℕ)). digested (first ∷ []) ++ l) (placed file own))
      | false ↦ refl
    ]

-- the same, piece by piece
pub placed_at : (file : List ℕ × List ℕ) (own below above start front whole all : List (List ℕ × List ℕ)) (n : ℕ)
    → n ≡ prefix_len (is_below file.0) own
    → below ≡ take n own → above ≡ drop n own
    → start ≡ [] → front ≡ start ++ digested below → whole ≡ front ++ file ∷ [] → all ≡ whole ++ digested above
    → all ≡ put_in_order file (digested own)
placed_at file own below above start front whole all n at b a e0 e1 e2 e3 =
    e3 ∙ ap (λ (l : List (List ℕ × List ℕ)). l ++ digested above) (e2
    ∙ ap (λ (l : List (List ℕ × List ℕ)). l ++ file ∷ []) (e1
    ∙ ap (λ (l : List (List ℕ × List ℕ)). l ++ digested below) e0))
    ∙ append_assoc (digested below) (file ∷ []) (digested above)
    ∙ ap (λ (l : List (List ℕ × List ℕ)). digested l ++ file ∷ digested above) b
    ∙ ap (λ (l : List (List ℕ × List ℕ)). digested (take n own) ++ file ∷ digested l) a
    ∙ ap (λ (k : ℕ). digested (take k own) ++ file ∷ digested (drop k own)) at ∙ sym (placed file own)
