-- Files in folders.
use Rattle.std.proofs.Common.{◌≡◌, ◌⊎◌, inl, inr, ⊎_elim, ℕ, List, [], ◌∷◌, ◌++◌, length, drop, true, refl, sym, ap, ◌∙◌, append_assoc}
use Rattle.std.specs.Bool.{nat_eq}
use Rattle.std.specs.List.{starts_with}
use Rattle.std.proofs.lemmas.Bool.Decides.{Decides-eqb}
use Rattle.std.proofs.lemmas.Slice.Eq.{starts_is}
use Rattle.rocks_text.specs.Paths.{joined, IsFolderOf}
use Rattle.rock_steps.specs.Steps.{is_in}

pub folder_from_in : (folder path : List ℕ) → is_in folder path ≡ true → IsFolderOf folder path
folder_from_in folder path inside =
    let front = folder ++ 47 ∷ [] in
    let rest = drop (length front) path in
    (rest, (starts_is Decides-eqb path front (starts_with nat_eq path front) refl).0 inside ∙ append_assoc folder (47 ∷ []) rest)

pub in_from_folder : (folder path : List ℕ) → IsFolderOf folder path → is_in folder path ≡ true
in_from_folder folder path is =
    let front = folder ++ 47 ∷ [] in
    (starts_is Decides-eqb path front (starts_with nat_eq path front) refl).1 is.0
    (is.1 ∙ sym (append_assoc folder (47 ∷ []) is.0))

pub folder_along : (folder path other again : List ℕ) → folder ≡ other → path ≡ again → IsFolderOf folder path → IsFolderOf other again
folder_along folder path other again one two is = (is.0, sym two ∙ is.1 ∙ ap (λ (l : List ℕ). joined l is.0) one)

-- of two folders of one path, one is the other or in it
pub two_folders : (folder other r s : List ℕ) → joined folder r ≡ joined other s → (folder ≡ other) ⊎ (IsFolderOf folder other ⊎ IsFolderOf other folder)
two_folders [] [] r s e = inl refl
two_folders [] (b ∷ other) r s e = let h : 47 ≡ b = cc in inr (inl (other, λ i. sym h i ∷ other))
two_folders (b ∷ folder) [] r s e = let h : b ≡ 47 = cc in inr (inr (folder, λ i. h i ∷ folder))
two_folders (b ∷ folder) (d ∷ other) r s e =
    let h : b ≡ d = cc in
    let rest : joined folder r ≡ joined other s = cc in
    ⊎_elim (λ same. inl (λ i. h i ∷ same i))
    (λ within. inr (⊎_elim
    (λ (up : IsFolderOf folder other). inl (up.0, λ i. sym h i ∷ up.1 i))
    (λ (up : IsFolderOf other folder). inr (up.0, λ i. h i ∷ up.1 i)) within))
    (two_folders folder other r s rest)
