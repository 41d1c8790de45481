-- Lists that are equal because their parts are.
use Rattle.std.proofs.Common.{◌≡◌, ℕ, List, [], ◌∷◌, map, Option, Some, refl, sym, ap, ◌∙◌}
use Rattle.std.specs.List.{Contains}
use Rattle.tree_claims.proofs.Members.{cons_behind, cons_here}

first_same : {X : Type 0} (x y : X) (xs ys : List X) → x ∷ xs ≡ y ∷ ys → x ≡ y
first_same x y xs ys same = cc

rest_same : {X : Type 0} (x y : X) (xs ys : List X) → x ∷ xs ≡ y ∷ ys → xs ≡ ys
rest_same x y xs ys same = cc

some_same : {X : Type 0} (x y : X) → Some x ≡ Some y → x ≡ y
some_same x y same = cc

not_empty : {X : Type 0} (x : X) (xs : List X) → [] ≡ x ∷ xs → ⊥
not_empty x xs same = cc

-- lists with the same keys are alike where elements with one key are
pub same_mapped : {X Y K : Type 0} (f : X → Y) (key : X → K) (xs ys : List X) → map key xs ≡ map key ys
    → ((x y : X) → Contains xs x → Contains ys y → key x ≡ key y → f x ≡ f y) → map f xs ≡ map f ys
same_mapped f key [] [] keys each = refl
same_mapped f key [] (y ∷ ys) keys each = absurd (not_empty (key y) (map key ys) keys)
same_mapped f key (x ∷ xs) [] keys each = absurd (not_empty (key x) (map key xs) (sym keys))
same_mapped f key (x ∷ xs) (y ∷ ys) keys each =
    let first = each x y (cons_here x xs) (cons_here y ys) (first_same (key x) (key y) (map key xs) (map key ys) keys) in
    let rest = same_mapped f key xs ys (rest_same (key x) (key y) (map key xs) (map key ys) keys)
    (λ z w here there. each z w (cons_behind x xs z here) (cons_behind y ys w there)) in
    λ i. first i ∷ rest i

pub map_itself : {X : Type 0} (xs : List X) → map (λ x. x) xs ≡ xs
map_itself [] = refl
map_itself (x ∷ xs) = ap (λ l. x ∷ l) (map_itself xs)

pub same_lists_by : {X K : Type 0} (key : X → K) (xs ys : List X) → map key xs ≡ map key ys
    → ((x y : X) → Contains xs x → Contains ys y → key x ≡ key y → x ≡ y) → xs ≡ ys
same_lists_by key xs ys keys each = sym (map_itself xs) ∙ same_mapped (λ x. x) key xs ys keys each ∙ map_itself ys

-- files of the same names are equal where one table tells the bytes of each
pub same_files : {X : Type 0} (files others : List (X × List ℕ)) (bytes_at : X → Option (List ℕ))
    → map (λ file. file.0) files ≡ map (λ file. file.0) others
    → ((file : X × List ℕ) → Contains files file → bytes_at file.0 ≡ Some file.1)
    → ((file : X × List ℕ) → Contains others file → bytes_at file.0 ≡ Some file.1) → files ≡ others
same_files {X} files others bytes_at names here there =
    same_lists_by (λ (file : X × List ℕ). file.0) files others names
    (λ file other among too same.
    let bytes = some_same file.1 other.1 (sym (here file among) ∙ ap bytes_at same ∙ there other too) in
    λ i. (same i, bytes i))
