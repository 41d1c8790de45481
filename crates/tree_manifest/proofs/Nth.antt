-- The element at a place of a list that is known by what is made of its elements.
use Rattle.std.proofs.Common.{◌≡◌, ℕ, zero, suc, ◌+◌, ◌*◌, ◌<◌, ◌≤◌, List, [], ◌∷◌, ◌++◌, length, get_or, take, refl, ap, ◌∙◌, subst, map, arith}
use Rattle.std.specs.List.{All, flat_map}
use Rattle.std.proofs.lemmas.List.Elements.{All-head, All-tail}
use Rattle.std.proofs.lemmas.List.{length-map}
use Rattle.rocks_constraint.specs.Wanted.{Wanted}
use Rattle.rocks_version.specs.declared.key.RockKey.{RockKey}
use Rattle.tree_manifest.specs.Forms.{need_texts}

pub record Nth {X Y : Type 0} (f : X → Y) (P : X → Type 0) (xs : List X) (at : ℕ) (y : Y) : Type 0 where
  pub item : X
  pub is : y ≡ f item
  pub good : P item
  pub more : take (at + 1) xs ≡ take at xs ++ item ∷ []

one_further : {X : Type 0} (x : X) (xs : List X) (at : ℕ) (item : X) → take (at + 1) xs ≡ take at xs ++ item ∷ []
    → take (suc at + 1) (x ∷ xs) ≡ x ∷ (take at xs ++ item ∷ [])
one_further x xs at item more =
    let e : suc at + 1 ≡ suc (at + 1) = omega arith in
    ap (λ n. take n (x ∷ xs)) e ∙ ap (λ l. x ∷ l) more

module _ {X Y : Type 0} (f : X → Y) (P : X → Type 0) where
  nth_of : (xs : List X) (at : ℕ) (y : Y) → at < length (map f xs) → y ≡ get_or (map f xs) at y → All P xs
      → Nth f P xs at y
  nth_of [] at y within is all = absurd (omega arith)
  nth_of (x ∷ xs) zero y within is all = record { item = x; is = is; good = All-head P x xs all; more = refl }
  nth_of (x ∷ xs) (suc at) y within is all =
      let rest = nth_of xs at y (omega arith) is (All-tail P x xs all) in
      record { item = rest.item; is = rest.is; good = rest.good; more = one_further x xs at rest.item rest.more }

  pub nth : (xs : List X) (ys : List Y) (at : ℕ) (y : Y) → ys ≡ map f xs → at < length ys → y ≡ get_or ys at y
      → All P xs → Nth f P xs at y
  nth xs ys at y same within is all =
      nth_of xs at y (subst (λ (l : List Y). at < length l) same within)
      (is ∙ ap (λ (l : List Y). get_or l at y) same) all

pub take_all : {X : Type 0} (xs : List X) (at : ℕ) → length xs ≤ at → take at xs ≡ xs
take_all [] zero past = refl
take_all [] (suc at) past = refl
take_all (x ∷ xs) zero past = absurd (omega arith)
take_all (x ∷ xs) (suc at) past = ap (λ l. x ∷ l) (take_all xs at (omega arith))

-- all of them are taken
pub taken_all : {X Y : Type 0} (f : X → Y) (xs : List X) (ys : List Y) (at : ℕ) → ys ≡ map f xs → length ys ≤ at
    → take at xs ≡ xs
taken_all f xs ys at same past = take_all xs at (let e = ap length same ∙ length-map xs f in omega arith)

-- ---- pairs of texts

abbrev pub Need : Type 0
Need = Wanted × RockKey

pub record NthNeed (P : Need → Type 0) (needs : List Need) (at : ℕ) (met wanted : List ℕ) : Type 0 where
  pub item : Need
  pub is : met ∷ wanted ∷ [] ≡ need_texts item
  pub good : P item
  pub more : take (at + 1) needs ≡ take at needs ++ item ∷ []

module _ (P : Need → Type 0) where
  need_of : (needs : List Need) (at n m : ℕ) (met wanted : List ℕ) → n ≡ 2 * at → m ≡ 2 * at + 1
      → m < length (flat_map need_texts needs)
      → met ≡ get_or (flat_map need_texts needs) n met → wanted ≡ get_or (flat_map need_texts needs) m wanted
      → All P needs → NthNeed P needs at met wanted
  need_of [] at n m met wanted e g within is are all = absurd (omega arith)
  need_of (need ∷ needs) zero n m met wanted e g within is are all =
      let first : n ≡ 0 = omega arith in
      let second : m ≡ 1 = omega arith in
      let mets = is ∙ ap (λ k. get_or (flat_map need_texts (need ∷ needs)) k met) first in
      let wants = are ∙ ap (λ k. get_or (flat_map need_texts (need ∷ needs)) k wanted) second in
      record {
        item = need;
        is = λ i. mets i ∷ wants i ∷ [];
        good = All-head P need needs all;
        more = refl;
      }
  need_of (need ∷ needs) (suc at) n m met wanted e g within is are all =
      let first : n ≡ suc (suc (2 * at)) = omega arith in
      let second : m ≡ suc (suc (2 * at + 1)) = omega arith in
      let rest = need_of needs at (2 * at) (2 * at + 1) met wanted refl refl (omega arith)
      (is ∙ ap (λ k. get_or (flat_map need_texts (need ∷ needs)) k met) first)
      (are ∙ ap (λ k. get_or (flat_map need_texts (need ∷ needs)) k wanted) second) (All-tail P need needs all) in
      record { item = rest.item; is = rest.is; good = rest.good; more = one_further need needs at rest.item rest.more }

  pub need_at : (needs : List Need) (texts : List (List ℕ)) (at : ℕ) (met wanted : List ℕ)
      → texts ≡ flat_map need_texts needs → 2 * at + 1 < length texts
      → met ≡ get_or texts (2 * at) met → wanted ≡ get_or texts (2 * at + 1) wanted
      → All P needs → NthNeed P needs at met wanted
  need_at needs texts at met wanted same within is are all =
      need_of needs at (2 * at) (2 * at + 1) met wanted refl refl
      (subst (λ (l : List (List ℕ)). 2 * at + 1 < length l) same within)
      (is ∙ ap (λ (l : List (List ℕ)). get_or l (2 * at) met) same)
      (are ∙ ap (λ (l : List (List ℕ)). get_or l (2 * at + 1) wanted) same) all

text_count : (needs : List Need) → length (flat_map need_texts needs) ≡ 2 * length needs
text_count [] = refl
text_count (need ∷ needs) = let rest = text_count needs in omega arith

pub needs_all : (needs : List Need) (texts : List (List ℕ)) (at : ℕ) → texts ≡ flat_map need_texts needs
    → length texts ≤ 2 * at + 1 → take at needs ≡ needs
needs_all needs texts at same past =
    take_all needs at (let e = ap length same in let f = text_count needs in omega arith)
