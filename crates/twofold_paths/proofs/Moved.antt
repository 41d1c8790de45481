-- Two elements at different places of a list stand at different places after any moves.
use Rattle.std.proofs.Common.{◌≡◌, ◌≢◌, ◌⊎◌, inl, inr, ℕ, ◌<◌, List, length, get_or, refl, sym, ap, ◌∙◌, arith, Some}
use Rattle.std.specs.Prelude.{slice_get}
use Rattle.std.specs.List.{swap}
use Rattle.std.specs.List.Sorted.{IsPermutation}
use Rattle.std.proofs.lemmas.Bool.{cases_eq}
use Rattle.std.proofs.lemmas.List.Edits.{length-swap, swapped_from_swap}
use Rattle.std.proofs.lemmas.List.Sorted.{IsPermutation-keeps}
use Rattle.std.proofs.lemmas.Option.{get_or_from_slice_get, slice_get-get_or, slice_get_within}

-- the two stand at different places
pub record StandApart {X : Type 0} (xs : List X) (x y : X) : Type 0 where
  pub first : ℕ
  pub second : ℕ
  pub apart : first ≢ second
  pub is_first : slice_get xs first ≡ Some x
  pub is_second : slice_get xs second ≡ Some y

-- where what stood at k goes to, when the elements at i and j change places
abbrev Goes : (i j k to : ℕ) → Type 0
Goes i j k to = ((k ≡ i) × (to ≡ j)) ⊎ (((k ≡ j) × (to ≡ i)) ⊎ ((k ≢ i) × (k ≢ j) × (to ≡ k)))

still_apart : (i j k m to at : ℕ) → Goes i j k to → Goes i j m at → k ≢ m → to ≢ at
still_apart i j k m to at (inl a) (inl b) apart e = absurd (apart (a.0 ∙ sym b.0))
still_apart i j k m to at (inl a) (inr (inl b)) apart e = absurd (apart (a.0 ∙ sym b.1 ∙ sym e ∙ a.1 ∙ sym b.0))
still_apart i j k m to at (inl a) (inr (inr b)) apart e = absurd (b.1 (sym b.2 ∙ sym e ∙ a.1))
still_apart i j k m to at (inr (inl a)) (inl b) apart e = absurd (apart (a.0 ∙ sym b.1 ∙ sym e ∙ a.1 ∙ sym b.0))
still_apart i j k m to at (inr (inl a)) (inr (inl b)) apart e = absurd (apart (a.0 ∙ sym b.0))
still_apart i j k m to at (inr (inl a)) (inr (inr b)) apart e = absurd (b.0 (sym b.2 ∙ sym e ∙ a.1))
still_apart i j k m to at (inr (inr a)) (inl b) apart e = absurd (a.1 (sym a.2 ∙ e ∙ b.1))
still_apart i j k m to at (inr (inr a)) (inr (inl b)) apart e = absurd (a.0 (sym a.2 ∙ e ∙ b.1))
still_apart i j k m to at (inr (inr a)) (inr (inr b)) apart e = absurd (apart (sym a.2 ∙ e ∙ b.2))

module _ {X : Type 0} (l : List X) (i j : ℕ) (in_i : i < length l) (in_j : j < length l) where
  there : (to : ℕ) (x : X) → to < length l → get_or (swap l i j) to x ≡ x → slice_get (swap l i j) to ≡ Some x
  there to x within is =
      let size = length-swap l i j in
      slice_get-get_or (swap l i j) to x (omega arith) ∙ ap Some is

  goes : (k : ℕ) (x : X) → slice_get l k ≡ Some x → (to : ℕ) × Goes i j k to × (slice_get (swap l i j) to ≡ Some x)
  goes k x is =
      let read = get_or_from_slice_get l k x x is in
      let within = slice_get_within l k x is in
      let moves = swapped_from_swap l (swap l i j) i j x in_i in_j refl in
      by read within moves (cases_eq k i) (cases_eq k j)
    where
      by : get_or l k x ≡ x → k < length l
          → (get_or (swap l i j) i x ≡ get_or l j x) × (get_or (swap l i j) j x ≡ get_or l i x) × ((m : ℕ) → (m ≡ i → ⊥) → (m ≡ j → ⊥) → get_or (swap l i j) m x ≡ get_or l m x)
          → (k ≡ i) ⊎ (k ≡ i → ⊥) → (k ≡ j) ⊎ (k ≡ j → ⊥) → (to : ℕ) × Goes i j k to × (slice_get (swap l i j) to ≡ Some x)
      by read within moves (inl e) other = (j, inl (e, refl), there j x in_j (moves.1 ∙ ap (λ (n : ℕ). get_or l n x) (sym e) ∙ read))
      by read within moves (inr no') (inl e) = (i, inr (inl (e, refl)), there i x in_i (moves.0 ∙ ap (λ (n : ℕ). get_or l n x) (sym e) ∙ read))
      by read within moves (inr no') (inr nor) = (k, inr (inr (no', nor, refl)), there k x within (moves.2 k no' nor ∙ read))

  swapped_apart : (x y : X) → StandApart l x y → StandApart (swap l i j) x y
  swapped_apart x y two =
      let first = goes two.first x two.is_first in
      let second = goes two.second y two.is_second in
      record {
        first = first.0;
        second = second.0;
        apart = still_apart i j two.first two.second first.0 second.0 first.1 second.1 two.apart;
        is_first = first.2;
        is_second = second.2;
      }

pub moved_apart : {X : Type 0} (xs ys : List X) (x y : X) → IsPermutation xs ys → StandApart xs x y → StandApart ys x y
moved_apart {X} xs ys x y moved two = IsPermutation-keeps xs (λ (l : List X). StandApart l x y) two (λ l i j in_i in_j. swapped_apart l i j in_i in_j x y) ys moved
