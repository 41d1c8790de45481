-- What a search among parts has found, and what it makes of a search within one.
use Rattle.std.proofs.Common.{◌≡◌, ◌⊎◌, inl, inr, ℕ, ◌+◌, ◌-◌, ◌<◌, ◌≤◌, true, false, List, length, get_or, Some, Result, Ok, Err, refl, sym, ap, ◌∙◌, subst, arith}
use Rattle.std.proofs.lemmas.Bool.{cases_order}
use Rattle.std.specs.List.{AllWithin, HoldsAt, slice_get}
use Rattle.std.specs.List.Sorted.{IsBinarySearchResult, IsNonDecreasingBy, IsSearchInRange}
use Rattle.std.specs.declared.cmp.Ordering.{Ordering}
use Rattle.std.specs.declared.cmp.Ordering.TheVariants.{Less, Equal, Greater}
use Rattle.std.specs.Ordering.{is_gt, is_lt, ordering_index}
use Rattle.chunked_list.specs.Parts.{joined, size, before, moved}
use Rattle.chunked_list.proofs.Parts.{or_at, or_in, some_in, size_is, end_within, before_next, before_end}

bottom : (o : Ordering) → ordering_index o ≤ 0 → o ≡ Less
bottom Less h = refl
bottom Equal h = absurd (omega arith)
bottom Greater h = absurd (omega arith)

top : (o : Ordering) → 2 ≤ ordering_index o → o ≡ Greater
top Less h = absurd (omega arith)
top Equal h = absurd (omega arith)
top Greater h = refl

greater : (o : Ordering) → is_gt o ≡ true → o ≡ Greater
greater Less h = cc
greater Equal h = cc
greater Greater h = refl

less : (o : Ordering) → is_lt o ≡ true → o ≡ Less
less Less h = refl
less Equal h = cc
less Greater h = cc

-- where the last item is less, all are, and the place is behind all
pub behind_all : {T : Type 0} (by : T → Ordering) (xs : List T) (x : T) → slice_get xs (length xs - 1) ≡ Some x → is_lt (by x) ≡ true → IsBinarySearchResult by xs (Err (length xs))
behind_all by xs x last lt up = (
  λ j d le j_in.
      let there = or_at xs (length xs - 1) x d last in
      let least : by (get_or xs (length xs - 1) d) ≡ Less = ap by there.1 ∙ less (by x) lt in
      bottom _ (subst (λ o. ordering_index (by (get_or xs j d)) ≤ ordering_index o) least (up j (length xs - 1) d (omega arith) there.0)),
  λ j d le j_in. absurd (omega arith),
)

module _ {P T : Type 0} (f : P → List T) (by : T → Ordering) (ps : List P) where
  -- the first item of a part is not greater, or it is the first part, and that of another one is greater, or it is behind all
  pub record Between (low high : ℕ) : Type 0 where
    pub at_low : (low ≡ 0) ⊎ HoldsAt (λ y. is_gt (by y) ≡ false) (joined f ps) (before f ps low)
    pub at_high : (high ≡ length ps) ⊎ HoldsAt (λ y. is_gt (by y) ≡ true) (joined f ps) (before f ps high)

  pub all_between : Between 0 (length ps)
  all_between = record { at_low = inl refl; at_high = inl refl }

  -- the first item of a part
  head_at : (Q : T → Type 0) (k : ℕ) (v : P) (x : T) → k < length ps → v ≡ get_or ps k v → slice_get (f v) 0 ≡ Some x → Q x → HoldsAt Q (joined f ps) (before f ps k)
  head_at Q k v x lt e first q d =
      let found = or_at (joined f ps) (before f ps k + 0) x d (some_in f ps k v lt e 0 x first) in
      subst (λ j. Q (get_or (joined f ps) j d)) {x = before f ps k + 0} (omega arith) (subst Q (sym found.1) q)

  pub lower : (low high middle : ℕ) (v : P) (x : T) → middle < length ps → v ≡ get_or ps middle v → slice_get (f v) 0 ≡ Some x → is_gt (by x) ≡ true → Between low high → Between low middle
  lower low high middle v x lt e first gt b = record { at_low = b.at_low; at_high = inr (head_at (λ y. is_gt (by y) ≡ true) middle v x lt e first gt) }

  pub upper : (low high middle : ℕ) (v : P) (x : T) → middle < length ps → v ≡ get_or ps middle v → slice_get (f v) 0 ≡ Some x → is_gt (by x) ≡ false → Between low high → Between middle high
  upper low high middle v x lt e first le b = record { at_low = inr (head_at (λ y. is_gt (by y) ≡ false) middle v x lt e first le); at_high = b.at_high }

  -- a search within the part that is left is one within the whole
  module _ (k : ℕ) (v : P) (lt : k < length ps) (e : v ≡ get_or ps k v) where
    found_in : (i : ℕ) → i < length (f v) → HoldsAt (λ y. by y ≡ Equal) (f v) i → HoldsAt (λ y. by y ≡ Equal) (joined f ps) (before f ps k + i)
    found_in i within h d = subst (λ y. by y ≡ Equal) (sym (or_in f ps k v lt e i d within)) (h d)

    gap_in : (i : ℕ) → 0 < length (f v) → i ≤ length (f v) → Between k (k + 1) → IsBinarySearchResult by (f v) (Err i) → IsBinarySearchResult by (joined f ps) (Err (before f ps k + i))
    gap_in i some within b h up = (before_gap, behind_gap)
      where
        same_size : size f ps k ≡ length (f v)
        same_size = size_is f ps k v lt e

        rises : IsNonDecreasingBy (λ y. ordering_index (by y)) (f v)
        rises m n d le n_in =
            subst (λ y. ordering_index (by y) ≤ ordering_index (by (get_or (f v) n d))) (or_in f ps k v lt e m d (omega arith))
            (subst (λ y. ordering_index (by (get_or (joined f ps) (before f ps k + m) d)) ≤ ordering_index (by y)) (or_in f ps k v lt e n d n_in)
            (up (before f ps k + m) (before f ps k + n) d (omega arith) (omega (arith, same_size, end_within f ps k lt))))

        -- the item at a place of the part, within the whole
        here : (Q : T → Type 0) (j : ℕ) (d : T) → before f ps k ≤ j → j < before f ps k + length (f v) → Q (get_or (f v) (j - before f ps k) d) → Q (get_or (joined f ps) j d)
        here Q j d from to q =
            subst (λ m. Q (get_or (joined f ps) m d)) {x = before f ps k + (j - before f ps k)} {y = j} (omega arith)
            (subst Q (sym (or_in f ps k v lt e (j - before f ps k) d (omega arith))) q)

        head_is : (d : T) → get_or (joined f ps) (before f ps k) d ≡ get_or (f v) 0 d
        head_is d = ap (λ j. get_or (joined f ps) j d) {x = before f ps k} {y = before f ps k + 0} (omega arith) ∙ or_in f ps k v lt e 0 d some

        -- an item before the part is no greater than its first one
        earlier : (j : ℕ) (d : T) → j < before f ps k → by (get_or (f v) 0 d) ≡ Less → by (get_or (joined f ps) j d) ≡ Less
        earlier j d j_in is_less =
            let head_less : by (get_or (joined f ps) (before f ps k) d) ≡ Less = ap by (head_is d) ∙ is_less in
            bottom _ (subst (λ o. ordering_index (by (get_or (joined f ps) j d)) ≤ ordering_index o) head_less (up j (before f ps k) d (omega arith) (omega (arith, same_size, end_within f ps k lt))))

        none_earlier : (j : ℕ) (d : T) → j < before f ps k → by (get_or (f v) 0 d) ≡ Greater → ⊥
        none_earlier j d j_in more = elim b.at_low [
          | inl first ↦ let start : before f ps k ≡ 0 = ap (before f ps) first in omega arith
          | inr q ↦ let not_more : is_gt (by (get_or (joined f ps) (before f ps k) d)) ≡ false = q d in let is_more : by (get_or (joined f ps) (before f ps k) d) ≡ Greater = ap by (head_is d) ∙ more in let both : is_gt Greater ≡ false = subst (λ o. is_gt o ≡ false) is_more not_more in cc
        ]

        -- an item behind the part is greater
        later : (j : ℕ) (d : T) → before f ps k + length (f v) ≤ j → j < length (joined f ps) → by (get_or (joined f ps) j d) ≡ Greater
        later j d from j_in = elim b.at_high [
          | inl last ↦ let ends = before_end f ps (k + 1) (omega arith) in let next = before_next f ps k in absurd (omega (arith, same_size))
          | inr q ↦ let next = before_next f ps k in let more : by (get_or (joined f ps) (before f ps (k + 1)) d) ≡ Greater = greater _ (q d) in
              top _ (subst (λ o. ordering_index o ≤ ordering_index (by (get_or (joined f ps) j d))) more (up (before f ps (k + 1)) j d (omega (arith, same_size)) j_in))
        ]

        parts : AllWithin (λ y. by y ≡ Less) (f v) 0 i × AllWithin (λ y. by y ≡ Greater) (f v) i (length (f v))
        parts = h rises

        before_gap : AllWithin (λ y. by y ≡ Less) (joined f ps) 0 (before f ps k + i)
        before_gap j d le j_in = elim (cases_order (before f ps k) j) [
          | inl same ↦ here (λ y. by y ≡ Less) j d (omega arith) (omega arith) (parts.0 (j - before f ps k) d (omega arith) (omega arith))
          | inr (inl under) ↦ here (λ y. by y ≡ Less) j d (omega arith) (omega arith) (parts.0 (j - before f ps k) d (omega arith) (omega arith))
          | inr (inr over) ↦ elim (cases_order 0 i) [
            | inl at_start ↦ absurd (none_earlier j d over (parts.1 0 d (omega arith) some))
            | inr (inl more) ↦ earlier j d over (parts.0 0 d (omega arith) more)
            | inr (inr under) ↦ absurd (omega arith)
          ]
        ]

        behind_gap : AllWithin (λ y. by y ≡ Greater) (joined f ps) (before f ps k + i) (length (joined f ps))
        behind_gap j d le j_in = elim (cases_order j (before f ps k + length (f v))) [
          | inl same ↦ later j d (omega arith) j_in
          | inr (inl inside) ↦ here (λ y. by y ≡ Greater) j d (omega arith) inside (parts.1 (j - before f ps k) d (omega arith) (omega arith))
          | inr (inr behind) ↦ later j d (omega arith) j_in
        ]

    pub moved_in : (r : Result ℕ ℕ) → 0 < length (f v) → IsSearchInRange r (length (f v)) → Between k (k + 1) → IsBinarySearchResult by (f v) r → IsBinarySearchResult by (joined f ps) (moved r (before f ps k))
    moved_in (Ok i) some within b h = found_in i within h
    moved_in (Err i) some within b h = gap_in i some within b h
