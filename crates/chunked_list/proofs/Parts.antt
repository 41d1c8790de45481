-- What lies in parts, and what edits of one part do to the whole.
use Rattle.std.proofs.Common.{◌≡◌, ℕ, zero, suc, ◌+◌, ◌-◌, ◌<◌, ◌≤◌, List, [], ◌∷◌, ◌++◌, length, get_or, set, take, drop, All, Some, Result, Ok, Err, OnErr, refl, sym, ap, ◌∙◌, subst, arith, add-one, append_assoc, length-append}
use Rattle.std.proofs.lemmas.List.{get_or_append_left, get_or-append-add, append-nil, set-append_left, set-append_right, take-append-drop}
use Rattle.std.proofs.lemmas.List.Edits.{insert-append_left, insert-append_right}
use Rattle.std.proofs.lemmas.List.Elements.{All-cons, All-head, All-tail, All-get_or, All-set, All-push}
use Rattle.std.specs.List.{insert, slice_get}
use Rattle.std.specs.List.Sorted.{IsSearchInRange}
use Rattle.chunked_list.specs.Parts.{joined, size, before, IsPlace, AreParts, moved}

pub on_err : {E P : Type 0} (r : Result (Unit {0}) E) → P → OnErr r P
on_err (Ok u) p = tt
on_err (Err e) p = p

-- between the two ways in which a read of a list is told
pub some_at : {X : Type 0} (xs : List X) (i : ℕ) (x : X) → i < length xs → x ≡ get_or xs i x → slice_get xs i ≡ Some x
some_at [] i x lt e = absurd (omega arith)
some_at (y ∷ xs) zero x lt e = ap Some (sym e)
some_at (y ∷ xs) (suc i) x lt e = some_at xs i x (omega arith) e

pub or_at : {X : Type 0} (xs : List X) (i : ℕ) (x d : X) → slice_get xs i ≡ Some x → (i < length xs) × (get_or xs i d ≡ x)
or_at [] i x d e = cc
or_at (y ∷ xs) zero x d e = (omega arith, cc)
or_at (y ∷ xs) (suc i) x d e = let rest = or_at xs i x d e in (omega (arith, rest.0), rest.1)

pub All-insert : {X : Type 0} (P : X → Type 0) (xs : List X) (i : ℕ) (x : X) → P x → All P xs → All P (insert xs i x)
All-insert P xs zero x p h = All-cons P x xs p h
All-insert P [] (suc i) x p h = All-cons P x [] p h
All-insert P (y ∷ xs) (suc i) x p h = All-cons P y _ (All-head P y xs h) (All-insert P xs i x p (All-tail P y xs h))

pub in_range_more : (r : Result ℕ ℕ) (n m : ℕ) → n ≤ m → IsSearchInRange r n → IsSearchInRange r m
in_range_more (Ok i) n m le h = omega arith
in_range_more (Err i) n m le h = omega arith

pub moved_in_range : (r : Result ℕ ℕ) (start n m : ℕ) → start + n ≤ m → IsSearchInRange r n → IsSearchInRange (moved r start) m
moved_in_range (Ok i) start n m le h = omega arith
moved_in_range (Err i) start n m le h = omega arith

module _ {P T : Type 0} (f : P → List T) where
  pub size_is : (ps : List P) (k : ℕ) (v : P) → k < length ps → v ≡ get_or ps k v → size f ps k ≡ length (f v)
  size_is [] k v lt e = absurd (omega arith)
  size_is (p ∷ ps) zero v lt e = ap (λ q. length (f q)) (sym e)
  size_is (p ∷ ps) (suc k) v lt e = size_is ps k v (omega arith) e

  -- a part ends where the next one starts
  pub before_next : (ps : List P) (k : ℕ) → before f ps (k + 1) ≡ before f ps k + size f ps k
  before_next [] k = rw add-one (none k)
    where
      none : (k : ℕ) → before f [] (suc k) ≡ before f [] k + size f [] k
      none zero = refl
      none (suc k) = refl
  before_next (p ∷ ps) zero = omega arith
  before_next (p ∷ ps) (suc k) = rw add-one (let rest = before_next ps k in let next : before f ps (suc k) ≡ before f ps (k + 1) = rw add-one refl in omega arith)

  -- and the last one at the end
  pub before_end : (ps : List P) (k : ℕ) → length ps ≤ k → before f ps k ≡ length (joined f ps)
  before_end [] zero le = refl
  before_end [] (suc k) le = refl
  before_end (p ∷ ps) zero le = absurd (omega arith)
  before_end (p ∷ ps) (suc k) le = omega (arith, length-append (f p) (joined f ps), before_end ps k (omega arith))

  pub end_within : (ps : List P) (k : ℕ) → k < length ps → before f ps k + size f ps k ≤ length (joined f ps)
  end_within [] k lt = absurd (omega arith)
  end_within (p ∷ ps) zero lt = omega (arith, length-append (f p) (joined f ps))
  end_within (p ∷ ps) (suc k) lt = omega (arith, length-append (f p) (joined f ps), end_within ps k (omega arith))

  -- a place of the whole is in a part that there is
  pub is_part : (ps : List P) (k i at : ℕ) → before f ps k + i ≡ at → at < length (joined f ps) → k < length ps
  is_part [] k i at e lt = absurd (omega arith)
  is_part (p ∷ ps) zero i at e lt = omega arith
  is_part (p ∷ ps) (suc k) i at e lt =
      let all = length-append (f p) (joined f ps) in
      let rest = is_part ps k i (before f ps k + i) refl (omega arith) in
      omega arith

  -- the whole, seen round one of its parts, and with another part in its place
  pub record Round (ps : List P) (k : ℕ) (v : P) : Type 0 where
    pub front : List T
    pub back : List T
    pub starts : length front ≡ before f ps k
    pub whole : joined f ps ≡ front ++ (f v ++ back)
    pub changed : (w : P) → joined f (set ps k w) ≡ front ++ (f w ++ back)

  pub round : (ps : List P) (k : ℕ) (v : P) → k < length ps → v ≡ get_or ps k v → Round ps k v
  round [] k v lt e = absurd (omega arith)
  round (p ∷ ps) zero v lt e =
      record { front = []; back = joined f ps; starts = refl; whole = ap (λ q. f q ++ joined f ps) (sym e); changed = λ w. refl }
  round (p ∷ ps) (suc k) v lt e =
      let r = round ps k v (omega arith) e in
      record {
        front = f p ++ r.front;
        back = r.back;
        starts = omega (arith, length-append (f p) r.front, r.starts);
        whole = ap (λ zs. f p ++ zs) r.whole ∙ sym (append_assoc (f p) r.front (f v ++ r.back));
        changed = λ w. ap (λ zs. f p ++ zs) (r.changed w) ∙ sym (append_assoc (f p) r.front (f w ++ r.back));
      }

  module _ (ps : List P) (k : ℕ) (v : P) (lt : k < length ps) (e : v ≡ get_or ps k v) where
    -- an item of a part stands in the whole
    pub or_in : (i : ℕ) (d : T) → i < length (f v) → get_or (joined f ps) (before f ps k + i) d ≡ get_or (f v) i d
    or_in i d within =
        let r = round ps k v lt e in
        (λ j. get_or (r.whole j) (sym r.starts j + i) d)
        ∙ get_or-append-add r.front (f v ++ r.back) i d ∙ get_or_append_left (f v) r.back d i within

    pub some_in : (i : ℕ) (x : T) → slice_get (f v) i ≡ Some x → slice_get (joined f ps) (before f ps k + i) ≡ Some x
    some_in i x found =
        let there = or_at (f v) i x x found in
        some_at (joined f ps) (before f ps k + i) x (omega (arith, there.0, size_is ps k v lt e, end_within ps k lt)) (sym (or_in i x there.0 ∙ there.1))

    -- the last item of the last part is the last one of the whole
    pub last_in : (x : T) → k + 1 ≡ length ps → 0 < length (f v) → slice_get (f v) (length (f v) - 1) ≡ Some x → slice_get (joined f ps) (length (joined f ps) - 1) ≡ Some x
    last_in x last some found =
        let all = before_end ps (k + 1) (omega arith) in
        let here = before_next ps k in
        subst (λ j. slice_get (joined f ps) j ≡ Some x) {x = before f ps k + (length (f v) - 1)} (omega (arith, all, here, size_is ps k v lt e)) (some_in _ x found)

    -- an item that is put into a part is put into the whole
    pub joined_insert : (i : ℕ) (w : P) (x : T) → i ≤ length (f v) → f w ≡ insert (f v) i x → joined f (set ps k w) ≡ insert (joined f ps) (before f ps k + i) x
    joined_insert i w x within is =
        let r = round ps k v lt e in
        let deep : insert (r.front ++ (f v ++ r.back)) (before f ps k + i) x ≡ r.front ++ insert (f v ++ r.back) (before f ps k + i - before f ps k) x = insert-append_right r.front (f v ++ r.back) (before f ps k) (before f ps k + i) x r.starts (omega arith) in
        let at : before f ps k + i - before f ps k ≡ i = omega arith in
        r.changed w ∙ ap (λ zs. r.front ++ (zs ++ r.back)) is
        ∙ ap (λ zs. r.front ++ zs) (sym (insert-append_left (f v) r.back i x within))
        ∙ ap (λ j. r.front ++ insert (f v ++ r.back) j x) (sym at) ∙ sym deep
        ∙ ap (λ zs. insert zs (before f ps k + i) x) (sym r.whole)

    -- an item that is replaced in a part is replaced in the whole
    pub joined_set : (i : ℕ) (w : P) (x : T) → i < length (f v) → f w ≡ set (f v) i x → joined f (set ps k w) ≡ set (joined f ps) (before f ps k + i) x
    joined_set i w x within is =
        let r = round ps k v lt e in
        let deep : set (r.front ++ (f v ++ r.back)) (before f ps k + i) x ≡ r.front ++ set (f v ++ r.back) (before f ps k + i - before f ps k) x = set-append_right r.front (f v ++ r.back) (before f ps k) (before f ps k + i) x r.starts (omega arith) in
        let at : before f ps k + i - before f ps k ≡ i = omega arith in
        r.changed w ∙ ap (λ zs. r.front ++ (zs ++ r.back)) is
        ∙ ap (λ zs. r.front ++ zs) (sym (set-append_left (f v) r.back i x within))
        ∙ ap (λ j. r.front ++ set (f v ++ r.back) j x) (sym at) ∙ sym deep
        ∙ ap (λ zs. set zs (before f ps k + i) x) (sym r.whole)

    -- a part of the same items leaves the whole
    pub joined_same : (w : P) → f w ≡ f v → joined f (set ps k w) ≡ joined f ps
    joined_same w is = let r = round ps k v lt e in r.changed w ∙ ap (λ zs. r.front ++ (zs ++ r.back)) is ∙ sym r.whole

    pub length_changed : (w : P) → length (joined f (set ps k w)) + length (f v) ≡ length (joined f ps) + length (f w)
    length_changed w =
        let r = round ps k v lt e in
        let old = ap length r.whole ∙ length-append r.front (f v ++ r.back) in
        let new = ap length (r.changed w) ∙ length-append r.front (f w ++ r.back) in
        omega (arith, length-append (f v) r.back, length-append (f w) r.back)

    -- a walk along the parts goes on to the next one, or ends at this one
    pub place_next : (at left : ℕ) → before f ps k + left ≡ at → length (f v) ≤ left → before f ps (k + 1) + (left - length (f v)) ≡ at
    place_next at left so_far le = omega (arith, before_next ps k, size_is ps k v lt e)

    pub place_here : (at left : ℕ) → before f ps k + left ≡ at → left < length (f v) → IsPlace f ps at k left
    place_here at left so_far here = record { is_part = lt; within = omega (arith, size_is ps k v lt e); same = so_far }

  -- a part that is cut in two
  pub joined_cut : (ps : List P) (k : ℕ) (low high v : P) → k < length ps → v ≡ get_or ps k v → f v ≡ f low ++ f high → joined f (insert (set ps k low) (k + 1) high) ≡ joined f ps
  joined_cut ps k low high v lt e is = rw add-one (by_suc ps k lt e)
    where
      by_suc : (ps : List P) (k : ℕ) → k < length ps → v ≡ get_or ps k v → joined f (insert (set ps k low) (suc k) high) ≡ joined f ps
      by_suc [] k lt e = absurd (omega arith)
      by_suc (p ∷ ps) zero lt e = sym (append_assoc (f low) (f high) (joined f ps)) ∙ ap (λ zs. zs ++ joined f ps) (sym is ∙ ap f e)
      by_suc (p ∷ ps) (suc k) lt e = ap (λ zs. f p ++ zs) (by_suc ps k (omega arith) e)

  pub joined_push : (ps : List P) (p : P) → joined f (ps ++ p ∷ []) ≡ joined f ps ++ f p
  joined_push [] p = append-nil (f p)
  joined_push (q ∷ ps) p = ap (λ zs. f q ++ zs) (joined_push ps p) ∙ sym (append_assoc (f q) (joined f ps) (f p))

  -- more items in the last part
  pub joined_last : (ps : List P) (k : ℕ) (v w : P) (zs : List T) → k + 1 ≡ length ps → v ≡ get_or ps k v → f w ≡ f v ++ zs → joined f (set ps k w) ≡ joined f ps ++ zs
  joined_last [] k v w zs last e is = absurd (omega arith)
  joined_last (p ∷ []) zero v w zs last e is =
      append-nil (f w) ∙ is ∙ ap (λ q. f q ++ zs) e ∙ ap (λ ys. ys ++ zs) (sym (append-nil (f p)))
  joined_last (p ∷ q ∷ ps) zero v w zs last e is = absurd (omega arith)
  joined_last (p ∷ ps) (suc k) v w zs last e is = ap (λ ys. f p ++ ys) (joined_last ps k v w zs (omega arith) e is) ∙ sym (append_assoc (f p) (joined f ps) zs)

  pub joined-append : (ps qs : List P) → joined f (ps ++ qs) ≡ joined f ps ++ joined f qs
  joined-append [] qs = refl
  joined-append (p ∷ ps) qs = ap (λ zs. f p ++ zs) (joined-append ps qs) ∙ sym (append_assoc (f p) (joined f ps) (joined f qs))

  -- the first parts, and the others
  pub joined-take-drop : (h : ℕ) (ps : List P) → joined f ps ≡ joined f (take h ps) ++ joined f (drop h ps)
  joined-take-drop h ps = ap (joined f) (sym (take-append-drop h ps)) ∙ joined-append (take h ps) (drop h ps)

  -- parts that all have items have some together
  pub some_items : (ps : List P) → 0 < length ps → All (λ p. 0 < length (f p)) ps → 0 < length (joined f ps)
  some_items [] lt h = absurd (omega arith)
  some_items (p ∷ ps) lt h = omega (arith, length-append (f p) (joined f ps), All-head (λ p. 0 < length (f p)) p ps h)

  module _ (Q : P → Type 0) where
    -- a part that is read
    pub part_is : (ps : List P) (n k : ℕ) (v : P) → k < length ps → v ≡ get_or ps k v → AreParts f Q ps n → Q v
    part_is ps n k v lt e h = subst Q (sym e) (All-get_or Q ps k v lt h.each)

    -- a part that is changed
    pub parts_with : (ps : List P) (n m k : ℕ) (v w : P) → k < length ps → v ≡ get_or ps k v → Q w → m + length (f v) ≡ n + length (f w) → AreParts f Q ps n → AreParts f Q (set ps k w) m
    parts_with ps n m k v w lt e q more h = record { each = All-set Q ps k w q h.each; counted = omega (arith, h.counted, length_changed ps k v lt e w) }

    -- a part that is cut in two
    pub parts_cut : (ps : List P) (n k : ℕ) (low high v : P) → k < length ps → v ≡ get_or ps k v → f v ≡ f low ++ f high → Q low → Q high → AreParts f Q ps n → AreParts f Q (insert (set ps k low) (k + 1) high) n
    parts_cut ps n k low high v lt e is l u h = record { each = All-insert Q (set ps k low) (k + 1) high u (All-set Q ps k low l h.each); counted = h.counted ∙ ap length (sym (joined_cut ps k low high v lt e is)) }

    -- a further part
    pub parts_push : (ps : List P) (n m : ℕ) (w : P) → Q w → m ≡ n + length (f w) → AreParts f Q ps n → AreParts f Q (ps ++ w ∷ []) m
    parts_push ps n m w q more h = record { each = All-push Q ps w h.each q; counted = omega (arith, h.counted, ap length (joined_push ps w), length-append (joined f ps) (f w)) }
