-- Finite maps by path that are made from lists: they have of each path the first entry, in order, each path once.
use Rattle.std.proofs.Common.{◌≡◌, ◌≢◌, ℕ, ◌+◌, ◌≤◌, suc, Bool, true, false, T, cond, List, [], ◌∷◌, map, length, Some, None, refl, sym, ap, subst, ◌∙◌, arith, ⊎_elim, is_lt}
use Rattle.std.proofs.lemmas.Bool.{and_parts}
use Rattle.std.proofs.lemmas.Cmp.{tied_itself}
use Rattle.std.proofs.lemmas.List.{length-map}
use Rattle.std.specs.List.{AllByRecursion, Contains}
use Rattle.std.specs.FinMap.{entries, entries_sorted, from_entries, get-entries, get-from_entries, len, len-empty, len-entries, len-insert, values}
use Rattle.std.specs.FinMap.Entries.{below_all, find, is_sorted}
use Rattle.std.specs.Ordering.{eq_by_cmp}
use Rattle.rocks_text.specs.Files.{path_cmp}
use Rattle.rock_manifest.proofs.Orders.{path_total}
use Rattle.tree_claims.proofs.Members.{cons_behind, cons_cases, cons_here, map_contains, map_from, nil_none}
use Rattle.tree_sets.proofs.PathTies.{by_bool, tied, ties, untied}
use Rattle.tree_sets.proofs.Rows.{all_at, all_mapped, Pairwise}
use Rattle.tree_moves.specs.Moves.{HaveOwn}
use Rattle.tree_moves.specs.declared.lists.Move.{Move}
use Rattle.tree_change.specs.Change.{as_key, in_order}

pub some_same : {X : Type 0} (x y : X) → Some x ≡ Some y → x ≡ y
some_same x y e = cc

pub none_some : {X : Type 0} (x : X) → None ≢ Some x
none_some x e = cc

t_true : (b : Bool) → T b → b ≡ true
t_true true h = refl
t_true false h = absurd h

not_below : (x : List ℕ) (y : List ℕ) → is_lt (path_cmp x y) ≡ true → y ≢ x
not_below x y below same =
    let clash : is_lt (path_cmp x x) ≡ true = subst (λ (z : List ℕ). is_lt (path_cmp x z) ≡ true) same below in
    let equal = ap is_lt (tied_itself path_total x) in
    let both = sym clash ∙ equal in cc

more_or_not : (b : Bool) (a n : ℕ) → a ≤ n → cond b a (a + 1) ≤ suc n
more_or_not true a n le = omega (arith, le)
more_or_not false a n le = omega (arith, le)

-- the paths of the entries differ
abbrev pub AreOwn : {X : Type 0} → List (List ℕ × X) → Type 0
AreOwn es = Pairwise (λ e f. f.0 ≢ e.0) es

module _ {X : Type 0} where
  pair_is : (e : List ℕ × X) (path : List ℕ) (x : X) → e.0 ≡ path → e.1 ≡ x → e ≡ (path, x)
  pair_is (p, y) path x first second = λ i. (first i, second i)

  found_among : (es : List (List ℕ × X)) (path : List ℕ) (x : X) → find path_cmp path es ≡ Some x → Contains es (path, x)
  found_among [] path x is = absurd (none_some x is)
  found_among (e ∷ es) path x is =
      elim (eq_by_cmp path_cmp path e.0) as (λ t. eq_by_cmp path_cmp path e.0 ≡ t → cond t (Some e.1) (find path_cmp path es) ≡ Some x → Contains (e ∷ es) (path, x)) [
        | true ↦ λ t found. subst (λ (z : List ℕ × X). Contains (e ∷ es) z) (pair_is e path x (sym (tied path e.0 t)) (some_same e.1 x found)) (cons_here e es)
        | false ↦ λ t found. cons_behind e es (path, x) (found_among es path x found)
      ] refl is

  among_found : (es : List (List ℕ × X)) (path : List ℕ) (x : X) → AreOwn es → Contains es (path, x) → find path_cmp path es ≡ Some x
  among_found [] path x own has = absurd (nil_none (path, x) has)
  among_found (e ∷ es) path x own has =
      ⊎_elim
      (λ is.
      let here : eq_by_cmp path_cmp path e.0 ≡ true = ties path e.0 (sym (ap (λ (z : List ℕ × X). z.0) is)) in
      let value : e.1 ≡ x = ap (λ (z : List ℕ × X). z.1) is in
      ap (λ (b : Bool). cond b (Some e.1) (find path_cmp path es)) here ∙ ap Some value)
      (λ more.
      let apart : path ≢ e.0 = all_at (λ f. f.0 ≢ e.0) es (path, x) own.0 more in
      ap (λ (b : Bool). cond b (Some e.1) (find path_cmp path es)) (untied path e.0 apart) ∙ among_found es path x own.1 more)
      (cons_cases e es (path, x) has)

  -- a path that has an entry has a first one
  some_found : (es : List (List ℕ × X)) (path : List ℕ) (x : X) → Contains es (path, x) → (y : X) × (find path_cmp path es ≡ Some y)
  some_found [] path x has = absurd (nil_none (path, x) has)
  some_found (e ∷ es) path x has =
      by_bool (eq_by_cmp path_cmp path e.0)
      (λ t. (e.1, ap (λ (b : Bool). cond b (Some e.1) (find path_cmp path es)) t))
      (λ t. ⊎_elim
      (λ is. let clash = sym (ties path e.0 (sym (ap (λ (z : List ℕ × X). z.0) is))) ∙ t in absurd cc)
      (λ more. let rest = some_found es path x more in (rest.0, ap (λ (b : Bool). cond b (Some e.1) (find path_cmp path es)) t ∙ rest.1))
      (cons_cases e es (path, x) has))

  below_each : (x : List ℕ) (es : List (List ℕ × X)) → below_all path_cmp x es ≡ true → AllByRecursion (λ f. f.0 ≢ x) es
  below_each x [] h = tt
  below_each x (e ∷ es) h =
      let parts = and_parts (is_lt (path_cmp x e.0)) (below_all path_cmp x es) h in
      (not_below x e.0 parts.0, below_each x es parts.1)

  sorted_own : (es : List (List ℕ × X)) → is_sorted path_cmp es ≡ true → AreOwn es
  sorted_own [] h = tt
  sorted_own (e ∷ es) h =
      let parts = and_parts (below_all path_cmp e.0 es) (is_sorted path_cmp es) h in
      (below_each e.0 es parts.0, sorted_own es parts.1)

  pub own_entries : (es : List (List ℕ × X)) → AreOwn (entries (from_entries {R = path_cmp} es))
  own_entries es = sorted_own _ (t_true _ (entries_sorted (from_entries {R = path_cmp} es)))

  find_alike : (es : List (List ℕ × X)) (path : List ℕ) → find path_cmp path (entries (from_entries {R = path_cmp} es)) ≡ find path_cmp path es
  find_alike es path = sym (get-entries (from_entries {R = path_cmp} es) path) ∙ get-from_entries path_total es path

  pub entry_from : (es : List (List ℕ × X)) (path : List ℕ) (x : X) → Contains (entries (from_entries {R = path_cmp} es)) (path, x) → Contains es (path, x)
  entry_from es path x has = found_among es path x (sym (find_alike es path) ∙ among_found _ path x (own_entries es) has)

  pub entry_with : (es : List (List ℕ × X)) (path : List ℕ) (x : X) → Contains es (path, x)
      → (y : X) × Contains (entries (from_entries {R = path_cmp} es)) (path, y)
  entry_with es path x has =
      let found = some_found es path x has in
      (found.0, found_among _ path found.0 (find_alike es path ∙ found.1))

  len_most : (es : List (List ℕ × X)) → len (from_entries {R = path_cmp} es) ≤ length es
  len_most [] = let none : len (from_entries {X = X} {R = path_cmp} []) ≡ 0 = len-empty path_cmp X in omega (arith, none)
  len_most (e ∷ es) = subst (λ (n : ℕ). n ≤ suc (length es)) (sym (len-insert path_total (from_entries es) e.0 e.1)) (more_or_not _ _ _ (len_most es))

  pub length_most : (es : List (List ℕ × X)) → length (entries (from_entries {R = path_cmp} es)) ≤ length es
  length_most es = subst (λ (n : ℕ). n ≤ length es) (len-entries (from_entries {R = path_cmp} es)) (len_most es)

-- ---- paths in order

pub in_order_from : (paths : List (List ℕ)) (path : List ℕ) → Contains (in_order paths) path → Contains paths path
in_order_from paths path has =
    let e = map_from (λ (e : List ℕ × Unit {0}). e.0) (entries (from_entries {R = path_cmp} (map as_key paths))) path has in
    let old = map_from as_key paths (e.0.0, tt) (entry_from (map as_key paths) e.0.0 tt e.1) in
    let same : e.0.0 ≡ old.0 = ap (λ (z : List ℕ × Unit {0}). z.0) old.2 in
    subst (λ (p : List ℕ). Contains paths p) (sym (e.2 ∙ same)) old.1

pub in_order_with : (paths : List (List ℕ)) (path : List ℕ) → Contains paths path → Contains (in_order paths) path
in_order_with paths path has =
    let e = entry_with (map as_key paths) path tt (map_contains as_key paths path has) in
    map_contains (λ (e : List ℕ × Unit {0}). e.0) (entries (from_entries {R = path_cmp} (map as_key paths))) (path, e.0) e.1

keys_apart : {X : Type 0} (es : List (List ℕ × X)) → AreOwn es → Pairwise (λ p q. q ≢ p) (map (λ e. e.0) es)
keys_apart [] own = tt
keys_apart (e ∷ es) own = (all_mapped (λ q. q ≢ e.0) (λ f. f.0) es own.0, keys_apart es own.1)

pub in_order_own : (paths : List (List ℕ)) → Pairwise (λ p q. q ≢ p) (in_order paths)
in_order_own paths = keys_apart (entries (from_entries {R = path_cmp} (map as_key paths))) (own_entries (map as_key paths))

pub in_order_length : (paths : List (List ℕ)) → length (in_order paths) ≤ length paths
in_order_length paths =
    let es = map as_key paths in
    let most = length_most es in
    let first : length (in_order paths) ≡ length (entries (from_entries {R = path_cmp} es)) = length-map (entries (from_entries {R = path_cmp} es)) (λ e. e.0) in
    let second : length es ≡ length paths = length-map paths as_key in
    omega (arith, most, first, second)

-- ---- moves by one end

module _ (end : Move → List ℕ) where
  abbrev keyed : Move → List ℕ × Move
  keyed move = (end move, move)

  abbrev pub arranged : List Move → List Move
  arranged moves = values (from_entries {R = path_cmp} (map keyed moves))

  keyed_entry : (moves : List Move) (e : List ℕ × Move) → Contains (entries (from_entries {R = path_cmp} (map keyed moves))) e
      → Contains moves e.1 × (e.0 ≡ end e.1)
  keyed_entry moves (path, move) has =
      let found = map_from keyed moves (path, move) (entry_from (map keyed moves) path move has) in
      let value : move ≡ found.0 = ap (λ (z : List ℕ × Move). z.1) found.2 in
      let key : path ≡ end found.0 = ap (λ (z : List ℕ × Move). z.0) found.2 in
      (subst (λ (m : Move). Contains moves m) (sym value) found.1, key ∙ ap end (sym value))

  pub arranged_from : (moves : List Move) (move : Move) → Contains (arranged moves) move → Contains moves move
  arranged_from moves move has =
      let e = map_from (λ (e : List ℕ × Move). e.1) (entries (from_entries {R = path_cmp} (map keyed moves))) move has in
      subst (λ (m : Move). Contains moves m) (sym e.2) (keyed_entry moves e.0 e.1).0

  -- where moves with one end are one move, each stands there
  pub arranged_with : (moves : List Move) → ((move other : Move) → Contains moves move → Contains moves other → end move ≡ end other → move ≡ other)
      → (move : Move) → Contains moves move → Contains (arranged moves) move
  arranged_with moves one move has =
      let e = entry_with (map keyed moves) (end move) move (map_contains keyed moves move has) in
      let found = keyed_entry moves (end move, e.0) e.1 in
      subst (λ (m : Move). Contains (arranged moves) m) (sym (one move e.0 has found.0 found.1))
      (map_contains (λ (e : List ℕ × Move). e.1) (entries (from_entries {R = path_cmp} (map keyed moves))) (end move, e.0) e.1)

  ends_apart : (es : List (List ℕ × Move)) → AreOwn es → ((e : List ℕ × Move) → Contains es e → e.0 ≡ end e.1) → HaveOwn end (map (λ e. e.1) es)
  ends_apart [] own is = tt
  ends_apart (e ∷ es) own is = (
    all_mapped (λ other. end other ≢ end e.1) (λ f. f.1) es (rest es (λ f has. has)),
    ends_apart es own.1 (λ f has. is f (cons_behind e es f has)),
  )
    where
      rest : (fs : List (List ℕ × Move)) → ((f : List ℕ × Move) → Contains fs f → Contains es f) → AllByRecursion (λ f. end f.1 ≢ end e.1) fs
      rest [] within = tt
      rest (f ∷ fs) within = (
        λ same. all_at (λ g. g.0 ≢ e.0) es f own.0 (within f (cons_here f fs))
            (is f (cons_behind e es f (within f (cons_here f fs))) ∙ same ∙ sym (is e (cons_here e es))),
        rest fs (λ g has. within g (cons_behind f fs g has)),
      )

  pub arranged_own : (moves : List Move) → HaveOwn end (arranged moves)
  arranged_own moves =
      ends_apart (entries (from_entries {R = path_cmp} (map keyed moves))) (own_entries (map keyed moves)) (λ e has. (keyed_entry moves e has).1)

-- moves of which no two have one end differ in another, where that tells the first
pub other_own : (end other : Move → List ℕ) (moves : List Move) → HaveOwn end moves
    → ((x y : Move) → Contains moves x → Contains moves y → other x ≡ other y → end x ≡ end y) → HaveOwn other moves
other_own end other [] own tells = tt
other_own end other (move ∷ moves) own tells = (
  rest moves (λ m has. has),
  other_own end other moves own.1 (λ x y x_in y_in. tells x y (cons_behind move moves x x_in) (cons_behind move moves y y_in)),
)
  where
    rest : (ms : List Move) → ((m : Move) → Contains ms m → Contains moves m) → AllByRecursion (λ m. other m ≢ other move) ms
    rest [] within = tt
    rest (m ∷ ms) within =
        let inside = within m (cons_here m ms) in (
          λ same. all_at (λ n. end n ≢ end move) moves m own.0 inside
              (tells m move (cons_behind move moves m inside) (cons_here move moves) same),
          rest ms (λ n has. within n (cons_behind m ms n has)),
        )
