-- What a search finds among entries that stand in the order of their paths.
use Rattle.std.proofs.Common.{◌≡◌, ◌≢◌, ℕ, ◌+◌, ◌-◌, ◌<◌, ◌≤◌, List, ◌∷◌, ◌++◌, length, get_or, take, drop, refl, sym, ap, subst, ◌∙◌, Bool, true, false, inl, inr, ⊎_elim, arith, IsTrue, nat_eq, nat_lt, length-append, length-drop}
use Rattle.std.specs.Prelude.{◌⊎◌, ◌↔◌, Result, Ok, Err, IfOk, MatchBool}
use Rattle.std.specs.declared.alloc.AllocError.{AllocError}
use Rattle.std.specs.Cmp.Lexicographic.{slice_cmp}
use Rattle.std.specs.List.{AllWithin, Any, Contains, prefix_len, starts_with, take_while}
use Rattle.std.specs.List.Sorted.{IsPartitionedBy, IsSortedBy}
use Rattle.std.specs.Ordering.{eq_by_cmp, is_eq, is_lt, nat_cmp}
use Rattle.std.specs.Str.{bytes_eq}
use Rattle.std.specs.declared.cmp.Ordering.TheVariants.{Less, Greater}
use Rattle.std.proofs.lemmas.Bool.{cases_lt, false_from_ne_true}
use Rattle.std.proofs.lemmas.Bool.Decides.{Decides-eqb, nat_tests}
use Rattle.std.proofs.lemmas.Slice.Eq.{bytes_eq-Decides, starts_is}
use Rattle.std.proofs.lemmas.Cmp.{nat_list_cmp_total}
use Rattle.std.proofs.lemmas.List.{drop_more, get_or-drop, get_or-take, get_or_at, get_or_default, get_or_read, length-take-le, take-append-drop, take_at}
use Rattle.std.proofs.lemmas.List.Sorted.{sorted_far}
use Rattle.std.proofs.lemmas.List.Sums.{prefix_len-le-length, prefix_len_passes, prefix_len_stops}
use Rattle.rocks_text.specs.Files.{path_cmp}
use Rattle.rocks_text.specs.Paths.{IsFolderOf}
use Rattle.tree_claims.specs.Index.{goes_before, may_stand, AreOfPath, Hits, IsFree}
use Rattle.tree_claims.specs.declared.entry.Entry.{Entry}
use Rattle.tree_claims.proofs.Entries.{goes_before_order}
use Rattle.tree_claims.proofs.Members.{any_from, any_some, contains_same}
use Rattle.tree_claims.proofs.PathOrder.{back_not_greater, equal_paths_if, folder_differs, front_between, front_not_less, le_lt, lt_less, neither, no_less, same_paths}

-- the path of one goes no later than that of a later one
pub not_after : (entries : List Entry) → IsSortedBy goes_before entries → (i j : ℕ) (d : Entry) → i ≤ j → j < length entries → path_cmp (get_or entries i d).path (get_or entries j d).path ≢ Greater
not_after entries up i j d le within =
    let x = (get_or entries i d).path in
    let y = (get_or entries j d).path in
    back_not_greater (slice_cmp nat_cmp y x) (slice_cmp nat_cmp x y) (nat_list_cmp_total.antisymm x y) (sorted_far goes_before goes_before_order entries up i j d le within)

-- those below a path stand before the others
pub parted : (entries : List Entry) (path : List ℕ) → IsSortedBy goes_before entries → IsPartitionedBy (λ entry. is_lt (path_cmp entry.path path)) entries
parted entries path up i j d le within less =
    let x = (get_or entries i d).path in
    let y = (get_or entries j d).path in
    ap is_lt (le_lt nat_list_cmp_total x y path (not_after entries up i j d le within) (lt_less (path_cmp y path) less))

-- a place from which on no path is below this one, and before which all are
pub record IsFirstFrom (entries : List Entry) (path : List ℕ) (at : ℕ) : Type 0 where
  pub up : IsSortedBy goes_before entries
  pub within : at ≤ length entries
  pub less : AllWithin (λ entry. path_cmp entry.path path ≡ Less) entries 0 at
  pub others : AllWithin (λ entry. path_cmp entry.path path ≢ Less) entries at (length entries)

pub first_from_same : (entries : List Entry) (path other : List ℕ) (at : ℕ) → path ≡ other → IsFirstFrom entries path at → IsFirstFrom entries other at
first_from_same entries path other at same f = subst (λ (p : List ℕ). IsFirstFrom entries p at) same f

-- one that is not below the path stands there or behind
reached : (entries : List Entry) (path : List ℕ) (at j : ℕ) (d : Entry) → IsFirstFrom entries path at → path_cmp (get_or entries j d).path path ≢ Less → at ≤ j
reached entries path at j d f other = ⊎_elim (λ (below : j < at). absurd (other (f.less j d (omega arith) below))) (λ (h : at ≤ j). h) (cases_lt j at)

-- at the place stands the path, where one has it
pub path_there : (entries : List Entry) (path : List ℕ) (at : ℕ) → IsFirstFrom entries path at → (other : Entry) → Contains entries other → other.path ≡ path
    → (at < length entries) × ((d : Entry) → (get_or entries at d).path ≡ path)
path_there entries path at f other (j, within, is) same =
    let here = ap (λ (e : Entry). e.path) is ∙ same in
    let equal = same_paths (get_or entries j other).path path here in
    let le = reached entries path at j other f (λ e. let clash = sym equal ∙ e in cc clash) in
    let inside : at < length entries = omega arith in (
      inside,
      λ d.
          let there = get_or_default entries j other d within in
          let no_later = subst (λ (p : List ℕ). path_cmp (get_or entries at d).path p ≢ Greater) (ap (λ (e : Entry). e.path) (sym there) ∙ here) (not_after entries f.up at j d le within) in
          neither (get_or entries at d).path path (f.others at d (omega arith) inside) no_later,
    )

-- at the place stands a path that begins so, where one does
pub front_there : (entries : List Entry) (front : List ℕ) (at : ℕ) → IsFirstFrom entries front at → (other : Entry) (rest : List ℕ) → Contains entries other → other.path ≡ front ++ rest
    → (at < length entries) × ((d : Entry) → (more : List ℕ) × ((get_or entries at d).path ≡ front ++ more))
front_there entries front at f other rest (j, within, is) same =
    let here = ap (λ (e : Entry). e.path) is ∙ same in
    let le = reached entries front at j other f (λ e. front_not_less front rest (subst (λ (p : List ℕ). path_cmp p front ≡ Less) here e)) in
    let inside : at < length entries = omega arith in (
      inside,
      λ d.
          let there = get_or_default entries j other d within in
          let no_later = subst (λ (p : List ℕ). path_cmp (get_or entries at d).path p ≢ Greater) (ap (λ (e : Entry). e.path) (sym there) ∙ here) (not_after entries f.up at j d le within) in
          front_between front (get_or entries at d).path rest (f.others at d (omega arith) inside) no_later,
    )

-- ---- as what a test of the place answers

pub path_at : (entries : List Entry) (path : List ℕ) (at : ℕ) (there : Entry) (answer : Bool) → IsFirstFrom entries path at → at < length entries → there ≡ get_or entries at there
    → answer ≡ bytes_eq there.path path → IsTrue answer ↔ Any (λ other. other.path ≡ path) entries
path_at entries path at there answer f inside is tells = (
  λ yes'. (at, there, inside, sym is, (bytes_eq-Decides there.path path).0 (sym tells ∙ yes')),
  λ any. let found = any_some (λ (other : Entry). other.path ≡ path) entries any in
      tells ∙ (bytes_eq-Decides there.path path).1 (ap (λ (e : Entry). e.path) is ∙ (path_there entries path at f found.0 found.1 found.2).1 there),
)

pub no_path_there : (entries : List Entry) (path : List ℕ) (at : ℕ) → IsFirstFrom entries path at → length entries ≤ at → IsTrue (nat_lt at (length entries)) ↔ Any (λ other. other.path ≡ path) entries
no_path_there entries path at f past = (
  λ yes'. let less : at < length entries = grind (arith, nat_tests) in absurd (omega arith),
  λ any. let found = any_some (λ (other : Entry). other.path ≡ path) entries any in let less = (path_there entries path at f found.0 found.1 found.2).0 in absurd (omega arith),
)

pub front_at : (entries : List Entry) (front : List ℕ) (at : ℕ) (there : Entry) (answer : Bool) → IsFirstFrom entries front at → at < length entries → there ≡ get_or entries at there
    → answer ≡ starts_with nat_eq there.path front → IsTrue answer ↔ Any (λ other. (rest : List ℕ) × (other.path ≡ front ++ rest)) entries
front_at entries front at there answer f inside is tells =
    let starts = starts_is Decides-eqb there.path front (starts_with nat_eq there.path front) refl in (
      λ yes'. (at, there, inside, sym is, (drop (length front) there.path, starts.0 (sym tells ∙ yes'))),
      λ any. let found = any_some (λ (other : Entry). (rest : List ℕ) × (other.path ≡ front ++ rest)) entries any in
          let more = (front_there entries front at f found.0 found.2.0 found.1 found.2.1).1 there in
          tells ∙ starts.1 more.0 (ap (λ (e : Entry). e.path) is ∙ more.1),
    )

pub no_front_there : (entries : List Entry) (front : List ℕ) (at : ℕ) → IsFirstFrom entries front at → length entries ≤ at → IsTrue (nat_lt at (length entries)) ↔ Any (λ other. (rest : List ℕ) × (other.path ≡ front ++ rest)) entries
no_front_there entries front at f past = (
  λ yes'. let less : at < length entries = grind (arith, nat_tests) in absurd (omega arith),
  λ any. let found = any_some (λ (other : Entry). (rest : List ℕ) × (other.path ≡ front ++ rest)) entries any in
      let less = (front_there entries front at f found.0 found.2.0 found.1 found.2.1).0 in absurd (omega arith),
)

-- ---- entries of one path in a row

abbrev pub has_path : List ℕ → Entry → Bool
has_path path entry = eq_by_cmp path_cmp entry.path path

has : (path : List ℕ) (entry : Entry) → entry.path ≡ path → has_path path entry ≡ true
has path entry same = ap is_eq (same_paths entry.path path same)

equal_if : (path : List ℕ) (entry : Entry) → has_path path entry ≡ true → entry.path ≡ path
equal_if path entry h = equal_paths_if entry.path path h

-- the entries from a place on that have this path
abbrev pub row : List Entry → ℕ → List ℕ → List Entry
row entries at path = take_while (has_path path) (drop at entries)

row_member : (entries : List Entry) (at : ℕ) (path : List ℕ) (k : ℕ) (d : Entry) → k < prefix_len (has_path path) (drop at entries) → get_or (row entries at path) k d ≡ get_or entries (at + k) d
row_member entries at path k d below = get_or-take (prefix_len (has_path path) (drop at entries)) (drop at entries) k d below ∙ get_or-drop at entries k d

row_length : (entries : List Entry) (at : ℕ) (path : List ℕ) → length (row entries at path) ≡ prefix_len (has_path path) (drop at entries)
row_length entries at path = length-take-le (prefix_len (has_path path) (drop at entries)) (drop at entries) (prefix_len-le-length (has_path path) (drop at entries))

pub row_of_path : (entries : List Entry) (at : ℕ) (path : List ℕ) (entry : Entry) → Contains (row entries at path) entry → entry.path ≡ path
row_of_path entries at path entry (k, within, is) =
    let size = row_length entries at path in
    let below : k < prefix_len (has_path path) (drop at entries) = omega arith in
    let passes = prefix_len_passes (has_path path) (drop at entries) k entry below in
    let here = get_or-take (prefix_len (has_path path) (drop at entries)) (drop at entries) k entry below in
    equal_if path entry (ap (has_path path) (sym is ∙ here) ∙ passes)

pub row_members : (entries : List Entry) (at : ℕ) (path : List ℕ) (entry : Entry) → Contains (row entries at path) entry → Contains entries entry
row_members entries at path entry (k, within, is) =
    let size = row_length entries at path in
    let below : k < prefix_len (has_path path) (drop at entries) = omega arith in
    let most = prefix_len-le-length (has_path path) (drop at entries) in
    let left = length-drop at entries in
    (at + k, omega arith, sym (row_member entries at path k entry below) ∙ is)

-- each place from there up to one with the path has it, if no path from there on is below it
all_between : (entries : List Entry) (path : List ℕ) (at j : ℕ) (d : Entry) → IsSortedBy goes_before entries
    → ((k : ℕ) → at ≤ k → k < length entries → path_cmp (get_or entries k d).path path ≢ Less)
    → j < length entries → (get_or entries j d).path ≡ path → (k : ℕ) → at ≤ k → k ≤ j → (get_or entries k d).path ≡ path
all_between entries path at j d up low within same k from to =
    neither (get_or entries k d).path path (low k from (omega arith)) (subst (λ (p : List ℕ). path_cmp (get_or entries k d).path p ≢ Greater) same (not_after entries up k j d to within))

in_row : (entries : List Entry) (path : List ℕ) (at j : ℕ) (d : Entry) → at ≤ j → j < length entries
    → ((k : ℕ) → at ≤ k → k ≤ j → (get_or entries k d).path ≡ path) → j - at < prefix_len (has_path path) (drop at entries)
in_row entries path at j d from within all =
    let n = prefix_len (has_path path) (drop at entries) in
    let left = length-drop at entries in
    ⊎_elim (λ (h : j - at < n). h)
    (λ (short : n ≤ j - at).
    let inside : n < length (drop at entries) = omega arith in
    let stops = prefix_len_stops (has_path path) (drop at entries) d inside in
    let there = get_or-drop at entries n d in
    let passes = has path (get_or entries (at + n) d) (all (at + n) (omega arith) (omega arith)) in
    let clash = sym stops ∙ ap (has_path path) there ∙ passes in
    absurd cc) (cases_lt (j - at) n)

pub row_has : (entries : List Entry) (path : List ℕ) (at j : ℕ) (d : Entry) → IsSortedBy goes_before entries
    → ((k : ℕ) → at ≤ k → k < length entries → path_cmp (get_or entries k d).path path ≢ Less)
    → at ≤ j → j < length entries → (get_or entries j d).path ≡ path → Contains (row entries at path) (get_or entries j d)
row_has entries path at j d up low from within same =
    let below = in_row entries path at j d from within (all_between entries path at j d up low within same) in
    let size = row_length entries at path in
    let e = get_or entries j d in
    let k = j - at in
    let there : at + k ≡ j = omega arith in
    let inside : k < length (row entries at path) = omega arith in
    (k, inside, get_or_default (row entries at path) k e d inside ∙ row_member entries at path k d below ∙ ap (λ (n : ℕ). get_or entries n d) there)

row_found : (entries : List Entry) (path : List ℕ) (at : ℕ) → IsFirstFrom entries path at → (other : Entry) → Contains entries other → other.path ≡ path → Contains (row entries at path) other
row_found entries path at f other (j, within, is) same =
    let here = ap (λ (e : Entry). e.path) is ∙ same in
    let equal = same_paths (get_or entries j other).path path here in
    let le = reached entries path at j other f (λ e. let clash = sym equal ∙ e in cc clash) in
    subst (λ (e : Entry). Contains (row entries at path) e) is (row_has entries path at j other f.up (λ k from inside. f.others k other from inside) le within here)

-- a path behind that at a place is not less
later_not_less : (entries : List Entry) → IsSortedBy goes_before entries → (i j : ℕ) (d : Entry) (path : List ℕ) → i ≤ j → j < length entries → (get_or entries i d).path ≡ path → path_cmp (get_or entries j d).path path ≢ Less
later_not_less entries up i j d path le within same =
    no_less (path_cmp (get_or entries j d).path path) (subst (λ (p : List ℕ). is_lt (path_cmp (get_or entries j d).path p) ≡ false) same (sorted_far goes_before goes_before_order entries up i j d le within))

-- entries of different paths never stand beside each other as one
apart_paths : (left right : Entry) → left.path ≢ right.path → may_stand left right ≡ false
unfolding may_stand
apart_paths left right other =
    let differ : bytes_eq left.path right.path ≡ false = false_from_ne_true (bytes_eq left.path right.path) (λ e. other ((bytes_eq-Decides left.path right.path).0 e)) in
    rw differ refl

-- ---- what is in the way of an entry

pub met_at : (entries : List Entry) (mine : Entry) (at : ℕ) (group : List Entry) (answer : Bool) → IsFirstFrom entries mine.path at → group ≡ row entries at mine.path
    → IsTrue answer ↔ Any (λ other. may_stand mine other ≡ false) group
    → IsTrue answer ↔ Any (λ other. (other.path ≡ mine.path) × (may_stand mine other ≡ false)) entries
met_at entries mine at group answer f same tells = (
  λ yes'. let found = any_some (λ (other : Entry). may_stand mine other ≡ false) group (tells.0 yes') in
      let inside = contains_same group (row entries at mine.path) found.0 same found.1 in
      any_from (λ (other : Entry). (other.path ≡ mine.path) × (may_stand mine other ≡ false)) entries found.0 (row_members entries at mine.path found.0 inside) (row_of_path entries at mine.path found.0 inside, found.2),
  λ any. let found = any_some (λ (other : Entry). (other.path ≡ mine.path) × (may_stand mine other ≡ false)) entries any in
      tells.1 (any_from (λ (other : Entry). may_stand mine other ≡ false) group found.0 (contains_same (row entries at mine.path) group found.0 (sym same) (row_found entries mine.path at f found.0 found.1 found.2.0)) found.2.1),
)

pub met_only : (entries : List Entry) (mine : Entry) → Any (Hits mine) entries
    → Any (λ other. (other.path ≡ mine.path) × (may_stand mine other ≡ false)) entries ⊎ (Any (λ other. IsFolderOf other.path mine.path) entries ⊎ Any (λ other. IsFolderOf mine.path other.path) entries)
met_only entries mine any =
    let found = any_some (Hits mine) entries any in
    ⊎_elim (λ same. inl (any_from (λ (other : Entry). (other.path ≡ mine.path) × (may_stand mine other ≡ false)) entries found.0 found.1 (sym same, found.2.apart)))
    (⊎_elim (λ below. inr (inr (any_from (λ (other : Entry). IsFolderOf mine.path other.path) entries found.0 found.1 below)))
    (λ above. inr (inl (any_from (λ (other : Entry). IsFolderOf other.path mine.path) entries found.0 found.1 above)))) found.2.meet

pub hit_at : (entries : List Entry) (mine : Entry) → Any (λ other. (other.path ≡ mine.path) × (may_stand mine other ≡ false)) entries → Any (Hits mine) entries
hit_at entries mine any =
    let found = any_some (λ (other : Entry). (other.path ≡ mine.path) × (may_stand mine other ≡ false)) entries any in
    any_from (Hits mine) entries found.0 found.1 (record { meet = inl (sym found.2.0); apart = found.2.1 })

pub hit_above : (entries : List Entry) (mine : Entry) → Any (λ other. IsFolderOf other.path mine.path) entries → Any (Hits mine) entries
hit_above entries mine any =
    let found = any_some (λ (other : Entry). IsFolderOf other.path mine.path) entries any in
    any_from (Hits mine) entries found.0 found.1 (record { meet = inr (inr found.2); apart = apart_paths mine found.0 (λ e. folder_differs found.0.path mine.path found.2 (sym e)) })

pub hit_below : (entries : List Entry) (mine : Entry) → Any (λ other. IsFolderOf mine.path other.path) entries → Any (Hits mine) entries
hit_below entries mine any =
    let found = any_some (λ (other : Entry). IsFolderOf mine.path other.path) entries any in
    any_from (Hits mine) entries found.0 found.1 (record { meet = inr (inl found.2); apart = apart_paths mine found.0 (folder_differs mine.path found.0.path found.2) })

-- the group behind a place with the path of the entry there
pub group_is : (entries : List Entry) (first : ℕ) (there : Entry) (group : List Entry) → IsSortedBy goes_before entries → first < length entries → there ≡ get_or entries first there
    → group ≡ row entries first there.path → AreOfPath entries first group
group_is entries first there group up within is same = record {
  members = λ entry h. row_members entries first there.path entry (contains_same group (row entries first there.path) entry same h);
  of_path = λ entry d h. row_of_path entries first there.path entry (contains_same group (row entries first there.path) entry same h) ∙ ap (λ (e : Entry). e.path) (get_or_read entries first there within is d);
  whole = λ k d from inside equal.
      let here = ap (λ (e : Entry). e.path) (get_or_read entries first there within is d) in
      contains_same (row entries first there.path) group (get_or entries k d) (sym same)
      (row_has entries there.path first k d up (λ j after below. later_not_less entries up first j d there.path after below (sym here)) from inside (equal ∙ sym here));
}

-- the answer of the last of three searches, where the others found none
pub met_rest : (entries : List Entry) (mine : Entry) (at above : Bool) (below : Result Bool AllocError) → at ≡ false → above ≡ false
    → IsTrue at ↔ Any (λ other. (other.path ≡ mine.path) × (may_stand mine other ≡ false)) entries
    → IsTrue above ↔ Any (λ other. IsFolderOf other.path mine.path) entries
    → IfOk below (λ met. IsTrue met ↔ Any (λ other. IsFolderOf mine.path other.path) entries)
    → IfOk below (λ met. IsTrue met ↔ Any (Hits mine) entries)
met_rest entries mine at above (Err e) not_at not_above tells_at tells_above tells = tt
met_rest entries mine at above (Ok below) not_at not_above tells_at tells_above tells = (
  λ yes'. hit_below entries mine (tells.0 yes'),
  λ any. ⊎_elim (λ same. let yes' = tells_at.1 same in absurd cc) (⊎_elim (λ folder. let yes' = tells_above.1 folder in absurd cc) tells.1) (met_only entries mine any),
)

-- ---- the folders of a path

pub folder_found : (entries : List Entry) (path text : List ℕ) (at : ℕ) → text ≡ path → at < length text → get_or text at 0 ≡ 47
    → Any (λ other. other.path ≡ take at text) entries → Any (λ other. IsFolderOf other.path path) entries
folder_found entries path text at same inside slash any =
    let found = any_some (λ (other : Entry). other.path ≡ take at text) entries any in
    let split = sym (take-append-drop at text) ∙ ap (λ (l : List ℕ). take at text ++ l) (drop_more text at 0 inside) in
    let whole = split ∙ ap (λ (b : ℕ). take at text ++ b ∷ drop (at + 1) text) slash in
    any_from (λ (other : Entry). IsFolderOf other.path path) entries found.0 found.1
    (drop (at + 1) text, sym same ∙ whole ∙ ap (λ (l : List ℕ). l ++ 47 ∷ drop (at + 1) text) (sym found.2))

pub no_folder : (entries : List Entry) (path text : List ℕ) → text ≡ path
    → ((k : ℕ) → k < length text → get_or text k 0 ≡ 47 → Any (λ other. other.path ≡ take k text) entries → ⊥)
    → Any (λ other. IsFolderOf other.path path) entries → ⊥
no_folder entries path text same none any =
    let found = any_some (λ (other : Entry). IsFolderOf other.path path) entries any in
    let folder = found.0.path in
    let rest = found.2.0 in
    let whole = same ∙ found.2.1 in
    let sizes = ap (λ (l : List ℕ). length l) whole ∙ length-append folder (47 ∷ rest) in
    let slash = ap (λ (l : List ℕ). get_or l (length folder) 0) whole ∙ get_or_at folder 47 rest 0 (length folder) refl in
    let front = ap (take (length folder)) whole ∙ take_at folder (47 ∷ rest) (length folder) refl in
    none (length folder) (omega arith) slash (any_from (λ (other : Entry). other.path ≡ take (length folder) text) entries found.0 found.1 (sym front))

-- ---- what a test of an own entry says of it

pub free_if : (others own : List Entry) (mine : Entry) (free : Bool) → free ≡ true
    → MatchBool free (IsFree others own mine) (Any (Hits mine) others ⊎ Any (Hits mine) own) → IsFree others own mine
free_if others own mine true is h = h
free_if others own mine false is h = cc

pub hit_if : (others own : List Entry) (mine : Entry) (free : Bool) → free ≡ false
    → MatchBool free (IsFree others own mine) (Any (Hits mine) others ⊎ Any (Hits mine) own) → Any (Hits mine) others ⊎ Any (Hits mine) own
hit_if others own mine true is h = absurd cc
hit_if others own mine false is h = h
