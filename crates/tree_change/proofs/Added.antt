-- The rocks of a changed set.
use Rattle.std.proofs.Common.{◌≡◌, ◌≢◌, Bool, true, false, not, cond, List, [], ◌∷◌, map, refl, sym, ap, subst, ◌∙◌, inl, inr, ⊎_elim}
use Rattle.std.specs.Prelude.{◌⊎◌, filter}
use Rattle.std.specs.List.{Contains}
use Rattle.std.specs.List.Sorted.{IsStrictlySortedBy}
use Rattle.std.specs.declared.cmp.Ordering.TheVariants.{Less}
use Rattle.rocks_version.proofs.OrderLaws.{key_total}
use Rattle.rocks_version.specs.Keys.{is_before, listing_cmp}
use Rattle.rocks_version.specs.declared.key.RockKey.{RockKey}
use Rattle.rock_record.specs.declared.rock.Rock.{Rock}
use Rattle.tree_claims.proofs.Members.{cons_behind, cons_cases, cons_here, map_contains, map_from, nil_none}
use Rattle.tree_model.specs.Held.{changed, is_among, with_entries, with_entry, without}
use Rattle.tree_sets.proofs.Rows.{all_at, all_from}
use Rattle.tree_sets.proofs.SortedLists.{not_itself}
use Rattle.tree_sets.specs.Sets.{entries_of, entry_of}
use Rattle.tree_sets.specs.declared.entry.IndexEntry.{IndexEntry}
use Rattle.tree_change.specs.Change.{changed_set, with_rock, with_rocks}

-- ---- without the bytes

one_entry_more : (added : Rock) (set : List Rock) → entries_of (with_rock added set) ≡ with_entry (entry_of added) (entries_of set)
one_entry_more added [] = refl
one_entry_more added (rock ∷ set) =
    elim (is_before added.key rock.key) as (λ b. map entry_of (cond b (added ∷ rock ∷ set) (rock ∷ with_rock added set))
    ≡ cond b (entry_of added ∷ entry_of rock ∷ map entry_of set) (entry_of rock ∷ with_entry (entry_of added) (map entry_of set))) [
      | true ↦ refl
      | false ↦ ap (λ (es : List IndexEntry). entry_of rock ∷ es) (one_entry_more added set)
    ]

entries_more : (added set : List Rock) → entries_of (with_rocks added set) ≡ with_entries (entries_of added) (entries_of set)
entries_more [] set = refl
entries_more (rock ∷ added) set =
    entries_more added (with_rock rock set) ∙ ap (with_entries (entries_of added)) (one_entry_more rock set)

entries_fewer : (removed : List RockKey) (set : List Rock) → entries_of (filter (λ rock. not (is_among removed rock.key)) set) ≡ without removed (entries_of set)
entries_fewer removed [] = refl
entries_fewer removed (rock ∷ set) =
    let rest = entries_fewer removed set in
    let kept = filter (λ (r : Rock). not (is_among removed r.key)) set in
    elim (not (is_among removed rock.key)) as (λ b. map entry_of (cond b (rock ∷ kept) kept) ≡ cond b (entry_of rock ∷ without removed (entries_of set)) (without removed (entries_of set))) [
      | true ↦ ap (λ (es : List IndexEntry). entry_of rock ∷ es) rest
      | false ↦ rest
    ]

pub entries_changed : (set added : List Rock) (removed : List RockKey) → entries_of (changed_set added removed set) ≡ changed (entries_of added) removed (entries_of set)
entries_changed set added removed =
    entries_more added (filter (λ rock. not (is_among removed rock.key)) set) ∙ ap (with_entries (entries_of added)) (entries_fewer removed set)

-- ---- which rocks

cond_both : {X : Type 0} (P : X → Type 0) (b : Bool) (x y : X) → (b ≡ true → P x) → (b ≡ false → P y) → P (cond b x y)
cond_both P true x y h g = h refl
cond_both P false x y h g = g refl

with_from : (added : Rock) (set : List Rock) (rock : Rock) → Contains (with_rock added set) rock → (added ≡ rock) ⊎ Contains set rock
with_from added [] rock has = cons_cases added [] rock has
with_from added (first ∷ set) rock has =
    cond_both (λ (l : List Rock). Contains l rock → (added ≡ rock) ⊎ Contains (first ∷ set) rock) (is_before added.key first.key) (added ∷ first ∷ set) (first ∷ with_rock added set)
    (λ _ h. cons_cases added (first ∷ set) rock h)
    (λ _ h. ⊎_elim (λ e. inr (subst (λ (r : Rock). Contains (first ∷ set) r) e (cons_here first set)))
    (λ more. ⊎_elim inl (λ behind. inr (cons_behind first set rock behind)) (with_from added set rock more)) (cons_cases first (with_rock added set) rock h)) has

with_new : (added : Rock) (set : List Rock) → Contains (with_rock added set) added
with_new added [] = cons_here added []
with_new added (first ∷ set) =
    cond_both (λ (l : List Rock). Contains l added) (is_before added.key first.key) (added ∷ first ∷ set) (first ∷ with_rock added set)
    (λ _. cons_here added (first ∷ set)) (λ _. cons_behind first (with_rock added set) added (with_new added set))

with_old : (added : Rock) (set : List Rock) (rock : Rock) → Contains set rock → Contains (with_rock added set) rock
with_old added [] rock has = absurd (nil_none rock has)
with_old added (first ∷ set) rock has =
    cond_both (λ (l : List Rock). Contains l rock) (is_before added.key first.key) (added ∷ first ∷ set) (first ∷ with_rock added set)
    (λ _. cons_behind added (first ∷ set) rock has)
    (λ _. ⊎_elim (λ e. subst (λ (r : Rock). Contains (first ∷ with_rock added set) r) e (cons_here first (with_rock added set)))
    (λ more. cons_behind first (with_rock added set) rock (with_old added set rock more)) (cons_cases first set rock has))

pub rocks_from : (added set : List Rock) (rock : Rock) → Contains (with_rocks added set) rock → Contains added rock ⊎ Contains set rock
rocks_from [] set rock has = inr has
rocks_from (first ∷ added) set rock has =
    ⊎_elim (λ new. inl (cons_behind first added rock new))
    (λ old. ⊎_elim (λ e. inl (subst (λ (r : Rock). Contains (first ∷ added) r) e (cons_here first added))) inr (with_from first set rock old))
    (rocks_from added (with_rock first set) rock has)

pub rocks_old : (added set : List Rock) (rock : Rock) → Contains set rock → Contains (with_rocks added set) rock
rocks_old [] set rock has = has
rocks_old (first ∷ added) set rock has = rocks_old added (with_rock first set) rock (with_old first set rock has)

pub rocks_new : (added set : List Rock) (rock : Rock) → Contains added rock → Contains (with_rocks added set) rock
rocks_new [] set rock has = absurd (nil_none rock has)
rocks_new (first ∷ added) set rock has =
    ⊎_elim (λ e. rocks_old added (with_rock first set) rock (subst (λ (r : Rock). Contains (with_rock first set) r) e (with_new first set)))
    (λ more. rocks_new added (with_rock first set) rock more) (cons_cases first added rock has)

-- ---- keys

abbrev AreSorted : List Rock → Type 0
AreSorted set = IsStrictlySortedBy listing_cmp (map (λ rock. rock.key) set)

less_differs : (x y : RockKey) → listing_cmp x y ≡ Less → x ≢ y
less_differs x y below same = not_itself listing_cmp key_total y (subst (λ (k : RockKey). listing_cmp k y ≡ Less) same below)

-- a rock that stands in order in a set beside others differs from them, and they stand in order
one_apart : (added : Rock) (set : List Rock) → AreSorted (with_rock added set) → ((rock : Rock) → Contains set rock → added.key ≢ rock.key) × AreSorted set
unfolding IsStrictlySortedBy
one_apart added [] up = ((λ rock has. absurd (nil_none rock has)), tt)
one_apart added (first ∷ set) up =
    cond_both (λ (l : List Rock). AreSorted l → ((rock : Rock) → Contains (first ∷ set) rock → added.key ≢ rock.key) × AreSorted (first ∷ set))
    (is_before added.key first.key) (added ∷ first ∷ set) (first ∷ with_rock added set)
    (λ _ h. (
      λ rock has. less_differs added.key rock.key
          (all_at (λ k. listing_cmp added.key k ≡ Less) (map (λ r. r.key) (first ∷ set)) rock.key h.0 (map_contains (λ (r : Rock). r.key) (first ∷ set) rock has)),
      h.1,
    ))
    (λ _ h.
    let rest = one_apart added set h.1 in
    let above : (rock : Rock) → Contains (with_rock added set) rock → listing_cmp first.key rock.key ≡ Less =
    λ rock has. all_at (λ k. listing_cmp first.key k ≡ Less) (map (λ r. r.key) (with_rock added set)) rock.key h.0 (map_contains (λ (r : Rock). r.key) (with_rock added set) rock has) in (
      λ rock has same. ⊎_elim
          (λ e. less_differs first.key added.key (above added (with_new added set)) (ap (λ (r : Rock). r.key) e ∙ sym same))
          (λ more. rest.0 rock more same) (cons_cases first set rock has),
      (
        all_from (λ k. listing_cmp first.key k ≡ Less) (map (λ r. r.key) set) (λ k has.
            let found = map_from (λ (r : Rock). r.key) set k has in
            subst (λ (k : RockKey). listing_cmp first.key k ≡ Less) (sym found.2) (above found.0 (with_old added set found.0 found.1))),
        rest.1,
      ),
    )) up

all_apart : (added set : List Rock) → AreSorted (with_rocks added set)
    → ((rock other : Rock) → Contains added rock → Contains set other → rock.key ≢ other.key) × AreSorted set
all_apart [] set up = ((λ rock other has. absurd (nil_none rock has)), up)
all_apart (first ∷ added) set up =
    let rest = all_apart added (with_rock first set) up in
    let one = one_apart first set rest.1 in (
      λ rock other has too. ⊎_elim (λ e same. one.0 other too (ap (λ (r : Rock). r.key) e ∙ same))
          (λ more. rest.0 rock other more (with_old first set other too)) (cons_cases first added rock has),
      one.1,
    )

pub added_apart : (added set : List Rock) → IsStrictlySortedBy listing_cmp (map (λ rock. rock.key) (with_rocks added set))
    → (rock other : Rock) → Contains added rock → Contains set other → rock.key ≢ other.key
added_apart added set up = (all_apart added set up).0
