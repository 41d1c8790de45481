-- No more files go than the old tree has, and none come beyond those of the new one; and how many a tree has.
use Rattle.std.proofs.Common.{◌≡◌, ℕ, ◌+◌, ◌*◌, ◌≤◌, ◌^◌, Bool, true, false, not, cond, List, [], ◌∷◌, map, length, refl, sym, ap, ◌∙◌, arith}
use Rattle.std.specs.Prelude.{filter}
use Rattle.std.specs.List.{flat_map}
use Rattle.std.proofs.lemmas.List.{length-append, length-map}
use Rattle.std.proofs.lemmas.List.Sums.{sum_by-cons}
use Rattle.rocks_text.specs.declared.item.Item.{Item}
use Rattle.rocks_version.specs.Keys.{is_before}
use Rattle.rocks_version.specs.declared.key.RockKey.{RockKey}
use Rattle.rock_record.specs.declared.rock.Rock.{Rock}
use Rattle.tree_model.specs.Held.{is_among}
use Rattle.tree_sets.specs.Sets.{entries_of, entry_of, files_in}
use Rattle.tree_sets.specs.Trees.{item_file, manifest_file, own_file, rock_files, tree_files, File}
use Rattle.tree_sets.specs.declared.entry.IndexEntry.{IndexEntry}
use Rattle.tree_sets.specs.declared.limits.TheConstants.{MOST_ROCKS, MOST_TREE_FILES}
use Rattle.tree_change.proofs.Shifts.{paths_of_files, paths_of_manifest}
use Rattle.tree_change.specs.Change.{changed_set, coming, entry_paths, going, manifest_paths, with_rock, with_rocks}

abbrev rows : {X Y : Type 0} → (X → List Y) → List X → ℕ
rows f xs = length (flat_map f xs)

fewer : {X Y : Type 0} (f : X → List Y) (p : X → Bool) (xs : List X) → rows f (filter p xs) ≤ rows f xs
fewer f p [] = omega arith
fewer f p (x ∷ xs) =
    let rest = fewer f p xs in
    let whole = length-append (f x) (flat_map f xs) in
    elim (p x) as (λ b. rows f (cond b (x ∷ filter p xs) (filter p xs)) ≤ rows f (x ∷ xs)) [
      | true ↦ let some = length-append (f x) (flat_map f (filter p xs)) in omega (arith, rest, whole, some)
      | false ↦ omega (arith, rest, whole)
    ]

-- ---- what goes

module _ (among : List IndexEntry) where
  paths_count : (rock : Rock) → length (entry_paths among (entry_of rock)) ≡ length (rock_files among rock)
  paths_count rock = ap length (sym (paths_of_files among rock)) ∙ length-map (rock_files among rock) (λ file. file.0)

  all_paths : (set : List Rock) → rows (entry_paths among) (entries_of set) ≡ rows (rock_files among) set
  all_paths [] = refl
  all_paths (rock ∷ set) =
      length-append (entry_paths among (entry_of rock)) (flat_map (entry_paths among) (entries_of set))
      ∙ (λ i. paths_count rock i + all_paths set i)
      ∙ sym (length-append (rock_files among rock) (flat_map (rock_files among) set))

pub few_go : (set : List Rock) (removed : List RockKey) → length (going removed (entries_of set)) ≤ length (tree_files set)
few_go set removed =
    let before = entries_of set in
    let chosen = filter (λ (e : IndexEntry). is_among removed e.key) before in
    let left = length-append (flat_map (entry_paths before) chosen) (manifest_paths before) in
    let right = length-append (flat_map (rock_files before) set) (manifest_file before) in
    let some = fewer (entry_paths before) (λ e. is_among removed e.key) before in
    let all = all_paths before set in
    let last : length (manifest_paths before) ≡ length (manifest_file before) = ap length (sym (paths_of_manifest before)) ∙ length-map (manifest_file before) (λ file. file.0) in
    omega (arith, left, right, some, all, last)

-- ---- what comes

module _ (among : List IndexEntry) where
  one_more : (added : Rock) (set : List Rock) → rows (rock_files among) (with_rock added set) ≡ length (rock_files among added) + rows (rock_files among) set
  one_more added [] = length-append (rock_files among added) []
  one_more added (rock ∷ set) =
      elim (is_before added.key rock.key) as (λ b. rows (rock_files among) (cond b (added ∷ rock ∷ set) (rock ∷ with_rock added set))
      ≡ length (rock_files among added) + rows (rock_files among) (rock ∷ set)) [
        | true ↦ length-append (rock_files among added) (flat_map (rock_files among) (rock ∷ set))
        | false ↦
            let rest = one_more added set in
            let left = length-append (rock_files among rock) (flat_map (rock_files among) (with_rock added set)) in
            let right = length-append (rock_files among rock) (flat_map (rock_files among) set) in
            omega (arith, rest, left, right)
      ]

  all_more : (added set : List Rock) → rows (rock_files among) (with_rocks added set) ≡ rows (rock_files among) added + rows (rock_files among) set
  all_more [] set = omega arith
  all_more (rock ∷ added) set =
      let rest = all_more added (with_rock rock set) in
      let one = one_more rock set in
      let whole = length-append (rock_files among rock) (flat_map (rock_files among) added) in
      omega (arith, rest, one, whole)

pub few_come : (set added : List Rock) (removed : List RockKey)
    → length (coming added (entries_of (changed_set added removed set))) ≤ length (tree_files (changed_set added removed set))
few_come set added removed =
    let next = changed_set added removed set in
    let after = entries_of next in
    let left = length-append (flat_map (rock_files after) added) (manifest_file after) in
    let right = length-append (flat_map (rock_files after) next) (manifest_file after) in
    let all = all_more after added (filter (λ rock. not (is_among removed rock.key)) set) in
    omega (arith, left, right, all)

-- ---- a tree within the limits

rock_count : (among : List IndexEntry) (rock : Rock) → length (rock_files among rock) ≡ 2 + (length (entry_of rock).items + length (entry_of rock).own)
rock_count among rock =
    let both = length-append (map (own_file rock.key) rock.own) (map (item_file among rock.key) rock.items) in
    let own = length-map rock.own (own_file rock.key) in
    let items = length-map rock.items (item_file among rock.key) in
    let own_paths = length-map rock.own (λ (f : File). f.0) in
    let its_items = length-map rock.items (λ (f : Item × List ℕ). f.0) in
    omega (arith, both, own, items, own_paths, its_items)

rocks_count : (among : List IndexEntry) (set : List Rock) → rows (rock_files among) set ≡ 2 * length set + files_in (entries_of set)
rocks_count among [] = refl
rocks_count among (rock ∷ set) =
    let rest = rocks_count among set in
    let one = rock_count among rock in
    let whole = length-append (rock_files among rock) (flat_map (rock_files among) set) in
    let counts = λ (entry : IndexEntry). length entry.items + length entry.own in
    let files = sum_by-cons (λ (n : ℕ). n) (counts (entry_of rock)) (map counts (entries_of set)) in
    omega (arith, rest, one, whole, files)

manifest_count : (entries : List IndexEntry) → length (manifest_file entries) ≤ 1
manifest_count [] = omega arith
manifest_count (entry ∷ entries) = omega arith

pub few_files : (set : List Rock) → length set ≤ MOST_ROCKS → files_in (entries_of set) ≤ MOST_TREE_FILES → length (tree_files set) ≤ 2 ^ 64
few_files set rocks files =
    let whole = length-append (flat_map (rock_files (entries_of set)) set) (manifest_file (entries_of set)) in
    let all = rocks_count (entries_of set) set in
    let last = manifest_count (entries_of set) in
    omega (arith, rocks, files, whole, all, last)
