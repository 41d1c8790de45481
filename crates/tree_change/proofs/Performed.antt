-- The moves of a change, made on the tree of a set, give the tree of the changed set.
use Rattle.std.proofs.Common.{◌≡◌, ◌≢◌, ℕ, ◌≤◌, ◌^◌, le_trans, Bool, true, false, List, [], ◌∷◌, length, Option, Some, None, refl, sym, ap, subst, ◌∙◌, inl, inr, ⊎_elim}
use Rattle.std.specs.Prelude.{◌⊎◌}
use Rattle.std.specs.List.{Contains}
use Rattle.std.specs.FinMap.{get}
use Rattle.std.specs.Ordering.{eq_by_cmp}
use Rattle.rocks_text.specs.Files.{path_cmp, Files}
use Rattle.rocks_version.specs.declared.key.RockKey.{RockKey}
use Rattle.rock_record.specs.declared.rock.Rock.{Rock}
use Rattle.tree_claims.proofs.Members.{cons_behind, cons_cases, cons_here, nil_none}
use Rattle.tree_moves.proofs.FileMaps.{same_files, tied, ties}
use Rattle.tree_moves.specs.Moves.{performed, settled_old}
use Rattle.tree_moves.specs.declared.lists.Move.{Move}
use Rattle.tree_sets.proofs.PathTies.{by_bool}
use Rattle.tree_sets.proofs.RockFiles.{rock_file_in}
use Rattle.tree_sets.proofs.TreeFiles.{each, only}
use Rattle.tree_sets.specs.Sets.{entries_of, CanStand}
use Rattle.tree_sets.specs.Trees.{rock_files, tree_files, tree_of}
use Rattle.tree_sets.specs.declared.entry.IndexEntry.{IndexEntry}
use Rattle.tree_change.specs.Change.{changed_set, coming, going, lists_between, lists_of}
use Rattle.tree_change.proofs.Added.{entries_changed}
use Rattle.tree_change.proofs.Arrivals.{down_lands, place_coming, place_lands, place_new, place_up, placed_beside, placed_files, placed_source, places, shift_lands, Lands}
use Rattle.tree_change.proofs.Asides.{aside_case, aside_down, aside_going, asides, cleared_beside, cleared_files, cleared_source, files, staged_files, IsOldMove, Shift}
use Rattle.tree_change.proofs.Counts.{few_come, few_go}
use Rattle.tree_change.proofs.Numbered.{staged_beside}
use Rattle.tree_change.proofs.Shifts.{new_file, old_file, IsKept}
use Rattle.tree_change.proofs.Unchanged.{new_case, old_case, unchanged_stands}
use Rattle.tree_change.proofs.WorkPaths.{file_outside, settled_numbered, settled_outside, settled_some}
use Rattle.tree_change.proofs.Entries.{none_some, some_same}

-- an answer that is whatever the other is
same_found : {X : Type 0} (left right : Option X) → ((x : X) → left ≡ Some x → right ≡ Some x) → ((x : X) → right ≡ Some x → left ≡ Some x) → left ≡ right
same_found None None there here = refl
same_found None (Some x) there here = here x refl
same_found (Some x) right there here = sym (there x refl)

-- ---- is a path an end of one of the moves?

abbrev IsEnd : (Move → List ℕ) → List Move → List ℕ → Type 0
IsEnd end moves path = (move : Move) × Contains moves move × (end move ≡ path)

abbrev IsNoEnd : (Move → List ℕ) → List Move → List ℕ → Type 0
IsNoEnd end moves path = (move : Move) → Contains moves move → path ≢ end move

search_end : (end : Move → List ℕ) (moves : List Move) (path : List ℕ) → IsEnd end moves path ⊎ IsNoEnd end moves path
search_end end [] path = inr (λ move has. absurd (nil_none move has))
search_end end (first ∷ moves) path =
    by_bool (eq_by_cmp path_cmp path (end first))
    (λ is. inl (first, cons_here first moves, sym (tied path (end first) is)))
    (λ is_not. ⊎_elim
    (λ found. inl (found.0, cons_behind first moves found.0 found.1, found.2))
    (λ none. inr (λ move has same. ⊎_elim
    (λ e. let clash = sym (ties path (end first) (same ∙ ap end (sym e))) ∙ is_not in absurd cc)
    (λ more. none move more same) (cons_cases first moves move has)))
    (search_end end moves path))

-- ---- each path

module _ (set added : List Rock) (removed : List RockKey) (stands : CanStand set) (will : CanStand (changed_set added removed set))
    (few_going : length (going removed (entries_of set)) ≤ 2 ^ 64) (few_coming : length (coming added (entries_of (changed_set added removed set))) ≤ 2 ^ 64) where
  abbrev next : List Rock
  next = changed_set added removed set

  abbrev before : List IndexEntry
  before = entries_of set

  abbrev after : List IndexEntry
  after = entries_of (changed_set added removed set)

  abbrev Moves : Bool → Move → Type 0
  Moves = Shift set added removed stands will

  abbrev Landed : List ℕ → Type 0
  Landed = Lands set added removed stands will few_going few_coming

  abbrev placed : Files
  placed = placed_files set added removed stands will few_going few_coming

  abbrev cleared : Files
  cleared = cleared_files set added removed stands will few_going few_coming

  abbrev staged : Files
  staged = staged_files set added removed stands will few_going few_coming

  abbrev to_places : List Move
  to_places = places set added removed stands will few_going few_coming

  abbrev to_sides : List Move
  to_sides = asides set added removed stands will few_going few_coming

  -- what stands where a move went is the new tree's file there
  landed_is : (path bytes : List ℕ) → Contains (tree_files next) (path, bytes) → Landed path → get placed path ≡ Some bytes
  landed_is path bytes has (other, there, also) =
      let same : other ≡ bytes = some_same other bytes (sym (each next path other will also) ∙ each next path bytes will has) in
      there ∙ ap Some same

  kept_is : (rock : Rock) (path bytes : List ℕ) → IsKept set added removed stands will rock → Contains (rock_files after rock) (path, bytes) → get placed path ≡ Some bytes
  kept_is rock path bytes kept has =
      ⊎_elim
      (λ same. unchanged_stands set added removed stands will few_going few_coming rock kept path bytes same)
      (λ arrives.
      let lands = shift_lands set added removed stands will few_going few_coming arrives.0 arrives.1.0 arrives.1.1 in
      landed_is path bytes (rock_file_in next rock (path, bytes) kept.in_next has) (subst Landed arrives.1.2 lands))
      (new_case set added removed stands will rock kept (path, bytes) has)

  -- each file of the new tree stands there
  each_stands : (path bytes : List ℕ) → Contains (tree_files next) (path, bytes) → get (settled_old placed) path ≡ Some bytes
  each_stands path bytes has =
      settled_outside placed path (file_outside next (path, bytes) has)
      ∙ ⊎_elim
      (λ comes.
      let move = place_coming set added removed stands will few_going few_coming path bytes comes in
      landed_is path bytes has (subst Landed move.2 (place_lands set added removed stands will few_going few_coming move.0 move.1)))
      (λ kept. kept_is kept.0 path bytes kept.1 kept.2)
      (new_file set added removed stands will (path, bytes) has)

  -- a file where a move went is the new tree's
  landed_only : (path bytes : List ℕ) → get placed path ≡ Some bytes → Landed path → Contains (tree_files next) (path, bytes)
  landed_only path bytes is (other, there, has) =
      let same : other ≡ bytes = some_same other bytes (sym there ∙ is) in
      subst (λ (b : List ℕ). Contains (tree_files next) (path, b)) same has

  module _ (path bytes : List ℕ) (no_place_from : IsNoEnd (λ move. move.from) to_places path) (no_side_from : IsNoEnd (λ move. move.from) to_sides path) where
    kept_only : (rock : Rock) → IsKept set added removed stands will rock → Contains (rock_files before rock) (path, bytes) → Contains (tree_files next) (path, bytes)
    kept_only rock kept has =
        ⊎_elim (λ same. rock_file_in next rock (path, bytes) kept.in_next same.new) (λ goes. absurd (moves_not goes.0 goes.1.0 goes.1.1 goes.1.2))
        (old_case set added removed stands will rock kept (path, bytes) has)
      where
        moves_not : (was : Bool) (move : Move) → Moves was move → move.from ≡ path → ⊥
        moves_not true move shift same = no_side_from move (aside_down set added removed stands will few_going few_coming move shift) (sym same)
        moves_not false move shift same = no_place_from move (place_up set added removed stands will few_going few_coming move shift) (sym same)

    old_only : Contains (tree_files set) (path, bytes) → Contains (tree_files next) (path, bytes)
    old_only has =
        ⊎_elim
        (λ goes.
        let move = aside_going set added removed stands will few_going few_coming path goes in
        absurd (no_side_from move.0 move.1 (sym move.2)))
        (λ kept. kept_only kept.0 kept.1 kept.2)
        (old_file set added removed stands will path bytes has)

    staged_only : get staged path ≡ Some bytes → Contains (tree_files next) (path, bytes)
    staged_only is =
        let beside = staged_beside 0 (files set added removed stands will few_going few_coming) (tree_of set) path
        (λ move has. no_place_from move (place_new set added removed stands will few_going few_coming move has)) in
        old_only (only set path bytes (sym beside ∙ is))

  module _ (path bytes : List ℕ) (left : get (settled_old placed) path ≡ Some bytes) where
    there : get placed path ≡ Some bytes
    there = settled_some placed path bytes left

    side_only : (move : Move) → IsOldMove set added removed stands will few_going few_coming move ⊎ Moves true move → move.to ≡ path → Contains (tree_files next) (path, bytes)
    side_only move (inl old) same =
        absurd (none_some bytes (sym (settled_numbered placed old.0) ∙ ap (get (settled_old placed)) (sym old.1 ∙ same) ∙ left))
    side_only move (inr down) same = landed_only path bytes there (subst Landed same (down_lands set added removed stands will few_going few_coming move down))

    cleared_only : IsNoEnd (λ move. move.from) to_places path → get cleared path ≡ Some bytes → Contains (tree_files next) (path, bytes)
    cleared_only no_place_from is =
        ⊎_elim
        (λ target. side_only target.0 (aside_case set added removed stands will few_going few_coming target.0 target.1) target.2)
        (λ no_target. ⊎_elim
        (λ source. absurd (none_some bytes (sym (cleared_source set added removed stands will few_going few_coming source.0 source.1) ∙ ap (get cleared) source.2 ∙ is)))
        (λ no_source. staged_only path bytes no_place_from no_source
        (sym (cleared_beside set added removed stands will few_going few_coming path (λ move has. (no_target move has, no_source move has))) ∙ is))
        (search_end (λ move. move.from) to_sides path))
        (search_end (λ move. move.to) to_sides path)

    -- what is left is a file of the new tree
    only_stands : Contains (tree_files next) (path, bytes)
    only_stands =
        ⊎_elim
        (λ target. landed_only path bytes there (subst Landed target.2 (place_lands set added removed stands will few_going few_coming target.0 target.1)))
        (λ no_target. ⊎_elim
        (λ source. absurd (none_some bytes (sym (placed_source set added removed stands will few_going few_coming source.0 source.1) ∙ ap (get placed) source.2 ∙ there)))
        (λ no_source. cleared_only no_source
        (sym (placed_beside set added removed stands will few_going few_coming path (λ move has. (no_target move has, no_source move has))) ∙ there))
        (search_end (λ move. move.from) to_places path))
        (search_end (λ move. move.to) to_places path)

  same_tree : settled_old placed ≡ tree_of next
  same_tree =
      same_files (settled_old placed) (tree_of next) (λ path. same_found (get (settled_old placed) path) (get (tree_of next) path)
      (λ bytes is. each next path bytes will (only_stands path bytes is))
      (λ bytes is. each_stands path bytes (only next path bytes is)))

  pub trees : performed (lists_of added removed (entries_of set)) (tree_of set) ≡ tree_of (changed_set added removed set)
  trees =
      ap (λ (entries : List IndexEntry). performed (lists_between added removed before entries) (tree_of set)) (sym (entries_changed set added removed)) ∙ same_tree

-- neither tree has more files than numbers have texts
pub trees_of_files : (set added : List Rock) (removed : List RockKey) → CanStand set → CanStand (changed_set added removed set)
    → length (tree_files set) ≤ 2 ^ 64 → length (tree_files (changed_set added removed set)) ≤ 2 ^ 64
    → performed (lists_of added removed (entries_of set)) (tree_of set) ≡ tree_of (changed_set added removed set)
trees_of_files set added removed stands will few more =
    trees set added removed stands will (le_trans (few_go set removed) few) (le_trans (few_come set added removed) more)
