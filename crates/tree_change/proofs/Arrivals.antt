-- What goes to its place, and what the tree has then.
use Rattle.std.proofs.Common.{◌≡◌, ◌≢◌, ℕ, ◌≤◌, ◌^◌, Bool, true, false, true≢false, List, ◌++◌, length, Some, None, IsSome, sym, ap, subst, ◌∙◌, inl, inr, ⊎_elim}
use Rattle.std.specs.Prelude.{◌⊎◌}
use Rattle.std.proofs.lemmas.List.Elements.{Contains-append_cases, Contains-append_left, Contains-append_right}
use Rattle.std.specs.List.{flat_map, Contains}
use Rattle.std.specs.FinMap.{get}
use Rattle.rocks_text.specs.Files.{Files}
use Rattle.rocks_version.specs.declared.key.RockKey.{RockKey}
use Rattle.rock_record.specs.declared.rock.Rock.{Rock}
use Rattle.tree_model.specs.Held.{without}
use Rattle.tree_moves.proofs.RenameLaws.{others, sources, targets}
use Rattle.tree_moves.specs.Moves.{moved, new_path, AreApart}
use Rattle.tree_moves.specs.declared.lists.Move.{Move}
use Rattle.tree_sets.proofs.RockFiles.{rock_file_in}
use Rattle.tree_sets.specs.Sets.{entries_of, CanStand}
use Rattle.tree_sets.specs.Trees.{rock_files, tree_files, File}
use Rattle.tree_sets.specs.declared.entry.IndexEntry.{IndexEntry}
use Rattle.tree_change.specs.Change.{by_target, changed_set, coming, from_new, going, promotions_of}
use Rattle.tree_change.proofs.Asides.{aside_down, cleared_files, cleared_new, cleared_target, cleared_up, few_files, files, news_from, same_from, same_to, shift_from_outside, shift_item, shift_new_file, shift_staged, shift_to_outside, some_there, staged_files, up_from, up_to, down_not_up, Shift}
use Rattle.tree_change.proofs.Entries.{arranged_from, arranged_own, arranged_with, entry_from, entry_with, other_own, own_entries}
use Rattle.tree_change.proofs.Holders.{foreign_not_file, foreign_not_versioned, versioned_not_plain}
use Rattle.tree_change.proofs.Numbered.{new_one, new_with, share_turned, ShareEnd}
use Rattle.tree_change.proofs.Shifts.{coming_file, coming_foreign, coming_from, coming_with, promotion_from, promotion_with, IsComing, IsKept}
use Rattle.tree_change.proofs.WorkPaths.{file_outside, new_outside, IsOutside}

module _ (set added : List Rock) (removed : List RockKey) (stands : CanStand set) (will : CanStand (changed_set added removed set))
    (few_going : length (going removed (entries_of set)) ≤ 2 ^ 64) (few_coming : length (coming added (entries_of (changed_set added removed set))) ≤ 2 ^ 64) where
  abbrev next : List Rock
  next = changed_set added removed set

  abbrev before : List IndexEntry
  before = entries_of set

  abbrev after : List IndexEntry
  after = entries_of (changed_set added removed set)

  abbrev Moves : Bool → Move → Type 0
  Moves = Shift set added removed stands will

  abbrev Comes : File → Type 0
  Comes = IsComing set added removed stands will

  abbrev all_new : List File
  all_new = files set added removed stands will few_going few_coming

  abbrev pub news : List Move
  news = from_new 0 (files set added removed stands will few_going few_coming)

  abbrev pub ups : List Move
  ups = flat_map (promotions_of before after) (without removed before)

  abbrev pub places : List Move
  places = news ++ ups

  abbrev staged : Files
  staged = staged_files set added removed stands will few_going few_coming

  abbrev cleared : Files
  cleared = cleared_files set added removed stands will few_going few_coming

  -- ---- what they are

  -- a file that comes from `new/`
  pub record IsNewMove (move : Move) : Type 0 where
    pub number : ℕ
    pub from : move.from ≡ new_path number
    pub bytes : List ℕ
    pub comes : Comes (move.to, bytes)
    pub there : get staged move.from ≡ Some bytes
    pub among : Contains news move

  pub new_move : (move : Move) → Contains news move → IsNewMove move
  new_move move has =
      let new = news_from set added removed stands will few_going few_coming move has in
      let file = new.file in
      let is : file ≡ (move.to, file.1) = λ i. (sym new.to i, file.1) in
      let comes : Comes file = coming_from set added removed stands will file (entry_from (coming added after) file.0 file.1 new.among) in
      record {
        number = new.number;
        from = new.from;
        bytes = file.1;
        comes = subst Comes is comes;
        there = new.there;
        among = has;
      }

  pub place_case : (move : Move) → Contains places move → IsNewMove move ⊎ Moves false move
  place_case move has =
      ⊎_elim (λ new. inl (new_move move new)) (λ up. inr (promotion_from set added removed stands will move up)) (Contains-append_cases news ups move has)

  pub place_up : (move : Move) → Moves false move → Contains places move
  place_up move shift = Contains-append_right news ups move (promotion_with set added removed stands will move shift)

  pub place_new : (move : Move) → Contains news move → Contains places move
  place_new move has = Contains-append_left news ups move has

  pub place_coming : (path bytes : List ℕ) → Comes (path, bytes) → (move : Move) × Contains places move × (move.to ≡ path)
  place_coming path bytes comes =
      let first = entry_with (coming added after) path bytes (coming_with set added removed stands will (path, bytes) comes) in
      let found = new_with 0 all_new (path, first.0) first.1 in
      (found.0, place_new found.0 found.1, found.2)

  -- what comes isn't where an item of a kept rock stands
  pub coming_not_file : (move : Move) (rock : Rock) (path bytes : List ℕ) → IsNewMove move → IsKept set added removed stands will rock → Contains (rock_files after rock) (path, bytes)
      → move.to ≢ path
  coming_not_file move rock path bytes new kept has =
      foreign_not_file next will rock path bytes move.to kept.in_next has (coming_foreign set added removed stands will move.to new.bytes rock kept new.comes)

  pub from_not_new : (move : Move) (path : List ℕ) → IsNewMove move → IsOutside path → path ≢ move.from
  from_not_new move path new outside same = new_outside path new.number outside (same ∙ new.from)

  -- ---- they don't meet

  outside_from : (was : Bool) (move : Move) → Moves was move → IsOutside move.from
  outside_from = shift_from_outside set added removed stands will few_going few_coming

  outside_to : (was : Bool) (move : Move) → Moves was move → IsOutside move.to
  outside_to = shift_to_outside set added removed stands will few_going few_coming

  new_and_up : (move other : Move) → IsNewMove move → Moves false other → ShareEnd move other → ⊥
  new_and_up move other new up (inl same) = from_not_new move other.from new (outside_from false other up) (sym same)
  new_and_up move other new up (inr same) =
      coming_not_file move up.rock other.to up.item.1 new up.kept (shift_new_file set added removed stands will false other up) same

  one_place : (move other : Move) → Contains places move → Contains places other → ShareEnd move other → move ≡ other
  one_place move other has too share = by_case (place_case move has) (place_case other too)
    where
      two_ups : Moves false move → Moves false other → ShareEnd move other → move ≡ other
      two_ups x y (inl same) = (same_from set added removed stands will false false move other x y same).1
      two_ups x y (inr same) = (same_to set added removed stands will false false move other x y same).1

      by_case : IsNewMove move ⊎ Moves false move → IsNewMove other ⊎ Moves false other → move ≡ other
      by_case (inl x) (inl y) =
          new_one 0 all_new (few_files set added removed stands will few_going few_coming) (own_entries (coming added after)) move other x.among y.among share
      by_case (inl x) (inr y) = absurd (new_and_up move other x y share)
      by_case (inr x) (inl y) = absurd (new_and_up other move y x (share_turned move other share))
      by_case (inr x) (inr y) = two_ups x y share

  new_to_outside : (move : Move) → IsNewMove move → IsOutside move.to
  new_to_outside move new = file_outside next (move.to, new.bytes) (coming_file set added removed stands will (move.to, new.bytes) new.comes)

  free_place : (move other : Move) → IsNewMove move ⊎ Moves false move → IsNewMove other ⊎ Moves false other → move.to ≢ other.from
  free_place move other (inl x) (inl y) same = from_not_new other move.to y (new_to_outside move x) same
  free_place move other (inr x) (inl y) same = from_not_new other move.to y (outside_to false move x) same
  free_place move other (inl x) (inr y) same =
      foreign_not_versioned next will y.rock y.item.0 move.to y.kept.in_next (shift_item set added removed stands will false other y)
      (coming_foreign set added removed stands will move.to x.bytes y.rock y.kept x.comes) (sym (up_from set added removed stands will other y) ∙ sym same)
  free_place move other (inr x) (inr y) same =
      versioned_not_plain set stands y.rock x.rock y.item.0 x.item.0 y.kept.in_old x.kept.in_old
      (shift_item set added removed stands will false other y) (shift_item set added removed stands will false move x)
      (sym (up_from set added removed stands will other y) ∙ sym same ∙ up_to set added removed stands will move x)

  -- what moves is a file of the new tree
  abbrev pub Brings : Files → List ℕ → List ℕ → Type 0
  Brings files from to = (bytes : List ℕ) × (get files from ≡ Some bytes) × Contains (tree_files next) (to, bytes)

  shift_file : (was : Bool) (move : Move) (shift : Moves was move) → Contains (tree_files next) (move.to, shift.item.1)
  shift_file was move shift =
      rock_file_in next shift.rock (move.to, shift.item.1) shift.kept.in_next (shift_new_file set added removed stands will was move shift)

  place_brings : (move : Move) → IsNewMove move ⊎ Moves false move → Brings cleared move.from move.to
  place_brings move (inl new) = (
    new.bytes,
    cleared_new set added removed stands will few_going few_coming move new.among ∙ new.there,
    coming_file set added removed stands will (move.to, new.bytes) new.comes,
  )
  place_brings move (inr up) = (up.item.1, cleared_up set added removed stands will few_going few_coming move up, shift_file false move up)

  place_there : (move : Move) → Contains places move → IsSome (get cleared move.from)
  place_there move has =
      let brings = place_brings move (place_case move has) in
      some_there (get cleared move.from) brings.0 brings.1

  ordered_from : (move : Move) → Contains (by_target places) move → Contains places move
  ordered_from = arranged_from (λ move. move.to) places

  ordered_with : (move : Move) → Contains places move → Contains (by_target places) move
  ordered_with = arranged_with (λ move. move.to) places (λ move other has too same. one_place move other has too (inr same))

  places_apart : AreApart (by_target places) cleared
  places_apart = record {
    sources = other_own (λ move. move.to) (λ move. move.from) (by_target places) (arranged_own (λ move. move.to) places)
        (λ x y x_in y_in same. ap (λ (m : Move). m.to) (one_place x y (ordered_from x x_in) (ordered_from y y_in) (inl same)));
    targets = arranged_own (λ move. move.to) places;
    free = λ move other has too. free_place move other (place_case move (ordered_from move has)) (place_case other (ordered_from other too));
    there = λ move has. place_there move (ordered_from move has);
  }

  -- ---- what stands there

  abbrev pub placed_files : Files
  placed_files = moved (by_target places) cleared

  pub placed_beside : (path : List ℕ) → ((move : Move) → Contains places move → (path ≢ move.to) × (path ≢ move.from)) → get placed_files path ≡ get cleared path
  placed_beside path apart = others (by_target places) cleared path (λ move has. apart move (ordered_from move has))

  pub placed_source : (move : Move) → Contains places move → get placed_files move.from ≡ None
  placed_source move has = sources (by_target places) cleared move places_apart (ordered_with move has)

  -- what a path has where a move goes is a file of the new tree
  abbrev pub Lands : List ℕ → Type 0
  Lands path = (bytes : List ℕ) × (get placed_files path ≡ Some bytes) × Contains (tree_files next) (path, bytes)

  pub place_lands : (move : Move) → Contains places move → Lands move.to
  place_lands move has =
      let brings = place_brings move (place_case move has) in
      (brings.0, targets (by_target places) cleared move places_apart (ordered_with move has) ∙ brings.1, brings.2)

  -- an item that leaves its plain path stands at its versioned one
  pub down_lands : (move : Move) → Moves true move → Lands move.to
  down_lands move down = (
    down.item.1,
    placed_beside move.to (λ other has. ends other (place_case other has))
        ∙ cleared_target set added removed stands will few_going few_coming move (aside_down set added removed stands will few_going few_coming move down)
        ∙ shift_staged set added removed stands will few_going few_coming true move down,
    shift_file true move down,
  )
    where
      ends : (other : Move) → IsNewMove other ⊎ Moves false other → (move.to ≢ other.to) × (move.to ≢ other.from)
      ends other (inl new) = (
        λ same. coming_not_file other down.rock move.to down.item.1 new down.kept (shift_new_file set added removed stands will true move down) (sym same),
        from_not_new other move.to new (outside_to true move down),
      )
      ends other (inr up) = (
        λ same. true≢false (same_to set added removed stands will true false move other down up same).0,
        λ same. down_not_up set added removed stands will move other down up same,
      )

  pub shift_lands : (was : Bool) (move : Move) → Moves was move → Lands move.to
  shift_lands true move shift = down_lands move shift
  shift_lands false move shift = place_lands move (place_up move shift)
