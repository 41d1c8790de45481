-- What goes aside, and what the tree has then.
use Rattle.std.proofs.Common.{◌≡◌, ◌≢◌, ℕ, ◌+◌, ◌≤◌, ◌^◌, Bool, true, false, true≢false, List, ◌++◌, length, Option, Some, None, IsSome, refl, sym, ap, subst, ◌∙◌, arith, inl, inr, ⊎_elim}
use Rattle.std.specs.Prelude.{◌⊎◌}
use Rattle.std.proofs.lemmas.List.Elements.{Contains-append_cases, Contains-append_left, Contains-append_right}
use Rattle.std.specs.List.{flat_map, Contains}
use Rattle.std.specs.FinMap.{get}
use Rattle.rocks_text.specs.Files.{Files}
use Rattle.rocks_text.specs.declared.item.Item.{Item}
use Rattle.rocks_version.specs.declared.key.RockKey.{RockKey}
use Rattle.rock_record.specs.Made.{items_of}
use Rattle.rock_record.specs.declared.rock.Rock.{Rock}
use Rattle.tree_claims.proofs.Members.{map_contains}
use Rattle.tree_claims.specs.Claims.{IsVersioned}
use Rattle.tree_model.specs.Held.{without}
use Rattle.tree_moves.proofs.RenameLaws.{others, sources, targets}
use Rattle.tree_moves.specs.Moves.{moved, old_path, staged_in, AreApart}
use Rattle.tree_moves.specs.declared.lists.Move.{Move}
use Rattle.tree_paths.specs.Places.{plain_path, versioned_path}
use Rattle.tree_sets.proofs.OwnPaths.{places_differ}
use Rattle.tree_sets.proofs.RockFiles.{item_in, rock_file_in}
use Rattle.tree_sets.proofs.TreeFiles.{each}
use Rattle.tree_sets.specs.Places.{place_of}
use Rattle.tree_sets.specs.Sets.{entries_of, CanStand}
use Rattle.tree_sets.specs.Trees.{rock_files, tree_files, tree_of, File}
use Rattle.tree_sets.specs.declared.entry.IndexEntry.{IndexEntry}
use Rattle.tree_change.specs.Change.{by_source, changed_set, coming, demotions_of, files_in_order, from_new, going, in_order, is_holder, staged_from, to_old}
use Rattle.tree_change.proofs.Entries.{arranged_from, arranged_own, arranged_with, in_order_from, in_order_length, in_order_own, in_order_with, length_most, other_own}
use Rattle.tree_change.proofs.Holders.{foreign_not_file, foreign_not_versioned, holds, holds_not, one_versioned, versioned_not_plain}
use Rattle.tree_change.proofs.Numbered.{new_of, old_of, old_one, old_with, share_turned, staged_beside, IsNew, ShareEnd}
use Rattle.tree_change.proofs.Shifts.{demotion_from, demotion_with, going_file, going_foreign, going_from, going_with, IsGoing, IsKept, IsShift}
use Rattle.tree_change.proofs.WorkPaths.{file_outside, new_not_old, new_outside, old_outside, place_outside, IsOutside}

pub some_there : {X : Type 0} (found : Option X) (x : X) → found ≡ Some x → IsSome found
some_there found x is = subst IsSome (sym is) refl

module _ (set added : List Rock) (removed : List RockKey) (stands : CanStand set) (will : CanStand (changed_set added removed set)) where
  abbrev before : List IndexEntry
  before = entries_of set

  abbrev after : List IndexEntry
  after = entries_of (changed_set added removed set)

  abbrev Kept : Rock → Type 0
  Kept = IsKept set added removed stands will

  abbrev pub Shift : Bool → Move → Type 0
  Shift = IsShift set added removed stands will

  -- ---- items that go to another place

  pub shift_item : (was : Bool) (move : Move) (shift : Shift was move) → Contains (items_of shift.rock) shift.item.0
  shift_item was move shift = map_contains (λ (f : Item × List ℕ). f.0) shift.rock.items shift.item shift.among

  pub shift_from : (was : Bool) (move : Move) (shift : Shift was move) → move.from ≡ place_of before shift.rock.key shift.item.0
  shift_from was move shift = ap (λ (m : Move). m.from) shift.is

  pub shift_to : (was : Bool) (move : Move) (shift : Shift was move) → move.to ≡ place_of after shift.rock.key shift.item.0
  shift_to was move shift = ap (λ (m : Move). m.to) shift.is

  file_at : (entries : List IndexEntry) (rock : Rock) (item : Item × List ℕ) (path : List ℕ) → Contains rock.items item → path ≡ place_of entries rock.key item.0
      → Contains (rock_files entries rock) (path, item.1)
  file_at entries rock item path has is = subst (λ (p : List ℕ). Contains (rock_files entries rock) (p, item.1)) (sym is) (item_in entries rock item has)

  pub shift_old_file : (was : Bool) (move : Move) (shift : Shift was move) → Contains (rock_files before shift.rock) (move.from, shift.item.1)
  shift_old_file was move shift = file_at before shift.rock shift.item move.from shift.among (shift_from was move shift)

  pub shift_new_file : (was : Bool) (move : Move) (shift : Shift was move) → Contains (rock_files after shift.rock) (move.to, shift.item.1)
  shift_new_file was move shift = file_at after shift.rock shift.item move.to shift.among (shift_to was move shift)

  pub one_shift : (was had : Bool) (move other : Move) (x : Shift was move) (y : Shift had other) → x.rock.key ≡ y.rock.key → x.item.0 ≡ y.item.0
      → (was ≡ had) × (move ≡ other)
  one_shift was had move other x y keys items =
      let status : is_holder before x.rock.key x.item.0 ≡ is_holder before y.rock.key y.item.0 = λ i. is_holder before (keys i) (items i) in
      let places : ◌≡◌ {A = Move} (record { from = place_of before x.rock.key x.item.0; to = place_of after x.rock.key x.item.0 })
      (record { from = place_of before y.rock.key y.item.0; to = place_of after y.rock.key y.item.0 }) =
      λ i. record { from = place_of before (keys i) (items i); to = place_of after (keys i) (items i) } in
      (sym x.held ∙ status ∙ y.held, x.is ∙ places ∙ sym y.is)

  pub same_from : (was had : Bool) (move other : Move) → Shift was move → Shift had other → move.from ≡ other.from → (was ≡ had) × (move ≡ other)
  same_from was had move other x y same =
      let one = places_differ set stands x.rock y.rock x.item.0 y.item.0 x.kept.in_old y.kept.in_old (shift_item was move x) (shift_item had other y)
      (sym (shift_from was move x) ∙ same ∙ shift_from had other y) in
      one_shift was had move other x y one.0 one.1

  pub same_to : (was had : Bool) (move other : Move) → Shift was move → Shift had other → move.to ≡ other.to → (was ≡ had) × (move ≡ other)
  same_to was had move other x y same =
      let one = places_differ (changed_set added removed set) will x.rock y.rock x.item.0 y.item.0 x.kept.in_next y.kept.in_next (shift_item was move x) (shift_item had other y)
      (sym (shift_to was move x) ∙ same ∙ shift_to had other y) in
      one_shift was had move other x y one.0 one.1

  pub down_from : (move : Move) (shift : Shift true move) → move.from ≡ plain_path shift.item.0
  down_from move shift = shift_from true move shift ∙ holds before shift.rock.key shift.item.0 shift.held

  pub down_to : (move : Move) (shift : Shift true move) → move.to ≡ versioned_path shift.item.0 shift.rock.key
  down_to move shift = shift_to true move shift ∙ holds_not after shift.rock.key shift.item.0 shift.will_hold

  pub up_from : (move : Move) (shift : Shift false move) → move.from ≡ versioned_path shift.item.0 shift.rock.key
  up_from move shift = shift_from false move shift ∙ holds_not before shift.rock.key shift.item.0 shift.held

  pub up_to : (move : Move) (shift : Shift false move) → move.to ≡ plain_path shift.item.0
  up_to move shift = shift_to false move shift ∙ holds after shift.rock.key shift.item.0 shift.will_hold

  -- where one comes from no other goes that leaves its plain path
  pub down_not_up : (move other : Move) → Shift true move → Shift false other → move.to ≢ other.from
  down_not_up move other x y same =
      let one = one_versioned set stands x.rock y.rock x.item.0 y.item.0 IsVersioned x.kept.in_old y.kept.in_old (shift_item true move x) (shift_item false other y)
      (sym (down_to move x) ∙ same ∙ up_from other y) in
      true≢false (one_shift true false move other x y one.0 one.1).0

  module _ (few_going : length (going removed (entries_of set)) ≤ 2 ^ 64) (few_coming : length (coming added (entries_of (changed_set added removed set))) ≤ 2 ^ 64) where
    abbrev pub olds : List Move
    olds = to_old 0 (in_order (going removed before))

    abbrev pub downs : List Move
    downs = flat_map (demotions_of before after) (without removed before)

    abbrev pub asides : List Move
    asides = olds ++ downs

    abbrev pub files : List File
    files = files_in_order (coming added after)

    abbrev pub staged_files : Files
    staged_files = staged_in (staged_from 0 files) (tree_of set)

    -- ---- what they are

    pub few_files : 0 + length files ≤ 2 ^ 64
    few_files = let most = length_most (coming added after) in omega (arith, most, few_coming)

    few_olds : 0 + length (in_order (going removed before)) ≤ 2 ^ 64
    few_olds = let most = in_order_length (going removed before) in omega (arith, most, few_going)

    -- what goes to `old/`
    abbrev pub IsOldMove : Move → Type 0
    IsOldMove move = (k : ℕ) × (move.to ≡ old_path k) × IsGoing set added removed stands will move.from × Contains olds move

    pub old_move : (move : Move) → Contains olds move → IsOldMove move
    old_move move has =
        let found = old_of 0 (in_order (going removed before)) move has in
        (found.number, found.to, going_from set added removed stands will move.from (in_order_from (going removed before) move.from found.from), has)

    pub aside_case : (move : Move) → Contains asides move → IsOldMove move ⊎ Shift true move
    aside_case move has =
        ⊎_elim (λ old. inl (old_move move old)) (λ down. inr (demotion_from set added removed stands will move down)) (Contains-append_cases olds downs move has)

    pub aside_down : (move : Move) → Shift true move → Contains asides move
    aside_down move shift = Contains-append_right olds downs move (demotion_with set added removed stands will move shift)

    pub aside_going : (path : List ℕ) → IsGoing set added removed stands will path → (move : Move) × Contains asides move × (move.from ≡ path)
    aside_going path goes =
        let found = old_with 0 (in_order (going removed before)) path (in_order_with (going removed before) path (going_with set added removed stands will path goes)) in
        (found.0, Contains-append_left olds downs found.0 found.1, found.2)

    old_from_outside : (move : Move) → IsOldMove move → IsOutside move.from
    old_from_outside move old = let file = going_file set added removed stands will move.from old.2 in file_outside set (move.from, file.0) file.1

    pub shift_from_outside : (was : Bool) (move : Move) → Shift was move → IsOutside move.from
    shift_from_outside was move shift = subst IsOutside (sym (shift_from was move shift)) (place_outside before shift.rock.key shift.item.0)

    pub shift_to_outside : (was : Bool) (move : Move) → Shift was move → IsOutside move.to
    shift_to_outside was move shift = subst IsOutside (sym (shift_to was move shift)) (place_outside after shift.rock.key shift.item.0)

    -- what goes isn't where an item of a kept rock stands
    pub going_not_file : (move : Move) (rock : Rock) (path bytes : List ℕ) → IsOldMove move → Kept rock → Contains (rock_files before rock) (path, bytes) → move.from ≢ path
    going_not_file move rock path bytes old kept has =
        foreign_not_file set stands rock path bytes move.from kept.in_old has (going_foreign set added removed stands will move.from rock kept old.2)

    -- ---- they don't meet

    old_and_down : (move other : Move) → IsOldMove move → Shift true other → ShareEnd move other → ⊥
    old_and_down move other old down (inl same) = going_not_file move down.rock other.from down.item.1 old down.kept (shift_old_file true other down) same
    old_and_down move other old down (inr same) = old_outside other.to old.0 (shift_to_outside true other down) (sym same ∙ old.1)

    pub one_aside : (move other : Move) → Contains asides move → Contains asides other → ShareEnd move other → move ≡ other
    one_aside move other has too share = by_case (aside_case move has) (aside_case other too)
      where
        two_downs : Shift true move → Shift true other → ShareEnd move other → move ≡ other
        two_downs x y (inl same) = (same_from true true move other x y same).1
        two_downs x y (inr same) = (same_to true true move other x y same).1

        by_case : IsOldMove move ⊎ Shift true move → IsOldMove other ⊎ Shift true other → move ≡ other
        by_case (inl x) (inl y) = old_one 0 (in_order (going removed before)) few_olds (in_order_own (going removed before)) move other x.3 y.3 share
        by_case (inl x) (inr y) = absurd (old_and_down move other x y share)
        by_case (inr x) (inl y) = absurd (old_and_down other move y x (share_turned move other share))
        by_case (inr x) (inr y) = two_downs x y share

    free_aside : (move other : Move) → IsOldMove move ⊎ Shift true move → IsOldMove other ⊎ Shift true other → move.to ≢ other.from
    free_aside move other (inl x) (inl y) same = old_outside other.from x.0 (old_from_outside other y) (sym same ∙ x.1)
    free_aside move other (inl x) (inr y) same = old_outside other.from x.0 (shift_from_outside true other y) (sym same ∙ x.1)
    free_aside move other (inr x) (inl y) same =
        foreign_not_versioned set stands x.rock x.item.0 other.from x.kept.in_old (shift_item true move x)
        (going_foreign set added removed stands will other.from x.rock x.kept y.2) (sym (down_to move x) ∙ same)
    free_aside move other (inr x) (inr y) same =
        versioned_not_plain set stands x.rock y.rock x.item.0 y.item.0 x.kept.in_old y.kept.in_old (shift_item true move x) (shift_item true other y)
        (sym (down_to move x) ∙ same ∙ down_from other y)

    -- ---- what stands there

    pub news_from : (move : Move) → Contains (from_new 0 files) move → IsNew 0 files (tree_of set) move
    news_from move has = new_of 0 files (tree_of set) few_files move has

    -- outside of the work folder nothing is staged
    pub staged_outside : (path : List ℕ) → IsOutside path → get staged_files path ≡ get (tree_of set) path
    staged_outside path outside =
        staged_beside 0 files (tree_of set) path (λ move has same.
        let new = news_from move has in
        new_outside path new.number outside (same ∙ new.from))

    pub staged_has : (path bytes : List ℕ) → Contains (tree_files set) (path, bytes) → get staged_files path ≡ Some bytes
    staged_has path bytes has = staged_outside path (file_outside set (path, bytes) has) ∙ each set path bytes stands has

    pub shift_staged : (was : Bool) (move : Move) (shift : Shift was move) → get staged_files move.from ≡ Some shift.item.1
    shift_staged was move shift =
        staged_has move.from shift.item.1 (rock_file_in set shift.rock (move.from, shift.item.1) shift.kept.in_old (shift_old_file was move shift))

    aside_there : (move : Move) → IsOldMove move ⊎ Shift true move → IsSome (get staged_files move.from)
    aside_there move (inl old) =
        let file = going_file set added removed stands will move.from old.2 in
        some_there (get staged_files move.from) file.0 (staged_has move.from file.0 file.1)
    aside_there move (inr down) = some_there (get staged_files move.from) down.item.1 (shift_staged true move down)

    ordered_from : (move : Move) → Contains (by_source asides) move → Contains asides move
    ordered_from = arranged_from (λ move. move.from) asides

    ordered_with : (move : Move) → Contains asides move → Contains (by_source asides) move
    ordered_with = arranged_with (λ move. move.from) asides (λ move other has too same. one_aside move other has too (inl same))

    pub asides_apart : AreApart (by_source asides) staged_files
    asides_apart = record {
      sources = arranged_own (λ move. move.from) asides;
      targets = other_own (λ move. move.from) (λ move. move.to) (by_source asides) (arranged_own (λ move. move.from) asides)
          (λ x y x_in y_in same. ap (λ (m : Move). m.from) (one_aside x y (ordered_from x x_in) (ordered_from y y_in) (inr same)));
      free = λ move other has too. free_aside move other (aside_case move (ordered_from move has)) (aside_case other (ordered_from other too));
      there = λ move has. aside_there move (aside_case move (ordered_from move has));
    }

    abbrev pub cleared_files : Files
    cleared_files = moved (by_source asides) staged_files

    -- a path that no such move has as an end
    pub cleared_beside : (path : List ℕ) → ((move : Move) → Contains asides move → (path ≢ move.to) × (path ≢ move.from)) → get cleared_files path ≡ get staged_files path
    cleared_beside path apart = others (by_source asides) staged_files path (λ move has. apart move (ordered_from move has))

    pub cleared_target : (move : Move) → Contains asides move → get cleared_files move.to ≡ get staged_files move.from
    cleared_target move has = targets (by_source asides) staged_files move asides_apart (ordered_with move has)

    pub cleared_source : (move : Move) → Contains asides move → get cleared_files move.from ≡ None
    cleared_source move has = sources (by_source asides) staged_files move asides_apart (ordered_with move has)

    -- what waits in `new/` is left there
    pub cleared_new : (move : Move) → Contains (from_new 0 files) move → get cleared_files move.from ≡ get staged_files move.from
    cleared_new move has =
        let new = news_from move has in
        cleared_beside move.from (λ other among. ends new other (aside_case other among))
      where
        ends : IsNew 0 files (tree_of set) move → (other : Move) → IsOldMove other ⊎ Shift true other → (move.from ≢ other.to) × (move.from ≢ other.from)
        ends new other (inl old) = (
          λ same. new_not_old new.number old.0 (sym new.from ∙ same ∙ old.1),
          λ same. new_outside other.from new.number (old_from_outside other old) (sym same ∙ new.from),
        )
        ends new other (inr down) = (
          λ same. new_outside other.to new.number (shift_to_outside true other down) (sym same ∙ new.from),
          λ same. new_outside other.from new.number (shift_from_outside true other down) (sym same ∙ new.from),
        )

    -- and an item that comes to hold its plain path at its old one
    pub cleared_up : (move : Move) (shift : Shift false move) → get cleared_files move.from ≡ Some shift.item.1
    cleared_up move shift =
        cleared_beside move.from (λ other among. ends other (aside_case other among)) ∙ shift_staged false move shift
      where
        ends : (other : Move) → IsOldMove other ⊎ Shift true other → (move.from ≢ other.to) × (move.from ≢ other.from)
        ends other (inl old) = (
          λ same. old_outside move.from old.0 (shift_from_outside false move shift) (same ∙ old.1),
          λ same. going_not_file other shift.rock move.from shift.item.1 old shift.kept (shift_old_file false move shift) (sym same),
        )
        ends other (inr down) = (
          λ same. down_not_up other move down shift (sym same),
          λ same. true≢false (same_from true false other move down shift (sym same)).0,
        )
