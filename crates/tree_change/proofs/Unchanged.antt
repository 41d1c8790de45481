-- Files of kept rocks: they stay where they are, or go to another place.
use Rattle.std.proofs.Common.{◌≡◌, ◌≢◌, ℕ, ◌≤◌, ◌^◌, Bool, true, false, not, List, length, ◌++◌, codes, Some, refl, sym, ap, subst, ◌∙◌, inl, inr, ⊎_elim}
use Rattle.std.specs.Prelude.{◌⊎◌}
use Rattle.std.specs.List.{Contains}
use Rattle.std.specs.FinMap.{get}
use Rattle.rocks_text.specs.declared.item.Item.{Item}
use Rattle.rocks_version.specs.Keys.{rockspec_name}
use Rattle.rocks_version.specs.declared.key.RockKey.{RockKey}
use Rattle.rock_manifest.specs.Text.{record_text}
use Rattle.rock_record.specs.Rocks.{record_of}
use Rattle.rock_record.specs.declared.rock.Rock.{Rock}
use Rattle.tree_claims.proofs.Members.{map_contains}
use Rattle.tree_moves.specs.declared.lists.Move.{Move}
use Rattle.tree_paths.specs.Places.{own_path}
use Rattle.tree_sets.proofs.OwnPaths.{place_in_no_folder, places_differ}
use Rattle.tree_sets.proofs.PathTies.{by_bool}
use Rattle.tree_sets.proofs.RockFiles.{file_of, item_in, own_in, record_in, rock_file_in, rockspec_in}
use Rattle.tree_sets.specs.Places.{place_of}
use Rattle.tree_sets.specs.Sets.{entries_of, CanStand}
use Rattle.tree_sets.specs.Trees.{item_file, own_file, record_path, rock_files, rockspec_path, File}
use Rattle.tree_sets.specs.declared.entry.IndexEntry.{IndexEntry}
use Rattle.tree_change.specs.Change.{changed_set, coming, going, is_holder}
use Rattle.tree_change.proofs.Arrivals.{coming_not_file, from_not_new, place_case, placed_beside, placed_files, IsNewMove}
use Rattle.tree_change.proofs.Asides.{aside_case, cleared_beside, going_not_file, shift_from, shift_item, shift_to, staged_has, IsOldMove, Shift}
use Rattle.tree_change.proofs.Holders.{holds, holds_not}
use Rattle.tree_change.proofs.Shifts.{IsKept}
use Rattle.tree_change.proofs.WorkPaths.{old_outside, rock_file_outside}

module _ (set added : List Rock) (removed : List RockKey) (stands : CanStand set) (will : CanStand (changed_set added removed set)) where
  abbrev next : List Rock
  next = changed_set added removed set

  abbrev before : List IndexEntry
  before = entries_of set

  abbrev after : List IndexEntry
  after = entries_of (changed_set added removed set)

  abbrev Kept : Rock → Type 0
  Kept = IsKept set added removed stands will

  abbrev Moves : Bool → Move → Type 0
  Moves = Shift set added removed stands will

  -- the file stands there in both trees, and no item goes there or comes from there
  pub record IsUnchanged (rock : Rock) (file : File) : Type 0 where
    pub old : Contains (rock_files before rock) file
    pub new : Contains (rock_files after rock) file
    pub beside : (was : Bool) (move : Move) → Moves was move → (file.0 ≢ move.to) × (file.0 ≢ move.from)

  -- or an item stands there that goes to another place
  abbrev pub Goes : List ℕ → Type 0
  Goes path = (was : Bool) × ((move : Move) × Moves was move × (move.from ≡ path))

  abbrev pub Arrives : List ℕ → Type 0
  Arrives path = (was : Bool) × ((move : Move) × Moves was move × (move.to ≡ path))

  module _ (rock : Rock) (kept : Kept rock) where
    -- ---- files in the rock's folder

    folder_beside : (path : List ℕ) (was : Bool) (move : Move) → Moves was move → (own_path rock.key path ≢ move.to) × (own_path rock.key path ≢ move.from)
    folder_beside path was move shift = (
      λ same. place_in_no_folder after shift.rock.key rock.key shift.item.0 path (sym (shift_to set added removed stands will was move shift) ∙ sym same),
      λ same. place_in_no_folder before shift.rock.key rock.key shift.item.0 path (sym (shift_from set added removed stands will was move shift) ∙ sym same),
    )

    in_folder : (path bytes : List ℕ) → Contains (rock_files before rock) (own_path rock.key path, bytes) → Contains (rock_files after rock) (own_path rock.key path, bytes)
        → IsUnchanged rock (own_path rock.key path, bytes)
    in_folder path bytes old new = record { old = old; new = new; beside = folder_beside path }

    rockspec_unchanged : IsUnchanged rock (rockspec_path rock.key, rock.rockspec)
    rockspec_unchanged = in_folder (rockspec_name rock.key.name rock.key.version) rock.rockspec (rockspec_in before rock) (rockspec_in after rock)

    record_unchanged : IsUnchanged rock (record_path rock.key, record_text (record_of rock))
    record_unchanged = record { old = record_in before rock; new = record_in after rock; beside = folder_beside _ }

    own_unchanged : (own : File) → Contains rock.own own → IsUnchanged rock (own_file rock.key own)
    own_unchanged own has = in_folder own.0 own.1 (own_in before rock own has) (own_in after rock own has)

    -- ---- items

    same_place : (item : Item) (b : Bool) → is_holder before rock.key item ≡ b → is_holder after rock.key item ≡ b → place_of before rock.key item ≡ place_of after rock.key item
    same_place item true held will_hold = holds before rock.key item held ∙ sym (holds after rock.key item will_hold)
    same_place item false held will_hold = holds_not before rock.key item held ∙ sym (holds_not after rock.key item will_hold)

    not_both : (was b : Bool) → was ≡ b → not was ≡ b → ⊥
    not_both true b h g = let clash = h ∙ sym g in cc clash
    not_both false b h g = let clash = h ∙ sym g in cc clash

    -- an item that stays is none that goes
    not_shift : (item : Item) (b : Bool) → is_holder before rock.key item ≡ b → is_holder after rock.key item ≡ b
        → (was : Bool) (move : Move) (shift : Moves was move) → rock.key ≡ shift.rock.key → item ≡ shift.item.0 → ⊥
    not_shift item b held will_hold was move shift keys items =
        not_both was b
        (sym shift.held ∙ (λ i. is_holder before (sym keys i) (sym items i)) ∙ held)
        (sym shift.will_hold ∙ (λ i. is_holder after (sym keys i) (sym items i)) ∙ will_hold)

    item_beside : (item : Item × List ℕ) (b : Bool) → Contains rock.items item → is_holder before rock.key item.0 ≡ b → is_holder after rock.key item.0 ≡ b
        → (was : Bool) (move : Move) → Moves was move
        → (place_of before rock.key item.0 ≢ move.to) × (place_of before rock.key item.0 ≢ move.from)
    item_beside item b has held will_hold was move shift =
        let mine = map_contains (λ (f : Item × List ℕ). f.0) rock.items item has in
        let its = shift_item set added removed stands will was move shift in (
          λ same.
              let one = places_differ next will rock shift.rock item.0 shift.item.0 kept.in_next shift.kept.in_next mine its
              (sym (same_place item.0 b held will_hold) ∙ same ∙ shift_to set added removed stands will was move shift) in
              not_shift item.0 b held will_hold was move shift one.0 one.1,
          λ same.
              let one = places_differ set stands rock shift.rock item.0 shift.item.0 kept.in_old shift.kept.in_old mine its
              (same ∙ shift_from set added removed stands will was move shift) in
              not_shift item.0 b held will_hold was move shift one.0 one.1,
        )

    item_unchanged : (item : Item × List ℕ) (b : Bool) → Contains rock.items item → is_holder before rock.key item.0 ≡ b → is_holder after rock.key item.0 ≡ b
        → IsUnchanged rock (item_file before rock.key item)
    item_unchanged item b has held will_hold = record {
      old = item_in before rock item has;
      new = subst (λ (p : List ℕ). Contains (rock_files after rock) (p, item.1)) (sym (same_place item.0 b held will_hold)) (item_in after rock item has);
      beside = item_beside item b has held will_hold;
    }

    the_move : Item → Move
    the_move item = record { from = place_of before rock.key item; to = place_of after rock.key item }

    item_shift : (item : Item × List ℕ) (was : Bool) → Contains rock.items item → is_holder before rock.key item.0 ≡ was → is_holder after rock.key item.0 ≡ not was
        → Moves was (the_move item.0)
    unfolding the_move
    item_shift item was has held will_hold = record { rock = rock; kept = kept; item = item; among = has; held = held; will_hold = will_hold; is = refl }

    item_case : (item : Item × List ℕ) → Contains rock.items item
        → ((b : Bool) × (is_holder before rock.key item.0 ≡ b) × (is_holder after rock.key item.0 ≡ b)) ⊎ ((was : Bool) × Moves was (the_move item.0))
    item_case item has =
        by_bool (is_holder before rock.key item.0)
        (λ held. by_bool (is_holder after rock.key item.0)
        (λ will_hold. inl (true, held, will_hold)) (λ lost. inr (true, item_shift item true has held lost)))
        (λ held. by_bool (is_holder after rock.key item.0)
        (λ gained. inr (false, item_shift item false has held gained)) (λ will_hold. inl (false, held, will_hold)))

    -- ---- a file of the old tree, or of the new one

    pub old_case : (file : File) → Contains (rock_files before rock) file → IsUnchanged rock file ⊎ Goes file.0
    unfolding the_move
    old_case file has =
        ⊎_elim (λ e. inl (subst (IsUnchanged rock) (sym e) rockspec_unchanged))
        (⊎_elim (λ e. inl (subst (IsUnchanged rock) (sym e) record_unchanged))
        (⊎_elim (λ own. inl (subst (IsUnchanged rock) (sym own.2) (own_unchanged own.0 own.1)))
        (λ item. ⊎_elim
        (λ same. inl (subst (IsUnchanged rock) (sym item.2) (item_unchanged item.0 same.0 item.1 same.1 same.2)))
        (λ shift. inr (shift.0, (the_move item.0.0, shift.1, sym (ap (λ (f : File). f.0) item.2))))
        (item_case item.0 item.1))))
        (file_of before rock file has)

    pub new_case : (file : File) → Contains (rock_files after rock) file → IsUnchanged rock file ⊎ Arrives file.0
    unfolding the_move
    new_case file has =
        ⊎_elim (λ e. inl (subst (IsUnchanged rock) (sym e) rockspec_unchanged))
        (⊎_elim (λ e. inl (subst (IsUnchanged rock) (sym e) record_unchanged))
        (⊎_elim (λ own. inl (subst (IsUnchanged rock) (sym own.2) (own_unchanged own.0 own.1)))
        (λ item. ⊎_elim
        (λ same.
        let places : item_file before rock.key item.0 ≡ item_file after rock.key item.0 = λ i. (same_place item.0.0 same.0 same.1 same.2 i, item.0.1) in
        inl (subst (IsUnchanged rock) (places ∙ sym item.2) (item_unchanged item.0 same.0 item.1 same.1 same.2)))
        (λ shift. inr (shift.0, (the_move item.0.0, shift.1, sym (ap (λ (f : File). f.0) item.2))))
        (item_case item.0 item.1))))
        (file_of after rock file has)

  module _ (few_going : length (going removed (entries_of set)) ≤ 2 ^ 64) (few_coming : length (coming added (entries_of (changed_set added removed set))) ≤ 2 ^ 64) where
    -- what doesn't change stands there after all moves
    pub unchanged_stands : (rock : Rock) → Kept rock → (path bytes : List ℕ) → IsUnchanged rock (path, bytes)
        → get (placed_files set added removed stands will few_going few_coming) path ≡ Some bytes
    unchanged_stands rock kept path bytes same =
        placed_beside set added removed stands will few_going few_coming path (λ move has. from_place move (place_case set added removed stands will few_going few_coming move has))
        ∙ cleared_beside set added removed stands will few_going few_coming path (λ move has. from_aside move (aside_case set added removed stands will few_going few_coming move has))
        ∙ staged_has set added removed stands will few_going few_coming path bytes (rock_file_in set rock (path, bytes) kept.in_old same.old)
      where
        outside : (rest : List ℕ) → path ≢ codes "lib/luarocks/work/" ++ rest
        outside = rock_file_outside before rock (path, bytes) same.old

        from_place : (move : Move) → IsNewMove set added removed stands will few_going few_coming move ⊎ Moves false move → (path ≢ move.to) × (path ≢ move.from)
        from_place move (inl new) = (
          λ e. coming_not_file set added removed stands will few_going few_coming move rock path bytes new kept same.new (sym e),
          from_not_new set added removed stands will few_going few_coming move path new outside,
        )
        from_place move (inr up) = same.beside false move up

        from_aside : (move : Move) → IsOldMove set added removed stands will few_going few_coming move ⊎ Moves true move → (path ≢ move.to) × (path ≢ move.from)
        from_aside move (inl old) = (
          λ e. old_outside path old.0 outside (e ∙ old.1),
          λ e. going_not_file set added removed stands will few_going few_coming move rock path bytes old kept same.old (sym e),
        )
        from_aside move (inr down) = same.beside true move down
