-- Which moves a change has.
use Rattle.std.proofs.Common.{◌≡◌, ℕ, ◌&&◌, Bool, true, false, not, List, [], ◌∷◌, ◌++◌, map, refl, sym, ap, subst, ◌∙◌, inl, inr, ⊎_elim}
use Rattle.std.specs.Prelude.{◌⊎◌, filter}
use Rattle.std.proofs.lemmas.Bool.{and_parts}
use Rattle.std.proofs.lemmas.List.{map-append}
use Rattle.std.proofs.lemmas.List.Elements.{Contains-append_cases, Contains-append_left, Contains-append_right}
use Rattle.std.specs.List.{flat_map, Contains}
use Rattle.rocks_text.specs.declared.item.Item.{Item}
use Rattle.rocks_version.specs.declared.key.RockKey.{RockKey}
use Rattle.rock_record.specs.Made.{items_of}
use Rattle.rock_record.specs.declared.rock.Rock.{Rock}
use Rattle.tree_claims.proofs.Members.{filter_contains, filter_from, flat_contains, flat_from, map_contains, map_from}
use Rattle.tree_model.specs.Held.{is_among, without}
use Rattle.tree_moves.specs.declared.lists.Move.{Move}
use Rattle.tree_paths.specs.Places.{own_path}
use Rattle.tree_sets.proofs.PathTies.{by_bool}
use Rattle.tree_sets.proofs.RockFiles.{manifest_at, rock_file_in}
use Rattle.tree_sets.proofs.SetKeys.{rocks_listed}
use Rattle.tree_sets.specs.Places.{place_of}
use Rattle.tree_sets.specs.Sets.{entries_of, entry_of, CanStand}
use Rattle.tree_sets.specs.Trees.{item_file, manifest_file, own_file, record_path, rock_files, rockspec_path, tree_files, File}
use Rattle.tree_sets.specs.declared.entry.IndexEntry.{IndexEntry}
use Rattle.tree_change.specs.Change.{changed_set, coming, demotion, demotions_of, entry_paths, going, is_holder, manifest_paths, promotion, promotions_of}
use Rattle.tree_change.proofs.Added.{added_apart, rocks_from, rocks_new, rocks_old}
use Rattle.tree_change.proofs.Holders.{holds, holds_not, IsForeign}

-- ---- the paths of a rock's files

mapped_twice : {X Y Z : Type 0} (f : X → Y) (g : Y → Z) (h : X → Z) → ((x : X) → g (f x) ≡ h x) → (xs : List X) → map g (map f xs) ≡ map h xs
mapped_twice f g h same [] = refl
mapped_twice f g h same (x ∷ xs) = λ i. same x i ∷ mapped_twice f g h same xs i

path_part : File → List ℕ
path_part file = file.0

pub paths_of_files : (among : List IndexEntry) (rock : Rock) → map (λ file. file.0) (rock_files among rock) ≡ entry_paths among (entry_of rock)
paths_of_files among rock =
    let own = map (own_file rock.key) rock.own in
    let items = map (item_file among rock.key) rock.items in
    let own_same : map (λ (f : File). f.0) own ≡ map (own_path rock.key) (map (λ (f : File). f.0) rock.own) =
    mapped_twice (own_file rock.key) (λ (f : File). f.0) (λ (f : File). own_path rock.key f.0) (λ f. refl) rock.own
    ∙ sym (mapped_twice (λ (f : File). f.0) (own_path rock.key) (λ (f : File). own_path rock.key f.0) (λ f. refl) rock.own) in
    let item_same : map (λ (f : File). f.0) items ≡ map (place_of among rock.key) (map (λ (f : Item × List ℕ). f.0) rock.items) =
    mapped_twice (item_file among rock.key) (λ (f : File). f.0) (λ (f : Item × List ℕ). place_of among rock.key f.0) (λ f. refl) rock.items
    ∙ sym (mapped_twice (λ (f : Item × List ℕ). f.0) (place_of among rock.key) (λ (f : Item × List ℕ). place_of among rock.key f.0) (λ f. refl) rock.items) in
    let both : map (λ (f : File). f.0) (own ++ items) ≡ map (own_path rock.key) (map (λ (f : File). f.0) rock.own) ++ map (place_of among rock.key) (map (λ (f : Item × List ℕ). f.0) rock.items) =
    map-append (λ (f : File). f.0) own items ∙ (λ i. own_same i ++ item_same i) in
    λ i. rockspec_path rock.key ∷ record_path rock.key ∷ both i

path_from : (files : List File) (path : List ℕ) → Contains (map (λ file. file.0) files) path → (bytes : List ℕ) × Contains files (path, bytes)
path_from files path has =
    let found = map_from (λ (f : File). f.0) files path has in
    let is : (found.0.0, found.0.1) ≡ (path, found.0.1) = λ i. (sym found.2 i, found.0.1) in
    (found.0.1, subst (λ (f : File). Contains files f) is found.1)

pub paths_of_manifest : (entries : List IndexEntry) → map (λ file. file.0) (manifest_file entries) ≡ manifest_paths entries
paths_of_manifest [] = refl
paths_of_manifest (entry ∷ entries) = refl

module _ (set added : List Rock) (removed : List RockKey) (stands : CanStand set) (will : CanStand (changed_set added removed set)) where
  abbrev pub left : List Rock
  left = filter (λ rock. not (is_among removed rock.key)) set

  abbrev pub next : List Rock
  next = changed_set added removed set

  abbrev pub before : List IndexEntry
  before = entries_of set

  abbrev pub after : List IndexEntry
  after = entries_of (changed_set added removed set)

  -- ---- what is kept

  -- a rock of both sets
  pub record IsKept (rock : Rock) : Type 0 where
    pub in_old : Contains set rock
    pub in_next : Contains next rock
    pub in_left : Contains left rock
    pub stays : is_among removed rock.key ≡ false

  not_true : (b : Bool) → not b ≡ true → b ≡ false
  not_true true h = cc
  not_true false h = refl

  true_not_false : (b : Bool) → b ≡ true → b ≡ false → ⊥
  true_not_false b h g = let clash = sym h ∙ g in cc clash

  pub kept_from : (rock : Rock) → Contains left rock → IsKept rock
  kept_from rock has =
      let found = filter_from (λ (r : Rock). not (is_among removed r.key)) set rock has in
      record { in_old = found.0; in_next = rocks_old added left rock has; in_left = has; stays = not_true (is_among removed rock.key) found.1 }

  pub kept_with : (rock : Rock) → Contains set rock → is_among removed rock.key ≡ false → IsKept rock
  kept_with rock has stays = kept_from rock (filter_contains (λ (r : Rock). not (is_among removed r.key)) set rock has (ap not stays))

  kept_entry : (entry : IndexEntry) → Contains (without removed before) entry → (rock : Rock) × IsKept rock × (entry ≡ entry_of rock)
  kept_entry entry has =
      let found = filter_from (λ (e : IndexEntry). not (is_among removed e.key)) before entry has in
      let old = map_from entry_of set entry found.0 in
      let stays = not_true (is_among removed entry.key) found.1 in
      (old.0, kept_with old.0 old.1 (subst (λ (e : IndexEntry). is_among removed e.key ≡ false) old.2 stays), old.2)

  entry_kept : (rock : Rock) → IsKept rock → Contains (without removed before) (entry_of rock)
  entry_kept rock kept =
      filter_contains (λ (e : IndexEntry). not (is_among removed e.key)) before (entry_of rock) (map_contains entry_of set rock kept.in_old) (ap not kept.stays)

  -- ---- what goes

  -- a file of a removed rock, or the manifest
  abbrev pub IsGoing : List ℕ → Type 0
  IsGoing path =
      ((rock : Rock) × Contains set rock × (is_among removed rock.key ≡ true) × ((bytes : List ℕ) × Contains (rock_files before rock) (path, bytes)))
      ⊎ ((bytes : List ℕ) × Contains (manifest_file before) (path, bytes))

  pub going_from : (path : List ℕ) → Contains (going removed before) path → IsGoing path
  going_from path has =
      ⊎_elim
      (λ rocks.
      let found = flat_from (entry_paths before) (filter (λ (e : IndexEntry). is_among removed e.key) before) path rocks in
      let passed = filter_from (λ (e : IndexEntry). is_among removed e.key) before found.0 found.1 in
      let old = map_from entry_of set found.0 passed.0 in
      let paths : Contains (entry_paths before (entry_of old.0)) path = subst (λ (e : IndexEntry). Contains (entry_paths before e) path) old.2 found.2 in
      let goes : is_among removed old.0.key ≡ true = subst (λ (e : IndexEntry). is_among removed e.key ≡ true) old.2 passed.1 in
      inl (old.0, old.1, goes, path_from (rock_files before old.0) path (subst (λ (l : List (List ℕ)). Contains l path) (sym (paths_of_files before old.0)) paths)))
      (λ at. inr (path_from (manifest_file before) path (subst (λ (l : List (List ℕ)). Contains l path) (sym (paths_of_manifest before)) at)))
      (Contains-append_cases (flat_map (entry_paths before) (filter (λ (e : IndexEntry). is_among removed e.key) before)) (manifest_paths before) path has)

  pub going_with : (path : List ℕ) → IsGoing path → Contains (going removed before) path
  going_with path (inl (rock, among, goes, (bytes, has))) =
      let chosen = filter (λ (e : IndexEntry). is_among removed e.key) before in
      let paths = subst (λ (l : List (List ℕ)). Contains l path) (paths_of_files before rock) (map_contains (λ (f : File). f.0) (rock_files before rock) (path, bytes) has) in
      Contains-append_left (flat_map (entry_paths before) chosen) (manifest_paths before) path
      (flat_contains (entry_paths before) chosen (entry_of rock) path
      (filter_contains (λ (e : IndexEntry). is_among removed e.key) before (entry_of rock) (map_contains entry_of set rock among) goes) paths)
  going_with path (inr (bytes, has)) =
      Contains-append_right (flat_map (entry_paths before) (filter (λ (e : IndexEntry). is_among removed e.key) before)) (manifest_paths before) path
      (subst (λ (l : List (List ℕ)). Contains l path) (paths_of_manifest before) (map_contains (λ (f : File). f.0) (manifest_file before) (path, bytes) has))

  -- it is a file of the old tree
  pub going_file : (path : List ℕ) → IsGoing path → (bytes : List ℕ) × Contains (tree_files set) (path, bytes)
  going_file path (inl (rock, among, goes, (bytes, has))) = (bytes, rock_file_in set rock (path, bytes) among has)
  going_file path (inr (bytes, has)) = (bytes, Contains-append_right (flat_map (rock_files before) set) (manifest_file before) (path, bytes) has)

  pub going_foreign : (path : List ℕ) (rock : Rock) → IsKept rock → IsGoing path → IsForeign set rock.key path
  going_foreign path rock kept (inl (other, among, goes, (bytes, has))) =
      inl (other, among, (λ same. true_not_false (is_among removed other.key) goes (subst (λ (k : RockKey). is_among removed k ≡ false) (sym same) kept.stays)), (bytes, has))
  going_foreign path rock kept (inr (bytes, has)) = inr (manifest_at before (path, bytes) has)

  -- ---- what comes

  -- a file of an added rock, or the manifest
  abbrev pub IsComing : File → Type 0
  IsComing file = ((rock : Rock) × Contains added rock × Contains (rock_files after rock) file) ⊎ Contains (manifest_file after) file

  pub coming_from : (file : File) → Contains (coming added after) file → IsComing file
  coming_from file has =
      ⊎_elim (λ rocks. inl (flat_from (rock_files after) added file rocks)) inr
      (Contains-append_cases (flat_map (rock_files after) added) (manifest_file after) file has)

  pub coming_with : (file : File) → IsComing file → Contains (coming added after) file
  coming_with file (inl (rock, among, has)) = Contains-append_left (flat_map (rock_files after) added) (manifest_file after) file (flat_contains (rock_files after) added rock file among has)
  coming_with file (inr has) = Contains-append_right (flat_map (rock_files after) added) (manifest_file after) file has

  -- it is a file of the new tree
  pub coming_file : (file : File) → IsComing file → Contains (tree_files next) file
  coming_file file (inl (rock, among, has)) = rock_file_in next rock file (rocks_new added left rock among) has
  coming_file file (inr has) = Contains-append_right (flat_map (rock_files after) next) (manifest_file after) file has

  pub coming_foreign : (path bytes : List ℕ) (rock : Rock) → IsKept rock → IsComing (path, bytes) → IsForeign next rock.key path
  coming_foreign path bytes rock kept (inl (other, among, has)) =
      inl (other, rocks_new added left other among, added_apart added left (rocks_listed next will.index.listed) other rock among kept.in_left, (bytes, has))
  coming_foreign path bytes rock kept (inr has) = inr (manifest_at after (path, bytes) has)

  -- each file of the new tree comes, or is a kept rock's
  pub new_file : (file : File) → Contains (tree_files next) file → IsComing file ⊎ ((rock : Rock) × IsKept rock × Contains (rock_files after rock) file)
  new_file file has =
      ⊎_elim
      (λ rocks.
      let found = flat_from (rock_files after) next file rocks in
      ⊎_elim (λ new. inl (inl (found.0, new, found.2))) (λ old. inr (found.0, kept_from found.0 old, found.2)) (rocks_from added left found.0 found.1))
      (λ at. inl (inr at))
      (Contains-append_cases (flat_map (rock_files after) next) (manifest_file after) file has)

  -- each file of the old tree goes, or is a kept rock's
  pub old_file : (path bytes : List ℕ) → Contains (tree_files set) (path, bytes)
      → IsGoing path ⊎ ((rock : Rock) × IsKept rock × Contains (rock_files before rock) (path, bytes))
  old_file path bytes has =
      ⊎_elim
      (λ rocks.
      let found = flat_from (rock_files before) set (path, bytes) rocks in
      by_bool (is_among removed found.0.key) (λ goes. inl (inl (found.0, found.1, goes, (bytes, found.2)))) (λ stays. inr (found.0, kept_with found.0 found.1 stays, found.2)))
      (λ at. inl (inr (bytes, at)))
      (Contains-append_cases (flat_map (rock_files before) set) (manifest_file before) (path, bytes) has)

  -- ---- what holds another path

  -- An item of a kept rock goes from its old place to its new one: `was` says that it held the plain path, and then it has to
  -- leave it, or else comes to hold it.
  pub record IsShift (was : Bool) (move : Move) : Type 0 where
    pub rock : Rock
    pub kept : IsKept rock
    pub item : Item × List ℕ
    pub among : Contains rock.items item
    pub held : is_holder before rock.key item.0 ≡ was
    pub will_hold : is_holder after rock.key item.0 ≡ not was
    pub is : move ≡ record { from = place_of before rock.key item.0; to = place_of after rock.key item.0 }

  demotion_is : (key : RockKey) (item : Item) → is_holder before key item ≡ true → is_holder after key item ≡ false
      → demotion key item ≡ record { from = place_of before key item; to = place_of after key item }
  demotion_is key item held lost i = record { from = sym (holds before key item held) i; to = sym (holds_not after key item lost) i }

  promotion_is : (key : RockKey) (item : Item) → is_holder before key item ≡ false → is_holder after key item ≡ true
      → promotion key item ≡ record { from = place_of before key item; to = place_of after key item }
  promotion_is key item held gained i = record { from = sym (holds_not before key item held) i; to = sym (holds after key item gained) i }

  abbrev demoted : IndexEntry → Item → Bool
  demoted entry item = is_holder before entry.key item && not (is_holder after entry.key item)

  abbrev promoted : IndexEntry → Item → Bool
  promoted entry item = not (is_holder before entry.key item) && is_holder after entry.key item

  demotion_of_rock : (rock : Rock) → IsKept rock → (move : Move) → Contains (demotions_of before after (entry_of rock)) move → IsShift true move
  demotion_of_rock rock kept move has =
      let found = map_from (demotion rock.key) (filter (demoted (entry_of rock)) (items_of rock)) move has in
      let passed = filter_from (demoted (entry_of rock)) (items_of rock) found.0 found.1 in
      let file = map_from (λ (f : Item × List ℕ). f.0) rock.items found.0 passed.0 in
      let tests = and_parts (is_holder before rock.key found.0) (not (is_holder after rock.key found.0)) passed.1 in
      let lost = not_true (is_holder after rock.key found.0) tests.1 in
      record {
        rock = rock;
        kept = kept;
        item = file.0;
        among = file.1;
        held = subst (λ (i : Item). is_holder before rock.key i ≡ true) file.2 tests.0;
        will_hold = subst (λ (i : Item). is_holder after rock.key i ≡ false) file.2 lost;
        is = subst (λ (i : Item). move ≡ record { from = place_of before rock.key i; to = place_of after rock.key i }) file.2
            (found.2 ∙ demotion_is rock.key found.0 tests.0 lost);
      }

  promotion_of_rock : (rock : Rock) → IsKept rock → (move : Move) → Contains (promotions_of before after (entry_of rock)) move → IsShift false move
  promotion_of_rock rock kept move has =
      let found = map_from (promotion rock.key) (filter (promoted (entry_of rock)) (items_of rock)) move has in
      let passed = filter_from (promoted (entry_of rock)) (items_of rock) found.0 found.1 in
      let file = map_from (λ (f : Item × List ℕ). f.0) rock.items found.0 passed.0 in
      let tests = and_parts (not (is_holder before rock.key found.0)) (is_holder after rock.key found.0) passed.1 in
      let held = not_true (is_holder before rock.key found.0) tests.0 in
      record {
        rock = rock;
        kept = kept;
        item = file.0;
        among = file.1;
        held = subst (λ (i : Item). is_holder before rock.key i ≡ false) file.2 held;
        will_hold = subst (λ (i : Item). is_holder after rock.key i ≡ true) file.2 tests.1;
        is = subst (λ (i : Item). move ≡ record { from = place_of before rock.key i; to = place_of after rock.key i }) file.2
            (found.2 ∙ promotion_is rock.key found.0 held tests.1);
      }

  pub demotion_from : (move : Move) → Contains (flat_map (demotions_of before after) (without removed before)) move → IsShift true move
  demotion_from move has =
      let found = flat_from (demotions_of before after) (without removed before) move has in
      let rock = kept_entry found.0 found.1 in
      demotion_of_rock rock.0 rock.1 move (subst (λ (e : IndexEntry). Contains (demotions_of before after e) move) rock.2 found.2)

  pub promotion_from : (move : Move) → Contains (flat_map (promotions_of before after) (without removed before)) move → IsShift false move
  promotion_from move has =
      let found = flat_from (promotions_of before after) (without removed before) move has in
      let rock = kept_entry found.0 found.1 in
      promotion_of_rock rock.0 rock.1 move (subst (λ (e : IndexEntry). Contains (promotions_of before after e) move) rock.2 found.2)

  both_and : (a b : Bool) → a ≡ true → b ≡ true → (a && b) ≡ true
  both_and a b h g = rw (h, g) refl

  pub demotion_with : (move : Move) → IsShift true move → Contains (flat_map (demotions_of before after) (without removed before)) move
  demotion_with move shift =
      let rock = shift.rock in
      let item = shift.item.0 in
      let has : Contains (items_of rock) item = map_contains (λ (f : Item × List ℕ). f.0) rock.items shift.item shift.among in
      let test = both_and (is_holder before rock.key item) (not (is_holder after rock.key item)) shift.held (ap not shift.will_hold) in
      subst (λ (m : Move). Contains (flat_map (demotions_of before after) (without removed before)) m)
      (demotion_is rock.key item shift.held shift.will_hold ∙ sym shift.is)
      (flat_contains (demotions_of before after) (without removed before) (entry_of rock) (demotion rock.key item) (entry_kept rock shift.kept)
      (map_contains (demotion rock.key) (filter (demoted (entry_of rock)) (items_of rock)) item (filter_contains (demoted (entry_of rock)) (items_of rock) item has test)))

  pub promotion_with : (move : Move) → IsShift false move → Contains (flat_map (promotions_of before after) (without removed before)) move
  promotion_with move shift =
      let rock = shift.rock in
      let item = shift.item.0 in
      let has : Contains (items_of rock) item = map_contains (λ (f : Item × List ℕ). f.0) rock.items shift.item shift.among in
      let test = both_and (not (is_holder before rock.key item)) (is_holder after rock.key item) (ap not shift.held) shift.will_hold in
      subst (λ (m : Move). Contains (flat_map (promotions_of before after) (without removed before)) m)
      (promotion_is rock.key item shift.held shift.will_hold ∙ sym shift.is)
      (flat_contains (promotions_of before after) (without removed before) (entry_of rock) (promotion rock.key item) (entry_kept rock shift.kept)
      (map_contains (promotion rock.key) (filter (promoted (entry_of rock)) (items_of rock)) item (filter_contains (promoted (entry_of rock)) (items_of rock) item has test)))
