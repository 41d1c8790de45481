-- Rocks with one key and one text of their records have the same items and own paths.
use Rattle.std.proofs.Common.{◌≡◌, ◌≢◌, ℕ, true, false, not, cond, List, [], ◌∷◌, map, refl, sym, ap, ◌∙◌}
use Rattle.std.proofs.lemmas.Bool.{false_from_ne_true}
use Rattle.std.proofs.lemmas.List.Elements.{Contains-get_or}
use Rattle.std.proofs.lemmas.Slice.Eq.{bytes_eq-Decides}
use Rattle.std.specs.Prelude.{filter}
use Rattle.std.specs.List.{AllByRecursion, Contains}
use Rattle.std.specs.Ordering.{is_lt}
use Rattle.std.specs.Str.{bytes_eq}
use Rattle.rocks_text.specs.Files.{path_cmp}
use Rattle.rocks_version.specs.Keys.{rockspec_name}
use Rattle.rocks_version.specs.declared.key.RockKey.{RockKey}
use Rattle.rock_manifest.proofs.Again.{one_text}
use Rattle.rock_manifest.specs.Records.{IsRecord}
use Rattle.rock_manifest.specs.Text.{record_text}
use Rattle.rock_manifest.specs.declared.record.Record.{Record}
use Rattle.rock_record.proofs.RockRecords.{record_of_rock}
use Rattle.rock_record.specs.Made.{items_of, own_paths_of}
use Rattle.rock_record.specs.Rocks.{digested, put_in_order, record_of, IsInOrder}
use Rattle.rock_record.specs.declared.rock.Rock.{Rock}
use Rattle.tree_claims.proofs.Members.{map_contains}
use Rattle.tree_sets.proofs.Rows.{all_from}
use Rattle.tree_sets.proofs.SetKeys.{entry_in, paths_in}
use Rattle.tree_sets.specs.Sets.{CanStand}
use Rattle.tree_sets.specs.Trees.{File}

-- ---- the own files, without the rockspec among them

same_paths : {A : Type 0} (files : List (A × List ℕ)) → map (λ file. file.0) (digested files) ≡ map (λ file. file.0) files
same_paths [] = refl
same_paths (file ∷ files) = ap (λ l. file.0 ∷ l) (same_paths files)

-- the files with other paths
abbrev without : List ℕ → List File → List File
without path files = filter (λ file. not (bytes_eq file.0 path)) files

passed : (path other : List ℕ) → other ≢ path → not (bytes_eq other path) ≡ true
passed path other differs = ap not (false_from_ne_true (bytes_eq other path) (λ same. differs ((bytes_eq-Decides other path).0 same)))

stopped : (path : List ℕ) → not (bytes_eq path path) ≡ false
stopped path = ap not ((bytes_eq-Decides path path).1 refl)

without_none : (path : List ℕ) (files : List File) → AllByRecursion (λ file. file.0 ≢ path) files → without path files ≡ files
without_none path [] all = refl
without_none path (file ∷ files) all = rw (passed path file.0 all.0) (ap (λ l. file ∷ l) (without_none path files all.1))

-- a file that was put among others is taken out again
taken_out : (path bytes : List ℕ) (files : List File) → AllByRecursion (λ file. file.0 ≢ path) files → without path (put_in_order (path, bytes) files) ≡ files
taken_out path bytes [] all = rw (stopped path) refl
taken_out path bytes (file ∷ files) all =
    elim (is_lt (path_cmp file.0 path)) as (λ b. without path (cond b (file ∷ put_in_order (path, bytes) files) ((path, bytes) ∷ file ∷ files)) ≡ file ∷ files) [
      | true ↦ rw (passed path file.0 all.0) (ap (λ l. file ∷ l) (taken_out path bytes files all.1))
      | false ↦ rw (stopped path) (without_none path (file ∷ files) all)
    ]

digested_all : (P : List ℕ → Type 0) (files : List File) → AllByRecursion (λ file. P file.0) files → AllByRecursion (λ file. P file.0) (digested files)
digested_all P [] all = tt
digested_all P (file ∷ files) all = (all.0, digested_all P files all.1)

abbrev name_of : RockKey → List ℕ
name_of key = rockspec_name key.name key.version

own_without : (rock : Rock) → AllByRecursion (λ file. file.0 ≢ name_of rock.key) rock.own
    → map (λ file. file.0) (without (name_of rock.key) (record_of rock).own) ≡ own_paths_of rock
unfolding record_of
own_without rock apart =
    ap (λ (l : List File). map (λ file. file.0) l)
    (taken_out (name_of rock.key) _ (digested rock.own) (digested_all (λ path. path ≢ name_of rock.key) rock.own apart))
    ∙ same_paths rock.own

items_with : (rock : Rock) → map (λ file. file.0) (record_of rock).items ≡ items_of rock
unfolding record_of
items_with rock = same_paths rock.items

-- ---- the rocks of sets that can stand

module _ (set : List Rock) (stands : CanStand set) (rock : Rock) (among : Contains set rock) where
  own_is_apart : (file : File) → Contains rock.own file → file.0 ≢ name_of rock.key
  own_is_apart file has = ((entry_in set stands rock among).own_beside file.0 (map_contains (λ (f : File). f.0) rock.own file has)).1.0

  in_order : IsInOrder rock
  in_order = record {
    items = (entry_in set stands rock among).items;
    own = (entry_in set stands rock among).own;
    apart = λ k d within. own_is_apart _ (Contains-get_or rock.own k d within);
  }

  -- its record is a record
  pub record_is : IsRecord (record_of rock)
  record_is = record_of_rock rock (paths_in set stands rock among) in_order

  -- the own paths are those of its record but for the rockspec
  pub own_of_record : map (λ file. file.0) (without (name_of rock.key) (record_of rock).own) ≡ own_paths_of rock
  own_of_record = own_without rock (all_from (λ file. file.0 ≢ name_of rock.key) rock.own own_is_apart)

module _ (left right : List Rock) (stands : CanStand left) (too : CanStand right) (rock other : Rock)
    (among : Contains left rock) (there : Contains right other) (same : record_text (record_of rock) ≡ record_text (record_of other)) where
  one_record : record_of rock ≡ record_of other
  one_record = one_text (record_of rock) (record_of other) (record_is left stands rock among) (record_is right too other there) same

  pub one_items : items_of rock ≡ items_of other
  one_items = sym (items_with rock) ∙ ap (λ (whole : Record). map (λ file. file.0) whole.items) one_record ∙ items_with other

  pub one_own : rock.key ≡ other.key → own_paths_of rock ≡ own_paths_of other
  one_own key =
      sym (own_of_record left stands rock among)
      ∙ ap (λ (k : RockKey). map (λ file. file.0) (without (name_of k) (record_of rock).own)) key
      ∙ ap (λ (whole : Record). map (λ file. file.0) (without (name_of other.key) whole.own)) one_record
      ∙ own_of_record right too other there
