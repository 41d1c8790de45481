-- Equal trees come from equal sets alone.
use Rattle.std.proofs.Common.{◌≡◌, ℕ, List, map, Some, sym, ap, subst, ◌∙◌}
use Rattle.std.proofs.lemmas.List.Elements.{All-contains}
use Rattle.std.specs.Prelude.{Ok, Result}
use Rattle.std.specs.FinMap.{get}
use Rattle.std.specs.List.{Contains}
use Rattle.rocks_text.specs.Files.{Files}
use Rattle.rocks_version.proofs.OrderLaws.{key_total}
use Rattle.rocks_version.specs.Keys.{listing_cmp}
use Rattle.rocks_version.specs.declared.key.RockKey.{RockKey}
use Rattle.rock_build.specs.Contents.{IsWellMade}
use Rattle.rock_manifest.specs.Text.{record_text}
use Rattle.rock_record.specs.Rocks.{record_of}
use Rattle.rock_record.specs.declared.rock.Rock.{Rock}
use Rattle.rockspec.proofs.One.{one_spec}
use Rattle.rockspec.specs.Specs.{IsSpec}
use Rattle.rockspec.specs.declared.fault.SpecFault.{SpecFault}
use Rattle.rockspec.specs.declared.read.Rockspec.{Rockspec}
use Rattle.tree_claims.proofs.Members.{map_contains, map_from}
use Rattle.tree_paths.specs.Places.{own_path}
use Rattle.tree_sets.proofs.RecordsRead.{one_items, one_own}
use Rattle.tree_sets.proofs.SetKeys.{rocks_listed, slashless_in}
use Rattle.tree_sets.proofs.SortedLists.{same_lists}
use Rattle.tree_sets.proofs.Standing.{item_stands, own_stands, record_stands, rockspec_stands, which_record}
use Rattle.tree_sets.specs.Places.{place_of}
use Rattle.tree_sets.specs.Sets.{entry_of, entries_of, CanStand}
use Rattle.tree_sets.specs.Trees.{record_path, rockspec_path, tree_of}
use Rattle.tree_sets.specs.declared.entry.IndexEntry.{IndexEntry}
use Rattle.valid_sets.proofs.SameParts.{same_files, same_lists_by, same_mapped}
use Rattle.valid_sets.specs.Valid.{IsValid}

abbrev keys_of : List Rock → List RockKey
keys_of set = map (λ rock. rock.key) set

some_bytes : (left right : List ℕ) → Some left ≡ Some right → left ≡ right
some_bytes left right same = cc

ok_same : (left right : Rockspec) → ◌≡◌ {A = Result Rockspec SpecFault} (Ok left) (Ok right) → left ≡ right
ok_same left right same = cc

-- rocks with one rockspec, well made, have the same dependencies
same_dependencies : (rock other : Rock) → IsWellMade rock → IsWellMade other → rock.rockspec ≡ other.rockspec → rock.dependencies ≡ other.dependencies
same_dependencies rock other made too same =
    let read : IsSpec other.rockspec made.spec = subst (λ (bytes : List ℕ). IsSpec bytes made.spec) same made.is in
    let spec = ok_same made.spec too.spec (one_spec other.rockspec (Ok made.spec) (Ok too.spec) read too.is) in
    made.dependencies ∙ ap (λ (s : Rockspec). s.dependencies) spec ∙ sym too.dependencies

-- each rock of one set has its record in the tree of the other, and so its key among the other's
has_key : (left right : List Rock) → CanStand left → CanStand right → tree_of left ≡ tree_of right
    → (key : RockKey) → Contains (keys_of left) key → Contains (keys_of right) key
has_key left right stands too same key among =
    let found = map_from (λ (rock : Rock). rock.key) left key among in
    let rock = found.0 in
    let there : get (tree_of right) (record_path rock.key) ≡ Some (record_text (record_of rock)) =
    ap (λ (files : Files). get files (record_path rock.key)) (sym same) ∙ record_stands left stands rock found.1 in
    let other = which_record right too rock.key (record_text (record_of rock)) (slashless_in left stands rock found.1) there in
    subst (λ (k : RockKey). Contains (keys_of right) k) (other.2 ∙ sym found.2) (map_contains (λ (r : Rock). r.key) right other.0 other.1)

same_keys : (left right : List Rock) → CanStand left → CanStand right → tree_of left ≡ tree_of right → keys_of left ≡ keys_of right
same_keys left right stands too same =
    same_lists listing_cmp key_total (keys_of left) (keys_of right)
    (rocks_listed left stands.index.listed) (rocks_listed right too.index.listed)
    (has_key left right stands too same) (has_key right left too stands (sym same))

module _ (left right : List Rock) (valid : IsValid left) (also : IsValid right) (same : tree_of left ≡ tree_of right) where
  -- one path has the same bytes in both trees
  alike : (path other bytes more : List ℕ) → path ≡ other → get (tree_of left) path ≡ Some bytes → get (tree_of right) other ≡ Some more → bytes ≡ more
  alike path other bytes more one here there =
      some_bytes bytes more (sym here ∙ ap (λ (files : Files). get files path) same ∙ ap (get (tree_of right)) one ∙ there)

  module _ (rock other : Rock) (among : Contains left rock) (there : Contains right other) (key : rock.key ≡ other.key) where
    same_rockspecs : rock.rockspec ≡ other.rockspec
    same_rockspecs =
        alike (rockspec_path rock.key) (rockspec_path other.key) rock.rockspec other.rockspec (ap rockspec_path key)
        (rockspec_stands left valid.stands rock among) (rockspec_stands right also.stands other there)

    same_records : record_text (record_of rock) ≡ record_text (record_of other)
    same_records =
        alike (record_path rock.key) (record_path other.key) (record_text (record_of rock)) (record_text (record_of other)) (ap record_path key)
        (record_stands left valid.stands rock among) (record_stands right also.stands other there)

    needs : rock.dependencies ≡ other.dependencies
    needs =
        same_dependencies rock other (All-contains IsWellMade left rock valid.made among) (All-contains IsWellMade right other also.made there) same_rockspecs

    same_entry : entry_of rock ≡ entry_of other
    same_entry =
        let dependencies = needs in
        let items = one_items left right valid.stands also.stands rock other among there same_records in
        let own = one_own left right valid.stands also.stands rock other among there same_records key in
        λ i. record { key = key i; dependencies = dependencies i; items = items i; own = own i }

  same_entries : entries_of left ≡ entries_of right
  same_entries =
      same_mapped entry_of (λ (rock : Rock). rock.key) left right (same_keys left right valid.stands also.stands same)
      (λ rock other among there key. same_entry rock other among there key)

  module _ (rock other : Rock) (among : Contains left rock) (there : Contains right other) (key : rock.key ≡ other.key) where
    same_own : rock.own ≡ other.own
    same_own =
        same_files rock.own other.own (λ path. get (tree_of left) (own_path rock.key path)) (one_own left right valid.stands also.stands rock other among there (same_records rock other among there key) key)
        (λ file has. own_stands left valid.stands rock file among has)
        (λ file has. ap (λ (files : Files). get files (own_path rock.key file.0)) same ∙ ap (λ (k : RockKey). get (tree_of right) (own_path k file.0)) key
        ∙ own_stands right also.stands other file there has)

    same_items : rock.items ≡ other.items
    same_items =
        same_files rock.items other.items (λ item. get (tree_of left) (place_of (entries_of left) rock.key item))
        (one_items left right valid.stands also.stands rock other among there (same_records rock other among there key))
        (λ file has. item_stands left valid.stands rock file among has)
        (λ file has. ap (λ (files : Files). get files (place_of (entries_of left) rock.key file.0)) same
        ∙ ap (λ (entries : List IndexEntry). get (tree_of right) (place_of entries rock.key file.0)) same_entries
        ∙ ap (λ (k : RockKey). get (tree_of right) (place_of (entries_of right) k file.0)) key
        ∙ item_stands right also.stands other file there has)

    same_rock : rock ≡ other
    same_rock =
        let dependencies = needs rock other among there key in
        let rockspec = same_rockspecs rock other among there key in
        let items = same_items in
        let own = same_own in
        λ i. record { key = key i; dependencies = dependencies i; rockspec = rockspec i; items = items i; own = own i }

  pub one_set : left ≡ right
  one_set =
      same_lists_by (λ (rock : Rock). rock.key) left right (same_keys left right valid.stands also.stands same)
      (λ rock other among there key. same_rock rock other among there key)
