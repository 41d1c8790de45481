-- The table that is printed for a record is ordered.
use Rattle.std.proofs.Common.{◌≡◌, ℕ, List, [], ◌∷◌, refl, ap, ◌∙◌, sym, true, map, Ordering}
use Rattle.std.specs.List.{AllByRecursion, filter}
use Rattle.std.specs.List.Sorted.{IsStrictlySortedBy}
use Rattle.std.specs.Ordering.{nat_cmp, ordering_then}
use Rattle.std.specs.declared.cmp.Ordering.TheVariants.{Less}
use Rattle.std.proofs.lemmas.Bool.{cond_both, eqb-true}
use Rattle.std.proofs.lemmas.Cmp.{nat_cmp_total, tied_itself}
use Rattle.lua_names.specs.Keywords.{keyword_of}
use Rattle.lua_value.specs.Ordered.{IsBeforeAll, IsOrdered}
use Rattle.lua_value.specs.Pairs.{keys}
use Rattle.lua_value.specs.declared.key.Key.TheVariants.{Text}
use Rattle.lua_print.specs.Printed.{HasNames}
use Rattle.rocks_text.specs.Files.{path_cmp}
use Rattle.rocks_text.specs.Items.{item_cmp, rank_of}
use Rattle.rocks_text.specs.declared.item.Item.{Item}
use Rattle.rocks_text.specs.declared.item.Kind.{Kind}
use Rattle.rocks_text.specs.declared.item.Kind.TheVariants.{Lua, Lib, Bin}
use Rattle.rock_manifest.specs.declared.record.Record.{Record}
use Rattle.rock_manifest.specs.Records.{AreItemsInOrder, ArePathsInOrder, IsRecord}
use Rattle.rock_manifest.specs.Text.{file_pairs, is_kind, of_kind, record_pairs}
use Rattle.rock_manifest.proofs.Spelling.{Files}

abbrev Items : Type 0
Items = List (Item × List ℕ)

-- items of one kind go by their paths
path_order : (x y : ℕ) (o : Ordering) → x ≡ y → ordering_then (nat_cmp x y) o ≡ Less → o ≡ Less
path_order x y o same less = sym
    (ap (λ p. ordering_then p o) (ap (λ n. nat_cmp n y) same ∙ tied_itself nat_cmp_total y)) ∙ less

same_kind_order : (kind : Kind) (item other : Item) → is_kind item.kind kind ≡ true → is_kind other.kind kind ≡ true
    → item_cmp item other ≡ Less → path_cmp item.path other.path ≡ Less
same_kind_order kind item other is alike less =
    path_order (rank_of item.kind) (rank_of other.kind) (path_cmp item.path other.path) (eqb-true _ _ is
    ∙ sym (eqb-true _ _ alike)) less

before_those : (kind : Kind) (item : Item) (items : Items) → is_kind item.kind kind ≡ true
    → AllByRecursion (λ other. item_cmp item other ≡ Less) (map (λ f. f.0) items)
    → AllByRecursion (λ other. path_cmp item.path other ≡ Less) (map (λ f. f.0) (of_kind kind items))
before_those kind item [] is all = tt
before_those kind item (file ∷ items) is all =
    cond_both (is_kind file.0.kind kind) (file ∷ filter (λ f. is_kind f.0.kind kind) items)
    (filter (λ f. is_kind f.0.kind kind) items)
    (λ (l : Items). AllByRecursion (λ other. path_cmp item.path other ≡ Less)
    (map (λ (f : List ℕ × List ℕ). f.0) (map (λ (f : Item × List ℕ). (f.0.path, f.1)) l)))
    (λ alike. (same_kind_order kind item file.0 is alike all.0, before_those kind item items is all.1))
    (λ _. before_those kind item items is all.1)

kind_in_order : (kind : Kind) (items : Items) → AreItemsInOrder items → ArePathsInOrder (of_kind kind items)
unfolding IsStrictlySortedBy
kind_in_order kind [] sorted = tt
kind_in_order kind (file ∷ items) sorted =
    cond_both (is_kind file.0.kind kind) (file ∷ filter (λ f. is_kind f.0.kind kind) items)
    (filter (λ f. is_kind f.0.kind kind) items)
    (λ (l : Items). ArePathsInOrder (map (λ (f : Item × List ℕ). (f.0.path, f.1)) l))
    (λ is. (before_those kind file.0 items is sorted.0, kind_in_order kind items sorted.1))
    (λ _. kind_in_order kind items sorted.1)

before_keys : (path : List ℕ) (files : Files)
    → AllByRecursion (λ other. path_cmp path other ≡ Less) (map (λ f. f.0) files)
    → IsBeforeAll (Text path) (keys (file_pairs files))
before_keys path [] all = tt
before_keys path (file ∷ files) all = (all.0, before_keys path files all.1)

pairs_ordered : (files : Files) → ArePathsInOrder files → IsOrdered (file_pairs files)
unfolding IsStrictlySortedBy
pairs_ordered [] sorted = tt
pairs_ordered (file ∷ files) sorted =
    (before_keys file.0 files sorted.0, tt, λ e. cc e, tt, pairs_ordered files sorted.1)

named : (whole : Record) → HasNames (record_pairs whole)
unfolding keyword_of
named whole = (refl, (refl, (refl, (refl, tt))))

-- the table of a record is ordered, and its globals have names
pub record_table : (whole : Record) → IsRecord whole → IsOrdered (record_pairs whole) × HasNames (record_pairs whole)
record_table whole is =
    let kind = λ (k : Kind). pairs_ordered (of_kind k whole.items) (kind_in_order k whole.items is.items) in
    let one : (Less ≡ Less) × Unit {0} = (refl, tt) in
    let two : (Less ≡ Less) × ((Less ≡ Less) × Unit {0}) = (refl, one) in (
      (
        (refl, two),
        tt,
        λ e. cc e,
        kind Bin,
        (
          two,
          tt,
          λ e. cc e,
          kind Lib,
          (
            one,
            tt,
            λ e. cc e,
            kind Lua,
            (tt, tt, λ e. cc e, pairs_ordered whole.own is.own, tt),
          ),
        ),
      ),
      named whole,
    )
