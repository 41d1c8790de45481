-- The table of rocks that are listed each once.
use Rattle.std.proofs.Common.{◌≡◌, ◌≢◌, zero, suc, List, [], ◌∷◌, ◌++◌, refl, sym, ap, ◌∙◌, subst, map, arith}
use Rattle.std.specs.Prelude.{Contains}
use Rattle.std.specs.List.{AllByRecursion}
use Rattle.std.specs.List.Sorted.{IsPermutation, IsStrictlySortedBy}
use Rattle.std.specs.declared.cmp.Ordering.TheVariants.{Less, Equal}
use Rattle.std.proofs.lemmas.Cmp.{tied_itself}
use Rattle.std.proofs.lemmas.List.Elements.{All-nil, All-cons}
use Rattle.std.proofs.lemmas.List.Sorted.{All-permutation, IsPermutation-append_right, IsPermutation-middle, IsPermutation-refl, IsPermutation-sym, IsPermutation-trans}
use Rattle.lua_value.specs.declared.key.Key.TheVariants.{Text}
use Rattle.lua_value.specs.Pairs.{Datum}
use Rattle.manifest_text.specs.declared.view.ViewRock.{ViewRock}
use Rattle.manifest_text.specs.Text.{with_rocks}
use Rattle.rocks_version.proofs.OrderLaws.{key_total}
use Rattle.rocks_version.specs.Keys.{listing_cmp}
use Rattle.rocks_version.specs.declared.key.RockKey.{RockKey}
use Rattle.tree_manifest.proofs.Added.{found_at, grown, rises_with, rock_more, KeysRise, Lacks}
use Rattle.tree_manifest.proofs.Grouped.{group_pairs, rocks_of, AreSome, Groups, Needs}

-- no two rocks have one key
abbrev AreApart : List ViewRock → Type 0
AreApart [] = Unit {0}
AreApart (rock ∷ rocks) = ((other : ViewRock) → Contains rocks other → rock.key ≢ other.key) × AreApart rocks

pub below_each : (key : RockKey) (rocks : List ViewRock)
    → AllByRecursion (λ other. listing_cmp key other ≡ Less) (map (λ rock. rock.key) rocks)
    → (other : ViewRock) → Contains rocks other → listing_cmp key other.key ≡ Less
below_each key [] all other has = let none = has.1 in absurd (omega arith)
below_each key (rock ∷ rocks) all other (zero, within, is) =
    subst (λ (r : ViewRock). listing_cmp key r.key ≡ Less) is all.0
below_each key (rock ∷ rocks) all other (suc k, within, is) = below_each key rocks all.1 other (k, omega arith, is)

apart_from : (rocks : List ViewRock) → IsStrictlySortedBy listing_cmp (map (λ rock. rock.key) rocks) → AreApart rocks
unfolding IsStrictlySortedBy
apart_from [] sorted = tt
apart_from (rock ∷ rocks) sorted = (
  λ other has same.
      let less = below_each rock.key rocks sorted.0 other has in
      let itself = tied_itself key_total other.key in
      let clash : Less ≡ Equal = sym less ∙ ap (λ (k : RockKey). listing_cmp k other.key) same ∙ itself in
      absurd (cc clash),
  apart_from rocks sorted.1,
)

module _ (value : Needs → Datum) where
  -- The table with further rocks is that of some groups, which have these rocks besides those that were there.
  pub record Filled (rocks : List ViewRock) (groups : Groups) : Type 0 where
    pub after : Groups
    pub pairs : with_rocks (λ rock. value rock.dependencies) rocks (group_pairs value groups) ≡ group_pairs value after
    pub same : IsPermutation (rocks ++ rocks_of groups) (rocks_of after)
    pub some : AreSome groups → AreSome after

  all_more : (rocks : List ViewRock) (groups : Groups) → KeysRise (group_pairs value groups) → AreApart rocks
      → ((rock : ViewRock) → Contains rocks rock → Lacks rock.key (rocks_of groups)) → Filled rocks groups
  all_more [] groups rise apart lack = record {
    after = groups;
    pairs = refl;
    same = IsPermutation-refl (rocks_of groups);
    some = λ all. all;
  }
  all_more (rock ∷ rocks) groups rise apart lack =
      let more = rock_more value rock groups rise (lack rock (0, omega arith, refl)) in
      let pairs = group_pairs value groups in
      let next = all_more rocks more.after
      (subst KeysRise more.pairs
      (rises_with (Text rock.key.name) (grown value rock (found_at value rock.key pairs)) pairs rise)) apart.1
      (λ other has. All-permutation (λ r. r.key ≢ other.key) (rock ∷ rocks_of groups) (rocks_of more.after) more.same
      (All-cons (λ r. r.key ≢ other.key) rock (rocks_of groups) (apart.0 other has)
      (lack other (suc has.0, let h = has.1 in omega arith, has.2)))) in
      let there = rocks_of groups in
      record {
        after = next.after;
        pairs = ap (with_rocks (λ r. value r.dependencies) rocks) more.pairs ∙ next.pairs;
        same =
            IsPermutation-trans (rock ∷ (rocks ++ there)) (rocks ++ rock ∷ there) (rocks_of next.after)
            (IsPermutation-sym (rocks ++ rock ∷ there) (rock ∷ (rocks ++ there)) (IsPermutation-middle rocks rock there))
            (IsPermutation-trans (rocks ++ rock ∷ there) (rocks ++ rocks_of more.after) (rocks_of next.after)
            (IsPermutation-append_right rocks (rock ∷ there) (rocks_of more.after) more.same) next.same);
        some = λ all. next.some (more.some all);
      }

  -- rocks that are listed each once
  pub filled : (rocks : List ViewRock) → IsStrictlySortedBy listing_cmp (map (λ rock. rock.key) rocks)
      → Filled rocks []
  filled rocks sorted = all_more rocks [] tt (apart_from rocks sorted) (λ rock has. All-nil (λ r. r.key ≢ rock.key))
