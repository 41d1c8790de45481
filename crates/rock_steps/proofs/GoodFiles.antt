-- The files of a build, and those of an unpacked rock's folder, are good.
use Rattle.std.proofs.Common.{◌≡◌, ◌≢◌, ℕ, List, None, IsTrue, sym, subst}
use Rattle.std.specs.List.{AllPairs, find}
use Rattle.lua_value.specs.Pairs.{Pairs}
use Rattle.rocks_text.specs.Texts.{is_name}
use Rattle.rocks_text.specs.declared.item.Item.{Item}
use Rattle.rocks_version.specs.Keys.{rockspec_name}
use Rattle.rocks_version.specs.Texts.{is_version}
use Rattle.rocks_outside.specs.Shelf.{IsFolderListing}
use Rattle.build_plan.specs.Plans.{HasPlan}
use Rattle.build_plan.specs.declared.plan.BuildPlan.TheVariants.{Build}
use Rattle.build_plan.specs.declared.recipe.Recipe.{Recipe}
use Rattle.rock_parts.specs.Parts.{item_made, own_made}
use Rattle.rock_record.specs.Made.{AreBesideBoth, AreItemsApart, ArePathsApart}
use Rattle.rock_steps.specs.Steps.{AreGood, build_steps, is_bad, taken, taken_steps}
use Rattle.rock_steps.proofs.BuiltFiles as built
use Rattle.rock_steps.proofs.BuiltParts.{built_items, built_own}
use Rattle.rock_steps.proofs.FirstParts.{rockspec_not_conf, rockspec_whole}
use Rattle.rock_steps.proofs.Made.{made_of_map}
use Rattle.rock_steps.proofs.TakenFiles as unpacked

pub built_are_good : (name version : List ℕ) (fields : Pairs) (recipe : Recipe) (folder : List ℕ) (listing : List (List ℕ))
    → IsTrue (is_name name) → IsTrue (is_version version) → HasPlan (rockspec_name name version) fields (Build recipe)
    → IsFolderListing folder listing → AreGood (rockspec_name name version) (build_steps recipe listing)
built_are_good name version fields recipe folder listing is_named is_versioned plan form =
    let rockspec = rockspec_name name version in
    let items = sym (built_items recipe listing) in
    let own = sym (built_own recipe listing) in
    record {
      items_differ = subst (λ (l : List Item). AllPairs (λ item other. item ≢ other) l) items (built.items_differ rockspec fields recipe plan);
      own_differ = subst (λ (l : List (List ℕ)). AllPairs (λ path other. path ≢ other) l) own (built.own_differ rockspec fields recipe plan folder listing form);
      items_apart = subst AreItemsApart items (built.items_apart rockspec fields recipe plan);
      own_apart = subst ArePathsApart own (built.own_apart rockspec fields recipe plan folder listing form);
      own_beside = subst (AreBesideBoth rockspec) own
          (built.own_beside rockspec fields recipe plan folder listing form (rockspec_whole name version is_named is_versioned) (rockspec_not_conf name version));
    }

pub taken_are_good : (rockspec folder : List ℕ) (listing : List (List ℕ))
    → IsFolderListing folder listing → find (is_bad rockspec) listing ≡ None → AreGood rockspec (taken_steps rockspec listing)
taken_are_good rockspec folder listing form none_bad =
    let items = sym (made_of_map item_made taken (unpacked.files rockspec listing)) in
    let own = sym (made_of_map own_made taken (unpacked.files rockspec listing)) in
    record {
      items_differ = subst (λ (l : List Item). AllPairs (λ item other. item ≢ other) l) items (unpacked.items_differ rockspec folder listing form);
      own_differ = subst (λ (l : List (List ℕ)). AllPairs (λ path other. path ≢ other) l) own (unpacked.own_differ rockspec folder listing form);
      items_apart = subst AreItemsApart items (unpacked.items_apart rockspec folder listing form);
      own_apart = subst ArePathsApart own (unpacked.own_apart rockspec folder listing form);
      own_beside = subst (AreBesideBoth rockspec) own (unpacked.own_beside rockspec folder listing form none_bad);
    }
