-- What the rockspec of a rock says of its build.
use Rattle.std.proofs.Common.{◌≡◌, ℕ, List, subst, IsTrue}
use Rattle.lua_value.specs.Pairs.{Pairs}
use Rattle.rocks_outside.specs.Shelf.{IsFolderListing}
use Rattle.rocks_version.specs.Keys.{rockspec_name}
use Rattle.build_plan.specs.Plans.{HasPlan}
use Rattle.build_plan.specs.declared.plan.BuildPlan.TheVariants.{Build}
use Rattle.build_plan.specs.declared.recipe.Recipe.{Recipe}
use Rattle.rocks_text.specs.Texts.{is_name}
use Rattle.rocks_version.specs.Texts.{is_version}
use Rattle.rockspec.specs.Specs.{IsSpec}
use Rattle.rockspec.specs.declared.read.Rockspec.{Rockspec}
use Rattle.rock_steps.specs.Steps.{build_steps, AreGood}
use Rattle.rock_steps.proofs.GoodFiles.{built_are_good}
use Rattle.rock_build.specs.Contents.{rockspec_of}

module _ (spec : Rockspec) (bytes : List ℕ) (recipe : Recipe) (is : IsSpec bytes spec) (plan : spec.plan ≡ Build recipe) where
  planned : HasPlan (rockspec_name spec.key.name spec.key.version) is.fields (Build recipe)
  planned = subst (HasPlan (rockspec_name spec.key.name spec.key.version) is.fields) plan is.says.plan

  pub has_plan : (rockspec : List ℕ) × (fields : Pairs) × HasPlan rockspec fields (Build recipe)
  has_plan = (rockspec_name spec.key.name spec.key.version, is.fields, planned)

  pub built_good : IsTrue (is_name spec.key.name) → IsTrue (is_version spec.key.version) → (folder : List ℕ) (listing : List (List ℕ)) → IsFolderListing folder listing → AreGood (rockspec_of spec.key) (build_steps recipe listing)
  built_good is_named is_versioned folder listing form = built_are_good spec.key.name spec.key.version is.fields recipe folder listing is_named is_versioned planned form
