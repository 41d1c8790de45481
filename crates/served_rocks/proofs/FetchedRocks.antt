-- From what was made of a rockspec to which rock is fetched, or why none.
use Rattle.std.proofs.Common.{◌≡◌, ℕ, List, Option, None, Some, IfSome, refl, sym, ap, ◌∙◌, subst, inl, inr, Ok, Err}
use Rattle.std.specs.Prelude.{IfErr, IfOk, Result}
use Rattle.rocks_text.specs.Files.{Files}
use Rattle.rocks_outside.specs.Shelf.{ShelfState}
use Rattle.rocks_version.specs.declared.key.RockKey.{RockKey}
use Rattle.build_plan.specs.declared.plan.BuildPlan.TheVariants as plans
use Rattle.build_plan.specs.declared.recipe.Recipe.{Recipe}
use Rattle.rock_build.specs.Contents.{IsAnswer, IsContents, IsContentsOn, IsUnpacked, IsUnpackedOn, Makes}
use Rattle.rock_files.specs.declared.fault.BuildFault.{BuildFault}
use Rattle.rock_files.specs.declared.fault.BuildFault.TheVariants as faults
use Rattle.rock_record.specs.declared.rock.Rock.{Rock}
use Rattle.rocks_reply.specs.declared.reply.Refusal.{Refusal}
use Rattle.served_rocks.specs.Fetched.{IsFetched, IsFetchedBy, IsMade, IsNoRock, IsPlanned, IsRock}
use Rattle.served_rocks.specs.Making.{IsBuiltOf, IsOfFiles, IsUnplanned}
use Rattle.served_rocks.specs.Rockspecs.{IsRefused, IsServed, IsServedBy, IsUnserved}
use Rattle.served_rocks.specs.declared.fault.Unserved.{Unserved}
use Rattle.served_rocks.specs.declared.fault.Unserved.TheVariants.{Refused, Failed}
use Rattle.served_rocks.specs.declared.rockspecs.Origin.{Origin}
use Rattle.served_rocks.specs.declared.rockspecs.Origin.TheVariants.{Unpacked, Sources}
use Rattle.served_rocks.specs.declared.rockspecs.Served.{Served}

-- what isn't told of a fault of the files
answered : (Is : Result Rock BuildFault → Type 0) (fault : BuildFault) → IsOfFiles fault → IsAnswer Is (Err fault) → Is (Err fault)
answered Is faults.NoSourceFolder of is = is
answered Is (faults.MissingFile path) of is = is
answered Is (faults.TooLarge path) of is = is
answered Is (faults.BadTarget path) of is = is
answered Is faults.ShelfFault of is = absurd of
answered Is faults.NoMemory of is = absurd of

module _ (origin : Origin) (key : RockKey) where
  -- a server that has the rockspec makes what is made of it
  fetched_from : (servers : List Files) (served : Served) (made : Result Rock Refusal) → (by : IsServedBy origin key servers served) → IsMade origin key by.files served.bytes served.spec made → IsFetched origin key servers made
  fetched_from servers served made by makes =
      subst (λ files. IsFetchedBy origin key files made) (sym by.earliest) (record { bytes = served.bytes; at = by.bytes; checked = Ok served.spec; is_checked = by.checked; makes = makes })

  refused_from : (servers : List Files) (refusal : Refusal) → IsRefused origin key servers refusal → IsFetched origin key servers (Err refusal)
  refused_from servers refusal (inl (none, is)) = subst (λ files. IsFetchedBy origin key files (Err refusal)) (sym none) (ap Err is)
  refused_from servers refusal (inr by) =
      subst (λ files. IsFetchedBy origin key files (Err refusal)) (sym by.earliest) (record { bytes = by.bytes; at = by.at; checked = Err refusal; is_checked = by.checked; makes = refl })

  -- no rockspec is served
  pub unserved : (holds : Option (List Files)) (fault : Unserved) → IsUnserved origin key holds fault → IsNoRock origin key holds fault
  unserved holds (Failed error) is = tt
  unserved None (Refused refusal) is = (inl is.0, tt)
  unserved (Some servers) (Refused refusal) is = (inl is.0, refused_from servers refusal is.1)

-- ---- an unpacked rock

module _ (key : RockKey) (shelf : ShelfState) (served : Served) (is : IsServed Unpacked key shelf served) (made : Result Rock BuildFault) (on : IsUnpackedOn shelf.holds served.server served.spec served.bytes made) where
  unpacked_told : (holds : Option (List Files)) (result : Result Rock Refusal) → IsUnpackedOn holds served.server served.spec served.bytes made → IfSome holds (λ servers. IsServedBy Unpacked key servers served)
      → ((files : Files) → IsAnswer (IsUnpacked served.spec served.bytes files) made → IsMade Unpacked key files served.bytes served.spec result) → IfSome holds (λ servers. IsFetched Unpacked key servers result)
  unpacked_told None result unpacked by from = tt
  unpacked_told (Some servers) result unpacked by from = fetched_from Unpacked key servers served result by (from by.files (unpacked by.files by.at))

  pub unpacked_rock : (rock : Rock) → made ≡ Ok rock → Makes served.spec served.bytes rock → IsRock Unpacked key shelf.holds rock
  unpacked_rock rock same makes = record {
    key_is = makes.key ∙ is.of_rock;
    well_made = makes.well_made;
    told = unpacked_told shelf.holds (Ok rock) on is.told (λ files so. (Ok rock, subst (IsAnswer (IsUnpacked served.spec served.bytes files)) same so, refl));
  }

  pub unpacked_none : (fault : Unserved) → IsBuiltOf key made (Err fault) → IsNoRock Unpacked key shelf.holds fault
  unpacked_none (Failed error) built = tt
  unpacked_none (Refused refusal) (fault, same, of, told) = (
    inr (fault, told),
    unpacked_told shelf.holds (Err refusal) on is.told (λ files so.
        (Err fault, answered (IsUnpacked served.spec served.bytes files) fault of (subst (IsAnswer (IsUnpacked served.spec served.bytes files)) same so), ap Err told)),
  )

-- ---- a build from sources

module _ (key : RockKey) (shelf : ShelfState) (served : Served) (is : IsServed Sources key shelf served) where
  module _ (recipe : Recipe) (planned : served.spec.plan ≡ plans.Build recipe) (made : Result Rock BuildFault) (on : IsContentsOn shelf.holds served.server served.spec served.bytes made) where
    built_told : (holds : Option (List Files)) (result : Result Rock Refusal) → IsContentsOn holds served.server served.spec served.bytes made → IfSome holds (λ servers. IsServedBy Sources key servers served)
        → ((files : Files) → IsAnswer (IsContents served.spec served.bytes recipe files) made → IsPlanned key files served.bytes served.spec (plans.Build recipe) result) → IfSome holds (λ servers. IsFetched Sources key servers result)
    built_told None result contents by from = tt
    built_told (Some servers) result contents by from =
        fetched_from Sources key servers served result by (subst (λ plan. IsPlanned key by.files served.bytes served.spec plan result) (sym planned) (from by.files (contents by.files recipe by.at planned)))

    pub built_rock : (rock : Rock) → made ≡ Ok rock → Makes served.spec served.bytes rock → IsRock Sources key shelf.holds rock
    built_rock rock same makes = record {
      key_is = makes.key ∙ is.of_rock;
      well_made = makes.well_made;
      told = built_told shelf.holds (Ok rock) on is.told (λ files so. (Ok rock, subst (IsAnswer (IsContents served.spec served.bytes recipe files)) same so, refl));
    }

    pub built_none : (fault : Unserved) → IsBuiltOf key made (Err fault) → IsNoRock Sources key shelf.holds fault
    built_none (Failed error) built = tt
    built_none (Refused refusal) (fault, same, of, told) = (
      inr (inl (fault, told)),
      built_told shelf.holds (Err refusal) on is.told (λ files so.
          (Err fault, answered (IsContents served.spec served.bytes recipe files) fault of (subst (IsAnswer (IsContents served.spec served.bytes recipe files)) same so), ap Err told)),
    )

    pub sources_rock : (bytes : List ℕ) → bytes ≡ served.bytes → IsContentsOn shelf.holds served.server served.spec bytes made → IfOk made (Makes served.spec bytes) → (result : Result Rock Unserved) → IsBuiltOf key made result → IfOk result (IsRock Sources key shelf.holds)
    sources_rock bytes same contents makes (Err fault) built = tt
    sources_rock bytes same contents makes (Ok rock) built = built_rock rock built (subst (λ b. Makes served.spec b rock) same (subst (λ m. IfOk m (Makes served.spec bytes)) built makes))

    pub sources_none : (result : Result Rock Unserved) → IsBuiltOf key made result → IfErr result (IsNoRock Sources key shelf.holds)
    sources_none (Ok rock) built = tt
    sources_none (Err fault) built = built_none fault built

  -- a rockspec without a plan
  unplanned_none : (fault : Unserved) → IsUnplanned key served.spec.plan (Err fault) → IsNoRock Sources key shelf.holds fault
  unplanned_none (Failed error) so = tt
  unplanned_none (Refused refusal) (fault, plan, told) = (inr (inr (fault, told)), from shelf.holds is.told)
    where
      from : (holds : Option (List Files)) → IfSome holds (λ servers. IsServedBy Sources key servers served) → IfSome holds (λ servers. IsFetched Sources key servers (Err refusal))
      from None by = tt
      from (Some servers) by = fetched_from Sources key servers served (Err refusal) by (subst (λ plan. IsPlanned key by.files served.bytes served.spec plan (Err refusal)) (sym plan) (ap Err told))

  pub planless : (result : Result Rock Unserved) → IsUnplanned key served.spec.plan result → IfErr result (IsNoRock Sources key shelf.holds)
  planless (Ok rock) so = tt
  planless (Err fault) so = unplanned_none fault so
