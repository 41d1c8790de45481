-- From what a folder's files come to to what the calls answer.
use Rattle.std.proofs.Common.{◌≡◌, ℕ, true, false, List, Option, None, Some, IfSome, Ok, Err, map, refl, sym, ◌∙◌, subst, inl, inr, slice_get}
use Rattle.std.specs.Prelude.{Result}
use Rattle.std.specs.List.{find}
use Rattle.rocks_text.specs.Files.{Files}
use Rattle.rocks_outside.specs.Shelf.{held_below, paths_below}
use Rattle.build_plan.specs.declared.recipe.Recipe.{Recipe}
use Rattle.build_plan.specs.declared.plan.BuildPlan.TheVariants.{Build}
use Rattle.rockspec.specs.Specs.{IsSpec}
use Rattle.rockspec.specs.declared.read.Rockspec.{Rockspec}
use Rattle.rock_record.specs.declared.rock.Rock.{Rock}
use Rattle.rock_parts.specs.declared.parts.Step.{Step}
use Rattle.rock_steps.specs.Steps.{build_steps, is_bad, taken_steps, AreGood}
use Rattle.rock_files.specs.Gathering.{found_in, Found, Gathers, IsFaultOf, IsFirstFault}
use Rattle.rock_files.specs.declared.fault.BuildFault.{BuildFault}
use Rattle.rock_files.specs.declared.fault.BuildFault.TheVariants.{NoSourceFolder, MissingFile, TooLarge, BadTarget, ShelfFault, NoMemory}
use Rattle.rock_files.specs.declared.gathering.Gathered.{Gathered}
use Rattle.rock_build.specs.Contents.{lacks_sources, rockspec_of, source_folder, unpacked_folder, ComesTo, IsAnswer, IsContents, IsContentsOf, IsContentsOn, IsUnpackedOf, IsUnpackedOn, Makes}
use Rattle.rock_build.specs.Making.{rock_with, IsComing}
use Rattle.rock_build.proofs.WellMade.{is_rock, makes}

-- an answer that is so is so in another way
answer_by : (Is Js : Result Rock BuildFault → Type 0) → ((result : Result Rock BuildFault) → Is result → Js result) → (result : Result Rock BuildFault) → IsAnswer Is result → IsAnswer Js result
answer_by Is Js by (Ok rock) is = by (Ok rock) is
answer_by Is Js by (Err NoSourceFolder) is = by (Err NoSourceFolder) is
answer_by Is Js by (Err (MissingFile path)) is = by (Err (MissingFile path)) is
answer_by Is Js by (Err (TooLarge path)) is = by (Err (TooLarge path)) is
answer_by Is Js by (Err (BadTarget path)) is = by (Err (BadTarget path)) is
answer_by Is Js by (Err ShelfFault) is = is
answer_by Is Js by (Err NoMemory) is = is

-- ---- the files of the steps

module _ (holds : Option (List Files)) (server : ℕ) (folder : List ℕ) (steps : List Step) (spec : Rockspec) (bytes : List ℕ) (good : AreGood (rockspec_of spec.key) steps) where
  module _ (gathered : Gathered) (gathers : Gathers holds server folder steps gathered) where
    good_found : AreGood (rockspec_of spec.key) (map (λ (one : Found). one.step) gathers.found)
    good_found = subst (AreGood (rockspec_of spec.key)) (sym gathers.steps_taken) good

    gathered_comes : IsComing holds server folder steps spec bytes (Ok (rock_with spec bytes gathered))
    gathered_comes = from holds gathers.told
      where
        rock : ComesTo spec bytes gathers.found (Ok (rock_with spec bytes gathered))
        rock = (gathers.none_fails, is_rock spec bytes gathers.found gathered gathers.none_fails gathers.files good_found)

        from : (h : Option (List Files)) → IfSome h (λ servers. (files : Files) → slice_get servers server ≡ Some files → gathers.found ≡ found_in files folder steps)
            → IfSome h (λ servers. (files : Files) → slice_get servers server ≡ Some files → ComesTo spec bytes (found_in files folder steps) (Ok (rock_with spec bytes gathered)))
        from None told = tt
        from (Some servers) told = λ files at. subst (λ (found : List Found). ComesTo spec bytes found (Ok (rock_with spec bytes gathered))) (told files at) rock

    pub rock_comes : (rock : Rock) → rock ≡ rock_with spec bytes gathered → IsComing holds server folder steps spec bytes (Ok rock)
    rock_comes rock same = subst (λ r. IsComing holds server folder steps spec bytes (Ok r)) (sym same) gathered_comes

    pub rock_makes : IsSpec bytes spec → (rock : Rock) → rock ≡ rock_with spec bytes gathered → Makes spec bytes rock
    rock_makes is rock same = subst (Makes spec bytes) (sym same) (makes spec bytes gathers.found gathered gathers.none_fails gathers.files good_found is)

  first_comes : (h : Option (List Files)) (fault : BuildFault) → IsFirstFault h server folder steps fault → ((Is : Result Rock BuildFault → Type 0) → Is (Err fault) → IsAnswer Is (Err fault))
      → IfSome h (λ servers. (files : Files) → slice_get servers server ≡ Some files → IsAnswer (ComesTo spec bytes (found_in files folder steps)) (Err fault))
  first_comes None fault first counts = tt
  first_comes (Some servers) fault first counts = λ files at. counts (ComesTo spec bytes (found_in files folder steps)) (first files at)

  anyway : (h : Option (List Files)) (fault : BuildFault) → ((Is : Result Rock BuildFault → Type 0) → IsAnswer Is (Err fault))
      → IfSome h (λ servers. (files : Files) → slice_get servers server ≡ Some files → IsAnswer (ComesTo spec bytes (found_in files folder steps)) (Err fault))
  anyway None fault free = tt
  anyway (Some servers) fault free = λ files at. free (ComesTo spec bytes (found_in files folder steps))

  pub fault_comes : (fault : BuildFault) → IsFaultOf holds server folder steps fault → IsComing holds server folder steps spec bytes (Err fault)
  fault_comes NoSourceFolder is = absurd is
  fault_comes (MissingFile path) is = first_comes holds (MissingFile path) is (λ Is so. so)
  fault_comes (TooLarge path) is = first_comes holds (TooLarge path) is (λ Is so. so)
  fault_comes (BadTarget path) is = absurd is
  fault_comes ShelfFault is = anyway holds ShelfFault (λ Is. tt)
  fault_comes NoMemory is = anyway holds NoMemory (λ Is. tt)

-- ---- what was listed

listed_at : (servers : List Files) (server : ℕ) (folder : List ℕ) (files : Files) → slice_get servers server ≡ Some files → held_below servers server folder ≡ paths_below folder files
listed_at servers server folder files at = rw at refl

module _ (first now : Option (List Files)) (same : now ≡ first) (server : ℕ) (spec : Rockspec) (bytes : List ℕ) (listing : List (List ℕ)) where
  abbrev IsListed : (folder : List ℕ) → Type 0
  IsListed folder = IfSome first (λ servers. listing ≡ held_below servers server folder)

  module _ (recipe : Recipe) (plan : spec.plan ≡ Build recipe) (listed : IsListed (source_folder spec.key)) where
    built_by : (h : Option (List Files)) (result : Result Rock BuildFault) → IfSome h (λ servers. listing ≡ held_below servers server (source_folder spec.key))
        → IfSome h (λ servers. (files : Files) → slice_get servers server ≡ Some files → IsAnswer (IsContentsOf spec bytes recipe files listing) result)
        → IsContentsOn h server spec bytes result
    built_by None result listed is = tt
    built_by (Some servers) result listed is = λ files other at planned.
        let both : Build recipe ≡ Build other = sym plan ∙ planned in
        let recipes : recipe ≡ other = cc in
        let paths = listed ∙ listed_at servers server (source_folder spec.key) files at in
        subst (λ r. IsAnswer (IsContents spec bytes r files) result) recipes (subst (λ l. IsAnswer (IsContentsOf spec bytes recipe files l) result) paths (is files at))

    pub no_sources : lacks_sources recipe listing ≡ true → IsContentsOn first server spec bytes (Err NoSourceFolder)
    no_sources lacks = built_by first (Err NoSourceFolder) listed (from first)
      where
        from : (h : Option (List Files)) → IfSome h (λ servers. (files : Files) → slice_get servers server ≡ Some files → IsAnswer (IsContentsOf spec bytes recipe files listing) (Err NoSourceFolder))
        from None = tt
        from (Some servers) = λ files at. inl (lacks, refl)

    pub built_contents : lacks_sources recipe listing ≡ false → (result : Result Rock BuildFault) → IsComing now server (source_folder spec.key) (build_steps recipe listing) spec bytes result → IsContentsOn first server spec bytes result
    built_contents has result comes = built_by first result listed (from first (subst (λ h. IsComing h server (source_folder spec.key) (build_steps recipe listing) spec bytes result) same comes))
      where
        from : (h : Option (List Files)) → IsComing h server (source_folder spec.key) (build_steps recipe listing) spec bytes result
            → IfSome h (λ servers. (files : Files) → slice_get servers server ≡ Some files → IsAnswer (IsContentsOf spec bytes recipe files listing) result)
        from None comes = tt
        from (Some servers) comes = λ files at.
            answer_by (ComesTo spec bytes (found_in files (source_folder spec.key) (build_steps recipe listing))) (IsContentsOf spec bytes recipe files listing) (λ r so. inr (has, so)) result (comes files at)

  module _ (listed : IsListed (unpacked_folder spec.key)) where
    taken_by : (bad : Option (List ℕ)) → find (is_bad (rockspec_of spec.key)) listing ≡ bad → (h : Option (List Files)) (result : Result Rock BuildFault) → IfSome h (λ servers. listing ≡ held_below servers server (unpacked_folder spec.key))
        → IfSome h (λ servers. (files : Files) → slice_get servers server ≡ Some files → IsAnswer (IsUnpackedOf spec bytes files listing bad) result)
        → IsUnpackedOn h server spec bytes result
    taken_by bad none None result listed is = tt
    taken_by bad none (Some servers) result listed is = λ files at.
        let paths = listed ∙ listed_at servers server (unpacked_folder spec.key) files at in
        let found : IsAnswer (IsUnpackedOf spec bytes files listing (find (is_bad (rockspec_of spec.key)) listing)) result = subst (λ b. IsAnswer (IsUnpackedOf spec bytes files listing b) result) (sym none) (is files at) in
        subst (λ l. IsAnswer (IsUnpackedOf spec bytes files l (find (is_bad (rockspec_of spec.key)) l)) result) paths found

    pub bad_path : (path : List ℕ) → find (is_bad (rockspec_of spec.key)) listing ≡ Some path → IsUnpackedOn first server spec bytes (Err (BadTarget path))
    bad_path path is = taken_by (Some path) is first (Err (BadTarget path)) listed (from first)
      where
        from : (h : Option (List Files)) → IfSome h (λ servers. (files : Files) → slice_get servers server ≡ Some files → IsAnswer (IsUnpackedOf spec bytes files listing (Some path)) (Err (BadTarget path)))
        from None = tt
        from (Some servers) = λ files at. refl

    pub taken_contents : find (is_bad (rockspec_of spec.key)) listing ≡ None → (result : Result Rock BuildFault) → IsComing now server (unpacked_folder spec.key) (taken_steps (rockspec_of spec.key) listing) spec bytes result → IsUnpackedOn first server spec bytes result
    taken_contents none result comes = taken_by None none first result listed (subst (λ h. IsComing h server (unpacked_folder spec.key) (taken_steps (rockspec_of spec.key) listing) spec bytes result) same comes)
