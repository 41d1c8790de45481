-- What a server holds makes one rock, or has one first fault.
use Rattle.std.proofs.Common.{◌≡◌, ℕ, true, false, List, Option, None, Some, sym, ap, ◌∙◌, inl, inr, ⊎_elim, take, slice_get, Ok, Err}
use Rattle.std.proofs.lemmas.Bool.{cases_order}
use Rattle.std.proofs.lemmas.Cmp.{nat_list_cmp_total}
use Rattle.std.specs.Prelude.{Result}
use Rattle.std.specs.List.{find}
use Rattle.rocks_text.specs.Files.{Files}
use Rattle.rocks_text.specs.declared.item.Item.{Item}
use Rattle.rocks_outside.specs.Shelf.{paths_below}
use Rattle.build_plan.specs.declared.recipe.Recipe.{Recipe}
use Rattle.build_plan.proofs.PlanLaws.{one_rising, rises}
use Rattle.rock_manifest.proofs.Orders.{item_total}
use Rattle.rockspec.specs.declared.read.Rockspec.{Rockspec}
use Rattle.rock_record.specs.declared.rock.Rock.{Rock}
use Rattle.rock_steps.specs.Steps.{is_bad}
use Rattle.rock_files.specs.Gathering.{Found, NoneFails, FailsFirst, fault_at}
use Rattle.rock_files.specs.declared.fault.BuildFault.{BuildFault}
use Rattle.rock_build.specs.Contents.{rockspec_of, unpacked_folder, ComesTo, IsContents, IsRockOf, IsUnpacked, IsUnpackedOf}

one_some : {X : Type 0} (o : Option X) (x y : X) → o ≡ Some x → o ≡ Some y → x ≡ y
one_some o x y e f = let both = sym e ∙ f in cc

-- a step that fails is no step that passes
clash : {fault : BuildFault} (o : Option BuildFault) → o ≡ Some fault → o ≡ None → ⊥
clash o fails passes = let both = sym fails ∙ passes in cc

module _ (found : List Found) where
  one_first : (left right : BuildFault) → FailsFirst found left → FailsFirst found right → left ≡ right
  one_first left right is too =
      ⊎_elim at (⊎_elim (λ less. absurd (clash _ is.fails (too.first is.place is.one less is.is))) (λ more. absurd (clash _ too.fails (is.first too.place too.one more too.is)))) (cases_order is.place too.place)
    where
      at : is.place ≡ too.place → left ≡ right
      at same =
          let ones : is.one ≡ too.one = one_some (slice_get found too.place) is.one too.one (ap (slice_get found) (sym same) ∙ is.is) too.is in
          let faults : fault_at (take is.place found) is.one ≡ fault_at (take too.place found) too.one = λ i. fault_at (take (same i) found) (ones i) in
          one_some (fault_at (take too.place found) too.one) left right (sym faults ∙ is.fails) too.fails

  some_fails : (fault : BuildFault) → NoneFails found → FailsFirst found fault → ⊥
  some_fails fault none is = clash _ is.fails (none is.place is.one is.is)

  module _ (spec : Rockspec) (bytes : List ℕ) where
    one_made : (left right : Rock) → IsRockOf spec bytes found left → IsRockOf spec bytes found right → left ≡ right
    one_made left right is too =
        let items = one_rising item_total (λ (file : Item × List ℕ). file.0) left.items right.items (rises item_total (λ (file : Item × List ℕ). file.0) left.items is.items_in_order) (rises item_total (λ (file : Item × List ℕ). file.0) right.items too.items_in_order)
        (λ file has. (too.items file).1 ((is.items file).0 has)) (λ file has. (is.items file).1 ((too.items file).0 has)) in
        let own = one_rising nat_list_cmp_total (λ (file : List ℕ × List ℕ). file.0) left.own right.own (rises nat_list_cmp_total (λ (file : List ℕ × List ℕ). file.0) left.own is.own_in_order) (rises nat_list_cmp_total (λ (file : List ℕ × List ℕ). file.0) right.own too.own_in_order)
        (λ file has. (too.own file).1 ((is.own file).0 has)) (λ file has. (is.own file).1 ((too.own file).0 has)) in
        let key = is.key ∙ sym too.key in
        let dependencies = is.dependencies ∙ sym too.dependencies in
        let rockspec = is.rockspec ∙ sym too.rockspec in
        λ i. record { key = key i; dependencies = dependencies i; rockspec = rockspec i; items = items i; own = own i }

    one_coming : (one other : Result Rock BuildFault) → ComesTo spec bytes found one → ComesTo spec bytes found other → one ≡ other
    one_coming (Ok left) (Ok right) is too = ap Ok (one_made left right is.1 too.1)
    one_coming (Err left) (Err right) is too = ap Err (one_first left right is too)
    one_coming (Ok rock) (Err fault) is too = absurd (some_fails fault is.0 too)
    one_coming (Err fault) (Ok rock) is too = absurd (some_fails fault too.0 is)

module _ (spec : Rockspec) (bytes : List ℕ) where
  pub one_built : (recipe : Recipe) (files : Files) (one other : Result Rock BuildFault) → IsContents spec bytes recipe files one → IsContents spec bytes recipe files other → one ≡ other
  one_built recipe files one other (inl is) (inl too) = is.1 ∙ sym too.1
  one_built recipe files one other (inl is) (inr too) = let both : true ≡ false = sym is.0 ∙ too.0 in cc
  one_built recipe files one other (inr is) (inl too) = let both : true ≡ false = sym too.0 ∙ is.0 in cc
  one_built recipe files one other (inr is) (inr too) = one_coming _ spec bytes one other is.1 too.1

  one_taken : (files : Files) (listing : List (List ℕ)) (bad : Option (List ℕ)) (one other : Result Rock BuildFault) → IsUnpackedOf spec bytes files listing bad one → IsUnpackedOf spec bytes files listing bad other → one ≡ other
  one_taken files listing None one other is too = one_coming _ spec bytes one other is too
  one_taken files listing (Some path) one other is too = is ∙ sym too

  pub one_unpacked : (files : Files) (one other : Result Rock BuildFault) → IsUnpacked spec bytes files one → IsUnpacked spec bytes files other → one ≡ other
  one_unpacked files one other is too = one_taken files _ (find (is_bad (rockspec_of spec.key)) (paths_below (unpacked_folder spec.key) files)) one other is too
