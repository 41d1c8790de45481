use Rattle.std.proofs.Common.{◌≡◌, sym, ap, subst, ◌∙◌, false, IfSome}
use Rattle.rocks_outside.specs.Shelf.{held_below}
use Rattle.rock_steps.specs.Steps.{build_steps, AreGood}
use Rattle.rock_build.specs.Contents.{lacks_sources, rockspec_of, source_folder}
use Rattle.rock_build.specs.Making.{IsComing}
use Rattle.rock_build.proofs.Answering.{built_contents}
use Rattle.rock_build.proofs.Planned.{built_good, has_plan}
use Rattle.rock_build.proofs.making.build.Goals as goal

pub build_steps-requires : goal.build_steps-requires
build_steps-requires g c = has_plan c.args.spec.now c.args.bytes.now c.in-Build.recipe c.requires.spec c.in-Build.is

pub made-requires-clause-good : goal.made-requires-clause-good
made-requires-clause-good g c =
    let spec = c.args.spec.now in
    let recipe = c.in-Build.recipe in
    let listing = c.in_ok-listing.listing.items in
    let good = built_good spec c.args.bytes.now recipe c.requires.spec c.in-Build.is c.as_str-name.ensures.valid c.as_str-version.ensures.valid c.in_ok-folder.folder listing c.in_ok-listing.ensures.form in
    let steps : c.in_ok-steps.steps.items ≡ build_steps recipe listing = c.in_ok-steps.ensures ∙ ap (build_steps recipe) c.deref-2.ensures.value in
    subst (AreGood (rockspec_of spec.key)) (sym steps) good

pub returns-clause-contents : goal.returns-clause-contents
returns-clause-contents g c =
    let spec = c.args.spec.now in
    let bytes = c.args.bytes.now in
    let server = c.args.server in
    let recipe = c.in-Build.recipe in
    let listing = c.in_ok-listing.listing.items in
    let first = (g.F.Shelf.state c.args.shelf.now).holds in
    let now = (g.F.Shelf.state c.list.new.self).holds in
    let folder : c.in_ok-folder.folder ≡ source_folder spec.key = c.in_ok-folder.ensures in
    let listed = subst (λ f. IfSome first (λ servers. listing ≡ held_below servers server f)) folder c.in_ok-listing.ensures.listed in
    let has : lacks_sources recipe listing ≡ false = ap (lacks_sources recipe) (sym c.deref.ensures.value) ∙ sym c.lacks_sources.ensures ∙ c.if-lacks_sources.false in
    let steps : c.in_ok-steps.steps.items ≡ build_steps recipe listing = c.in_ok-steps.ensures ∙ ap (build_steps recipe) c.deref-2.ensures.value in
    let comes = subst (λ f. IsComing now server f (build_steps recipe listing) spec bytes c.made.result) folder (subst (λ s. IsComing now server c.in_ok-folder.folder s spec bytes c.made.result) steps c.made.ensures.comes) in
    built_contents first now c.in_ok-listing.ensures.asks.holds server spec bytes listing recipe c.in-Build.is listed has c.made.result comes
