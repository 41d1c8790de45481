use Rattle.std.proofs.Common.{◌≡◌, List, ℕ, None, sym, ap, subst, ◌∙◌}
use Rattle.std.specs.List.{find}
use Rattle.std.specs.Option.{option_map}
use Rattle.rock_steps.specs.Steps.{is_bad, taken_steps, AreGood}
use Rattle.rock_steps.proofs.GoodFiles.{taken_are_good}
use Rattle.rock_build.specs.Contents.{rockspec_of}
use Rattle.rock_build.proofs.making.take.Goals as goal

pub made-requires-clause-good : goal.made-requires-clause-good
made-requires-clause-good g c =
    let rockspec = rockspec_of c.args.spec.now.key in
    let listing = c.in_ok-listing.listing.items in
    let named : c.deref.result.now ≡ rockspec = c.deref.ensures ∙ c.in_ok-rockspec.ensures in
    let none : find (is_bad rockspec) listing ≡ None =
    ap (λ (r : List ℕ). find (is_bad r) listing) (sym named) ∙ ap (find (is_bad c.deref.result.now)) (sym c.deref-2.ensures.value) ∙ sym c.first_bad.ensures ∙ ap (option_map (λ p. p.now)) c.in_default.is in
    let good = taken_are_good rockspec c.in_ok-folder.folder listing c.in_ok-listing.ensures.form none in
    let steps : c.in_ok-steps.steps.items ≡ taken_steps rockspec listing =
    c.in_ok-steps.ensures ∙ ap (λ (r : List ℕ). taken_steps r c.deref-4.result.now) (c.deref-3.ensures ∙ c.in_ok-rockspec.ensures) ∙ ap (taken_steps rockspec) c.deref-4.ensures.value in
    subst (AreGood rockspec) (sym steps) good
