use Rattle.std.proofs.Common.{◌∙◌}
use Rattle.rocks_text.specs.declared.item.Kind.TheVariants.{Lua, Lib, Bin}
use Rattle.tree_model.proofs.Provided.{provided_is}
use Rattle.tree_model.proofs.view.view.Goals as goal

pub returns : goal.returns
returns c =
    let entries = c.args.entries.now in
    let listing = c.args.providers.now in
    let commands = c.in_ok-provided.ensures ∙ provided_is Bin entries listing c.requires.index.listed c.requires.provided in
    let libs = c.in_ok-provided-2.ensures ∙ provided_is Lib entries listing c.requires.index.listed c.requires.provided in
    let modules = c.in_ok-provided-3.ensures ∙ provided_is Lua entries listing c.requires.index.listed c.requires.provided in
    λ i. record { commands = commands i; libs = libs i; modules = modules i; rocks = c.in_ok-view_rocks.ensures i }
