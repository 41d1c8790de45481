use Rattle.std.proofs.Common.{◌∙◌, None, Some}
use Rattle.tree_model.proofs.Meeting.{met_one}
use Rattle.tree_model.proofs.met.met_by.Goals as goal

pub returns-in-Some : goal.returns-in-Some
returns-in-Some c =
    met_one c.args.dependency.now c.args.lua.now c.args.entries.now c.start_of-start.result c.name.result.now (Some c.in-Some.entry.now) c.requires.lua c.if-is_met_by.ensures c.name.ensures
    c.start_of-start.ensures.below c.start_of-start.ensures.within c.in-Some.ensures

pub returns-in-None : goal.returns-in-None
returns-in-None c =
    c.requires.lua
    ∙ met_one c.args.dependency.now c.args.lua.now c.args.entries.now c.start_of-start.result c.name.result.now None c.requires.lua c.if-is_met_by.ensures c.name.ensures
    c.start_of-start.ensures.below c.start_of-start.ensures.within c.in-None.ensures
