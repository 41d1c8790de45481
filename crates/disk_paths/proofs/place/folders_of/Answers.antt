use Rattle.std.proofs.Common.{rules}
use Rattle.std.specs.Prelude.{None, Some}
use Rattle.std.proofs.lemmas.Str.Pattern.{split_parts}
use Rattle.disk_paths.proofs.Folders.{at_end, at_next, at_start}
use Rattle.disk_paths.proofs.place.folders_of.Goals as goal

pub loop-part-init : goal.loop-part-init
loop-part-init c = (search rules, at_start _ _ c.args.path.now c.new-folders.ensures.items c.new-at.ensures.bytes)

pub loop-part-preserved : goal.loop-part-preserved
loop-part-preserved c =
    let parts = split_parts 47 c.loop-part.rest.now (Some (c.in-Some.part, c.in-Some.behind)) c.in-Some.ensures.cases (search rules) in
    (search rules, at_next _ _ _ _ _ c.loop-part.rest.now c.in-Some.part.now c.in-Some.behind.now c.loop-part.invariant.1 parts.0 parts.1 c.in_ok-enter.ensures.folders c.in_ok-enter.ensures.at)

pub returns : goal.returns
returns c = at_end _ _ _ c.loop-part.rest.now c.loop-part.invariant.1 (split_parts 47 c.loop-part.rest.now None c.in_default.ensures.cases (search rules))
