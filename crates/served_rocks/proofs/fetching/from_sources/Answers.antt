use Rattle.std.proofs.Common.{subst}
use Rattle.rock_build.specs.Contents.{IsContentsOn}
use Rattle.served_rocks.proofs.FetchedRocks.{planless, sources_none, sources_rock}
use Rattle.served_rocks.proofs.fetching.from_sources.Goals as goal

pub returns-in-Build-clause-rock : goal.returns-in-Build-clause-rock
returns-in-Build-clause-rock g c =
    let shelf = g.F.Shelf.state c.args.shelf.now in
    let on = subst (λ b. IsContentsOn shelf.holds c.args.served.server c.args.served.spec b c.build-made.result) c.as_slice-bytes.ensures c.build-made.ensures.contents in
    sources_rock c.args.key.now shelf c.args.served c.requires c.in-Build.field-0 c.in-Build.is c.build-made.result on
    c.as_slice-bytes.result.now c.as_slice-bytes.ensures c.build-made.ensures.contents c.build-made.ensures.makes c.built.result c.built.ensures

pub returns-in-Build-clause-no_rock : goal.returns-in-Build-clause-no_rock
returns-in-Build-clause-no_rock g c =
    let shelf = g.F.Shelf.state c.args.shelf.now in
    let on = subst (λ b. IsContentsOn shelf.holds c.args.served.server c.args.served.spec b c.build-made.result) c.as_slice-bytes.ensures c.build-made.ensures.contents in
    sources_none c.args.key.now shelf c.args.served c.requires c.in-Build.field-0 c.in-Build.is c.build-made.result on c.built.result c.built.ensures

pub returns-clause-no_rock : goal.returns-clause-no_rock
returns-clause-no_rock g c = planless c.args.key.now (g.F.Shelf.state c.args.shelf.now) c.args.served c.requires c.unplanned.result c.unplanned.ensures
