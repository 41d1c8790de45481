use Rattle.std.proofs.Common.{◌≡◌, true, false, inr, rules}
use Rattle.rockspec.specs.Fields.{is_supported}
use Rattle.rockspec.proofs.Firsts.{no_field_fault, platform_first}
use Rattle.rockspec.proofs.read.from_fields.Goals as goal

pub returns-then-not-branch-clause-fault : goal.returns-then-not-branch-clause-fault
returns-then-not-branch-clause-fault c =
    let not_supported : is_supported c.args.found.table ≡ false = search rules in
    inr (platform_first c.args.found.table c.in_ok-name.ensures.good c.in_ok-version.ensures.good c.in_ok-dependencies.ensures.good not_supported)

pub returns-clause-faultless : goal.returns-clause-faultless
returns-clause-faultless c =
    let supported : is_supported c.args.found.table ≡ true = search rules in
    no_field_fault c.args.found.table c.in_ok-name.ensures.good c.in_ok-version.ensures.good c.in_ok-dependencies.ensures.good supported
