use Rattle.std.proofs.Common.{rules, string_bytes, subst, sym}
use Rattle.disk_paths.specs.Listings.{IsPathBelow}
use Rattle.disk_paths.proofs.Names.{at_place}
use Rattle.disk_paths.proofs.listing.file_paths.Goals as goal

pub returns-in_err-file_path-clause-cause : goal.returns-in_err-file_path-clause-cause
returns-in_err-file_path-clause-cause c = λ failed all. c.in_err-file_path.ensures.cause (search rules)
    (subst (IsPathBelow c.args.folder.now) (sym c.as_str.ensures.value) (at_place (IsPathBelow c.args.folder.now) string_bytes c.args.names.now c.loop-name.name-index c.name-item.result c.loop-name-test.true c.name-item.is all))
