use Rattle.std.proofs.Common.{rules, ◌≡◌}
use Rattle.std.specs.Bool.{nat_eq}
use Rattle.std.specs.BTreeMap.{keys}
use Rattle.std.specs.List.{filter, starts_with}
use Rattle.rocks_outside.proofs.Held.{keys-files_of, form_of_filter}
use Rattle.rocks_outside.proofs.memory_device.paths_from.Goals as goal

pub returns-clause-listed : goal.returns-clause-listed
returns-clause-listed c =
    let all : c.loop-path.paths.items ≡ filter (λ path. starts_with nat_eq path c.args.prefix.now) (keys c.args.files.now) = search rules in
    rw (keys-files_of c.args.files.now c.keys-path-items.ensures.ordered) all

pub returns-clause-form : goal.returns-clause-form
returns-clause-form c =
    let all : c.loop-path.paths.items ≡ filter (λ path. starts_with nat_eq path c.args.prefix.now) (keys c.args.files.now) = search rules in
    form_of_filter c.args.prefix.now (keys c.args.files.now) _ all c.keys-path-items.ensures.ordered
