use Rattle.rock_folders.proofs.RockspecTests.{none_read, some_rockspec}
use Rattle.rock_folders.proofs.reading.read_rockspec.Goals as goal

pub returns-in-Some-clause-read : goal.returns-in-Some-clause-read
returns-in-Some-clause-read g c =
    none_read (g.V.Device.state c.args.device.now).files c.args.path.now c.in_ok-bytes.field-0 c.in-Some.bytes c.args.key.now c.deref.result.now c.in_ok-found-in-Some.field-0
    c.in_ok-bytes.ensures.found c.in-Some.is c.deref.ensures.value c.in-None-2.is c.in_ok-found-in-Some.ensures

pub returns-in-Some-2-clause-form : goal.returns-in-Some-2-clause-form
returns-in-Some-2-clause-form g c =
    some_rockspec c.args.key.now c.deref.result.now c.in_ok-found-in-Some.field-0 c.in-Some-2.found c.in-Some-2.is c.in_ok-found-in-Some.ensures
