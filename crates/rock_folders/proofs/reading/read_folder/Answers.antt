use Rattle.std.proofs.Common.{None, Some}
use Rattle.rock_folders.proofs.Judging.{as_read, both_bad, both_read, good_read, record_bad, rockspec_bad}
use Rattle.rock_folders.proofs.reading.read_folder.Goals as goal

pub returns-in-Some-Some-clause-reading : goal.returns-in-Some-Some-clause-reading
returns-in-Some-Some-clause-reading g c =
    let told = (g.V.Device.state c.args.device.now).files in
    let read = both_read told (g.V.Device.state c.read_record.new.device).files c.args.key.now c.in_ok-found.found c.in_ok-rockspec.rockspec c.in_ok-record_path.record_path c.in_ok-rockspec_path.rockspec_path
    c.requires c.in_ok-record_path.ensures c.in_ok-rockspec_path.ensures c.in_ok-found.ensures.asks.files c.in_ok-found.ensures.read c.in_ok-rockspec.ensures.read in
    good_read told c.args.key.now c.in_ok-copy-in-Some-Some.field-0 c.in-Some-Some.record c.in-Some-Some.rockspec
    (as_read told c.args.key.now c.in_ok-found.found (Some c.in-Some-Some.record) c.in_ok-rockspec.rockspec (Some c.in-Some-Some.rockspec) read c.in-Some-Some.is-0 c.in-Some-Some.is-1)
    c.in_ok-copy-in-Some-Some.ensures

pub returns-in-Some-None-clause-reading : goal.returns-in-Some-None-clause-reading
returns-in-Some-None-clause-reading g c =
    let told = (g.V.Device.state c.args.device.now).files in
    let read = both_read told (g.V.Device.state c.read_record.new.device).files c.args.key.now c.in_ok-found.found c.in_ok-rockspec.rockspec c.in_ok-record_path.record_path c.in_ok-rockspec_path.rockspec_path
    c.requires c.in_ok-record_path.ensures c.in_ok-rockspec_path.ensures c.in_ok-found.ensures.asks.files c.in_ok-found.ensures.read c.in_ok-rockspec.ensures.read in
    rockspec_bad told c.args.key.now c.in-Some-None.field-0-0 c.in_ok-rockspec_path.rockspec_path
    (as_read told c.args.key.now c.in_ok-found.found (Some c.in-Some-None.field-0-0) c.in_ok-rockspec.rockspec None read c.in-Some-None.is-0 c.in-Some-None.is-1)
    c.in_ok-rockspec_path.ensures

pub returns-in-None-Some-clause-reading : goal.returns-in-None-Some-clause-reading
returns-in-None-Some-clause-reading g c =
    let told = (g.V.Device.state c.args.device.now).files in
    let read = both_read told (g.V.Device.state c.read_record.new.device).files c.args.key.now c.in_ok-found.found c.in_ok-rockspec.rockspec c.in_ok-record_path.record_path c.in_ok-rockspec_path.rockspec_path
    c.requires c.in_ok-record_path.ensures c.in_ok-rockspec_path.ensures c.in_ok-found.ensures.asks.files c.in_ok-found.ensures.read c.in_ok-rockspec.ensures.read in
    record_bad told c.args.key.now c.in-None-Some.field-0-1 c.in_ok-record_path.record_path
    (as_read told c.args.key.now c.in_ok-found.found None c.in_ok-rockspec.rockspec (Some c.in-None-Some.field-0-1) read c.in-None-Some.is-0 c.in-None-Some.is-1)
    c.in_ok-record_path.ensures

pub returns-clause-reading : goal.returns-clause-reading
returns-clause-reading g c =
    let told = (g.V.Device.state c.args.device.now).files in
    let read = both_read told (g.V.Device.state c.read_record.new.device).files c.args.key.now c.in_ok-found.found c.in_ok-rockspec.rockspec c.in_ok-record_path.record_path c.in_ok-rockspec_path.rockspec_path
    c.requires c.in_ok-record_path.ensures c.in_ok-rockspec_path.ensures c.in_ok-found.ensures.asks.files c.in_ok-found.ensures.read c.in_ok-rockspec.ensures.read in
    both_bad told c.args.key.now c.lesser.result c.in_ok-record_path.record_path c.in_ok-rockspec_path.rockspec_path
    (as_read told c.args.key.now c.in_ok-found.found None c.in_ok-rockspec.rockspec None read c.in-None-None.is-0 c.in-None-None.is-1)
    c.in_ok-record_path.ensures c.in_ok-rockspec_path.ensures c.lesser.ensures.one c.lesser.ensures.first c.lesser.ensures.second
