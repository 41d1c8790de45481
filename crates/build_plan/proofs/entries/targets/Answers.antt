use Rattle.std.proofs.lemmas.Result.{err_from_is_err_and}
use Rattle.build_plan.proofs.Lists.{first_stops, second_stops, third_stops, fourth_stops, last_stops, no_stop, all_targets}
use Rattle.build_plan.proofs.entries.targets.Goals as goal

pub returns-in_err-add_targets : goal.returns-in_err-add_targets
returns-in_err-add_targets c =
    let p = err_from_is_err_and c.from_residual.result c.from_residual.ensures.1 in
    rw (p.1, p.2) (first_stops c.args.modules.now c.args.install.now _ c.in_err-add_targets.ensures)

pub returns-in_err-add_targets-2 : goal.returns-in_err-add_targets-2
returns-in_err-add_targets-2 c =
    let p = err_from_is_err_and c.from_residual-in_err-add_targets-2.result c.from_residual-in_err-add_targets-2.ensures.1 in
    rw (p.1, p.2) (second_stops c.args.modules.now c.args.install.now c.in_ok-lua.lua.now c.in_ok-lua.ensures.value c.in_ok-add_targets.ensures.1 _ c.in_err-add_targets-2.ensures)

pub returns-in_err-add_targets-3 : goal.returns-in_err-add_targets-3
returns-in_err-add_targets-3 c =
    let p = err_from_is_err_and c.from_residual-in_err-add_targets-3.result c.from_residual-in_err-add_targets-3.ensures.1 in
    rw (p.1, p.2) (third_stops c.args.modules.now c.args.install.now c.in_ok-lua.lua.now c.in_ok-lib.lib.now c.in_ok-lua.ensures.value c.in_ok-lib.ensures.value
    c.in_ok-add_targets.ensures.1 c.in_ok-add_targets-2.ensures.1 _ c.in_err-add_targets-3.ensures)

pub returns-in_err-add_targets-4 : goal.returns-in_err-add_targets-4
returns-in_err-add_targets-4 c =
    let p = err_from_is_err_and c.from_residual-in_err-add_targets-4.result c.from_residual-in_err-add_targets-4.ensures.1 in
    rw (p.1, p.2) (fourth_stops c.args.modules.now c.args.install.now c.in_ok-lua.lua.now c.in_ok-lib.lib.now c.in_ok-bin.bin.now c.in_ok-lua.ensures.value c.in_ok-lib.ensures.value c.in_ok-bin.ensures.value
    c.in_ok-add_targets.ensures.1 c.in_ok-add_targets-2.ensures.1 c.in_ok-add_targets-3.ensures.1 _ c.in_err-add_targets-4.ensures)

pub returns-in_err-add_targets-5 : goal.returns-in_err-add_targets-5
returns-in_err-add_targets-5 c =
    let p = err_from_is_err_and c.from_residual-in_err-add_targets-5.result c.from_residual-in_err-add_targets-5.ensures.1 in
    rw (p.1, p.2) (last_stops c.args.modules.now c.args.install.now c.in_ok-lua.lua.now c.in_ok-lib.lib.now c.in_ok-bin.bin.now c.in_ok-conf.conf.now
    c.in_ok-lua.ensures.value c.in_ok-lib.ensures.value c.in_ok-bin.ensures.value c.in_ok-conf.ensures.value
    c.in_ok-add_targets.ensures.1 c.in_ok-add_targets-2.ensures.1 c.in_ok-add_targets-3.ensures.1 c.in_ok-add_targets-4.ensures.1 _ c.in_err-add_targets-5.ensures)

pub returns : goal.returns
returns c = (
  all_targets c.args.modules.now c.args.install.now c.in_ok-lua.lua.now c.in_ok-lib.lib.now c.in_ok-bin.bin.now c.in_ok-conf.conf.now
      c.in_ok-lua.ensures.value c.in_ok-lib.ensures.value c.in_ok-bin.ensures.value c.in_ok-conf.ensures.value
      c.new-targets.result.items c.add_targets.new.targets.items c.add_targets-2.new.targets.items c.add_targets-3.new.targets.items c.add_targets-4.new.targets.items c.add_targets-5.new.targets.items
      c.new-targets.ensures.items c.in_ok-add_targets.ensures.0 c.in_ok-add_targets-2.ensures.0 c.in_ok-add_targets-3.ensures.0 c.in_ok-add_targets-4.ensures.0 c.in_ok-add_targets-5.ensures.0,
  no_stop c.args.modules.now c.args.install.now c.in_ok-lua.lua.now c.in_ok-lib.lib.now c.in_ok-bin.bin.now c.in_ok-conf.conf.now
      c.in_ok-lua.ensures.value c.in_ok-lib.ensures.value c.in_ok-bin.ensures.value c.in_ok-conf.ensures.value
      c.in_ok-add_targets.ensures.1 c.in_ok-add_targets-2.ensures.1 c.in_ok-add_targets-3.ensures.1 c.in_ok-add_targets-4.ensures.1 c.in_ok-add_targets-5.ensures.1,
)
