use Rattle.std.proofs.Common.{◌≤◌, sym, arith}
use Rattle.lua_value.specs.Pairs.{count}
use Rattle.lua_value.specs.View.{datum}
use Rattle.build_targets.specs.declared.meanings.Listing.TheVariants.{Modules}
use Rattle.build_plan.specs.Steps.{compiled_name}
use Rattle.build_plan.proofs.Early.{found_compiled, not_compiled}
use Rattle.build_plan.proofs.Meant.{whole_first}
use Rattle.build_plan.proofs.checks.first_compiled.Goals as goal

pub returns-then-not-is_lua_file : goal.returns-then-not-is_lua_file
returns-then-not-is_lua_file c =
    sym (found_compiled c.args.modules.now c.loop-at.at c.entry_at.result.0.now (datum c.entry_at.result.1.now) c.bytes_of.result.now c.is_lua_file.result
    c.entry_at.ensures.entry c.bytes_of.ensures c.is_lua_file.ensures c.loop-at.invariant c.if-not-is_lua_file.true)

pub loop-at-preserved : goal.loop-at-preserved
loop-at-preserved c =
    not_compiled c.args.modules.now c.loop-at.at c.entry_at.result.0.now (datum c.entry_at.result.1.now) c.bytes_of.result.now c.is_lua_file.result
    c.entry_at.ensures.entry c.bytes_of.ensures c.is_lua_file.ensures c.loop-at.invariant c.if-not-is_lua_file.false

pub returns : goal.returns
returns c =
    let past : count c.args.modules.now ≤ c.loop-at.at = omega (arith, c.len-at-end.ensures) in
    sym (whole_first Modules c.args.modules.now c.loop-at.at past compiled_name c.loop-at.invariant)
