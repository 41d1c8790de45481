use Rattle.lua_syntax.proofs.Statements.{names_begin, names_go_on}
use Rattle.lua_syntax.proofs.statement.names.Goals as goal

pub loop-after-init : goal.loop-after-init
loop-after-init c = rw (c.in_ok-push.ensures.ok, c.new-names.ensures) (names_begin _ _ _ c.in_ok-named.ensures.ok)

pub loop-after-preserved : goal.loop-after-preserved
loop-after-preserved c = rw c.in_ok-push-2.ensures.ok (names_go_on _ _ _ _ _ _ _ c.loop-after.invariant c.in-Some.ensures c.in_ok-named-2.ensures.ok)
