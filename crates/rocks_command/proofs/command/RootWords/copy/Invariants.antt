use Rattle.std.proofs.Common.{◌≡◌, take}
use Rattle.rocks_command.proofs.command.RootWords.copy.Given as goal

abbrev pub invariant-loop-server : goal.invariant-loop-server
invariant-loop-server l = l.servers ≡ take l.server-index l.server-items
