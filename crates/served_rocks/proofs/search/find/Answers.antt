use Rattle.std.proofs.Common.{refl, arith}
use Rattle.served_rocks.proofs.Keeping.{kept_on}
use Rattle.served_rocks.proofs.Servers.{found_too_long, found_bytes, not_here}
use Rattle.served_rocks.proofs.search.find.Goals as goal

pub returns-in-TooLong-clause-found : goal.returns-in-TooLong-clause-found
returns-in-TooLong-clause-found g c =
    found_too_long c.args.limit c.args.path.now c.loop-server.server c.in_ok-read.field-0 (g.F.Shelf.state c.args.shelf.now).holds (g.F.Shelf.state c.loop-server.shelf).holds
    c.loop-server.invariant.stays.holds c.in-TooLong.is c.in_ok-read.ensures.found c.loop-server.invariant.none

pub returns-in-Bytes-clause-found : goal.returns-in-Bytes-clause-found
returns-in-Bytes-clause-found g c =
    found_bytes c.args.limit c.args.path.now c.loop-server.server c.in_ok-read.field-0 c.in-Bytes.bytes c.loop-server.server (g.F.Shelf.state c.args.shelf.now).holds (g.F.Shelf.state c.loop-server.shelf).holds
    refl c.loop-server.invariant.stays.holds c.in-Bytes.is c.in_ok-read.ensures.found c.loop-server.invariant.none

pub loop-server-preserved : goal.loop-server-preserved
loop-server-preserved g c = record {
  stays = kept_on c.loop-server.invariant.stays c.in_ok-read.ensures.asks;
  servers = c.loop-server.invariant.servers;
  each = c.loop-server.invariant.each;
  none = not_here c.args.limit c.args.path.now c.loop-server.server c.in_ok-read.field-0 (g.F.Shelf.state c.args.shelf.now).holds (g.F.Shelf.state c.loop-server.shelf).holds (g.F.Shelf.state c.args.shelf.now).servers
      c.loop-server.invariant.stays.holds (omega (arith, c.loop-server.invariant.servers)) c.loop-server.invariant.each c.in-Absent.is c.in_ok-read.ensures.found c.loop-server.invariant.none;
}
