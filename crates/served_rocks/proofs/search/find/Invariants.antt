use Rattle.std.proofs.Common.{◌≡◌, length, drop, IfSome}
use Rattle.served_rocks.specs.Search.{earliest_with}
use Rattle.served_rocks.specs.Asking.{IsKept}
use Rattle.served_rocks.proofs.search.find.Given as goal

-- no server so far has the path
abbrev pub invariant-loop-server : goal.invariant-loop-server
invariant-loop-server g l =
    let first = g.F.Shelf.state l.fn.shelf in
    record {
      stays : IsKept first (g.F.Shelf.state l.shelf);
      servers : l.servers ≡ first.servers;
      each : IfSome first.holds (λ servers. length servers ≡ first.servers);
      none : IfSome first.holds (λ servers. earliest_with l.path (drop l.server servers) ≡ earliest_with l.path servers);
    }
