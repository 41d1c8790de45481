use Rattle.std.proofs.Common.{arith}
use Rattle.std.specs.FinMap.{empty}
use Rattle.std.proofs.lemmas.List.{length-replicate}
use Rattle.std.proofs.lemmas.List.Elements.{All-same, All-replicate}
use Rattle.rocks_text.specs.Files.{HasNoFileAsFolder}
use Rattle.rocks_outside.proofs.Clashing.{apart-empty}
use Rattle.rocks_outside.proofs.memory_shelf.MemoryShelf.new.Goals as goal

pub invariant_of-result-clause-few : goal.invariant_of-result-clause-few
invariant_of-result-clause-few c = rw (c.in_ok-empty_servers.ensures, length-replicate) (omega (arith, c.ranges.servers.fits))

pub invariant_of-result-clause-apart : goal.invariant_of-result-clause-apart
invariant_of-result-clause-apart c = All-same HasNoFileAsFolder _ _ c.in_ok-empty_servers.ensures (All-replicate HasNoFileAsFolder c.args.servers empty apart-empty)
