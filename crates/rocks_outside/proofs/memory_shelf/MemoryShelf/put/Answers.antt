use Rattle.std.proofs.Common.{sym, subst}
use Rattle.std.proofs.lemmas.List.Elements.{All-set}
use Rattle.rocks_text.specs.Files.{HasNoFileAsFolder}
use Rattle.rocks_outside.proofs.Clashing.{apart_after}
use Rattle.rocks_outside.proofs.memory_shelf.MemoryShelf.put.Goals as goal

pub invariant_of-self-clause-apart : goal.invariant_of-self-clause-apart
invariant_of-self-clause-apart c =
    let old : HasNoFileAsFolder c.index_mut-server.result.now =
    subst HasNoFileAsFolder (sym c.index_mut-server.ensures.value) (c.args.self.now.apart c.args.server c.index_mut-server.result.now c.requires) in
    let new = apart_after c.put.result _ _ c.args.path.now c.args.bytes.now c.put.ensures.refused c.put.ensures.put c.put.ensures.err old in
    All-set HasNoFileAsFolder c.args.self.now.servers.items c.args.server c.put.new.self new c.args.self.now.apart
