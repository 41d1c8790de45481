use Rattle.std.proofs.Common.{take}
use Rattle.providers.specs.Lists.{AreProviders}
use Rattle.tree_model.proofs.index.providers_of.Given as goal

abbrev pub invariant-loop-item : goal.invariant-loop-item
invariant-loop-item l = AreProviders (take l.item-index l.item-items) l.providers
