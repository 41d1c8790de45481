use Rattle.std.proofs.Common.{◌≡◌, [], sym, subst}
use Rattle.providers.specs.Lists.{AreListed}
use Rattle.providers.proofs.providers.Providers.new.Goals as goal

pub invariant_of-result : goal.invariant_of-result
invariant_of-result c =
    let none : c.new.result.items ≡ [] = c.new.ensures.items in
    let empty : AreListed [] = record { items = tt; rocks = tt } in
    subst AreListed (sym none) empty
