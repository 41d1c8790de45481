use Rattle.std.proofs.Common.{◌≡◌, take}
use Rattle.rock_record.specs.Rocks.{digested}
use Rattle.rock_record.proofs.rock.digested_items.Given as goal

abbrev pub invariant-loop-item : goal.invariant-loop-item
invariant-loop-item l = l.made ≡ digested (take l.item-index l.items)
