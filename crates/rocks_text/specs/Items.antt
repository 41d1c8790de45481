-- The order of the files that rocks deploy. (This project's own.)
use Rattle.std.specs.Prelude.{ℕ}
use Rattle.std.specs.declared.cmp.Ordering.{Ordering}
use Rattle.std.specs.Ordering.{nat_cmp, on, then_cmp}
use Rattle.rocks_text.specs.Files.{path_cmp}
use Rattle.rocks_text.specs.declared.item.Item.{Item}
use Rattle.rocks_text.specs.declared.item.Kind.{Kind}
use Rattle.rocks_text.specs.declared.item.Kind.TheVariants.{Lua, Lib, Bin}

-- modules come first, then compiled modules, then commands
abbrev pub rank_of : Kind → ℕ
rank_of Lua = 0
rank_of Lib = 1
rank_of Bin = 2

abbrev pub kind_cmp : Kind → Kind → Ordering
kind_cmp = on rank_of nat_cmp

-- by kind, and those of one kind by the bytes of their paths
abbrev pub item_cmp : Item → Item → Ordering
item_cmp = then_cmp (on (λ item. item.kind) kind_cmp) (on (λ item. item.path) path_cmp)
