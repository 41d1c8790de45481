-- The places at which files come to stand, and the targets that they make.
use Rattle.std.specs.Prelude.{ℕ, List, ◌++◌, codes, Result, Ok, Err}
use Rattle.build_targets.specs.declared.target.Dest.{Dest}
use Rattle.build_targets.specs.declared.target.Dest.TheVariants.{Item, Conf}
use Rattle.build_targets.specs.declared.target.Target.{Target}
use Rattle.build_targets.specs.Meanings.{source}

-- the target of a file at its place, or what is blamed that it has none
abbrev pub from_file : (file : List ℕ) → Result Dest (List ℕ) → Result Target (List ℕ)
from_file file (Ok to) = Ok (record { to = to; from = source file })
from_file file (Err blamed) = Err blamed

-- the path of a place: an item's among those of its kind, and another file's in the rock's own folder
abbrev pub path_of : Dest → List ℕ
path_of (Item item) = item.path
path_of (Conf path) = codes "conf/" ++ path
