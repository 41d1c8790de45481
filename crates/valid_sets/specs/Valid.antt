-- Which sets of rocks a tree may hold. (This project's own.)
use Rattle.std.specs.Prelude.{◌≢◌, ◌≤◌, List, length, codes}
use Rattle.std.specs.List.{All}
use Rattle.rock_build.specs.Contents.{IsWellMade}
use Rattle.rock_record.specs.declared.rock.Rock.{Rock}
use Rattle.tree_sets.specs.Needs.{IsClosed}
use Rattle.tree_sets.specs.Sets.{entries_of, files_in, CanStand}
use Rattle.tree_sets.specs.declared.limits.TheConstants.{MOST_ROCKS, MOST_TREE_FILES}

-- The rocks are well made, none has the name of Lua itself, all that they need is met, their files can stand beside each
-- other, and there are not too many.
pub record IsValid (set : List Rock) : Type 0 where
  pub stands : CanStand set
  pub made : All IsWellMade set
  pub not_lua : All (λ rock. rock.key.name ≢ codes "lua") set
  pub closed : IsClosed (entries_of set)
  pub few_rocks : length set ≤ MOST_ROCKS
  pub few_files : files_in (entries_of set) ≤ MOST_TREE_FILES
