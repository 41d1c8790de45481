-- What moves make of files. (This project's own.)
use Rattle.std.specs.Prelude.{ℕ, ◌≡◌, ◌≢◌, not, List, [], ◌∷◌, ◌++◌, codes, map, IsSome}
use Rattle.std.specs.List.{AllByRecursion, Contains, starts_with}
use Rattle.std.specs.Bool.{nat_eq}
use Rattle.std.specs.Fmt.{decimal}
use Rattle.std.specs.FinMap.{get, insert, retain_keys}
use Rattle.rocks_text.specs.Files.{Files}
use Rattle.rocks_outside.specs.Device.{renamed}
use Rattle.tree_moves.specs.declared.lists.Move.{Move}
use Rattle.tree_moves.specs.declared.lists.MoveLists.{MoveLists}
use Rattle.tree_moves.specs.declared.lists.Staged.{Staged}

-- ---- the work folder

abbrev pub work_folder : List ℕ
work_folder = codes "lib/luarocks/work/"

abbrev pub old_folder : List ℕ
old_folder = codes "lib/luarocks/work/old/"

-- where the new file with that number waits
abbrev pub new_path : ℕ → List ℕ
new_path number = codes "lib/luarocks/work/new/" ++ decimal number

-- where the file with that number goes that goes away
abbrev pub old_path : ℕ → List ℕ
old_path number = codes "lib/luarocks/work/old/" ++ decimal number

-- ---- what is made of files

-- the files with the new ones written over them, one after another
abbrev pub staged_in : List Staged → Files → Files
staged_in [] files = files
staged_in (file ∷ staged) files = staged_in staged (insert files file.at file.bytes)

-- the files after moves, one after another
abbrev pub moved : List Move → Files → Files
moved [] files = files
moved (move ∷ moves) files = moved moves (renamed move.from move.to files)

-- the files without those in `old/`
abbrev pub settled_old : Files → Files
settled_old files = retain_keys files (λ path. not (starts_with nat_eq path old_folder))

-- the files after the new ones were written, the moves out of the way and those to their places were made, and what stands
-- in `old/` was taken away
abbrev pub performed : MoveLists → Files → Files
performed moves files = settled_old (moved moves.place (moved moves.aside (staged_in moves.staged files)))

-- ---- moves that don't meet

abbrev pub HaveOwn : (Move → List ℕ) → List Move → Type 0
HaveOwn end [] = Unit {0}
HaveOwn end (move ∷ moves) = AllByRecursion (λ other. end other ≢ end move) moves × HaveOwn end moves

-- the moves come from different paths and go to different ones; none goes to a path that another comes from; each has a file
-- to move
pub record AreApart (moves : List Move) (files : Files) : Type 0 where
  pub sources : HaveOwn (λ move. move.from) moves
  pub targets : HaveOwn (λ move. move.to) moves
  pub free : (move other : Move) → Contains moves move → Contains moves other → move.to ≢ other.from
  pub there : (move : Move) → Contains moves move → IsSome (get files move.from)
