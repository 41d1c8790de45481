-- Which paths can't be those of two files of one tree. (This project's own.)
use Rattle.std.specs.Prelude.{ℕ, ◌≡◌, ◌⊎◌, List}
use Rattle.rocks_text.specs.Paths.{IsFolderOf}

-- they are equal, or one is that of a folder of the other
abbrev pub Conflicts : (left right : List ℕ) → Type 0
Conflicts left right = (left ≡ right) ⊎ (IsFolderOf left right ⊎ IsFolderOf right left)
