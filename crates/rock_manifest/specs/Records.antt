-- Which values are records. (This project's own.)
use Rattle.std.specs.Prelude.{ℕ, ◌≡◌, List, length, map, IsTrue}
use Rattle.std.specs.List.{All}
use Rattle.std.specs.List.Sorted.{IsStrictlySortedBy}
use Rattle.std.specs.Str.{IsUtf8}
use Rattle.hex.specs.Hex.{IsBytes}
use Rattle.rocks_text.specs.Files.{path_cmp}
use Rattle.rocks_text.specs.Items.{item_cmp}
use Rattle.rocks_text.specs.Texts.{is_file_path}
use Rattle.rocks_text.specs.declared.item.Item.{Item}
use Rattle.rock_manifest.specs.declared.record.Record.{Record}

-- a path of a file, as every value of its type is
abbrev pub IsPath : List ℕ → Type 0
IsPath path = IsTrue (is_file_path path) × IsUtf8 path

-- a digest, as every value of its type is: 16 bytes
abbrev pub IsDigest : List ℕ → Type 0
IsDigest digest = (length digest ≡ 16) × IsBytes digest

-- the items stand in order, each once
abbrev pub AreItemsInOrder : {A : Type 0} → List (Item × A) → Type 0
AreItemsInOrder files = IsStrictlySortedBy item_cmp (map (λ file. file.0) files)

-- the paths stand in order, each once
abbrev pub ArePathsInOrder : {A : Type 0} → List (List ℕ × A) → Type 0
ArePathsInOrder files = IsStrictlySortedBy path_cmp (map (λ file. file.0) files)

-- Items and own paths are in order, each once. Paths and digests are such.
pub record IsRecord (whole : Record) : Type 0 where
  pub items : AreItemsInOrder whole.items
  pub own : ArePathsInOrder whole.own
  pub item_files : All (λ file. IsPath file.0.path × IsDigest file.1) whole.items
  pub own_files : All (λ file. IsPath file.0 × IsDigest file.1) whole.own
