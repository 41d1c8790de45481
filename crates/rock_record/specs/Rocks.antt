-- The record of a rock.
use Rattle.std.specs.Prelude.{ℕ, ◌≢◌, List, [], ◌∷◌, map, IsTrue, if◌then◌else◌}
use Rattle.std.specs.List.{All}
use Rattle.std.specs.Ordering.{is_lt}
use Rattle.md5.specs.Md5.{md5}
use Rattle.rocks_text.specs.Files.{path_cmp}
use Rattle.rocks_text.specs.Texts.{is_name}
use Rattle.rocks_version.specs.Keys.{rockspec_name}
use Rattle.rocks_version.specs.Texts.{is_version}
use Rattle.rock_manifest.specs.declared.record.Record.{Record}
use Rattle.rock_record.specs.declared.rock.Rock.{Rock}
use Rattle.rock_manifest.specs.Records.{IsPath, AreItemsInOrder, ArePathsInOrder}

-- Items and own files are in order, each once, and no own file has the rockspec's name.
pub record IsInOrder (rock : Rock) : Type 0 where
  pub items : AreItemsInOrder rock.items
  pub own : ArePathsInOrder rock.own
  pub apart : All (λ file. file.0 ≢ rockspec_name rock.key.name rock.key.version) rock.own

-- what the types of its parts promise of every rock
pub record HasPaths (rock : Rock) : Type 0 where
  pub name : IsTrue (is_name rock.key.name)
  pub version : IsTrue (is_version rock.key.version)
  pub items : All (λ file. IsPath file.0.path) rock.items
  pub own : All (λ file. IsPath file.0) rock.own

-- files with the digests of their bytes
abbrev pub digested : {A : Type 0} → List (A × List ℕ) → List (A × List ℕ)
digested files = map (λ file. (file.0, md5 file.1)) files

-- a file among others that are in order: behind those with lesser paths
abbrev pub put_in_order : List ℕ × List ℕ → List (List ℕ × List ℕ) → List (List ℕ × List ℕ)
put_in_order file [] = file ∷ []
put_in_order file (first ∷ rest) =
    if is_lt (path_cmp first.0 file.0) then first ∷ put_in_order file rest else file ∷ first ∷ rest

-- each item with the digest of its bytes, and likewise the own files and the rockspec among them
unfoldable pub record_of : Rock → Record
record_of rock = record {
  items = digested rock.items;
  own = put_in_order (rockspec_name rock.key.name rock.key.version, md5 rock.rockspec) (digested rock.own);
}
