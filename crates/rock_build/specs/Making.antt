-- What comes of the steps of a rock in a folder of a server.
use Rattle.std.specs.Prelude.{ℕ, ◌≡◌, List, Option, Some, IfSome, Result, slice_get}
use Rattle.rocks_text.specs.Files.{Files}
use Rattle.rockspec.specs.declared.read.Rockspec.{Rockspec}
use Rattle.rock_record.specs.declared.rock.Rock.{Rock}
use Rattle.rock_parts.specs.declared.parts.Step.{Step}
use Rattle.rock_files.specs.Gathering.{found_in}
use Rattle.rock_files.specs.declared.fault.BuildFault.{BuildFault}
use Rattle.rock_files.specs.declared.gathering.Gathered.{Gathered}
use Rattle.rock_build.specs.Contents.{ComesTo, IsAnswer}

-- the rock of a rockspec with these files
abbrev pub rock_with : Rockspec → (bytes : List ℕ) → Gathered → Rock
rock_with spec bytes gathered = record {
  key = spec.key;
  dependencies = spec.dependencies;
  rockspec = bytes;
  items = gathered.items;
  own = gathered.own;
}

-- where the shelf tells, the steps come to the answer
abbrev pub IsComing : Option (List Files) → (server : ℕ) → (folder : List ℕ) → List Step → Rockspec → (bytes : List ℕ) → Result Rock BuildFault → Type 0
IsComing holds server folder steps spec bytes result = IfSome holds (λ servers. (files : Files)
    → slice_get servers server ≡ Some files → IsAnswer (ComesTo spec bytes (found_in files folder steps)) result)
