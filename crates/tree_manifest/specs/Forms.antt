-- The lines of a manifest's text that are gathered, and the groups that they are gathered to. No public clause cites this.
use Rattle.std.specs.Prelude.{ℕ, List, [], ◌∷◌, ◌++◌, codes, map}
use Rattle.std.specs.List.{flat_map}
use Rattle.lua_print.specs.Printed.{key_text as entry_key}
use Rattle.lua_print.specs.Quoted.{quoted}
use Rattle.lua_value.specs.declared.key.Key.TheVariants.{Text}
use Rattle.rocks_constraint.specs.Printed.{printed}
use Rattle.rocks_constraint.specs.Wanted.{Wanted}
use Rattle.rocks_version.specs.declared.key.RockKey.{RockKey}
use Rattle.manifest_text.specs.Text.{key_text}
use Rattle.manifest_text.specs.declared.view.ViewRock.{ViewRock}
use Rattle.tree_manifest.specs.declared.groups.Group.{Group}

-- the line that opens the table at a key
abbrev pub opening : List ℕ → List ℕ
opening key = entry_key (Text key) ++ codes "{"

-- the line of an empty table at a key
abbrev pub empty_at : List ℕ → List ℕ
empty_at key = entry_key (Text key) ++ codes "{},"

-- the line of a text behind what stands before it
abbrev pub text_line : (front text : List ℕ) → List ℕ
text_line front text = front ++ (quoted text ++ codes ",")

-- ---- which rocks have which items

abbrev pub key_line : RockKey → List ℕ
key_line key = text_line [] (key_text key)

-- a path and the rocks that have it
abbrev pub path_group : List ℕ × List RockKey → Group
path_group path = record { outer = []; head = opening path.0; texts = map key_line path.1 }

-- ---- what rocks need

-- the two lines of a dependency and the rock that meets it
abbrev pub need_texts : Wanted × RockKey → List (List ℕ)
need_texts need =
    text_line (codes "met = ") (key_text need.1)
    ∷ text_line (codes "needs = ") (printed need.0.name need.0.constraints) ∷ []

-- the line of a version with what it needs
abbrev pub version_line : (version : List ℕ) → List (Wanted × RockKey) → List ℕ
version_line version [] = empty_at version
version_line version (need ∷ needs) = opening version

abbrev pub rock_group : ViewRock → Group
rock_group rock = record {
  outer = opening rock.key.name;
  head = version_line rock.key.version rock.dependencies;
  texts = flat_map need_texts rock.dependencies;
}
