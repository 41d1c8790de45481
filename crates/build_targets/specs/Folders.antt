-- Which folders of the sources a build may name (LuaRocks documentation, rockspec format: copy_directories).
use Rattle.std.specs.Prelude.{ℕ, Bool, ◌==◌, ◌&&◌, not, List, [], ◌∷◌, codes}
use Rattle.std.specs.List.{list_any, take_while}
use Rattle.std.specs.Str.{bytes_eq}
use Rattle.build_targets.specs.Meanings.{source, is_source}

-- the first part of a path
abbrev pub first_part : List ℕ → List ℕ
first_part path = take_while (λ b. not (b == 47)) path

-- the first parts that a named folder may not have: they would be a rock's own places
abbrev pub kept_parts : (rockspec : List ℕ) → List (List ℕ)
kept_parts rockspec =
    codes "lua" ∷ codes "lib" ∷ codes "bin" ∷ codes "conf" ∷ codes "rock_manifest" ∷ rockspec ∷ []

-- a text names a folder that may be copied, for a rock whose rockspec has this file name
abbrev pub is_folder : (rockspec : List ℕ) → List ℕ → Bool
is_folder rockspec named =
    is_source named && not (list_any (bytes_eq (first_part (source named))) (kept_parts rockspec))
