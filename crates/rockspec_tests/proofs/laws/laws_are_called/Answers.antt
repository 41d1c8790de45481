use Rattle.std.specs.Prelude.{◌∷◌, []}
use Rattle.std.specs.Str.{is_utf8}
use Rattle.std.proofs.Common.{refl, rules}
use Rattle.std.proofs.lemmas.Bool.{and_from}
use Rattle.std.proofs.lemmas.Str.{IsUtf8-from_ascii, is_utf8-from_IsUtf8}
use Rattle.rocks_text.specs.Texts.{is_file_path}
use Rattle.rockspec_tests.proofs.laws.laws_are_called.Goals as goal

-- the file `x` is a path
pub dot_slash_goes-requires : goal.dot_slash_goes-requires
dot_slash_goes-requires c =
    let utf8 = is_utf8-from_IsUtf8 (120 ∷ []) (IsUtf8-from_ascii (120 ∷ []) (search rules)) in
    and_from (is_utf8 (120 ∷ [])) (is_file_path (120 ∷ [])) utf8 refl
