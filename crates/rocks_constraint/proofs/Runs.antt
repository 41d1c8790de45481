-- A run of letters, digits and separators is a text.
use Rattle.std.proofs.Common.{◌≡◌, ℕ, ◌<◌, List, [], ◌∷◌, true, arith}
use Rattle.std.specs.List.{list_all}
use Rattle.std.specs.Str.{IsAscii, IsUtf8}
use Rattle.std.proofs.lemmas.Bool.Decides.{nat_tests}
use Rattle.std.proofs.lemmas.Str.{IsUtf8-from_ascii}
use Rattle.std.proofs.lemmas.Str.Ascii.{IsAscii-nil, IsAscii-cons}
use Rattle.rocks_version.specs.Texts.{is_version_byte}
use Rattle.rocks_version.proofs.Numbers.{and_left, and_right}

small : (b : ℕ) → is_version_byte b ≡ true → b < 128
small b h = grind (arith, nat_tests)

run_ascii : (run : List ℕ) → list_all is_version_byte run ≡ true → IsAscii run
run_ascii [] h = IsAscii-nil
run_ascii (b ∷ bs) h =
    IsAscii-cons b bs (small b (and_left (is_version_byte b) (list_all is_version_byte bs) h)) (run_ascii bs (and_right (is_version_byte b) (list_all is_version_byte bs) h))

pub run_utf8 : (run : List ℕ) → list_all is_version_byte run ≡ true → IsUtf8 run
run_utf8 run h = IsUtf8-from_ascii run (run_ascii run h)
