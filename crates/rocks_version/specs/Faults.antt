-- Why a text is no version, and where. (This project's own.)
use Rattle.std.specs.Prelude.{ℕ, ◌+◌, ◌-◌, ◌^◌, not, nat_lt, min, List, [], ◌∷◌, length, if◌then◌else◌, Option, Some, None}
use Rattle.std.specs.List.{prefix_len, position}
use Rattle.std.specs.Option.{option_map_or}
use Rattle.std.specs.Char.{is_ascii_digit}
use Rattle.rocks_version.specs.Texts.{is_version_byte, has_form, is_version}
use Rattle.rocks_version.specs.declared.fault.VersionFault.{VersionFault}
use Rattle.rocks_version.specs.declared.fault.VersionFault.TheVariants.{BadVersion, NumberTooLong}
use Rattle.rocks_version.specs.declared.text.TheConstants.{LONGEST, MOST_DIGITS}

-- a place as a fault tells it, which is 4,294,967,295 at most
abbrev pub told : ℕ → ℕ
told place = min place (2 ^ 32 - 1)

-- the first byte that no version has, else the byte behind the longest version, else the first byte
abbrev pub bad_place : List ℕ → ℕ
bad_place text =
    option_map_or told (position (λ b. not (is_version_byte b)) text) (if nat_lt LONGEST (length text) then LONGEST else 0)

-- the first place from which on more than 18 digits stand in a row, or the length where there is none
abbrev pub long_number_place : List ℕ → ℕ
long_number_place [] = 0
long_number_place (b ∷ bs) =
    if nat_lt MOST_DIGITS (prefix_len is_ascii_digit (b ∷ bs)) then 0 else long_number_place bs + 1

-- the fault of a text that is no version
unfoldable pub fault_of : List ℕ → Option VersionFault
fault_of text =
    if not (has_form text) then Some (BadVersion (bad_place text))
    else (if not (is_version text) then Some (NumberTooLong (long_number_place text)) else None)
