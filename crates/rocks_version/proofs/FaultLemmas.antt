-- The fault of a text.
use Rattle.std.proofs.Common.{◌≡◌, ℕ, List, length, refl, true, false, not, nat_lt, ◌&&◌, if◌then◌else◌, Some, None}
use Rattle.rocks_version.specs.Texts.{has_form, has_short_numbers, is_version}
use Rattle.rocks_version.specs.Faults.{bad_place, long_number_place, fault_of}
use Rattle.rocks_version.specs.declared.fault.VersionFault.TheVariants.{BadVersion, NumberTooLong}
use Rattle.rocks_version.proofs.Numbers.{and_left, and_right, long_numbers}

-- the fault of a text of the right form, by the place of a long number
pub fault_is : (text : List ℕ) → fault_of text
    ≡ (if not (has_form text) then Some (BadVersion (bad_place text)) else (if nat_lt (long_number_place text) (length text) then Some (NumberTooLong (long_number_place text)) else None))
unfolding fault_of is_version
fault_is text =
    rw (long_numbers text) (elim (has_form text) as (λ form. (if not form then Some (BadVersion (bad_place text)) else (if not (form && has_short_numbers text) then Some (NumberTooLong (long_number_place text)) else None))
    ≡ (if not form then Some (BadVersion (bad_place text)) else (if not (has_short_numbers text) then Some (NumberTooLong (long_number_place text)) else None))) [
      | true ↦ refl
      | false ↦ refl
    ])

-- a text is a version exactly where it has no fault
pub version_if_none : (text : List ℕ) → fault_of text ≡ None → is_version text ≡ true
unfolding fault_of
version_if_none text =
    elim (has_form text) as (λ form. has_form text ≡ form → (if not form then Some (BadVersion (bad_place text)) else (if not (is_version text) then Some (NumberTooLong (long_number_place text)) else None)) ≡ None → is_version text ≡ true) [
      | true ↦ λ _. elim (is_version text) as (λ version. (if not version then Some (NumberTooLong (long_number_place text)) else None) ≡ None → version ≡ true) [ true ↦ λ _. refl | false ↦ λ h. cc ]
      | false ↦ λ _ h. cc
    ] refl

pub none_if_version : (text : List ℕ) → is_version text ≡ true → fault_of text ≡ None
unfolding fault_of is_version
none_if_version text h =
    let form = and_left (has_form text) (has_short_numbers text) h in
    let short = and_right (has_form text) (has_short_numbers text) h in
    rw (form, short) refl
