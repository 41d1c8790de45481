-- Whether a text in lower case is a name, asked of the text as it stands.
use Rattle.std.proofs.Common.{◌≡◌, ℕ, ◌&&◌, not, List, [], ◌∷◌, length, refl, arith, nat_le, slice_index, codes}
use Rattle.std.proofs.lemmas.Bool.Decides.{nat_tests}
use Rattle.std.proofs.lemmas.List.{length-map}
use Rattle.std.proofs.lemmas.List.Folds.{list_all-map}
use Rattle.std.specs.List.{list_all}
use Rattle.std.specs.Char.{is_ascii_alphanumeric, to_ascii_lowercase}
use Rattle.std.specs.Str.{bytes_eq}
use Rattle.rocks_text.specs.Texts.{is_name, is_name_byte, lowered}

same_kind : (b : ℕ) → is_ascii_alphanumeric (to_ascii_lowercase b) ≡ is_ascii_alphanumeric b
same_kind b = grind (arith, nat_tests)

pub lowered_name : (text : List ℕ) → is_name (lowered text)
    ≡ (nat_le 1 (length text) && nat_le (length text) 60 && is_ascii_alphanumeric (slice_index text 0)
    && list_all (λ b. is_name_byte (to_ascii_lowercase b)) text && not (bytes_eq (lowered text) (codes "manifest")))
lowered_name [] = refl
lowered_name (b ∷ text) = rw (length-map text to_ascii_lowercase, same_kind b, list_all-map is_name_byte to_ascii_lowercase (b ∷ text)) refl
