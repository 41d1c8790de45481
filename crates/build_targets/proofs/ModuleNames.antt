-- The name of a module is a text: its bytes are ASCII.
use Rattle.std.proofs.Common.{◌≡◌, ℕ, ◌<◌, List, [], ◌∷◌, length, nat_le, true, arith, tests, ◌==◌, lit<, subst}
use Rattle.std.specs.List.{list_all, join_with_byte, slice_split}
use Rattle.std.specs.Str.{IsAscii, is_utf8}
use Rattle.std.proofs.lemmas.Bool.{and_parts}
use Rattle.std.proofs.lemmas.List.Elements.{All-cons, All-nil, All-weaker}
use Rattle.std.proofs.lemmas.List.Splits.{join_with_byte-slice_split}
use Rattle.std.proofs.lemmas.List.Sums.{AllPass-from_list_all}
use Rattle.std.proofs.lemmas.Str.{IsAscii-append, IsUtf8-from_ascii, is_utf8-from_IsUtf8}
use Rattle.std.proofs.lemmas.Str.Ascii.{IsAscii-from_all, IsAscii-nil}
use Rattle.rocks_text.specs.Modules.{is_module_byte, is_module_part, is_module_name}

ascii_byte : (b : ℕ) → is_module_byte b ≡ true → b < 128
ascii_byte b h = grind (arith, tests, h)

ascii_part : (part : List ℕ) → is_module_part part ≡ true → IsAscii part
ascii_part part h =
    let bytes = (and_parts (nat_le 1 (length part)) (list_all is_module_byte part) h).1 in
    IsAscii-from_all part (All-weaker _ _ ascii_byte part (AllPass-from_list_all is_module_byte part bytes))

dot : IsAscii (46 ∷ [])
dot = IsAscii-from_all (46 ∷ []) (All-cons (λ b. b < 128) 46 [] (lit< tt) (All-nil (λ b. b < 128)))

ascii_parts : (parts : List (List ℕ)) → list_all is_module_part parts ≡ true → IsAscii (join_with_byte 46 parts)
ascii_parts [] h = IsAscii-nil
ascii_parts (part ∷ []) h = ascii_part part (and_parts (is_module_part part) _ h).0
ascii_parts (part ∷ next ∷ parts) h =
    let both = and_parts (is_module_part part) (list_all is_module_part (next ∷ parts)) h in
    IsAscii-append part _ (ascii_part part both.0) (IsAscii-append (46 ∷ []) _ dot (ascii_parts (next ∷ parts) both.1))

pub name_is_utf8 : (name : List ℕ) → is_module_name name ≡ true → is_utf8 name ≡ true
name_is_utf8 name h =
    let parts = slice_split (λ b. b == 46) name in
    is_utf8-from_IsUtf8 name (IsUtf8-from_ascii name (subst IsAscii (join_with_byte-slice_split 46 name) (ascii_parts parts h)))
