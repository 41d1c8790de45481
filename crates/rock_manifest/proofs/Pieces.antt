-- The bytes of paths and of digests.
use Rattle.std.proofs.Common.{◌≡◌, ℕ, cond, List, [], ◌∷◌, ◌++◌, length, refl, ap, true, false, not, Bool, ◌&&◌, ◌==◌, ◌⊎◌, inl, inr, arith, IsTrue}
use Rattle.std.specs.List.{flat_map, list_all, filter, onto_first, AllPass}
use Rattle.std.proofs.lemmas.Bool.{and_from, and_parts, cases_eq}
use Rattle.std.proofs.lemmas.Bool.Decides.{nat_tests}
use Rattle.std.proofs.lemmas.List.Elements.{All-head, All-tail}
use Rattle.hex.specs.Hex.{encode_lower, is_hex_digit, lower_digits}
use Rattle.hex.proofs.HexLemmas.{decode_of-encode_lower, decode_of-ok, length-encode_with}
use Rattle.rocks_text.specs.Texts.{is_file_path, is_part, is_part_byte, parts}
use Rattle.lua_print.specs.Quoted.{escaped, quoted}
use Rattle.rock_manifest.specs.Records.{IsDigest}

-- no line feed is among the bytes
abbrev pub has_no_feed : List ℕ → Bool
has_no_feed bytes = list_all (λ b. not (b == 10)) bytes

-- ---- paths

bytes_of_part : (most : ℕ) (part : List ℕ) → is_part most part ≡ true → list_all is_part_byte part ≡ true
bytes_of_part most part is = (and_parts _ _ (and_parts _ _ (and_parts _ _ is).0).0).1

bytes_of_parts : (most : ℕ) (ps : List (List ℕ)) → list_all (is_part most) ps ≡ true
    → list_all (list_all is_part_byte) ps ≡ true
bytes_of_parts most [] all = refl
bytes_of_parts most (part ∷ ps) all =
    let h = and_parts (is_part most part) (list_all (is_part most) ps) all in
    and_from _ _ (bytes_of_part most part h.0) (bytes_of_parts most ps h.1)

first_byte : (b : ℕ) (ps : List (List ℕ)) → list_all (list_all is_part_byte) (onto_first b ps) ≡ true
    → (is_part_byte b ≡ true) × (list_all (list_all is_part_byte) ps ≡ true)
first_byte b [] all = ((and_parts (is_part_byte b) true (and_parts (is_part_byte b && true) true all).0).0, refl)
first_byte b (part ∷ ps) all =
    let h = and_parts (is_part_byte b && list_all is_part_byte part) (list_all (list_all is_part_byte) ps) all in
    let k = and_parts (is_part_byte b) (list_all is_part_byte part) h.0 in
    (k.0, and_from _ _ k.1 h.1)

slash : (b : ℕ) → (b == 47) ≡ true → is_part_byte b ≡ true
slash b is = grind (arith, nat_tests)

split_bytes : (text : List ℕ) → list_all (list_all is_part_byte) (parts text) ≡ true → list_all is_part_byte text ≡ true
split_bytes [] all = refl
split_bytes (b ∷ text) all =
    elim (b == 47) as (λ t. (b == 47) ≡ t
    → list_all (list_all is_part_byte) (cond t ([] ∷ parts text) (onto_first b (parts text))) ≡ true
    → list_all is_part_byte (b ∷ text) ≡ true) [
      | true ↦ λ is rest. and_from _ _ (slash b is) (split_bytes text rest)
      | false ↦ λ no whole. let h = first_byte b (parts text) whole in and_from _ _ h.0 (split_bytes text h.1)
    ] refl all

-- a path has no control byte and no backslash
pub path_bytes : (path : List ℕ) → IsTrue (is_file_path path) → list_all is_part_byte path ≡ true
path_bytes path is = split_bytes path (bytes_of_parts 150 (parts path) (and_parts _ _ is).1)

escape_of : (b : ℕ) → is_part_byte b ≡ true → ((b ≡ 34) × (escaped b ≡ 92 ∷ 34 ∷ [])) ⊎ (escaped b ≡ b ∷ [])
escape_of b is = elim (cases_eq b 34) [ inl e ↦ inl (e, rw e refl) | inr other ↦ inr (grind (arith, nat_tests)) ]

no_backslash : (b : ℕ) → is_part_byte b ≡ true → not (b == 92) ≡ true
no_backslash b is = grind (arith, nat_tests)

no_feed : (b : ℕ) → is_part_byte b ≡ true → not (b == 10) ≡ true
no_feed b is = grind (arith, nat_tests)

pub unescaped : (path : List ℕ) → list_all is_part_byte path ≡ true
    → filter (λ b. not (b == 92)) (flat_map escaped path) ≡ path
unescaped [] all = refl
unescaped (b ∷ path) all =
    let h = and_parts (is_part_byte b) (list_all is_part_byte path) all in
    let rest = unescaped path h.1 in
    elim (escape_of b h.0) [
      | inl quote ↦ rw (quote.1, quote.0, rest) refl
      | inr plain ↦ rw (plain, no_backslash b h.0, rest) refl
    ]

pub path_has_no_feed : (path : List ℕ) → list_all is_part_byte path ≡ true → has_no_feed path ≡ true
path_has_no_feed [] all = refl
path_has_no_feed (b ∷ path) all =
    let h = and_parts (is_part_byte b) (list_all is_part_byte path) all in
    and_from _ _ (no_feed b h.0) (path_has_no_feed path h.1)

pub escapes_have_no_feed : (path : List ℕ) → list_all is_part_byte path ≡ true
    → has_no_feed (flat_map escaped path) ≡ true
escapes_have_no_feed [] all = refl
escapes_have_no_feed (b ∷ path) all =
    let h = and_parts (is_part_byte b) (list_all is_part_byte path) all in
    let rest = escapes_have_no_feed path h.1 in
    elim (escape_of b h.0) [
      | inl quote ↦ rw quote.1 rest
      | inr plain ↦ rw plain (and_from _ _ (no_feed b h.0) rest)
    ]

-- ---- digests

plain_digit : (c : ℕ) → is_hex_digit c ≡ true → (escaped c ≡ c ∷ []) × (not (c == 10) ≡ true)
plain_digit c is = (grind (arith, nat_tests), grind (arith, nat_tests))

plain_digits : (digits : List ℕ) → AllPass is_hex_digit digits
    → (flat_map escaped digits ≡ digits) × (has_no_feed digits ≡ true)
plain_digits [] all = (refl, refl)
plain_digits (c ∷ digits) all =
    let one = plain_digit c (All-head (λ x. is_hex_digit x ≡ true) c digits all) in
    let rest = plain_digits digits (All-tail (λ x. is_hex_digit x ≡ true) c digits all) in
    (rw (one.0, rest.0) refl, and_from _ _ one.1 rest.1)

module _ (digest : List ℕ) (is : IsDigest digest) where
  digits : (flat_map escaped (encode_lower digest) ≡ encode_lower digest) × (has_no_feed (encode_lower digest) ≡ true)
  digits = plain_digits (encode_lower digest)
      (decode_of-ok (encode_lower digest) digest (decode_of-encode_lower digest is.1)).1

  pub digits_quoted : quoted (encode_lower digest) ≡ 34 ∷ (encode_lower digest ++ 34 ∷ [])
  digits_quoted = ap (λ (bytes : List ℕ). 34 ∷ (bytes ++ 34 ∷ [])) digits.0

  pub digits_have_no_feed : has_no_feed (encode_lower digest) ≡ true
  digits_have_no_feed = digits.1

  pub digits_length : length (encode_lower digest) ≡ 32
  digits_length = let e = length-encode_with lower_digits digest in let sixteen = is.0 in omega (arith, e)
