-- What is found in a line of a record's text.
use Rattle.std.proofs.Common.{◌≡◌, ℕ, ◌+◌, ◌-◌, ◌/◌, ◌%◌, List, [], ◌∷◌, ◌++◌, length, take, refl, sym, ap, ◌∙◌, true, false, not, ◌&&◌, ◌==◌, nat_le, nat_lt, codes, arith, append_assoc, length-append, Ok, Some, None}
use Rattle.std.specs.Prelude.{slice_range}
use Rattle.std.specs.List.{flat_map, list_all, filter}
use Rattle.std.specs.Str.{is_utf8}
use Rattle.std.proofs.lemmas.Bool.{and_from, and_parts, and_right, cond_both, cond-false, cond-true, le-leb, le-ltb}
use Rattle.std.proofs.lemmas.Bool.Decides.{nat_tests}
use Rattle.std.proofs.lemmas.List.{take_at, drop_at}
use Rattle.std.proofs.lemmas.Str.{is_utf8-from_IsUtf8}
use Rattle.hex.specs.Hex.{decode_sized, encode_lower, lower_digits}
use Rattle.hex.proofs.HexLemmas.{decode_pairs-encode_with, IsDigits-lower_digits}
use Rattle.lua_names.specs.Names.{is_name, is_name_start, is_name_byte}
use Rattle.lua_value.specs.declared.key.Key.TheVariants.{Text}
use Rattle.lua_print.specs.Printed.{key_text}
use Rattle.lua_print.specs.Quoted.{escaped, quoted}
use Rattle.rocks_text.specs.Texts.{is_part_byte, is_file_path}
use Rattle.rock_manifest.specs.Reading.{path_in, file_in, file_from}
use Rattle.rock_manifest.specs.Records.{IsDigest}
use Rattle.rock_manifest.proofs.Pieces.{path_bytes, unescaped, digits_quoted, digits_length}
use Rattle.rock_manifest.proofs.Spelling.{bare_line, IsFile}

-- ---- keys

starts_otherwise : (b : ℕ) → is_name_start b ≡ true → (b == 91) ≡ false
starts_otherwise b is = grind (arith, nat_tests)

-- what stands before the last bytes
before_end : (text end : List ℕ) (n : ℕ) → n ≡ length end → slice_range (text ++ end) 0 (length (text ++ end) - n)
    ≡ text
before_end text end n e = take_at text end (length (text ++ end) - n - 0) (omega (arith, length-append text end))

-- what stands between the first bytes and the last
between : (start text end : List ℕ) (m n : ℕ) → m ≡ length start → n ≡ length end
    → slice_range (start ++ (text ++ end)) m (length (start ++ (text ++ end)) - n) ≡ text
between start text end m n s e =
    ap (λ (l : List ℕ). take (length (start ++ (text ++ end)) - n - m) l) (drop_at start (text ++ end) m (sym s))
    ∙ take_at text end (length (start ++ (text ++ end)) - n - m)
    (omega (arith, length-append start (text ++ end), length-append text end))

-- a name is read as itself
bare_path : (path : List ℕ) → is_name path ≡ true → path_in (path ++ codes " = ") ≡ path
unfolding path_in
bare_path [] is = cc
bare_path (b ∷ path) is =
    let key = b ∷ (path ++ codes " = ") in
    let begins = (and_parts (is_name_start b) (list_all is_name_byte path) (and_parts _ _ is).0).0 in
    cond-false (nat_le 7 (length key) && (b == 91)) (filter (λ b. not (b == 92)) (slice_range key 2 (length key - 5)))
    (slice_range key 0 (length key - 3)) (and_right (nat_le 7 (length key)) (b == 91) (starts_otherwise b begins))
    ∙ before_end (b ∷ path) (codes " = ") 3 refl

quoted_path : (text : List ℕ) → path_in (codes "[\"" ++ (text ++ codes "\"] = ")) ≡ filter (λ b. not (b == 92)) text
unfolding path_in
quoted_path text =
    let key = codes "[\"" ++ (text ++ codes "\"] = ") in
    let size = length-append text (codes "\"] = ") in
    cond-true (nat_le 7 (length key) && true) (filter (λ b. not (b == 92)) (slice_range key 2 (length key - 5)))
    (slice_range key 0 (length key - 3))
    (and_from (nat_le 7 (length key)) true (le-leb 7 (length key) (omega (arith, size))) refl)
    ∙ ap (λ (l : List ℕ). filter (λ b. not (b == 92)) l) (between (codes "[\"") text (codes "\"] = ") 2 5 refl refl)

pub path_again : (path : List ℕ) → list_all is_part_byte path ≡ true → path_in (key_text (Text path)) ≡ path
path_again path bytes =
    cond_both (is_name path) (path ++ codes " = ") (codes "[" ++ quoted path ++ codes "] = ")
    (λ key. path_in key ≡ path)
    (bare_path path)
    (λ _. ap path_in (ap (λ (l : List ℕ). codes "[\"" ++ l)
    (append_assoc (flat_map escaped path) (34 ∷ []) (codes "] = "))) ∙ quoted_path (flat_map escaped path)
    ∙ unescaped path bytes)

-- ---- lines

-- three blanks, a key, and a digest between quotes
line_of : (key digits : List ℕ) → List ℕ
line_of key digits = codes "   " ++ (key ++ (34 ∷ (digits ++ codes "\",")))

module _ (key digits : List ℕ) (size : length digits ≡ 32) where
  line_length : length (line_of key digits) ≡ length key + 38
  unfolding line_of
  line_length = omega (arith, length-append key (34 ∷ (digits ++ codes "\",")), length-append digits (codes "\","))

  line_key : slice_range (line_of key digits) 3 (length (line_of key digits) - 35) ≡ key
  unfolding line_of
  line_key = between (codes "   ") key (34 ∷ (digits ++ codes "\",")) 3 35 refl
      (omega (arith, length-append digits (codes "\",")))

  line_digits : slice_range (line_of key digits) (length (line_of key digits) - 34) (length (line_of key digits) - 2)
      ≡ digits
  unfolding line_of
  line_digits =
      let start = codes "   " ++ (key ++ 34 ∷ []) in
      let regrouped : start ++ (digits ++ codes "\",") ≡ line_of key digits = simp append_assoc in
      let at : length (line_of key digits) - 34
      ≡ length start = omega (arith, line_length, length-append key (34 ∷ [])) in
      ap (λ (l : List ℕ). slice_range l (length (line_of key digits) - 34) (length (line_of key digits) - 2))
      (sym regrouped)
      ∙ ap (λ (n : ℕ). slice_range (start ++ (digits ++ codes "\",")) n (length (line_of key digits) - 2)) at
      ∙ ap (λ (l : List ℕ). slice_range (start ++ (digits ++ codes "\",")) (length start) (length l - 2))
      (sym regrouped)
      ∙ between start digits (codes "\",") (length start) 2 refl refl

  found_in_line : file_in (line_of key digits) ≡ file_from (path_in key) (decode_sized digits 16)
  unfolding file_in
  found_in_line =
      cond-false (nat_lt (length (line_of key digits)) 38) None _
      (le-ltb (length (line_of key digits)) 38 (omega (arith, line_length)))
      ∙ ap (λ (k : List ℕ). file_from (path_in k)
      (decode_sized (slice_range (line_of key digits) (length (line_of key digits) - 34)
      (length (line_of key digits) - 2)) 16)) line_key
      ∙ ap (λ (d : List ℕ). file_from (path_in key) (decode_sized d 16)) line_digits

digest_again : (digest : List ℕ) → IsDigest digest → decode_sized (encode_lower digest) 16 ≡ Ok digest
digest_again digest is =
    let size = digits_length digest is in
    let pairs = decode_pairs-encode_with lower_digits IsDigits-lower_digits 0 digest is.1 in
    let even : (length (encode_lower digest) % 2 == 1) ≡ false = rw size refl in
    let half : (length (encode_lower digest) / 2 == 16) ≡ true = rw size refl in
    cond-false _ _ _ even ∙ cond-true _ _ _ half ∙ pairs

line_is : (file : List ℕ × List ℕ) → IsDigest file.1
    → bare_line file ≡ line_of (key_text (Text file.0)) (encode_lower file.1)
unfolding line_of
line_is file is =
    ap (λ (digest : List ℕ). codes "   " ++ (key_text (Text file.0) ++ (digest ++ codes ","))) (digits_quoted file.1 is)
    ∙ ap (λ (rest : List ℕ). codes "   " ++ (key_text (Text file.0) ++ (34 ∷ rest)))
    (append_assoc (encode_lower file.1) (34 ∷ []) (codes ","))

-- a line's file is found in it
pub file_again : (file : List ℕ × List ℕ) → IsFile file → file_in (bare_line file) ≡ Some file
file_again file is =
    let utf8 = is_utf8-from_IsUtf8 file.0 is.0.1 in
    ap file_in (line_is file is.1)
    ∙ found_in_line (key_text (Text file.0)) (encode_lower file.1) (digits_length file.1 is.1)
    ∙ ap (λ (path : List ℕ). file_from path (decode_sized (encode_lower file.1) 16))
    (path_again file.0 (path_bytes file.0 is.0.0))
    ∙ ap (file_from file.0) (digest_again file.1 is.1)
    ∙ cond-true (is_utf8 file.0 && is_file_path file.0) (Some file) None
    (and_from (is_utf8 file.0) (is_file_path file.0) utf8 is.0.0)
