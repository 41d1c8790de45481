-- The file name of a rockspec is a path.
use Rattle.std.proofs.Common.{◌≡◌, ◌≤◌, ◌<◌, ℕ, Bool, true, false, ◌||◌, not, IsTrue, List, [], ◌∷◌, ◌++◌, length, refl, sym, ap, ◌∙◌, arith, codes, slice_index, ◌==◌, nat_le, length-append}
use Rattle.std.proofs.lemmas.Bool.{and_from, and_parts}
use Rattle.std.proofs.lemmas.Bool.Decides.{nat_tests}
use Rattle.std.proofs.lemmas.List.Folds.{list_all-append}
use Rattle.std.proofs.lemmas.List.Splits.{slice_split_none}
use Rattle.std.proofs.lemmas.List.Elements.{All-nil, All-cons}
use Rattle.std.proofs.lemmas.Str.{IsUtf8-from_ascii}
use Rattle.std.proofs.lemmas.Str.Ascii.{IsAscii-nil, IsAscii-cons}
use Rattle.std.specs.List.{list_all, All}
use Rattle.std.specs.Char.{is_ascii_alphanumeric}
use Rattle.std.specs.Str.{bytes_eq, IsAscii}
use Rattle.rocks_text.specs.Texts.{is_name_byte, is_name, is_part_byte, is_part}
use Rattle.rocks_version.specs.Texts.{is_version, is_version_byte, has_form, has_short_numbers}
use Rattle.rocks_version.proofs.Parts.{form_is}
use Rattle.rock_manifest.specs.Records.{IsPath}
use Rattle.rocks_version.specs.Keys.{rockspec_name}

-- a byte of a name, of a version or of what joins them
abbrev is_word_byte : ℕ → Bool
is_word_byte b = is_ascii_alphanumeric b || b == 45 || b == 46 || b == 95

weaker : (p q : ℕ → Bool) → ((b : ℕ) → p b ≡ true → q b ≡ true) → (text : List ℕ) → list_all p text ≡ true
    → list_all q text ≡ true
weaker p q implies [] all = refl
weaker p q implies (b ∷ text) all =
    let h = and_parts (p b) (list_all p text) all in
    and_from _ _ (implies b h.0) (weaker p q implies text h.1)

name_byte : (b : ℕ) → is_name_byte b ≡ true → is_word_byte b ≡ true
name_byte b is = grind (arith, nat_tests)

version_byte : (b : ℕ) → is_version_byte b ≡ true → is_word_byte b ≡ true
version_byte b is = grind (arith, nat_tests)

part_byte : (b : ℕ) → is_word_byte b ≡ true → is_part_byte b ≡ true
part_byte b is = grind (arith, nat_tests)

no_slash : (b : ℕ) → is_word_byte b ≡ true → (b == 47) ≡ false
no_slash b is = grind (arith, nat_tests)

small : (b : ℕ) → is_word_byte b ≡ true → b < 128
small b is = grind (arith, nat_tests)

no_slashes : (text : List ℕ) → list_all is_word_byte text ≡ true → All (λ b. (b == 47) ≡ false) text
no_slashes [] all = All-nil (λ b. (b == 47) ≡ false)
no_slashes (b ∷ text) all =
    let h = and_parts (is_word_byte b) (list_all is_word_byte text) all in
    All-cons (λ b. (b == 47) ≡ false) b text (no_slash b h.0) (no_slashes text h.1)

word_ascii : (text : List ℕ) → list_all is_word_byte text ≡ true → IsAscii text
word_ascii [] all = IsAscii-nil
word_ascii (b ∷ text) all =
    let h = and_parts (is_word_byte b) (list_all is_word_byte text) all in
    IsAscii-cons b text (small b h.0) (word_ascii text h.1)

not_dots : (text dots : List ℕ) → is_ascii_alphanumeric (slice_index text 0) ≡ true
    → not (bytes_eq text (46 ∷ dots)) ≡ true
not_dots [] dots first = refl
not_dots (b ∷ text) dots first = let other : (b == 46) ≡ false = grind (arith, nat_tests) in rw other refl

-- such bytes that begin with a letter or digit, and few of them
word_path : (text : List ℕ) → is_ascii_alphanumeric (slice_index text 0) ≡ true → list_all is_word_byte text ≡ true
    → 1 ≤ length text → length text ≤ 150 → IsPath text
word_path text first bytes some few =
    let one : nat_le 1 (length text) ≡ true = grind (arith, nat_tests) in
    let short : nat_le (length text) 150 ≡ true = grind (arith, nat_tests) in
    let whole : nat_le (length text) 1024 ≡ true = grind (arith, nat_tests) in
    let part : is_part 150 text ≡ true =
    and_from _ _ (and_from _ _ (and_from _ _ (and_from _ _ one short)
    (weaker is_word_byte is_part_byte part_byte text bytes)) (not_dots text [] first))
    (not_dots text (46 ∷ []) first) in (
      and_from _ _ whole (ap (list_all (is_part 150)) (slice_split_none (λ b. b == 47) text (no_slashes text bytes))
          ∙ and_from _ _ part refl),
      IsUtf8-from_ascii text (word_ascii text bytes),
    )

begins_alike : (text rest : List ℕ) → 1 ≤ length text → is_ascii_alphanumeric (slice_index text 0) ≡ true
    → is_ascii_alphanumeric (slice_index (text ++ rest) 0) ≡ true
begins_alike [] rest some first = absurd (omega arith)
begins_alike (b ∷ text) rest some first = first

name_facts : (name : List ℕ) → IsTrue (is_name name)
    → (1 ≤ length name) × (length name ≤ 60) × (is_ascii_alphanumeric (slice_index name 0) ≡ true) ×
    (list_all is_word_byte name ≡ true)
name_facts name is =
    let h3 = and_parts _ _ (and_parts _ _ is).0 in
    let h2 = and_parts _ _ h3.0 in
    let h1 = and_parts _ _ h2.0 in
    let some : nat_le 1 (length name) ≡ true = h1.0 in
    let few : nat_le (length name) 60 ≡ true = h1.1 in
    (grind (arith, nat_tests), grind (arith, nat_tests), h2.1, weaker is_name_byte is_word_byte name_byte name h3.1)

version_facts : (version : List ℕ) → IsTrue (is_version version)
    → (length version ≤ 40) × (list_all is_word_byte version ≡ true)
unfolding is_version
version_facts version is =
    let form = and_parts (has_form version) (has_short_numbers version) is in
    let bytes_few = and_parts _ _ (and_parts _ _ (sym (form_is version) ∙ form.0)).0 in
    let few : nat_le (length version) 40 ≡ true = bytes_few.1 in
    (grind (arith, nat_tests), weaker is_version_byte is_word_byte version_byte version bytes_few.0)

-- the file name of a rockspec is a path
pub rockspec_is_path : (name version : List ℕ) → IsTrue (is_name name) → IsTrue (is_version version)
    → IsPath (rockspec_name name version)
rockspec_is_path name version is_named is_versioned =
    let of_name = name_facts name is_named in
    let of_version = version_facts version is_versioned in
    let end = version ++ codes ".rockspec" in
    let end_bytes : list_all is_word_byte end ≡ true = list_all-append is_word_byte version (codes ".rockspec")
    ∙ and_from _ _ of_version.1 refl in
    word_path (rockspec_name name version) (begins_alike name (codes "-" ++ end) of_name.0 of_name.2)
    (list_all-append is_word_byte name (codes "-" ++ end) ∙ and_from _ _ of_name.3 end_bytes)
    (omega (arith, length-append name (codes "-" ++ end), of_name.0))
    (omega (
      arith,
      length-append name (codes "-" ++ end),
      length-append version
          (codes ".rockspec"),
      of_name.1,
      of_version.0,
    ))
