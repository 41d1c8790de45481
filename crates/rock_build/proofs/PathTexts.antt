-- Texts made of names and versions are parts of paths.
use Rattle.std.proofs.Common.{◌≡◌, ◌≤◌, ◌+◌, ℕ, Bool, true, false, ◌||◌, not, IsTrue, List, [], ◌∷◌, ◌++◌, length, refl, sym, ap, ◌∙◌, subst, arith, codes, slice_index, ◌==◌, nat_le, length-append, lit≤}
use Rattle.std.proofs.lemmas.Bool.{and_from, and_parts}
use Rattle.std.proofs.lemmas.Bool.Decides.{nat_tests}
use Rattle.std.proofs.lemmas.List.{append-nil}
use Rattle.std.proofs.lemmas.List.Folds.{list_all-append}
use Rattle.std.proofs.lemmas.List.Splits.{slice_split_at, slice_split_none}
use Rattle.std.proofs.lemmas.List.Elements.{All-nil, All-cons}
use Rattle.std.specs.List.{list_all, All}
use Rattle.std.specs.Char.{is_ascii_alphanumeric}
use Rattle.std.specs.Str.{bytes_eq}
use Rattle.rocks_text.specs.Texts.{is_name_byte, is_name, is_part_byte, is_part, parts, is_file_path}
use Rattle.rocks_version.specs.Keys.{rockspec_name}
use Rattle.rocks_version.specs.declared.key.RockKey.{RockKey}
use Rattle.rock_build.specs.Contents.{source_folder, unpacked_folder, unpacked_rockspec}
use Rattle.rocks_version.specs.Texts.{is_version, is_version_byte, has_form, has_short_numbers}
use Rattle.rocks_version.proofs.Parts.{form_is}

-- a byte of a name, of a version or of what joins them
abbrev pub is_word_byte : ℕ → Bool
is_word_byte b = is_ascii_alphanumeric b || b == 45 || b == 46 || b == 95

-- at most so many such bytes, of which the first is a letter or digit
pub record IsWord (most : ℕ) (text : List ℕ) : Type 0 where
  pub some : 1 ≤ length text
  pub few : length text ≤ most
  pub first : is_ascii_alphanumeric (slice_index text 0) ≡ true
  pub bytes : list_all is_word_byte text ≡ true

weaker : (p q : ℕ → Bool) → ((b : ℕ) → p b ≡ true → q b ≡ true) → (text : List ℕ) → list_all p text ≡ true → list_all q text ≡ true
weaker p q implies [] all = refl
weaker p q implies (b ∷ text) all =
    let h = and_parts (p b) (list_all p text) all in
    and_from _ _ (implies b h.0) (weaker p q implies text h.1)

name_byte : (b : ℕ) → is_name_byte b ≡ true → is_word_byte b ≡ true
name_byte b is = grind (arith, nat_tests)

version_byte : (b : ℕ) → is_version_byte b ≡ true → is_word_byte b ≡ true
version_byte b is = grind (arith, nat_tests)

part_byte : (b : ℕ) → is_word_byte b ≡ true → is_part_byte b ≡ true
part_byte b is = grind (arith, nat_tests)

no_slash : (b : ℕ) → is_word_byte b ≡ true → (b == 47) ≡ false
no_slash b is = grind (arith, nat_tests)

pub name_word : (text : List ℕ) → IsTrue (is_name text) → IsWord 60 text
name_word text is =
    let h4 = and_parts _ _ is in
    let h3 = and_parts _ _ h4.0 in
    let h2 = and_parts _ _ h3.0 in
    let h1 = and_parts _ _ h2.0 in
    let some : nat_le 1 (length text) ≡ true = h1.0 in
    let few : nat_le (length text) 60 ≡ true = h1.1 in
    record {
      some = grind (arith, nat_tests);
      few = grind (arith, nat_tests);
      first = h2.1;
      bytes = weaker is_name_byte is_word_byte name_byte text h3.1;
    }

some_first : (text : List ℕ) → is_ascii_alphanumeric (slice_index text 0) ≡ true → 1 ≤ length text
some_first [] first = cc
some_first (b ∷ text) first = omega arith

pub version_word : (text : List ℕ) → IsTrue (is_version text) → IsWord 40 text
unfolding is_version
version_word text is =
    let form = and_parts (has_form text) (has_short_numbers text) is in
    let parts = and_parts _ _ (sym (form_is text) ∙ form.0) in
    let bytes_few = and_parts _ _ parts.0 in
    let few : nat_le (length text) 40 ≡ true = bytes_few.1 in
    record {
      some = some_first text parts.1;
      few = grind (arith, nat_tests);
      first = parts.1;
      bytes = weaker is_version_byte is_word_byte version_byte text bytes_few.0;
    }

-- a word and more such bytes are a word
pub longer_word : (most more : ℕ) (text rest : List ℕ) → IsWord most text → length rest ≤ more → list_all is_word_byte rest ≡ true → IsWord (most + more) (text ++ rest)
longer_word most more [] rest word few bytes = absurd (omega (arith, word.some))
longer_word most more (b ∷ text) rest word few bytes = record {
  some = omega arith;
  few = omega (arith, length-append text rest, word.few);
  first = word.first;
  bytes = list_all-append is_word_byte (b ∷ text) rest ∙ and_from _ _ word.bytes bytes;
}

not_dots : (text dots : List ℕ) → is_ascii_alphanumeric (slice_index text 0) ≡ true → not (bytes_eq text (46 ∷ dots)) ≡ true
not_dots [] dots first = refl
not_dots (b ∷ text) dots first = let other : (b == 46) ≡ false = grind (arith, nat_tests) in rw other refl

-- a word is a part of a path
pub word_part : (most limit : ℕ) (text : List ℕ) → IsWord most text → most ≤ limit → is_part limit text ≡ true
word_part most limit text word fits =
    let some : nat_le 1 (length text) ≡ true = let h = word.some in grind (arith, nat_tests) in
    let few : nat_le (length text) limit ≡ true = let h = word.few in grind (arith, nat_tests) in
    and_from _ _ (and_from _ _ (and_from _ _ (and_from _ _ some few) (weaker is_word_byte is_part_byte part_byte text word.bytes)) (not_dots text [] word.first)) (not_dots text (46 ∷ []) word.first)

no_slashes : (text : List ℕ) → list_all is_word_byte text ≡ true → All (λ b. (b == 47) ≡ false) text
no_slashes [] all = All-nil (λ b. (b == 47) ≡ false)
no_slashes (b ∷ text) all = let h = and_parts (is_word_byte b) (list_all is_word_byte text) all in All-cons (λ b. (b == 47) ≡ false) b text (no_slash b h.0) (no_slashes text h.1)

-- the parts of a path whose first part is a word
pub parts_word : (most : ℕ) (text rest : List ℕ) → IsWord most text → parts (text ++ 47 ∷ rest) ≡ text ∷ parts rest
parts_word most text rest word = slice_split_at (λ b. b == 47) text 47 rest (no_slashes text word.bytes) refl

pub parts_one : (most : ℕ) (text : List ℕ) → IsWord most text → parts text ≡ text ∷ []
parts_one most text word = slice_split_none (λ b. b == 47) text (no_slashes text word.bytes)

module _ (key : RockKey) (is_named : IsWord 60 key.name) (is_versioned : IsWord 40 key.version) where
  -- `NAME-VERSION` and an ending of at most 9 such bytes
  joined : (end : List ℕ) → length end ≤ 9 → list_all is_word_byte end ≡ true → IsWord 110 (key.name ++ 45 ∷ (key.version ++ end))
  joined end few bytes =
      longer_word 60 50 key.name (45 ∷ (key.version ++ end)) is_named (omega (arith, length-append key.version end, is_versioned.few))
      (list_all-append is_word_byte key.version end ∙ and_from _ _ is_versioned.bytes bytes)

  folder_word : IsWord 110 (unpacked_folder key)
  folder_word = joined (codes ".rock") (lit≤ tt) refl

  source_word : IsWord 110 (source_folder key)
  source_word = subst (IsWord 110) (ap (λ (end : List ℕ). key.name ++ 45 ∷ end) (append-nil key.version)) (joined [] (lit≤ tt) refl)

  rockspec_word : IsWord 110 (rockspec_name key.name key.version)
  rockspec_word = joined (codes ".rockspec") (lit≤ tt) refl

  file_path : (text : List ℕ) → IsWord 110 text → IsTrue (is_file_path text)
  file_path text word =
      let few : nat_le (length text) 1024 ≡ true = let h = word.few in grind (arith, nat_tests) in
      and_from _ _ few (ap (list_all (is_part 150)) (parts_one 110 text word) ∙ and_from _ _ (word_part 110 150 text word (lit≤ tt)) refl)

  pub folder_path : IsTrue (is_file_path (unpacked_folder key))
  folder_path = file_path (unpacked_folder key) folder_word

  pub source_path : IsTrue (is_file_path (source_folder key))
  source_path = file_path (source_folder key) source_word

  pub rockspec_in_folder : IsTrue (is_file_path (unpacked_rockspec key))
  rockspec_in_folder =
      let folder = unpacked_folder key in
      let file = rockspec_name key.name key.version in
      let few : nat_le (length (folder ++ 47 ∷ file)) 1024 ≡ true = let h = folder_word.few in let k = rockspec_word.few in let l = length-append folder (47 ∷ file) in grind (arith, nat_tests) in
      and_from _ _ few (ap (list_all (is_part 150)) (parts_word 110 folder file folder_word ∙ ap (λ (more : List (List ℕ)). folder ∷ more) (parts_one 110 file rockspec_word))
      ∙ and_from _ _ (word_part 110 150 folder folder_word (lit≤ tt)) (and_from _ _ (word_part 110 150 file rockspec_word (lit≤ tt)) refl))
