-- The first parts of paths, and that of a rockspec's name, which is the whole name.
use Rattle.std.proofs.Common.{◌≡◌, ◌≢◌, ℕ, List, [], ◌∷◌, ◌++◌, length, codes, true, cond, not, Bool, ◌==◌, IsTrue, refl, sym, ap, ◌∙◌, arith, length-append}
use Rattle.std.specs.List.{list_all}
use Rattle.std.proofs.lemmas.Bool.{and_from, and_parts}
use Rattle.std.proofs.lemmas.Bool.Decides.{nat_tests}
use Rattle.std.proofs.lemmas.List.Folds.{list_all-append}
use Rattle.std.proofs.lemmas.List.Sums.{take_while-cons}
use Rattle.rocks_text.specs.Paths.{joined, IsFolderOf}
use Rattle.rocks_text.specs.Texts.{is_name, is_name_byte}
use Rattle.rocks_version.specs.Keys.{rockspec_name}
use Rattle.rocks_version.specs.Texts.{has_form, has_short_numbers, is_version, is_version_byte}
use Rattle.rocks_version.proofs.Parts.{form_is}
use Rattle.build_targets.specs.Folders.{first_part}
use Rattle.rock_record.specs.Made.{IsBeside}

-- a byte that is no slash
abbrev is_plain : ℕ → Bool
is_plain b = not (b == 47)

pub first_below : (folder rest : List ℕ) → first_part (joined folder rest) ≡ first_part folder
first_below [] rest = take_while-cons is_plain 47 rest
first_below (b ∷ folder) rest =
    take_while-cons is_plain b (joined folder rest)
    ∙ ap (λ (l : List ℕ). cond (is_plain b) (b ∷ l) []) (first_below folder rest)
    ∙ sym (take_while-cons is_plain b folder)

-- a path begins as its folders do
pub first_of_folder : (folder path : List ℕ) → IsFolderOf folder path → first_part path ≡ first_part folder
first_of_folder folder path is = ap first_part is.1 ∙ first_below folder is.0

first_whole : (text : List ℕ) → list_all is_plain text ≡ true → first_part text ≡ text
first_whole [] all = refl
first_whole (b ∷ text) all =
    let h = and_parts (is_plain b) (list_all is_plain text) all in
    take_while-cons is_plain b text ∙ ap (λ (t : Bool). cond t (b ∷ first_part text) []) h.0
    ∙ ap (λ (l : List ℕ). b ∷ l) (first_whole text h.1)

-- what begins otherwise than a file of one part is beside it
pub beside : (file path : List ℕ) → first_part file ≡ file → first_part path ≢ file → IsBeside file path
beside file path whole apart = (
  λ same. apart (ap first_part same ∙ whole),
  λ within. apart (first_of_folder file path within ∙ whole),
)

-- ---- a rockspec's name

weaker : (p : ℕ → Bool) → ((b : ℕ) → p b ≡ true → is_plain b ≡ true) → (text : List ℕ) → list_all p text ≡ true → list_all is_plain text ≡ true
weaker p implies [] all = refl
weaker p implies (b ∷ text) all =
    let h = and_parts (p b) (list_all p text) all in
    and_from (is_plain b) (list_all is_plain text) (implies b h.0) (weaker p implies text h.1)

name_byte : (b : ℕ) → is_name_byte b ≡ true → is_plain b ≡ true
name_byte b is = grind (arith, nat_tests)

version_byte : (b : ℕ) → is_version_byte b ≡ true → is_plain b ≡ true
version_byte b is = grind (arith, nat_tests)

plain_name : (name : List ℕ) → IsTrue (is_name name) → list_all is_plain name ≡ true
plain_name name is = weaker is_name_byte name_byte name (and_parts _ _ (and_parts _ _ is).0).1

plain_version : (version : List ℕ) → IsTrue (is_version version) → list_all is_plain version ≡ true
unfolding is_version
plain_version version is =
    let form = and_parts (has_form version) (has_short_numbers version) is in
    let bytes = and_parts _ _ (and_parts _ _ (sym (form_is version) ∙ form.0)).0 in
    weaker is_version_byte version_byte version bytes.0

pub rockspec_whole : (name version : List ℕ) → IsTrue (is_name name) → IsTrue (is_version version)
    → first_part (rockspec_name name version) ≡ rockspec_name name version
rockspec_whole name version is_named is_versioned =
    let end = version ++ codes ".rockspec" in
    let plain_end = list_all-append is_plain version (codes ".rockspec") ∙ and_from _ _ (plain_version version is_versioned) refl in
    first_whole (rockspec_name name version)
    (list_all-append is_plain name (codes "-" ++ end) ∙ and_from _ _ (plain_name name is_named) plain_end)

-- it ends in `.rockspec`, so it is longer than `conf`
pub rockspec_not_conf : (name version : List ℕ) → codes "conf" ≢ rockspec_name name version
rockspec_not_conf name version same =
    let sizes = ap (λ (l : List ℕ). length l) same in
    let whole = length-append name (codes "-" ++ (version ++ codes ".rockspec")) in
    let end = length-append version (codes ".rockspec") in
    absurd (omega arith)
