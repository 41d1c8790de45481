-- Texts behind references, and texts that are in ASCII.
use Rattle.std.proofs.Common.{◌≡◌, ◌<◌, ◌≤◌, ◌+◌, ℕ, suc, Bool, true, false, List, [], ◌∷◌, ◌++◌, None, Some, refl, sym, ap, ◌∙◌, arith, codes, length, map, take, ◌||◌}
use Rattle.std.proofs.lemmas.Bool.Decides.{nat_tests}
use Rattle.std.proofs.lemmas.Bool.{and_parts}
use Rattle.std.proofs.lemmas.List.{map-append, take_all, take_more}
use Rattle.std.proofs.lemmas.List.Folds.{list_all-map}
use Rattle.std.proofs.lemmas.Option.{get_or_from_slice_get, slice_get_within}
use Rattle.std.proofs.lemmas.Str.{IsUtf8-from_ascii}
use Rattle.std.proofs.lemmas.Str.Ascii.{IsAscii-nil, IsAscii-cons}
use Rattle.std.specs.Borrow.{Bor}
use Rattle.std.specs.Char.{to_ascii_lowercase}
use Rattle.std.specs.List.{list_all, list_any, slice_get}
use Rattle.lua_value.specs.declared.key.Key.{Key}
use Rattle.lua_value.specs.Pairs.{Datum, Pairs, no_pairs, with_pair, count, listed}
use Rattle.build_plan.specs.Entries.{bytes_of}
use Rattle.std.specs.Str.{bytes_eq, IsAscii, IsUtf8}
use Rattle.rocks_text.specs.Texts.{is_name, is_name_byte, lowered}
use Rattle.rocks_version.specs.Faults.{fault_of}
use Rattle.rocks_version.specs.declared.fault.VersionFault.{VersionFault}
use Rattle.rocks_version.proofs.FaultLemmas.{none_if_version}
use Rattle.rocks_version.specs.Texts.{is_rock_version, is_version, has_form, is_version_byte, has_short_numbers}
use Rattle.rockspec.specs.Entries.{are_entries_supported, has_entry}
use Rattle.rockspec.specs.Fields.{are_supported, denies, has_text}

any_map : {A B : Type 0} (p : B → Bool) (f : A → B) (xs : List A) → list_any p (map f xs) ≡ list_any (λ x. p (f x)) xs
any_map p f [] = refl
any_map p f (x ∷ xs) = ap (λ b. p (f x) || b) (any_map p f xs)

has_text_now : (entries : List (Bor (List ℕ))) (text : List ℕ) → has_entry entries text ≡ has_text (map (λ (entry : Bor (List ℕ)). entry.now) entries) text
has_text_now entries text = sym (any_map (bytes_eq text) (λ (entry : Bor (List ℕ)). entry.now) entries)

all_now : (entries : List (Bor (List ℕ)))
    → list_all (λ (entry : Bor (List ℕ)). denies entry.now) entries ≡ list_all denies (map (λ (entry : Bor (List ℕ)). entry.now) entries)
all_now entries = sym (list_all-map denies (λ (entry : Bor (List ℕ)). entry.now) entries)

-- entries behind references are supported where they are
pub supported_now : (entries : List (Bor (List ℕ))) → are_entries_supported entries ≡ are_supported (map (λ (entry : Bor (List ℕ)). entry.now) entries)
supported_now entries =
    rw (has_text_now entries (codes "!unix"), has_text_now entries (codes "!linux"), has_text_now entries (codes "unix"), has_text_now entries (codes "linux"), all_now entries) refl

small : (b : ℕ) → is_name_byte (to_ascii_lowercase b) ≡ true → b < 128
small b is = grind (arith, nat_tests)

small_version : (b : ℕ) → is_version_byte b ≡ true → b < 128
small_version b is = grind (arith, nat_tests)

lowered_ascii : (text : List ℕ) → list_all is_name_byte (lowered text) ≡ true → IsAscii text
lowered_ascii [] all = IsAscii-nil
lowered_ascii (b ∷ text) all =
    let h = and_parts (is_name_byte (to_ascii_lowercase b)) (list_all is_name_byte (lowered text)) all in
    IsAscii-cons b text (small b h.0) (lowered_ascii text h.1)

version_ascii : (text : List ℕ) → list_all is_version_byte text ≡ true → IsAscii text
version_ascii [] all = IsAscii-nil
version_ascii (b ∷ text) all =
    let h = and_parts (is_version_byte b) (list_all is_version_byte text) all in
    IsAscii-cons b text (small_version b h.0) (version_ascii text h.1)

-- a text that is a name in lower case is UTF-8
pub name_is_utf8 : (text : List ℕ) → is_name (lowered text) ≡ true → IsUtf8 text
name_is_utf8 text is = IsUtf8-from_ascii text (lowered_ascii text (and_parts _ _ (and_parts _ _ is).0).1)

form_bytes : (text : List ℕ) → has_form text ≡ true → list_all is_version_byte text ≡ true
unfolding has_form
form_bytes text form = (and_parts _ _ (and_parts _ _ form).0).0

-- a text that is a version is UTF-8
pub version_is_utf8 : (text : List ℕ) → is_version text ≡ true → IsUtf8 text
unfolding is_version
version_is_utf8 text is =
    let form = (and_parts (has_form text) (has_short_numbers text) is).0 in
    IsUtf8-from_ascii text (version_ascii text (form_bytes text form))

-- a version of a rock is a version
pub rock_version_is : (text : List ℕ) → is_rock_version text ≡ true → is_version text ≡ true
unfolding is_rock_version
rock_version_is text is = (and_parts _ _ (and_parts _ _ is).0).0

length-listed : (ps : Pairs) → length (listed ps) ≡ count ps
length-listed no_pairs = refl
length-listed (with_pair key value rest) = ap suc (length-listed rest)

-- the texts of a table up to the next place
pub texts_next : (ps : Pairs) (at : ℕ) (key : Key) (value : Datum) → slice_get (listed ps) at ≡ Some (key, value)
    → map (λ (pair : Key × Datum). bytes_of pair.1) (take (at + 1) (listed ps))
    ≡ map (λ (pair : Key × Datum). bytes_of pair.1) (take at (listed ps)) ++ bytes_of value ∷ []
texts_next ps at key value is =
    let within = slice_get_within (listed ps) at (key, value) is in
    ap (map (λ (pair : Key × Datum). bytes_of pair.1)) (take_more (listed ps) at (key, value) within
    ∙ ap (λ pair. take at (listed ps) ++ pair ∷ []) (get_or_from_slice_get (listed ps) at (key, value) (key, value) is))
    ∙ map-append (λ (pair : Key × Datum). bytes_of pair.1) (take at (listed ps)) ((key, value) ∷ [])

-- and all of them
pub texts_all : (ps : Pairs) (at : ℕ) → count ps ≤ at
    → map (λ (pair : Key × Datum). bytes_of pair.1) (take at (listed ps)) ≡ map (λ (pair : Key × Datum). bytes_of pair.1) (listed ps)
texts_all ps at enough =
    ap (map (λ (pair : Key × Datum). bytes_of pair.1)) (take_all at (listed ps) (omega (arith, length-listed ps, enough)))

-- a text with a fault of a version is no version of a rock
pub no_rock_version : (text : List ℕ) (fault : VersionFault) → fault_of text ≡ Some fault → is_rock_version text ≡ false
no_rock_version text fault some = from (is_rock_version text) refl
  where
    from : (b : Bool) → is_rock_version text ≡ b → is_rock_version text ≡ false
    from true is = let two : None ≡ Some fault = sym (none_if_version text (rock_version_is text is)) ∙ some in cc
    from false is = is
