-- The places of rocks' files are paths in a tree.
use Rattle.std.proofs.Common.{◌≡◌, ◌≢◌, ◌+◌, ◌<◌, ◌≤◌, Bool, true, false, not, ◌==◌, ◌&&◌, cond, IsTrue, List, ℕ, [], ◌∷◌, ◌++◌, length, map, refl, sym, ap, subst, ◌∙◌, arith, codes, nat_le, slice_index, append_assoc, append-nil, length-append}
use Rattle.std.proofs.lemmas.Bool.Decides.{nat_tests}
use Rattle.std.proofs.lemmas.List.{length-map}
use Rattle.std.proofs.lemmas.List.Folds.{list_all-append, list_all-map}
use Rattle.std.proofs.lemmas.Slice.Eq.{bytes_eq-Decides}
use Rattle.std.specs.Char.{is_ascii_alphanumeric}
use Rattle.std.specs.List.{list_all, onto_first}
use Rattle.std.specs.Str.{bytes_eq}
use Rattle.rocks_text.specs.Texts.{is_name, is_name_byte, is_part, is_part_byte, parts, is_file_path, is_tree_path}
use Rattle.rocks_text.specs.declared.item.Item.{Item}
use Rattle.rocks_text.specs.declared.item.Kind.{Kind}
use Rattle.rocks_text.specs.declared.item.Kind.TheVariants.{Lua, Lib, Bin}
use Rattle.rocks_version.specs.Texts.{has_form, has_short_numbers, is_version, is_version_byte}
use Rattle.rocks_version.specs.declared.key.RockKey.{RockKey}
use Rattle.rocks_version.proofs.Parts.{form_is}
use Rattle.tree_paths.specs.Places.{place_of, flat_byte, flat_name, plain_path, versioned_path, rock_folder, own_path}

pub conj : (x y : Bool) → (x && y) ≡ true → (x ≡ true) × (y ≡ true)
conj true y e = (refl, e)
conj false y e = cc

pub both : (x y : Bool) → x ≡ true → y ≡ true → (x && y) ≡ true
both x y e f = rw (e, f) refl

fewer : (n : ℕ) → nat_le n 150 ≡ true → nat_le n 255 ≡ true
fewer n short = grind (arith, nat_tests)

larger_part : (part : List ℕ) → is_part 150 part ≡ true → is_part 255 part ≡ true
larger_part part is =
    let h4 = conj _ _ is in
    let h3 = conj _ _ h4.0 in
    let h2 = conj _ _ h3.0 in
    let h1 = conj _ _ h2.0 in
    both _ _ (both _ _ (both _ _ (both _ _ h1.0 (fewer (length part) h1.1)) h2.1) h3.1) h4.1

larger_parts : (ps : List (List ℕ)) → list_all (is_part 150) ps ≡ true → list_all (is_part 255) ps ≡ true
larger_parts [] all = refl
larger_parts (part ∷ ps) all =
    let h = conj (is_part 150 part) (list_all (is_part 150) ps) all in
    both _ _ (larger_part part h.0) (larger_parts ps h.1)

pub placed : (kind : Kind) (path : List ℕ) → IsTrue (is_file_path path) → IsTrue (is_tree_path (place_of kind ++ path))
placed Lua path is =
    let h = conj _ _ is in
    let short : nat_le (length path) 1024 ≡ true = h.0 in
    let few : nat_le (length (codes "share/lua/5.4/" ++ path)) 1200 ≡ true = grind (arith, nat_tests) in
    both _ _ few (larger_parts (parts path) h.1)
placed Lib path is =
    let h = conj _ _ is in
    let short : nat_le (length path) 1024 ≡ true = h.0 in
    let few : nat_le (length (codes "lib/lua/5.4/" ++ path)) 1200 ≡ true = grind (arith, nat_tests) in
    both _ _ few (larger_parts (parts path) h.1)
placed Bin path is =
    let h = conj _ _ is in
    let short : nat_le (length path) 1024 ≡ true = h.0 in
    let few : nat_le (length (codes "bin/" ++ path)) 1200 ≡ true = grind (arith, nat_tests) in
    both _ _ few (larger_parts (parts path) h.1)

-- ---- the parts behind a run without a slash

abbrev has_no_slash : List ℕ → Bool
has_no_slash text = list_all (λ b. not (b == 47)) text

not_true : (b : Bool) → not b ≡ true → b ≡ false
not_true true h = cc
not_true false h = refl

onto_all : List ℕ → List (List ℕ) → List (List ℕ)
onto_all [] split = split
onto_all (b ∷ run) split = onto_first b (onto_all run split)

parts_run : (run rest : List ℕ) → has_no_slash run ≡ true → parts (run ++ rest) ≡ onto_all run (parts rest)
unfolding onto_all
parts_run [] rest none = refl
parts_run (b ∷ run) rest none =
    let h = conj (not (b == 47)) (has_no_slash run) none in
    let other : (b == 47) ≡ false = not_true (b == 47) h.0 in
    rw other (ap (onto_first b) (parts_run run rest h.1))

onto_some : (run part : List ℕ) (more : List (List ℕ)) → onto_all run (part ∷ more) ≡ (run ++ part) ∷ more
unfolding onto_all
onto_some [] part more = refl
onto_some (b ∷ run) part more = ap (onto_first b) (onto_some run part more)

onto_none : (b : ℕ) (run : List ℕ) → onto_all (b ∷ run) [] ≡ (b ∷ run) ∷ []
unfolding onto_all
onto_none b [] = refl
onto_none b (d ∷ run) = ap (onto_first b) (onto_none d run)

parts_join : (run rest : List ℕ) → has_no_slash run ≡ true → parts (run ++ 47 ∷ rest) ≡ run ∷ parts rest
parts_join [] rest none = refl
parts_join (b ∷ run) rest none =
    let h = conj (not (b == 47)) (has_no_slash run) none in
    let other : (b == 47) ≡ false = not_true (b == 47) h.0 in
    rw other (ap (onto_first b) (parts_join run rest h.1))

-- ---- names and versions within a path

all_from : (p q : ℕ → Bool) (each : (b : ℕ) → p b ≡ true → q b ≡ true) (text : List ℕ) → list_all p text ≡ true → list_all q text ≡ true
all_from p q each [] all = refl
all_from p q each (b ∷ text) all =
    let h = conj (p b) (list_all p text) all in
    both _ _ (each b h.0) (all_from p q each text h.1)

name_byte : (b : ℕ) → is_name_byte b ≡ true → is_version_byte b ≡ true
name_byte b h = grind (arith, nat_tests)

version_byte : (b : ℕ) → is_version_byte b ≡ true → is_part_byte b ≡ true
version_byte b h = grind (arith, nat_tests)

version_byte_no_slash : (b : ℕ) → is_version_byte b ≡ true → not (b == 47) ≡ true
version_byte_no_slash b h = grind (arith, nat_tests)

flat_is_part : (b : ℕ) → is_version_byte b ≡ true → is_part_byte (flat_byte b) ≡ true
flat_is_part b h = grind (arith, nat_tests)

flat_no_slash : (b : ℕ) → is_version_byte b ≡ true → not (flat_byte b == 47) ≡ true
flat_no_slash b h = grind (arith, nat_tests)

dotless : (part dots : List ℕ) → (part ≡ dots → ⊥) → not (bytes_eq part dots) ≡ true
dotless part dots differs =
    elim (bytes_eq part dots) as (λ b. bytes_eq part dots ≡ b → not b ≡ true) [
      | true ↦ λ same. absurd (differs ((bytes_eq-Decides part dots).0 same))
      | false ↦ λ _. refl
    ] refl

-- bytes of a version, of which the first is a letter or digit
record IsWord (text : List ℕ) : Type 0 where
  bytes : list_all is_version_byte text ≡ true
  some : 1 ≤ length text
  few : length text ≤ 60
  first : is_ascii_alphanumeric (slice_index text 0) ≡ true

no_dot : (text dots : List ℕ) → is_ascii_alphanumeric (slice_index text 0) ≡ true → is_ascii_alphanumeric (slice_index dots 0) ≡ false → text ≡ dots → ⊥
no_dot text dots here there same = let clash = sym here ∙ ap (λ (t : List ℕ). is_ascii_alphanumeric (slice_index t 0)) same ∙ there in cc clash

word_part : (text : List ℕ) → IsWord text → is_part 255 text ≡ true
word_part text w =
    let some' = w.some in
    let few' = w.few in
    let least : nat_le 1 (length text) ≡ true = grind (arith, nat_tests) in
    let most : nat_le (length text) 255 ≡ true = grind (arith, nat_tests) in
    both _ _ (both _ _ (both _ _ (both _ _ least most) (all_from is_version_byte is_part_byte version_byte text w.bytes))
    (dotless text (codes ".") (no_dot text (codes ".") w.first refl))) (dotless text (codes "..") (no_dot text (codes "..") w.first refl))

word_no_slash : (text : List ℕ) → IsWord text → has_no_slash text ≡ true
word_no_slash text w = all_from is_version_byte (λ b. not (b == 47)) version_byte_no_slash text w.bytes

at_least_one : (n : ℕ) → nat_le 1 n ≡ true → 1 ≤ n
at_least_one n h = grind (arith, nat_tests)

name_word : (text : List ℕ) → is_name text ≡ true → IsWord text
name_word text is =
    let good = list_all is_name_byte text in
    let first = is_ascii_alphanumeric (slice_index text 0) in
    let lengths = nat_le 1 (length text) && nat_le (length text) 60 in
    let h4 = conj (lengths && first && good) (not (bytes_eq text (codes "manifest"))) is in
    let h3 = conj (lengths && first) good h4.0 in
    let h2 = conj lengths first h3.0 in
    let h1 = conj (nat_le 1 (length text)) (nat_le (length text) 60) h2.0 in
    let least = h1.0 in
    let most = h1.1 in
    record {
      bytes = all_from is_name_byte is_version_byte name_byte text h3.1;
      some = grind (arith, nat_tests);
      few = grind (arith, nat_tests);
      first = h2.1;
    }

some_first : (text : List ℕ) → is_ascii_alphanumeric (slice_index text 0) ≡ true → 1 ≤ length text
some_first [] h = cc
some_first (b ∷ text) h = omega arith

version_word : (text : List ℕ) → is_version text ≡ true → IsWord text
unfolding is_version
version_word text is =
    let form = sym (form_is text) ∙ (conj (has_form text) (has_short_numbers text) is).0 in
    let good = list_all is_version_byte text in
    let h2 = conj (good && nat_le (length text) 40) (is_ascii_alphanumeric (slice_index text 0)) form in
    let h1 = conj good (nat_le (length text) 40) h2.0 in
    let most = h1.1 in
    record {
      bytes = h1.0;
      some = some_first text h2.1;
      few = grind (arith, nat_tests);
      first = h2.1;
    }

-- ---- the versioned path

flat_all : (q : ℕ → Bool) (each : (b : ℕ) → is_version_byte b ≡ true → q (flat_byte b) ≡ true) (text : List ℕ) → list_all is_version_byte text ≡ true → list_all q (map flat_byte text) ≡ true
flat_all q each [] all = refl
flat_all q each (b ∷ text) all =
    let h = conj (is_version_byte b) (list_all is_version_byte text) all in
    both _ _ (each b h.0) (flat_all q each text h.1)

-- NAME_VERSION
abbrev whole : RockKey → List ℕ
whole key = key.name ++ (codes "_" ++ key.version)

pub whole_bytes : (key : RockKey) → IsTrue (is_name key.name) → IsTrue (is_version key.version) → list_all is_version_byte (whole key) ≡ true
whole_bytes key named versioned =
    list_all-append is_version_byte key.name (codes "_" ++ key.version) ∙ both _ _ (name_word key.name named).bytes (version_word key.version versioned).bytes

-- NAME_VERSION- as it begins a part
record IsStem (stem : List ℕ) : Type 0 where
  bytes : list_all is_part_byte stem ≡ true
  no_slash : has_no_slash stem ≡ true
  long : 3 ≤ length stem
  few : length stem ≤ 105

abbrev stem_of : RockKey → List ℕ
stem_of key = flat_name key ++ codes "-"

version_few : (text : List ℕ) → is_version text ≡ true → length text ≤ 40
unfolding is_version
version_few text is =
    let form = sym (form_is text) ∙ (conj (has_form text) (has_short_numbers text) is).0 in
    let good = list_all is_version_byte text in
    let h2 = conj (good && nat_le (length text) 40) (is_ascii_alphanumeric (slice_index text 0)) form in
    let h1 = conj good (nat_le (length text) 40) h2.0 in
    let most = h1.1 in
    grind (arith, nat_tests)

stem_is : (key : RockKey) → IsTrue (is_name key.name) → IsTrue (is_version key.version) → IsStem (stem_of key)
stem_is key named versioned =
    let flat = flat_name key in
    let size : length flat ≡ length (whole key) = length-map (whole key) flat_byte in
    let sizes : length (whole key) ≡ length key.name + length (codes "_" ++ key.version) = length-append key.name (codes "_" ++ key.version) in
    let behind : length (codes "_" ++ key.version) ≡ 1 + length key.version = length-append (codes "_") key.version in
    let stem_size : length (stem_of key) ≡ length flat + 1 = length-append flat (codes "-") in
    let name = name_word key.name named in
    let version = version_word key.version versioned in
    let name_some = name.some in
    let name_few = name.few in
    let version_some = version.some in
    let short = version_few key.version versioned in
    record {
      bytes = list_all-append is_part_byte flat (codes "-") ∙ both _ _ (flat_all is_part_byte flat_is_part (whole key) (whole_bytes key named versioned)) refl;
      no_slash = list_all-append (λ b. not (b == 47)) flat (codes "-") ∙ both _ _ (flat_all (λ b. not (b == 47)) flat_no_slash (whole key) (whole_bytes key named versioned)) refl;
      long = omega arith;
      few = omega arith;
    }

longer : (part dots : List ℕ) → length dots < 3 → 3 ≤ length part → part ≡ dots → ⊥
longer part dots short long same = let sizes = ap (λ (l : List ℕ). length l) same in absurd (omega arith)

stem_part : (stem part : List ℕ) → IsStem stem → length part ≤ 150 → list_all is_part_byte part ≡ true → is_part 255 (stem ++ part) ≡ true
stem_part stem part s few bytes =
    let size = length-append stem part in
    let long' = s.long in
    let few' = s.few in
    let long : 3 ≤ length (stem ++ part) = omega arith in
    let least : nat_le 1 (length (stem ++ part)) ≡ true = grind (arith, nat_tests) in
    let most : nat_le (length (stem ++ part)) 255 ≡ true = grind (arith, nat_tests) in
    both _ _ (both _ _ (both _ _ (both _ _ least most) (list_all-append is_part_byte stem part ∙ both _ _ s.bytes bytes))
    (dotless (stem ++ part) (codes ".") (longer (stem ++ part) (codes ".") (omega arith) long))) (dotless (stem ++ part) (codes "..") (longer (stem ++ part) (codes "..") (omega arith) long))

part_few : (n : ℕ) → nat_le n 150 ≡ true → n ≤ 150
part_few n h = grind (arith, nat_tests)

stem_parts : (stem : List ℕ) (split : List (List ℕ)) → IsStem stem → list_all (is_part 150) split ≡ true → list_all (is_part 255) (onto_all stem split) ≡ true
unfolding onto_all
stem_parts [] [] s all = refl
stem_parts (b ∷ stem) [] s all =
    let alone = stem_part (b ∷ stem) [] s (omega arith) refl in
    rw (onto_none b stem) (both _ _ (subst (λ (l : List ℕ). is_part 255 l ≡ true) (append-nil (b ∷ stem)) alone) refl)
stem_parts stem (part ∷ more) s all =
    let h = conj (is_part 150 part) (list_all (is_part 150) more) all in
    let h4 = conj _ _ h.0 in
    let h3 = conj _ _ h4.0 in
    let h2 = conj _ _ h3.0 in
    let h1 = conj _ _ h2.0 in
    rw (onto_some stem part more) (both _ _ (stem_part stem part s (part_few (length part) h1.1) h2.1) (larger_parts more h.1))

stemmed_parts : (stem path : List ℕ) → IsStem stem → list_all (is_part 150) (parts path) ≡ true → list_all (is_part 255) (parts (stem ++ path)) ≡ true
stemmed_parts stem path s all = rw (parts_run stem path s.no_slash) (stem_parts stem (parts path) s all)

stemmed : (kind : Kind) (stem path : List ℕ) → IsStem stem → IsTrue (is_file_path path) → IsTrue (is_tree_path (place_of kind ++ (stem ++ path)))
stemmed Lua stem path s is =
    let h = conj _ _ is in
    let short : nat_le (length path) 1024 ≡ true = h.0 in
    let size = length-append stem path in
    let few' = s.few in
    let few : nat_le (length (codes "share/lua/5.4/" ++ (stem ++ path))) 1200 ≡ true = grind (arith, nat_tests) in
    both _ _ few (stemmed_parts stem path s h.1)
stemmed Lib stem path s is =
    let h = conj _ _ is in
    let short : nat_le (length path) 1024 ≡ true = h.0 in
    let size = length-append stem path in
    let few' = s.few in
    let few : nat_le (length (codes "lib/lua/5.4/" ++ (stem ++ path))) 1200 ≡ true = grind (arith, nat_tests) in
    both _ _ few (stemmed_parts stem path s h.1)
stemmed Bin stem path s is =
    let h = conj _ _ is in
    let short : nat_le (length path) 1024 ≡ true = h.0 in
    let size = length-append stem path in
    let few' = s.few in
    let few : nat_le (length (codes "bin/" ++ (stem ++ path))) 1200 ≡ true = grind (arith, nat_tests) in
    both _ _ few (stemmed_parts stem path s h.1)

pub versioned_is : (item : Item) (key : RockKey) → IsTrue (is_file_path item.path) → IsTrue (is_name key.name) → IsTrue (is_version key.version) → IsTrue (is_tree_path (versioned_path item key))
versioned_is item key is named versioned =
    let joined : stem_of key ++ item.path ≡ flat_name key ++ (codes "-" ++ item.path) = append_assoc (flat_name key) (codes "-") item.path in
    subst (λ (l : List ℕ). IsTrue (is_tree_path (place_of item.kind ++ l))) joined (stemmed item.kind (stem_of key) item.path (stem_is key named versioned) is)

-- ---- a rock's own path

folder_regroup : (name version path : List ℕ) → rock_folder name version ++ path ≡ codes "lib/luarocks/rocks-5.4/" ++ (name ++ 47 ∷ (version ++ 47 ∷ path))
folder_regroup name version path =
    ap (λ (l : List ℕ). codes "lib/luarocks/rocks-5.4/" ++ l)
    (append_assoc name (47 ∷ (version ++ 47 ∷ [])) path ∙ ap (λ (l : List ℕ). name ++ 47 ∷ l) (append_assoc version (47 ∷ []) path))

in_folder : (name version path : List ℕ) → IsWord name → IsWord version → length version ≤ 40 → IsTrue (is_file_path path)
    → IsTrue (is_tree_path (codes "lib/luarocks/rocks-5.4/" ++ (name ++ 47 ∷ (version ++ 47 ∷ path))))
in_folder name version path n v short is =
    let h = conj _ _ is in
    let most : nat_le (length path) 1024 ≡ true = h.0 in
    let outer = length-append name (47 ∷ (version ++ 47 ∷ path)) in
    let inner = length-append version (47 ∷ path) in
    let name_few = n.few in
    let few : nat_le (length (codes "lib/luarocks/rocks-5.4/" ++ (name ++ 47 ∷ (version ++ 47 ∷ path)))) 1200 ≡ true = grind (arith, nat_tests) in
    let behind : list_all (is_part 255) (parts (name ++ 47 ∷ (version ++ 47 ∷ path))) ≡ true =
    rw (parts_join name (version ++ 47 ∷ path) (word_no_slash name n), parts_join version path (word_no_slash version v))
    (both _ _ (word_part name n) (both _ _ (word_part version v) (larger_parts (parts path) h.1))) in
    both _ _ few behind

pub own_is : (key : RockKey) (path : List ℕ) → IsTrue (is_file_path path) → IsTrue (is_name key.name) → IsTrue (is_version key.version) → IsTrue (is_tree_path (own_path key path))
own_is key path is named versioned =
    subst (λ (l : List ℕ). IsTrue (is_tree_path l)) (sym (folder_regroup key.name key.version path))
    (in_folder key.name key.version path (name_word key.name named) (version_word key.version versioned) (version_few key.version versioned) is)
