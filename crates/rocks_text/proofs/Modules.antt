-- The bytes of a module's name are ASCII, and so is its path.
use Rattle.std.proofs.Common.{length, ltb-true, nat_le, nat_lt, ◌≡◌, ℕ, ◌<◌, List, [], ◌∷◌, ◌++◌, refl, Bool, true, false, cond, arith, suc, zero, tests, ◌==◌}
use Rattle.std.specs.Prelude.{◌&&◌, not, if◌then◌else◌, codes}
use Rattle.std.specs.Str.{IsAscii, IsUtf8}
use Rattle.std.proofs.lemmas.Str.{IsUtf8-from_ascii}
use Rattle.std.specs.List.{list_all, onto_first, slice_split}
use Rattle.rocks_text.specs.Modules.{is_module_byte, is_module_part, is_module_name, slashed, module_ending, module_path, is_init_file, is_init_module}

and_left : (a b : Bool) → (a && b) ≡ true → a ≡ true
and_left true b h = refl
and_left false b h = cc

and_right : (a b : Bool) → (a && b) ≡ true → b ≡ true
and_right true b h = h
and_right false b h = cc

ascii_byte : (b : ℕ) → is_module_byte b ≡ true → b < 128
ascii_byte b h = grind (arith, tests, h)

put_front : (b : ℕ) (bs : List ℕ) → b < 128 → IsAscii bs → IsAscii (b ∷ bs)
put_front b bs low rest zero = low
put_front b bs low rest (suc i) = rest i

abbrev split : List ℕ → List (List ℕ)
split name = slice_split (λ b. b == 46) name

abbrev bytes_of : List (List ℕ) → Bool
bytes_of parts = list_all (λ part. list_all is_module_byte part) parts

bytes_of_parts : (parts : List (List ℕ)) → list_all is_module_part parts ≡ true → bytes_of parts ≡ true
bytes_of_parts [] h = refl
bytes_of_parts (part ∷ parts) h =
    let good = and_right (nat_le 1 (length part)) _ (and_left (is_module_part part) _ h) in
    let rest = bytes_of_parts parts (and_right (is_module_part part) _ h) in
    rw (good, rest)

first_bytes : (b : ℕ) (parts : List (List ℕ)) → bytes_of (onto_first b parts) ≡ true → is_module_byte b ≡ true
first_bytes b [] h = and_left (is_module_byte b) _ (and_left (list_all is_module_byte (b ∷ [])) _ h)
first_bytes b (part ∷ parts) h = and_left (is_module_byte b) _ (and_left (list_all is_module_byte (b ∷ part)) _ h)

more_bytes : (b : ℕ) (parts : List (List ℕ)) → bytes_of (onto_first b parts) ≡ true → bytes_of parts ≡ true
more_bytes b [] h = refl
more_bytes b (part ∷ parts) h =
    let first = and_right (is_module_byte b) _ (and_left (list_all is_module_byte (b ∷ part)) _ h) in
    let rest = and_right (list_all is_module_byte (b ∷ part)) _ h in
    rw (first, rest)

slashed_is_ascii : (name tail : List ℕ) → bytes_of (split name) ≡ true → IsAscii tail → IsAscii (slashed name ++ tail)
slashed_is_ascii [] tail h low = low
slashed_is_ascii (b ∷ name) tail h low =
    elim (b == 46) as (λ dot. bytes_of (cond dot ([] ∷ split name) (onto_first b (split name))) ≡ true → IsAscii ((if dot then 47 else b) ∷ (slashed name ++ tail))) [
      | true ↦ λ all. put_front 47 _ (omega arith) (slashed_is_ascii name tail all low)
      | false ↦ λ all. put_front b _ (ascii_byte b (first_bytes b (split name) all)) (slashed_is_ascii name tail (more_bytes b (split name) all) low)
    ] h

-- a text all of whose bytes are below 128
ascii_text : (text : List ℕ) → list_all (λ b. nat_lt b 128) text ≡ true → IsAscii text
ascii_text [] h i = omega arith
ascii_text (b ∷ text) h zero = ltb-true b 128 (and_left (nat_lt b 128) _ h)
ascii_text (b ∷ text) h (suc i) = ascii_text text (and_right (nat_lt b 128) _ h) i

ending_is_ascii : (name file : List ℕ) → IsAscii (module_ending name file)
ending_is_ascii name file =
    elim (is_init_file file && not (is_init_module name)) as (λ init. IsAscii (if init then codes "/init.lua" else codes ".lua")) [
      | true ↦ ascii_text (codes "/init.lua") refl
      | false ↦ ascii_text (codes ".lua") refl
    ]

pub path_is_utf8 : (name file : List ℕ) → is_module_name name ≡ true → IsUtf8 (module_path name file)
path_is_utf8 name file h = IsUtf8-from_ascii (module_path name file) (slashed_is_ascii name (module_ending name file) (bytes_of_parts (split name) h) (ending_is_ascii name file))
