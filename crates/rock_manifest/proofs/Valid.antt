-- What is read of any bytes has paths and digests.
use Rattle.std.proofs.Common.{◌≡◌, ℕ, ◌-◌, ◌/◌, ◌%◌, List, [], ◌∷◌, ◌++◌, length, refl, sym, true, false, Bool, cond, ◌&&◌, ◌==◌, nat_lt, codes, subst, arith, Some, None, Result, Ok, Err}
use Rattle.std.specs.Prelude.{slice_range, nat_eq}
use Rattle.std.specs.List.{All, starts_with}
use Rattle.std.specs.Option.{option_to_list}
use Rattle.std.specs.Str.{is_utf8}
use Rattle.std.proofs.lemmas.Bool.{and_parts, cond_both, eqb-true}
use Rattle.std.proofs.lemmas.List.Elements.{All-nil, All-cons, All-append, All-map}
use Rattle.std.proofs.lemmas.Str.{IsUtf8-from_is_utf8}
use Rattle.hex.specs.Hex.{decode_sized, decode_pairs}
use Rattle.hex.specs.declared.error.FromHexError.{FromHexError}
use Rattle.hex.proofs.HexLemmas.{decode_pairs-ok}
use Rattle.rocks_text.specs.Texts.{is_file_path}
use Rattle.rocks_text.specs.declared.item.Item.{Item}
use Rattle.rocks_text.specs.declared.item.Kind.{Kind}
use Rattle.rocks_text.specs.declared.item.Kind.TheVariants.{Lua, Lib, Bin}
use Rattle.rock_manifest.specs.declared.record.Record.{Record}
use Rattle.rock_manifest.specs.Reading.{as_items, file_from, file_in, files_under, lines, path_in, record_in}
use Rattle.rock_manifest.specs.Records.{IsPath, IsDigest, IsRecord, AreItemsInOrder, ArePathsInOrder}
use Rattle.rock_manifest.proofs.Spelling.{Files, IsFile}

-- the result is a digest, if it is one of bytes
abbrev HasDigest : Result (List ℕ) FromHexError → Type 0
HasDigest (Ok digest) = IsDigest digest
HasDigest (Err e) = Unit {0}

pairs_digest : (digits : List ℕ) → (length digits / 2 == 16) ≡ true → (r : Result (List ℕ) FromHexError)
    → decode_pairs 0 digits ≡ r → HasDigest r
pairs_digest digits half (Err e) is = tt
pairs_digest digits half (Ok digest) is =
    let read = decode_pairs-ok 0 digits digest is in
    let size = read.1 in
    let e = eqb-true (length digits / 2) 16 half in
    (omega arith, read.2)

sized_digest : (digits : List ℕ) → HasDigest (decode_sized digits 16)
sized_digest digits =
    cond_both (length digits % 2 == 1) (Err _) _ HasDigest (λ _. tt)
    (λ _. cond_both (length digits / 2 == 16) (decode_pairs 0 digits) (Err _) HasDigest
    (λ half. pairs_digest digits half (decode_pairs 0 digits) refl) (λ _. tt))

files_from : (path : List ℕ) (r : Result (List ℕ) FromHexError) → HasDigest r
    → All IsFile (option_to_list (file_from path r))
files_from path (Err e) is = All-nil IsFile
files_from path (Ok digest) is =
    cond_both (is_utf8 path && is_file_path path) (Some (path, digest)) None (λ o. All IsFile (option_to_list o))
    (λ both. let h = and_parts (is_utf8 path) (is_file_path path) both in All-cons IsFile (path, digest) []
    ((h.1, IsUtf8-from_is_utf8 path h.0), is) (All-nil IsFile))
    (λ _. All-nil IsFile)

files_in : (line : List ℕ) → All IsFile (option_to_list (file_in line))
unfolding file_in
files_in line =
    let digits = slice_range line (length line - 34) (length line - 2) in
    cond_both (nat_lt (length line) 38) None
    (file_from (path_in (slice_range line 3 (length line - 35))) (decode_sized digits 16))
    (λ o. All IsFile (option_to_list o))
    (λ _. All-nil IsFile) (λ _. files_from (path_in (slice_range line 3 (length line - 35))) (decode_sized digits 16)
    (sized_digest digits))

all_under : (name : List ℕ) (inside : Bool) (ls : List (List ℕ)) → All IsFile (files_under name inside ls)
all_under name inside [] = All-nil IsFile
all_under name inside (line ∷ ls) =
    cond_both (starts_with nat_eq line (32 ∷ []))
    (cond inside (option_to_list (file_in line)) [] ++ files_under name inside ls)
    (files_under name (starts_with nat_eq line name) ls) (All IsFile)
    (λ _. All-append IsFile (cond inside (option_to_list (file_in line)) []) (files_under name inside ls)
    (cond_both inside (option_to_list (file_in line)) [] (All IsFile) (λ _. files_in line) (λ _. All-nil IsFile))
    (all_under name inside ls))
    (λ _. all_under name (starts_with nat_eq line name) ls)

abbrev IsItemFile : Item × List ℕ → Type 0
IsItemFile file = IsPath file.0.path × IsDigest file.1

all_items : (kind : Kind) (files : Files) → All IsFile files → All IsItemFile (as_items kind files)
all_items kind files all = All-map IsItemFile (λ file. (record { kind = kind; path = file.0 }, file.1)) files all

all_in : (bytes : List ℕ) → All IsItemFile (record_in bytes).items × All IsFile (record_in bytes).own
unfolding record_in
all_in bytes =
    let lua = files_under (codes "lua") false (lines bytes) in
    let lib = files_under (codes "lib") false (lines bytes) in
    let bin = files_under (codes "bin") false (lines bytes) in
    let modules = All-append IsItemFile (as_items Lua lua) (as_items Lib lib)
    (all_items Lua lua (all_under (codes "lua") false (lines bytes)))
    (all_items Lib lib (all_under (codes "lib") false (lines bytes))) in (
      All-append IsItemFile (as_items Lua lua ++ as_items Lib lib) (as_items Bin bin) modules
          (all_items Bin bin (all_under (codes "bin") false (lines bytes))),
      all_under (codes "own") false (lines bytes),
    )

-- what is read is a record where it is in order
pub read_record : (bytes : List ℕ) (found : Record) → found ≡ record_in bytes
    → AreItemsInOrder found.items × ArePathsInOrder found.own → IsRecord found
read_record bytes found is ordered = record {
  items = ordered.0;
  own = ordered.1;
  item_files = subst (λ (r : Record). All IsItemFile r.items) (sym is) (all_in bytes).0;
  own_files = subst (λ (r : Record). All IsFile r.own) (sym is) (all_in bytes).1;
}
