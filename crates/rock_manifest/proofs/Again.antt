-- What is read of a record's text is the record.
use Rattle.std.proofs.Common.{◌≡◌, ℕ, List, [], ◌∷◌, ◌++◌, refl, sym, ap, ◌∙◌, true, false, Bool, cond, codes, append-nil, append_assoc, subst}
use Rattle.std.specs.List.{All, filter}
use Rattle.std.proofs.lemmas.List.Elements.{All-map, All-filter}
use Rattle.rocks_text.specs.declared.item.Item.{Item}
use Rattle.rocks_text.specs.declared.item.Kind.{Kind}
use Rattle.rocks_text.specs.declared.item.Kind.TheVariants.{Lua, Lib, Bin}
use Rattle.rock_manifest.specs.declared.record.Record.{Record}
use Rattle.rock_manifest.specs.Reading.{as_items, files_under, lines, record_in}
use Rattle.rock_manifest.specs.Records.{IsPath, IsDigest, IsRecord, AreItemsInOrder, ArePathsInOrder}
use Rattle.rock_manifest.specs.Text.{is_kind, of_kind, record_text}
use Rattle.rock_manifest.proofs.Gathering.{starts, under_table, ForgetsPlace}
use Rattle.rock_manifest.proofs.Grouping.{grouped_again}
use Rattle.rock_manifest.proofs.Spelling.{table_of, lines_of_text, record_lines, Files, IsFile}

files_of_kind : (kind : Kind) (items : List (Item × List ℕ))
    → All (λ file. IsPath file.0.path × IsDigest file.1) items → All IsFile (of_kind kind items)
files_of_kind kind items all =
    let kept = All-filter (λ file. is_kind file.0.kind kind) (λ file. IsPath file.0.path × IsDigest file.1) items all in
    All-map IsFile (λ (file : Item × List ℕ). (file.0.path, file.1)) (filter (λ file. is_kind file.0.kind kind) items)
    kept

-- the lines of a global, whatever stands before them
forgets : (name global : List ℕ) (files : Files) (rest : List (List ℕ)) (asked : Bool)
    → starts (global ++ codes " = {") (codes " ") ≡ false → starts (global ++ codes " = {}") (codes " ") ≡ false
    → starts (global ++ codes " = {") name ≡ asked → starts (codes "}") name ≡ false
    → All IsFile files → ForgetsPlace name rest → ForgetsPlace name (table_of global files ++ rest)
forgets name global files rest asked full bare is ends all before inside =
    under_table name global files rest asked inside full bare is ends all before
    ∙ sym (under_table name global files rest asked false full bare is ends all before)

module _ (whole : Record) (items : (kind : Kind) → All IsFile (of_kind kind whole.items))
    (own : All IsFile whole.own) where
  -- what is gathered under a name, by whether it is that of each global
  gathered : (name : List ℕ) (bin lib lua others : Bool)
      → starts (codes "bin = {") name ≡ bin → starts (codes "lib = {") name ≡ lib → starts (codes "lua = {") name ≡ lua
      → starts (codes "own = {") name ≡ others → starts (codes "}") name ≡ false
      → files_under name false (lines (record_text whole))
      ≡ cond bin (of_kind Bin whole.items) [] ++
      (cond lib (of_kind Lib whole.items) [] ++
      (cond lua (of_kind Lua whole.items) [] ++ (cond others whole.own [] ++ [])))
  gathered name bin lib lua others is_bin is_lib is_lua is_own ends =
      let last = [] ∷ [] in
      let at_own = table_of (codes "own") whole.own ++ last in
      let at_lua = table_of (codes "lua") (of_kind Lua whole.items) ++ at_own in
      let at_lib = table_of (codes "lib") (of_kind Lib whole.items) ++ at_lua in
      let regrouped : record_lines whole ++ last ≡ table_of (codes "bin") (of_kind Bin whole.items) ++ at_lib =
      append_assoc _ _ last ∙ ap (λ (l : List (List ℕ)). table_of (codes "bin") (of_kind Bin whole.items) ++ l)
      (append_assoc _ _ last ∙ ap (λ (l : List (List ℕ)). table_of (codes "lib") (of_kind Lib whole.items) ++ l)
      (append_assoc _ _ last)) in
      let forgets_last : ForgetsPlace name last = λ _. refl in
      let forgets_own = forgets name (codes "own") whole.own last others refl refl is_own ends own forgets_last in
      let forgets_lua = forgets name (codes "lua") (of_kind Lua whole.items) at_own lua refl refl is_lua ends
      (items Lua) forgets_own in
      let forgets_lib = forgets name (codes "lib") (of_kind Lib whole.items) at_lua lib refl refl is_lib ends
      (items Lib) forgets_lua in
      ap (files_under name false) (lines_of_text whole items own ∙ regrouped)
      ∙ under_table name (codes "bin") (of_kind Bin whole.items) at_lib bin false refl refl is_bin ends
      (items Bin) forgets_lib
      ∙ ap (λ (l : Files). cond bin (of_kind Bin whole.items) [] ++ l) (
      under_table name (codes "lib") (of_kind Lib whole.items) at_lua lib false refl refl is_lib ends
      (items Lib) forgets_lua
      ∙ ap (λ (l : Files). cond lib (of_kind Lib whole.items) [] ++ l) (
      under_table name (codes "lua") (of_kind Lua whole.items) at_own lua false refl refl is_lua ends
      (items Lua) forgets_own
      ∙ ap (λ (l : Files). cond lua (of_kind Lua whole.items) [] ++ l)
      (under_table name (codes "own") whole.own last others false refl refl is_own ends own forgets_last)
      )
      )

  under_lua : files_under (codes "lua") false (lines (record_text whole)) ≡ of_kind Lua whole.items
  under_lua = gathered (codes "lua") false false true false refl refl refl refl refl ∙ append-nil _

  under_lib : files_under (codes "lib") false (lines (record_text whole)) ≡ of_kind Lib whole.items
  under_lib = gathered (codes "lib") false true false false refl refl refl refl refl ∙ append-nil _

  under_bin : files_under (codes "bin") false (lines (record_text whole)) ≡ of_kind Bin whole.items
  under_bin = gathered (codes "bin") true false false false refl refl refl refl refl ∙ append-nil _

  under_own : files_under (codes "own") false (lines (record_text whole)) ≡ whole.own
  under_own = gathered (codes "own") false false false true refl refl refl refl refl ∙ append-nil _

abbrev made : (lua lib bin own : Files) → Record
made lua lib bin own = record { items = as_items Lua lua ++ as_items Lib lib ++ as_items Bin bin; own = own }

made_alike : (lua lib bin own a b c d : Files) → lua ≡ a → lib ≡ b → bin ≡ c → own ≡ d
    → made lua lib bin own ≡ made a b c d
made_alike lua lib bin own a b c d p q r s =
    ap (λ (l : Files). made l lib bin own) p ∙ ap (λ (l : Files). made a l bin own) q
    ∙ ap (λ (l : Files). made a b l own) r ∙ ap (λ (l : Files). made a b c l) s

-- what is gathered piece by piece
pub read_of : (bytes : List ℕ) (lua lib bin own others : Files) (start modules compiled items : List (Item × List ℕ))
    → lua ≡ files_under (codes "lua") false (lines bytes) → lib ≡ files_under (codes "lib") false (lines bytes)
    → bin ≡ files_under (codes "bin") false (lines bytes) → own ≡ files_under (codes "own") false (lines bytes)
    → start ≡ [] → modules ≡ start ++ as_items Lua lua → compiled ≡ modules ++ as_items Lib lib
    → items ≡ compiled ++ as_items Bin bin → others ≡ own
    → record { items = items; own = others } ≡ record_in bytes
unfolding record_in
read_of bytes lua lib bin own others start modules compiled items is_lua is_lib is_bin is_own e0 e1 e2 e3 e4 =
    let first = e1 ∙ ap (λ (l : List (Item × List ℕ)). l ++ as_items Lua lua) e0 in
    let second = e2 ∙ ap (λ (l : List (Item × List ℕ)). l ++ as_items Lib lib) first in
    let third = e3 ∙ ap (λ (l : List (Item × List ℕ)). l ++ as_items Bin bin) second in
    ap (λ (l : List (Item × List ℕ)). record { items = l; own = others }) third
    ∙ ap (λ (l : Files). made lua lib bin l) e4 ∙ made_alike _ _ _ _ _ _ _ _ is_lua is_lib is_bin is_own

-- a record is read of its text
pub record_again : (whole : Record) → IsRecord whole → record_in (record_text whole) ≡ whole
unfolding record_in
record_again whole is =
    let items = λ (kind : Kind). files_of_kind kind whole.items is.item_files in
    let lua = under_lua whole items is.own_files in
    let lib = under_lib whole items is.own_files in
    let bin = under_bin whole items is.own_files in
    let own = under_own whole items is.own_files in
    made_alike _ _ _ _ _ _ _ _ lua lib bin own
    ∙ ap (λ (l : List (Item × List ℕ)). record { items = l; own = whole.own })
    (grouped_again whole.items is.items)

-- two records with one text are one
pub one_text : (left right : Record) → IsRecord left → IsRecord right → record_text left ≡ record_text right
    → left ≡ right
one_text left right is other same = sym (record_again left is) ∙ ap record_in same ∙ record_again right other

-- what is read of the text of a record is in order, and has that text
pub found_again : (bytes : List ℕ) (found whole : Record) → found ≡ record_in bytes → IsRecord whole
    → record_text whole ≡ bytes
    → (AreItemsInOrder found.items × ArePathsInOrder found.own) × (bytes ≡ record_text found)
found_again bytes found whole read is same =
    let found_is : found ≡ whole = read ∙ ap record_in (sym same) ∙ record_again whole is in
    let P : Record → Type 0 = λ (r : Record). (AreItemsInOrder r.items × ArePathsInOrder r.own) ×
    (bytes ≡ record_text r) in
    subst P (sym found_is) ((is.items, is.own), sym same)
