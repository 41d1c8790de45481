-- No file of a tree stands in the work folder, and what is dropped stands in `old/`.
use Rattle.std.proofs.Common.{◌≡◌, ◌≢◌, ℕ, Bool, true, false, not, cond, List, [], ◌∷◌, ◌++◌, codes, decimal, Some, None, refl, sym, ap, subst, ◌∙◌, arith, ⊎_elim, append_assoc, is_eq}
use Rattle.std.proofs.lemmas.Bool.{and_parts}
use Rattle.std.proofs.lemmas.Bool.Decides.{nat_tests}
use Rattle.std.proofs.lemmas.List.{append_cancel_left}
use Rattle.std.specs.Bool.{nat_eq}
use Rattle.std.specs.List.{starts_with, Contains}
use Rattle.std.specs.FinMap.{get, get-retain_keys}
use Rattle.rocks_text.specs.Files.{Files}
use Rattle.rocks_text.specs.declared.item.Item.{Item}
use Rattle.rocks_text.specs.declared.item.Kind.{Kind}
use Rattle.rocks_text.specs.declared.item.Kind.TheVariants.{Lua, Lib, Bin}
use Rattle.rocks_version.specs.declared.key.RockKey.{RockKey}
use Rattle.rock_record.specs.declared.rock.Rock.{Rock}
use Rattle.tree_claims.specs.Claims.{path_of, Form, IsPlain, IsVersioned}
use Rattle.tree_moves.specs.Moves.{new_path, old_folder, old_path, settled_old}
use Rattle.tree_paths.specs.Places.{flat_name, own_path, place_of}
use Rattle.tree_sets.proofs.ItemPlaces.{placed}
use Rattle.tree_sets.proofs.PathTies.{by_bool, tied}
use Rattle.tree_sets.proofs.RockFiles.{folder_or_item, tree_file}
use Rattle.tree_sets.specs.Places.{place_of as item_place}
use Rattle.tree_sets.specs.Sets.{entries_of}
use Rattle.tree_sets.specs.Trees.{manifest_path, rock_files, tree_files, File}
use Rattle.tree_sets.specs.declared.entry.IndexEntry.{IndexEntry}
use Rattle.tree_change.proofs.Entries.{none_some}

-- a path that isn't in the work folder
abbrev pub IsOutside : List ℕ → Type 0
IsOutside path = (rest : List ℕ) → path ≢ codes "lib/luarocks/work/" ++ rest

first_same : (x y : ℕ) (xs ys : List ℕ) → x ∷ xs ≡ y ∷ ys → x ≡ y
first_same x y xs ys same = cc

first_differs : (x y : ℕ) (xs ys : List ℕ) → x ≢ y → x ∷ xs ≢ y ∷ ys
first_differs x y xs ys other same = other (first_same x y xs ys same)

kind_outside : (kind : Kind) (path : List ℕ) → IsOutside (place_of kind ++ path)
kind_outside Lua path rest same = first_differs 115 108 _ _ (omega arith) same
kind_outside Bin path rest same = first_differs 98 108 _ _ (omega arith) same
kind_outside Lib path rest same =
    first_differs 47 114 (codes "5.4/" ++ path) (codes "ocks/work/" ++ rest) (omega arith)
    (append_cancel_left (codes "lib/lua") (codes "/5.4/" ++ path) (codes "rocks/work/" ++ rest) same)

pub form_outside : (form : Form) (item : Item) (key : RockKey) → IsOutside (path_of form item key)
form_outside IsPlain item key = kind_outside item.kind item.path
form_outside IsVersioned item key = kind_outside item.kind (flat_name key ++ (codes "-" ++ item.path))

pub place_outside : (entries : List IndexEntry) (key : RockKey) (item : Item) → IsOutside (item_place entries key item)
place_outside entries key item =
    let at = placed entries key item in
    subst IsOutside (sym at.1) (form_outside at.0 item key)

in_rocks : (path rest : List ℕ) → codes "lib/luarocks/rocks-5.4/" ++ path ≢ codes "lib/luarocks/work/" ++ rest
in_rocks path rest same =
    first_differs 114 119 (codes "ocks-5.4/" ++ path) (codes "ork/" ++ rest) (omega arith)
    (append_cancel_left (codes "lib/luarocks/") (codes "rocks-5.4/" ++ path) (codes "work/" ++ rest) same)

pub own_outside : (key : RockKey) (path : List ℕ) → IsOutside (own_path key path)
own_outside key path rest same =
    let within = key.name ++ (codes "/" ++ (key.version ++ codes "/")) in
    in_rocks (within ++ path) rest (sym (append_assoc (codes "lib/luarocks/rocks-5.4/") within path) ∙ same)

pub manifest_is_outside : IsOutside manifest_path
manifest_is_outside rest same = in_rocks (codes "manifest") rest same

pub rock_file_outside : (entries : List IndexEntry) (rock : Rock) (file : File) → Contains (rock_files entries rock) file → IsOutside file.0
rock_file_outside entries rock file has =
    ⊎_elim (λ own. subst IsOutside (sym own.1) (own_outside rock.key own.0)) (λ item. subst IsOutside (sym item.2) (place_outside entries rock.key item.0))
    (folder_or_item entries rock file has)

pub file_outside : (set : List Rock) (file : File) → Contains (tree_files set) file → IsOutside file.0
file_outside set file has =
    ⊎_elim (λ found. rock_file_outside (entries_of set) found.0 file found.2) (λ at. subst IsOutside (sym at) manifest_is_outside)
    (tree_file set file has)

-- ---- numbered paths

pub new_outside : (path : List ℕ) (n : ℕ) → IsOutside path → path ≢ new_path n
new_outside path n outside same = outside (codes "new/" ++ decimal n) same

pub old_outside : (path : List ℕ) (n : ℕ) → IsOutside path → path ≢ old_path n
old_outside path n outside same = outside (codes "old/" ++ decimal n) same

pub new_not_old : (m n : ℕ) → new_path m ≢ old_path n
new_not_old m n same =
    first_differs 110 111 (codes "ew/" ++ decimal m) (codes "ld/" ++ decimal n) (omega arith)
    (append_cancel_left (codes "lib/luarocks/work/") (codes "new/" ++ decimal m) (codes "old/" ++ decimal n) same)

-- ---- what is dropped

front_is : (needle path : List ℕ) → starts_with nat_eq path needle ≡ true → (rest : List ℕ) × (path ≡ needle ++ rest)
front_is [] path is = (path, refl)
front_is (b ∷ needle) [] is = absurd cc
front_is (b ∷ needle) (c ∷ path) is =
    let parts = and_parts (nat_eq b c) (starts_with nat_eq path needle) is in
    let rest = front_is needle path parts.1 in
    let same : b ≡ c = grind (arith, nat_tests, parts.0) in
    (rest.0, λ i. sym same i ∷ rest.1 i)

kept_as : (files : Files) (path : List ℕ) (b : Bool) → starts_with nat_eq path old_folder ≡ b → get (settled_old files) path ≡ cond (not b) (get files path) None
kept_as files path b is =
    let test = λ (p : List ℕ). starts_with nat_eq p old_folder in
    get-retain_keys files (λ p. not (test p)) path (λ other tie. ap (λ (p : List ℕ). not (test p)) (sym (tied path other (ap is_eq tie))))
    ∙ ap (λ (t : Bool). cond (not t) (get files path) None) is

-- outside of the work folder nothing is dropped
pub settled_outside : (files : Files) (path : List ℕ) → IsOutside path → get (settled_old files) path ≡ get files path
settled_outside files path outside =
    by_bool (starts_with nat_eq path old_folder)
    (λ is. let front = front_is old_folder path is in absurd (outside (codes "old/" ++ front.0) front.1))
    (λ is. kept_as files path false is)

-- what is left was there
pub settled_some : (files : Files) (path bytes : List ℕ) → get (settled_old files) path ≡ Some bytes → get files path ≡ Some bytes
settled_some files path bytes is =
    by_bool (starts_with nat_eq path old_folder)
    (λ t. absurd (none_some bytes (sym (kept_as files path true t) ∙ is)))
    (λ t. sym (kept_as files path false t) ∙ is)

old_starts : (n : ℕ) → starts_with nat_eq (old_path n) old_folder ≡ true
old_starts n = refl

pub settled_numbered : (files : Files) (n : ℕ) → get (settled_old files) (old_path n) ≡ None
settled_numbered files n = kept_as files (old_path n) true (old_starts n)
