-- The folders of rocks: no two have a path in common, and no item stands in one.
use Rattle.std.proofs.Common.{◌≡◌, ◌≢◌, ℕ, ◌==◌, true, Bool, not, List, [], ◌∷◌, ◌++◌, codes, refl, sym, ap, ◌∙◌, arith, IsTrue, append_assoc}
use Rattle.std.proofs.lemmas.Bool.{and_parts}
use Rattle.std.proofs.lemmas.Bool.Decides.{nat_tests}
use Rattle.std.proofs.lemmas.List.{append_cancel_left}
use Rattle.std.proofs.lemmas.List.Folds.{list_all-append}
use Rattle.std.specs.List.{list_all}
use Rattle.rocks_text.specs.Texts.{is_name, is_name_byte}
use Rattle.rocks_text.specs.declared.item.Kind.{Kind}
use Rattle.rocks_text.specs.declared.item.Kind.TheVariants.{Lua, Lib, Bin}
use Rattle.rocks_text.specs.declared.item.Item.{Item}
use Rattle.rocks_version.proofs.Parts.{form_is}
use Rattle.rocks_version.specs.Keys.{rockspec_name}
use Rattle.rocks_version.specs.Texts.{has_form, has_short_numbers, is_version, is_version_byte}
use Rattle.rocks_version.specs.declared.key.RockKey.{RockKey}
use Rattle.tree_claims.specs.Claims.{path_of, Form, IsPlain, IsVersioned}
use Rattle.tree_paths.specs.Places.{flat_name, place_of, own_path}
use Rattle.tree_sets.specs.Trees.{manifest_path}

-- ---- names and versions have no slash

abbrev pub has_no_slash : List ℕ → Bool
has_no_slash text = list_all (λ b. not (b == 47)) text

slashless : (p : ℕ → Bool) → ((b : ℕ) → p b ≡ true → not (b == 47) ≡ true) → (text : List ℕ) → list_all p text ≡ true → has_no_slash text ≡ true
slashless p implies [] all = refl
slashless p implies (b ∷ text) all =
    let h = and_parts (p b) (list_all p text) all in
    rw (implies b h.0) (slashless p implies text h.1)

name_byte : (b : ℕ) → is_name_byte b ≡ true → not (b == 47) ≡ true
name_byte b is = grind (arith, nat_tests)

version_byte : (b : ℕ) → is_version_byte b ≡ true → not (b == 47) ≡ true
version_byte b is = grind (arith, nat_tests)

pub name_slashless : (name : List ℕ) → IsTrue (is_name name) → has_no_slash name ≡ true
name_slashless name is = slashless is_name_byte name_byte name (and_parts _ _ (and_parts _ _ is).0).1

pub version_slashless : (version : List ℕ) → IsTrue (is_version version) → has_no_slash version ≡ true
unfolding is_version
version_slashless version is =
    let form = and_parts (has_form version) (has_short_numbers version) is in
    slashless is_version_byte version_byte version (and_parts _ _ (and_parts _ _ (sym (form_is version) ∙ form.0)).0).0

-- ---- where a row of bytes without a slash ends

first_same : (x y : ℕ) (xs ys : List ℕ) → x ∷ xs ≡ y ∷ ys → x ≡ y
first_same x y xs ys same = cc

rest_same : (x y : ℕ) (xs ys : List ℕ) → x ∷ xs ≡ y ∷ ys → xs ≡ ys
rest_same x y xs ys same = cc

no_slash : (b : ℕ) → not (b == 47) ≡ true → b ≢ 47
no_slash b is same = grind (arith, nat_tests)

-- texts that are equal up to their first slash and behind it
pub cut_alike : (left right rest others : List ℕ) → has_no_slash left ≡ true → has_no_slash right ≡ true
    → left ++ 47 ∷ rest ≡ right ++ 47 ∷ others → (left ≡ right) × (rest ≡ others)
cut_alike [] [] rest others none nor same = (refl, rest_same 47 47 rest others same)
cut_alike [] (y ∷ right) rest others none nor same =
    absurd (no_slash y (and_parts (not (y == 47)) (has_no_slash right) nor).0 (sym (first_same 47 y rest (right ++ 47 ∷ others) same)))
cut_alike (x ∷ left) [] rest others none nor same =
    absurd (no_slash x (and_parts (not (x == 47)) (has_no_slash left) none).0 (first_same x 47 (left ++ 47 ∷ rest) others same))
cut_alike (x ∷ left) (y ∷ right) rest others none nor same =
    let more = cut_alike left right rest others (and_parts (not (x == 47)) (has_no_slash left) none).1
    (and_parts (not (y == 47)) (has_no_slash right) nor).1
    (rest_same x y (left ++ 47 ∷ rest) (right ++ 47 ∷ others) same) in
    let first = first_same x y (left ++ 47 ∷ rest) (right ++ 47 ∷ others) same in
    ((λ i. first i ∷ more.0 i), more.1)

-- a text without a slash has no slash
pub uncut : (text left rest : List ℕ) → has_no_slash text ≡ true → text ≢ left ++ 47 ∷ rest
uncut text left rest none same =
    let has : has_no_slash (left ++ 47 ∷ rest) ≡ true = sym (ap has_no_slash same) ∙ none in
    let behind : has_no_slash (47 ∷ rest) ≡ true =
    (and_parts (has_no_slash left) (has_no_slash (47 ∷ rest)) (sym (list_all-append (λ b. not (b == 47)) left (47 ∷ rest)) ∙ has)).1 in
    cc behind

-- ---- folders

abbrev pub IsSlashless : RockKey → Type 0
IsSlashless key = (has_no_slash key.name ≡ true) × (has_no_slash key.version ≡ true)

-- what stands behind the folder of all rocks
abbrev pub inner : RockKey → List ℕ → List ℕ
inner key path = key.name ++ 47 ∷ (key.version ++ 47 ∷ path)

pub own_path_is : (key : RockKey) (path : List ℕ) → own_path key path ≡ codes "lib/luarocks/rocks-5.4/" ++ inner key path
own_path_is key path =
    append_assoc (codes "lib/luarocks/rocks-5.4/") (key.name ++ (codes "/" ++ (key.version ++ codes "/"))) path
    ∙ ap (λ (l : List ℕ). codes "lib/luarocks/rocks-5.4/" ++ l)
    (append_assoc key.name (codes "/" ++ (key.version ++ codes "/")) path
    ∙ ap (λ (l : List ℕ). key.name ++ 47 ∷ l) (append_assoc key.version (codes "/") path))

-- paths in the folders of rocks are equal only where the rocks are, and the paths within
pub folders_apart : (key other : RockKey) (path rest : List ℕ) → IsSlashless key → IsSlashless other
    → own_path key path ≡ own_path other rest → (key ≡ other) × (path ≡ rest)
folders_apart key other path rest none nor same =
    let inside : inner key path ≡ inner other rest =
    append_cancel_left (codes "lib/luarocks/rocks-5.4/") (inner key path) (inner other rest) (sym (own_path_is key path) ∙ same ∙ own_path_is other rest) in
    let names = cut_alike key.name other.name (key.version ++ 47 ∷ path) (other.version ++ 47 ∷ rest) none.0 nor.0 inside in
    let versions = cut_alike key.version other.version path rest none.1 nor.1 names.1 in
    ((λ i. record { name = names.0 i; version = versions.0 i }), versions.1)

-- the manifest stands in no rock's folder
pub manifest_outside : (key : RockKey) (path : List ℕ) → manifest_path ≢ own_path key path
manifest_outside key path same =
    uncut (codes "manifest") key.name (key.version ++ 47 ∷ path) refl
    (append_cancel_left (codes "lib/luarocks/rocks-5.4/") (codes "manifest") (inner key path) (same ∙ own_path_is key path))

first_differs : (x y : ℕ) (xs ys : List ℕ) → x ≢ y → x ∷ xs ≢ y ∷ ys
first_differs x y xs ys other same = other (first_same x y xs ys same)

-- nothing of a kind stands in the folder of all rocks
pub placed_elsewhere : (kind : Kind) (path rest : List ℕ) → place_of kind ++ path ≢ codes "lib/luarocks/rocks-5.4/" ++ rest
placed_elsewhere Lua path rest same = first_differs 115 108 _ _ (omega arith) same
placed_elsewhere Bin path rest same = first_differs 98 108 _ _ (omega arith) same
placed_elsewhere Lib path rest same =
    first_differs 47 114 (codes "5.4/" ++ path) (codes "ocks/rocks-5.4/" ++ rest) (omega arith)
    (append_cancel_left (codes "lib/lua") (codes "/5.4/" ++ path) (codes "rocks/rocks-5.4/" ++ rest) same)

-- and so no item, in whichever form
pub form_elsewhere : (form : Form) (item : Item) (key : RockKey) (rest : List ℕ) → path_of form item key ≢ codes "lib/luarocks/rocks-5.4/" ++ rest
form_elsewhere IsPlain item key rest same = placed_elsewhere item.kind item.path rest same
form_elsewhere IsVersioned item key rest same = placed_elsewhere item.kind (flat_name key ++ (codes "-" ++ item.path)) rest same

pub form_in_no_folder : (form : Form) (item : Item) (key other : RockKey) (path : List ℕ) → path_of form item key ≢ own_path other path
form_in_no_folder form item key other path same = form_elsewhere form item key (inner other path) (same ∙ own_path_is other path)

pub form_no_manifest : (form : Form) (item : Item) (key : RockKey) → path_of form item key ≢ manifest_path
form_no_manifest form item key same = form_elsewhere form item key (codes "manifest") same

-- the record's name has no dash
pub record_is_no_rockspec : (name version : List ℕ) → codes "rock_manifest" ≢ rockspec_name name version
record_is_no_rockspec name version same =
    let dashless = λ (text : List ℕ). list_all (λ b. not (b == 45)) text in
    let behind_name = version ++ codes ".rockspec" in
    let none : dashless (rockspec_name name version) ≡ true = sym (ap dashless same) in
    let ends : dashless (codes "-" ++ behind_name) ≡ true =
    (and_parts (dashless name) (dashless (codes "-" ++ behind_name)) (sym (list_all-append (λ b. not (b == 45)) name (codes "-" ++ behind_name)) ∙ none)).1 in
    cc ends
