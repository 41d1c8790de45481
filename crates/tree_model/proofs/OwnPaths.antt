-- The files that a rock brings have paths of their own.
use Rattle.std.proofs.Common.{◌≡◌, ◌≢◌, ℕ, true, not, ◌==◌, List, [], ◌∷◌, ◌++◌, map, codes, sym, ap, ◌∙◌, arith, Ordering, append_assoc}
use Rattle.std.proofs.lemmas.Bool.{and_parts}
use Rattle.std.proofs.lemmas.Cmp.{tied_itself}
use Rattle.std.proofs.lemmas.List.{append_cancel_left}
use Rattle.std.proofs.lemmas.List.Folds.{list_all-append}
use Rattle.std.specs.Cmp.{IsTotalOrder}
use Rattle.std.specs.List.{AllByRecursion, Contains, list_all}
use Rattle.std.specs.List.Sorted.{IsStrictlySortedBy}
use Rattle.std.specs.declared.cmp.Ordering.TheVariants.{Less}
use Rattle.rocks_text.specs.Files.{path_cmp}
use Rattle.rocks_text.specs.Items.{item_cmp}
use Rattle.rocks_text.specs.declared.item.Item.{Item}
use Rattle.rocks_text.specs.declared.item.Kind.{Kind}
use Rattle.rocks_text.specs.declared.item.Kind.TheVariants.{Lua, Lib, Bin}
use Rattle.rocks_version.specs.Keys.{rockspec_name}
use Rattle.rocks_version.specs.declared.key.RockKey.{RockKey}
use Rattle.rock_manifest.specs.Text.{record_text}
use Rattle.rock_manifest.proofs.Orders.{item_total, path_total}
use Rattle.rock_record.specs.Made.{HasGoodPaths}
use Rattle.rock_record.specs.Rocks.{record_of}
use Rattle.rock_record.specs.declared.rock.Rock.{Rock}
use Rattle.tree_paths.specs.Places.{place_of, plain_path, rock_folder, own_path}
use Rattle.tree_paths.proofs.Apart.{plain_apart}
use Rattle.tree_model.proofs.Rows.{File, IsNowhere, among_mapped, all_append, all_at, all_from, all_mapped, own_append}
use Rattle.tree_model.specs.Tree.{own_file, item_file, files_of, HaveOwnPaths}

-- ---- rising keys

module _ {X K : Type 0} (cmp : K → K → Ordering) (total : IsTotalOrder cmp) (key : X → K) (place : X → File)
    (apart : (x y : X) → (place y).0 ≡ (place x).0 → key y ≡ key x) where
  above_differs : (x y : X) → cmp (key x) (key y) ≡ Less → (place y).0 ≢ (place x).0
  above_differs x y below same =
      let tied = ap (cmp (key x)) (apart x y same) ∙ tied_itself total (key x) in
      let clash = sym below ∙ tied in
      cc

  nowhere_above : (x : X) (xs : List X) → AllByRecursion (λ other. cmp (key x) other ≡ Less) (map key xs) → IsNowhere (place x) (map place xs)
  nowhere_above x [] all = tt
  nowhere_above x (y ∷ xs) all = (above_differs x y all.0, nowhere_above x xs all.1)

  rising_own : (xs : List X) → IsStrictlySortedBy cmp (map key xs) → HaveOwnPaths (map place xs)
  unfolding IsStrictlySortedBy
  rising_own [] sorted = tt
  rising_own (x ∷ xs) sorted = (nowhere_above x xs sorted.0, rising_own xs sorted.1)

-- ---- places

pub own_path_apart : (key : RockKey) (path other : List ℕ) → own_path key path ≡ own_path key other → path ≡ other
own_path_apart key path other same = append_cancel_left (rock_folder key.name key.version) path other same

first_differs : (x y : ℕ) (xs ys : List ℕ) → x ≢ y → x ∷ xs ≢ y ∷ ys
first_differs x y xs ys other same = other cc

-- no item stands in a rock's folder
placed_elsewhere : (kind : Kind) (path rest : List ℕ) → place_of kind ++ path ≢ codes "lib/luarocks/rocks-5.4/" ++ rest
placed_elsewhere Lua path rest same = first_differs 115 108 _ _ (omega arith) same
placed_elsewhere Bin path rest same = first_differs 98 108 _ _ (omega arith) same
placed_elsewhere Lib path rest same =
    first_differs 47 114 (codes "5.4/" ++ path) (codes "ocks/rocks-5.4/" ++ rest) (omega arith)
    (append_cancel_left (codes "lib/lua") (codes "/5.4/" ++ path) (codes "rocks/rocks-5.4/" ++ rest) same)

pub in_no_folder : (key : RockKey) (path : List ℕ) (item : Item) → plain_path item ≢ own_path key path
in_no_folder key path item same =
    placed_elsewhere item.kind item.path (key.name ++ (codes "/" ++ (key.version ++ codes "/")) ++ path)
    (same ∙ append_assoc (codes "lib/luarocks/rocks-5.4/") (key.name ++ (codes "/" ++ (key.version ++ codes "/"))) path)

-- the record's name has no dash
pub record_is_no_rockspec : (name version : List ℕ) → codes "rock_manifest" ≢ rockspec_name name version
record_is_no_rockspec name version same =
    let dashless = λ (text : List ℕ). list_all (λ b. not (b == 45)) text in
    let behind_name = version ++ codes ".rockspec" in
    let none : dashless (rockspec_name name version) ≡ true = sym (ap dashless same) in
    let ends : dashless (codes "-" ++ behind_name) ≡ true =
    (and_parts (dashless name) (dashless (codes "-" ++ behind_name)) (sym (list_all-append (λ b. not (b == 45)) name (codes "-" ++ behind_name)) ∙ none)).1 in
    cc ends

-- ---- the files of a rock

item_places : (rock : Rock) → HasGoodPaths rock → HaveOwnPaths (map item_file rock.items)
item_places rock good =
    rising_own item_cmp item_total (λ (file : Item × List ℕ). file.0) item_file (λ x y same. plain_apart y.0 x.0 same) rock.items good.items

own_places : (rock : Rock) → HasGoodPaths rock → HaveOwnPaths (map (own_file rock.key) rock.own)
own_places rock good =
    rising_own path_cmp path_total (λ (file : File). file.0) (own_file rock.key) (λ x y same. own_path_apart rock.key y.0 x.0 same) rock.own good.own

items_elsewhere : (key : RockKey) (path bytes : List ℕ) (items : List (Item × List ℕ)) → IsNowhere (own_path key path, bytes) (map item_file items)
items_elsewhere key path bytes items =
    all_mapped (λ other. other.0 ≢ own_path key path) item_file items
    (all_from (λ file. (item_file file).0 ≢ own_path key path) items (λ file among. in_no_folder key path file.0))

-- where no own file has that path in the rock
own_elsewhere : (key : RockKey) (path bytes : List ℕ) (own : List File) → ((other : List ℕ) → Contains (map (λ file. file.0) own) other → other ≢ path)
    → IsNowhere (own_path key path, bytes) (map (own_file key) own)
own_elsewhere key path bytes own apart =
    all_mapped (λ other. other.0 ≢ own_path key path) (own_file key) own
    (all_from (λ file. (own_file key file).0 ≢ own_path key path) own
    (λ file among same. apart file.0 (among_mapped (λ (f : File). f.0) own file among) (own_path_apart key file.0 path same)))

own_and_items : (rock : Rock) → HasGoodPaths rock → HaveOwnPaths (map (own_file rock.key) rock.own ++ map item_file rock.items)
own_and_items rock good =
    let items = map item_file rock.items in
    let own = map (own_file rock.key) rock.own in
    let apart : AllByRecursion (λ file. IsNowhere file items) own =
    all_mapped (λ file. IsNowhere file items) (own_file rock.key) rock.own
    (all_from (λ file. IsNowhere (own_file rock.key file) items) rock.own (λ file among. items_elsewhere rock.key file.0 file.1 rock.items)) in
    own_append own items (own_places rock good) (item_places rock good)
    (λ file other among. all_at (λ next. next.0 ≢ file.0) items other (all_at (λ next. IsNowhere next items) own file apart among))

-- the rockspec and the record, of which no own file has the path in the rock
before_them : (rock : Rock) (path bytes : List ℕ) → ((other : List ℕ) → Contains (map (λ file. file.0) rock.own) other → other ≢ path)
    → IsNowhere (own_path rock.key path, bytes) (map (own_file rock.key) rock.own ++ map item_file rock.items)
before_them rock path bytes apart =
    all_append (λ other. other.0 ≢ own_path rock.key path) (map (own_file rock.key) rock.own) (map item_file rock.items)
    (own_elsewhere rock.key path bytes rock.own apart) (items_elsewhere rock.key path bytes rock.items)

-- a rock brings no path twice
pub own_paths : (rock : Rock) → HasGoodPaths rock → HaveOwnPaths (files_of rock)
own_paths rock good =
    let name = rockspec_name rock.key.name rock.key.version in
    let record_name = codes "rock_manifest" in (
      (
        λ same. record_is_no_rockspec rock.key.name rock.key.version (own_path_apart rock.key record_name name same),
        before_them rock name rock.rockspec (λ path among. (good.own_beside path among).1.0),
      ),
      (
        before_them rock record_name (record_text (record_of rock)) (λ path among. (good.own_beside path among).0.0),
        own_and_items rock good,
      ),
    )
