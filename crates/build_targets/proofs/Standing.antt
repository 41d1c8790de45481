-- What an entry means comes from a path and stands at a path.
use Rattle.std.proofs.Common.{◌≡◌, ℕ, List, ◌++◌, codes, true, cond}
use Rattle.std.specs.Prelude.{IsTrue, IfOk, Result, Ok, Err, not}
use Rattle.std.proofs.lemmas.Bool.{cond_both}
use Rattle.lua_value.specs.declared.key.Key.{Key}
use Rattle.lua_value.specs.declared.key.Key.TheVariants.{Int, Text, Bool as Truth}
use Rattle.rocks_text.specs.Modules.{module_path, slashed}
use Rattle.rocks_text.specs.declared.item.Kind.{Kind}
use Rattle.rocks_text.specs.declared.item.Kind.TheVariants.{Lua, Lib, Bin}
use Rattle.build_targets.specs.Meanings.{blamed_of, conf_target, front_part, is_good_key, is_lua_file, is_path, is_source, item_target, last_part, meaning_at, named, named_target, source, target, unnamed}
use Rattle.build_targets.specs.Places.{path_of}
use Rattle.build_targets.specs.declared.meanings.Listing.{Listing}
use Rattle.build_targets.specs.declared.meanings.Listing.TheVariants as listings
use Rattle.build_targets.specs.declared.target.Dest.{Dest}
use Rattle.build_targets.specs.declared.target.Dest.TheVariants.{Item, Conf}
use Rattle.build_targets.specs.declared.target.Target.{Target}

-- a target that comes from a path and stands at one
abbrev pub Stands : Target → Type 0
Stands target = IsTrue (is_path target.from) × IsTrue (is_path (path_of target.to))

target_stands : (to : Dest) (file blamed : List ℕ) → is_source file ≡ true → IfOk (target to (is_path (path_of to)) file blamed) Stands
target_stands to file blamed from =
    let at = is_path (path_of to) in
    let meant : Target = record { to = to; from = source file } in
    cond_both at (Ok meant) (Err blamed) (λ r. IfOk r Stands) (λ is. (from, is)) (λ _. tt)

item_stands : (kind : Kind) (path file blamed : List ℕ) → is_source file ≡ true → IfOk (item_target kind path file blamed) Stands
item_stands kind path file blamed from = target_stands (Item (record { kind = kind; path = path })) file blamed from

conf_stands : (path file blamed : List ℕ) → is_source file ≡ true → IfOk (conf_target path file blamed) Stands
conf_stands path file blamed from = target_stands (Conf path) file blamed from

unnamed_stands : (listing : Listing) (file : List ℕ) → is_source file ≡ true → IfOk (unnamed listing file) Stands
unnamed_stands listings.Modules file from = item_stands Lua (last_part (source file)) file file from
unnamed_stands listings.Lua file from = item_stands Lua (last_part (source file)) file file from
unnamed_stands listings.Lib file from = item_stands Lib (last_part (source file)) file file from
unnamed_stands listings.Bin file from = item_stands Bin (last_part (source file)) file file from
unnamed_stands listings.Conf file from = conf_stands (last_part (source file)) file file from

installed_stands : (kind : Kind) (name file : List ℕ) → is_source file ≡ true → IfOk (named_target kind name file) Stands
installed_stands kind name file from =
    cond_both (is_lua_file file) _ _ (λ r. IfOk r Stands)
    (λ _. item_stands kind (slashed name ++ codes ".lua") file name from)
    (λ _. item_stands kind (front_part (slashed name) ++ last_part (source file)) file (blamed_of (front_part (slashed name)) name file) from)

named_stands : (listing : Listing) (key file : List ℕ) → is_source file ≡ true → IfOk (named listing key file) Stands
named_stands listings.Modules key file from = item_stands Lua (module_path key (source file)) file _ from
named_stands listings.Lua key file from = installed_stands Lua key file from
named_stands listings.Lib key file from = installed_stands Lib key file from
named_stands listings.Bin key file from = item_stands Bin key file key from
named_stands listings.Conf key file from = conf_stands key file key from

of_source : (file : List ℕ) (meant : Result Target (List ℕ)) → (is_source file ≡ true → IfOk meant Stands) → IfOk (cond (is_source file) meant (Err file)) Stands
of_source file meant stands = cond_both (is_source file) meant (Err file) (λ r. IfOk r Stands) stands (λ _. tt)

pub meaning_stands : (listing : Listing) (key : Key) (file : List ℕ) → IfOk (meaning_at listing key file) Stands
meaning_stands listing (Text key) file =
    cond_both (not (is_good_key listing key)) (Err key) (cond (is_source file) (named listing key file) (Err file)) (λ r. IfOk r Stands)
    (λ _. tt) (λ _. of_source file (named listing key file) (named_stands listing key file))
meaning_stands listing (Int n) file = of_source file (unnamed listing file) (unnamed_stands listing file)
meaning_stands listing (Truth b) file = of_source file (unnamed listing file) (unnamed_stands listing file)
