-- `./` before a file that is a path changes nothing.
use Rattle.std.proofs.Common.{◌≡◌, ℕ, ◌-◌, List, [], ◌∷◌, ◌++◌, codes, length, take, drop, get_or, Bool, true, false, cond, nat_le, refl, sym, ap, subst, ◌∙◌}
use Rattle.std.specs.Prelude.{Result, Err, Some, not}
use Rattle.std.specs.Bool.{nat_eq}
use Rattle.std.specs.List.{list_all, starts_with}
use Rattle.std.specs.Result.{result_ok}
use Rattle.std.specs.Str.{is_utf8}
use Rattle.std.proofs.lemmas.Bool.{and_parts, cond-false, false_from_ne_true, false≢true}
use Rattle.std.proofs.lemmas.Bool.Decides.{Decides-eqb, same_from_decides}
use Rattle.std.proofs.lemmas.Slice.Eq.{ends_is, starts_is}
use Rattle.lua_value.specs.declared.key.Key.{Key}
use Rattle.lua_value.specs.declared.key.Key.TheVariants.{Int, Text, Bool as Truth}
use Rattle.rocks_text.specs.Modules.{module_path, slashed}
use Rattle.rocks_text.specs.Texts.{is_file_path, is_part, parts}
use Rattle.rocks_text.specs.declared.item.Kind.{Kind}
use Rattle.rocks_text.specs.declared.item.Kind.TheVariants.{Lua, Lib, Bin}
use Rattle.build_targets.specs.Meanings.{blamed_of, conf_target, front_part, is_good_key, is_lua_file, is_path, is_source, item_target, last_part, meaning_at, named, named_target, source, target, unnamed}
use Rattle.build_targets.specs.declared.meanings.Listing.{Listing}
use Rattle.build_targets.specs.declared.meanings.Listing.TheVariants as listings
use Rattle.build_targets.specs.declared.target.Dest.{Dest}
use Rattle.build_targets.specs.declared.target.Dest.TheVariants.{Item, Conf}
use Rattle.build_targets.specs.declared.target.Target.{Target}

-- `.` is no part of a path
no_dot : (rest : List ℕ) → is_file_path (codes "./" ++ rest) ≡ true → ⊥
no_dot rest h =
    let whole : List ℕ = codes "./" ++ rest in
    let all = (and_parts (nat_le (length whole) 1024) (list_all (is_part 150) (parts whole)) h).1 in
    false≢true all

own_source : (file : List ℕ) → is_path file ≡ true → source file ≡ file
own_source file h =
    let begins = starts_with nat_eq file (codes "./") in
    cond-false begins (drop 2 file) file (false_from_ne_true begins (λ dotted.
    let shape = (starts_is Decides-eqb file (codes "./") begins refl).0 dotted in
    no_dot (drop 2 file) (subst (λ f. is_file_path f ≡ true) shape (and_parts (is_utf8 file) (is_file_path file) h).1)))

lua_rest : (front file : List ℕ) → codes "./" ++ file ≡ front ++ codes ".lua" → is_lua_file file ≡ true
lua_rest [] file e = absurd (false≢true (ap (λ (l : List ℕ). nat_eq (get_or l 1 0) 47) (sym e)))
lua_rest (x ∷ []) file e = absurd (false≢true (ap (λ (l : List ℕ). nat_eq (get_or l 1 0) 47) (sym e)))
lua_rest (x ∷ y ∷ front) file e =
    (ends_is Decides-eqb file (codes ".lua") (is_lua_file file) refl).1 front (ap (drop 2) e)

same_ending : (file : List ℕ) → is_lua_file (codes "./" ++ file) ≡ is_lua_file file
same_ending file =
    let dotted : List ℕ = codes "./" ++ file in
    let long = ends_is Decides-eqb dotted (codes ".lua") (is_lua_file dotted) refl in
    let short = ends_is Decides-eqb file (codes ".lua") (is_lua_file file) refl in
    same_from_decides {P = is_lua_file file ≡ true} (is_lua_file dotted) (is_lua_file file) (
      λ lua. lua_rest (take (length dotted - 4) dotted) file (long.0 lua),
      λ lua. long.1 (codes "./" ++ take (length file - 4) file) (ap (λ f. codes "./" ++ f) (short.0 lua)),
    )
    (λ lua. lua, λ lua. lua)

-- ---- two spellings of one file

module _ (spelled file : List ℕ) (same : source spelled ≡ source file) where
  same_target : (to : Dest) (is : Bool) (b d : List ℕ) → result_ok (target to is spelled b) ≡ result_ok (target to is file d)
  same_target to true b d = ap (λ from. Some (record { to = to; from = from })) same
  same_target to false b d = refl

  same_item : (kind : Kind) (path other b d : List ℕ) → path ≡ other → result_ok (item_target kind path spelled b) ≡ result_ok (item_target kind other file d)
  same_item kind path other b d e =
      same_target (Item (record { kind = kind; path = path })) (is_path path) b d ∙ ap (λ p. result_ok (item_target kind p file d)) e

  same_conf : (path other b d : List ℕ) → path ≡ other → result_ok (conf_target path spelled b) ≡ result_ok (conf_target other file d)
  same_conf path other b d e =
      same_target (Conf path) (is_path (codes "conf/" ++ path)) b d ∙ ap (λ p. result_ok (conf_target p file d)) e

  same_choice : (is : Bool) (r s t u : Result Target (List ℕ)) → result_ok r ≡ result_ok t → result_ok s ≡ result_ok u → result_ok (cond is r s) ≡ result_ok (cond is t u)
  same_choice true r s t u first second = first
  same_choice false r s t u first second = second

  same_unnamed : (listing : Listing) → result_ok (unnamed listing spelled) ≡ result_ok (unnamed listing file)
  same_unnamed listings.Modules = same_item Lua _ _ spelled file (ap last_part same)
  same_unnamed listings.Lua = same_item Lua _ _ spelled file (ap last_part same)
  same_unnamed listings.Lib = same_item Lib _ _ spelled file (ap last_part same)
  same_unnamed listings.Bin = same_item Bin _ _ spelled file (ap last_part same)
  same_unnamed listings.Conf = same_conf _ _ spelled file (ap last_part same)

  module _ (ending : is_lua_file spelled ≡ is_lua_file file) where
    same_installed : (kind : Kind) (name : List ℕ) → result_ok (named_target kind name spelled) ≡ result_ok (named_target kind name file)
    same_installed kind name =
        let path = slashed name ++ codes ".lua" in
        let front = front_part (slashed name) in
        let lua = item_target kind path file name in
        let other = item_target kind (front ++ last_part (source file)) file (blamed_of front name file) in
        same_choice (is_lua_file spelled) (item_target kind path spelled name)
        (item_target kind (front ++ last_part (source spelled)) spelled (blamed_of front name spelled)) lua other
        (same_item kind path path name name refl)
        (same_item kind _ _ (blamed_of front name spelled) (blamed_of front name file) (ap (λ s. front ++ last_part s) same))
        ∙ ap (λ b. result_ok (cond b lua other)) ending

    same_named : (listing : Listing) (key : List ℕ) → result_ok (named listing key spelled) ≡ result_ok (named listing key file)
    same_named listings.Modules key = same_item Lua (module_path key (source spelled)) (module_path key (source file)) _ _ (ap (module_path key) same)
    same_named listings.Lua key = same_installed Lua key
    same_named listings.Lib key = same_installed Lib key
    same_named listings.Bin key = same_item Bin key key key key refl
    same_named listings.Conf key = same_conf key key key key refl

    same_of_source : (r s : Result Target (List ℕ)) → result_ok r ≡ result_ok s
        → result_ok (cond (is_source spelled) r (Err spelled)) ≡ result_ok (cond (is_source file) s (Err file))
    same_of_source r s e =
        same_choice (is_source spelled) r (Err spelled) s (Err file) e refl
        ∙ ap (λ from. result_ok (cond (is_path from) s (Err file))) same

    same_meaning : (listing : Listing) (key : Key) → result_ok (meaning_at listing key spelled) ≡ result_ok (meaning_at listing key file)
    same_meaning listing (Text key) =
        same_choice (not (is_good_key listing key)) (Err key) _ (Err key) _ refl (same_of_source _ _ (same_named listing key))
    same_meaning listing (Int n) = same_of_source _ _ (same_unnamed listing)
    same_meaning listing (Truth b) = same_of_source _ _ (same_unnamed listing)

pub dotted_meaning : (listing : Listing) (key : Key) (file : List ℕ) → is_path file ≡ true
    → result_ok (meaning_at listing key (codes "./" ++ file)) ≡ result_ok (meaning_at listing key file)
dotted_meaning listing key file h = same_meaning (codes "./" ++ file) file (sym (own_source file h)) (same_ending file) listing key
