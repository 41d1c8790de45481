-- What a plan says of its recipe: its targets stand at paths, and its folders don't begin as a rock's own places do.
use Rattle.std.proofs.Common.{◌≡◌, ◌≢◌, ℕ, ◌<◌, List, [], ◌∷◌, ◌++◌, Bool, true, false, cond, not, Option, Some, None, Ok, Err, codes, get_or, length, map, refl, sym, ap, ◌∙◌, subst, arith}
use Rattle.std.specs.Prelude.{Contains, IfOk, IsTrue, Result, if◌then◌else◌}
use Rattle.std.specs.List.{All, list_any}
use Rattle.std.specs.Str.{bytes_eq, is_utf8}
use Rattle.std.proofs.lemmas.Bool.{and_parts, cond_both, not_from_true}
use Rattle.std.proofs.lemmas.List.Elements.{Contains-get_or}
use Rattle.std.proofs.lemmas.List.Folds.{list_any_at}
use Rattle.std.proofs.lemmas.Result.{IfOk-at_ok}
use Rattle.std.proofs.lemmas.Slice.Eq.{bytes_eq-Decides}
use Rattle.lua_value.specs.declared.key.Key.{Key}
use Rattle.lua_value.specs.declared.key.Key.TheVariants.{Int, Text, Bool as Truth}
use Rattle.lua_value.specs.Pairs.{Pairs}
use Rattle.rocks_text.specs.Modules.{module_path, slashed}
use Rattle.rocks_text.specs.Texts.{is_file_path}
use Rattle.rocks_text.specs.declared.item.Kind.{Kind}
use Rattle.rocks_text.specs.declared.item.Kind.TheVariants.{Lua, Lib, Bin}
use Rattle.build_targets.specs.Folders.{first_part, is_folder, kept_parts}
use Rattle.build_targets.specs.Meanings.{blamed_of, front_part, is_good_key, is_lua_file, is_path, is_source, last_part, meaning_at, named, named_target, source, target, unnamed}
use Rattle.build_targets.specs.Places.{path_of}
use Rattle.build_targets.specs.declared.meanings.Listing.{Listing}
use Rattle.build_targets.specs.declared.meanings.Listing.TheVariants as listings
use Rattle.build_targets.specs.declared.target.Dest.{Dest}
use Rattle.build_targets.specs.declared.target.Dest.TheVariants.{Item, Conf}
use Rattle.build_targets.specs.declared.target.Target.{Target}
use Rattle.build_plan.specs.declared.fault.PlanFault.TheVariants.{BadTarget}
use Rattle.build_plan.specs.declared.plan.BuildPlan.TheVariants.{Build}
use Rattle.build_plan.specs.declared.recipe.Recipe.{Recipe}
use Rattle.build_plan.specs.Entries.{Entry, entries, meaning, named_folders}
use Rattle.build_plan.specs.Plans.{blame, blames, folder_blame, HasPlan}
use Rattle.build_plan.specs.Steps.{first_some}
use Rattle.build_plan.proofs.Apart.{at_contains}
use Rattle.build_plan.proofs.Early.{made_from, made_there}
use Rattle.build_plan.proofs.Firsts.{none_at}
use Rattle.build_plan.proofs.Planned.{blamed_first}

-- ---- what an entry means stands at a path

abbrev Stands : Target → Type 0
Stands target = IsTrue (is_path (path_of target.to))

abbrev MeansStanding : Result Target (List ℕ) → Type 0
MeansStanding meant = IfOk meant Stands

standing : (to : Dest) (file blamed : List ℕ) → MeansStanding (target to (is_path (path_of to)) file blamed)
standing to file blamed =
    let meant : Target = record { to = to; from = source file } in
    cond_both (is_path (path_of to)) (Ok meant) (Err blamed) MeansStanding (λ is. is) (λ _. tt)

item_standing : (kind : Kind) (path file blamed : List ℕ) → MeansStanding (target (Item (record { kind = kind; path = path })) (is_path path) file blamed)
item_standing kind path file blamed = standing (Item (record { kind = kind; path = path })) file blamed

unnamed_standing : (listing : Listing) (file : List ℕ) → MeansStanding (unnamed listing file)
unnamed_standing listings.Modules file = item_standing Lua (last_part (source file)) file file
unnamed_standing listings.Lua file = item_standing Lua (last_part (source file)) file file
unnamed_standing listings.Lib file = item_standing Lib (last_part (source file)) file file
unnamed_standing listings.Bin file = item_standing Bin (last_part (source file)) file file
unnamed_standing listings.Conf file = standing (Conf (last_part (source file))) file file

installed_standing : (kind : Kind) (name file : List ℕ) → MeansStanding (named_target kind name file)
installed_standing kind name file =
    let front = front_part (slashed name) in
    cond_both (is_lua_file file) _ _ MeansStanding
    (λ _. item_standing kind (slashed name ++ codes ".lua") file name)
    (λ _. item_standing kind (front ++ last_part (source file)) file (blamed_of front name file))

named_standing : (listing : Listing) (key file : List ℕ) → MeansStanding (named listing key file)
named_standing listings.Modules key file = item_standing Lua (module_path key (source file)) file _
named_standing listings.Lua key file = installed_standing Lua key file
named_standing listings.Lib key file = installed_standing Lib key file
named_standing listings.Bin key file = item_standing Bin key file key
named_standing listings.Conf key file = standing (Conf key) file key

of_source : (file : List ℕ) (meant : Result Target (List ℕ)) → MeansStanding meant → MeansStanding (cond (is_source file) meant (Err file))
of_source file meant stands = cond_both (is_source file) meant (Err file) MeansStanding (λ _. stands) (λ _. tt)

meaning_standing : (listing : Listing) (key : Key) (file : List ℕ) → MeansStanding (meaning_at listing key file)
meaning_standing listing (Text key) file =
    cond_both (not (is_good_key listing key)) (Err key) (cond (is_source file) (named listing key file) (Err file)) MeansStanding
    (λ _. tt) (λ _. of_source file (named listing key file) (named_standing listing key file))
meaning_standing listing (Int n) file = of_source file (unnamed listing file) (unnamed_standing listing file)
meaning_standing listing (Truth b) file = of_source file (unnamed listing file) (unnamed_standing listing file)

-- ---- the plan blames nothing

unless_some : (o : Option (List ℕ)) → ((text : List ℕ) → o ≡ Some text → ⊥) → o ≡ None
unless_some None h = refl
unless_some (Some text) h = absurd (h text refl)

none_behind : (xs ys : List (Option (List ℕ))) → first_some (xs ++ ys) ≡ None → first_some ys ≡ None
none_behind [] ys none = none
none_behind (None ∷ xs) ys none = none_behind xs ys none
none_behind (Some text ∷ xs) ys none = absurd cc

is_unblamed : (is : Bool) (text : List ℕ) → (if is then None else Some text) ≢ Some text → is ≡ true
is_unblamed true text h = refl
is_unblamed false text h = absurd (h refl)

-- how the named folders begin
pub record IsOwnPlace (rockspec first : List ℕ) : Type 0 where
  pub not_conf : first ≢ codes "conf"
  pub not_record : first ≢ codes "rock_manifest"
  pub not_rockspec : first ≢ rockspec

module _ (rockspec folder : List ℕ) (is : is_folder rockspec folder ≡ true) where
  not_kept : (k : ℕ) → k < length (kept_parts rockspec) → first_part (source folder) ≢ get_or (kept_parts rockspec) k []
  not_kept k within same =
      let test = bytes_eq (first_part (source folder)) in
      let found = list_any_at test (kept_parts rockspec) k [] within ((bytes_eq-Decides (first_part (source folder)) (get_or (kept_parts rockspec) k [])).1 same) in
      let clash = sym (and_parts (is_source folder) (not (list_any test (kept_parts rockspec))) is).1 ∙ not_from_true (list_any test (kept_parts rockspec)) found in
      cc clash

  own_place : IsOwnPlace rockspec (first_part (source folder))
  own_place = record {
    not_conf = not_kept 3 (omega arith);
    not_record = not_kept 4 (omega arith);
    not_rockspec = not_kept 5 (omega arith);
  }

-- ---- the recipe of a plan

module _ (rockspec : List ℕ) (fields : Pairs) (recipe : Recipe) (plan : HasPlan rockspec fields (Build recipe)) where
  pub targets_stand : All (λ target. IsTrue (is_file_path (path_of target.to))) recipe.files
  targets_stand k d within =
      let target = get_or recipe.files k d in
      let is = (plan.1.files target).0 (Contains-get_or recipe.files k d within) in
      let stands = IfOk-at_ok Stands is.means (meaning_standing is.entry.listing is.entry.key is.entry.file) in
      (and_parts (is_utf8 (path_of target.to)) (is_file_path (path_of target.to)) stands).1

  folders_unblamed : first_some (map (folder_blame rockspec) (named_folders fields)) ≡ None
  folders_unblamed =
      none_behind (map (λ (entry : Entry). blame (meaning entry)) (entries fields)) (map (folder_blame rockspec) (named_folders fields))
      (unless_some (first_some (blames rockspec fields)) (λ text some. plan.0 (BadTarget text) (blamed_first rockspec fields text some)))

  pub folders_begin : (folder : List ℕ) → Contains recipe.folders folder → IsOwnPlace rockspec (first_part folder)
  folders_begin folder has =
      let there = at_contains (map source (named_folders fields)) folder ((plan.1.folders folder).0 has) in
      let named = made_from source (named_folders fields) there.0 folder there.1 in
      let is = is_unblamed (is_folder rockspec named.0) named.0 (λ blamed.
      none_at (map (folder_blame rockspec) (named_folders fields)) folders_unblamed there.0 named.0
      (made_there (folder_blame rockspec) (named_folders fields) there.0 named.0 named.1 ∙ ap Some blamed)) in
      subst (λ (l : List ℕ). IsOwnPlace rockspec (first_part l)) named.2 (own_place rockspec named.0 is)
