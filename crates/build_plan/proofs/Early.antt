-- The faults of a build that come before those of its entries' places.
use Rattle.std.proofs.Common.{◌≡◌, ◌≢◌, ◌+◌, ◌≤◌, ℕ, take, zero, suc, List, [], ◌∷◌, map, refl, sym, ap, ◌∙◌, subst, Bool, true, false, Some, None, option_map, IsTrue, codes, arith}
use Rattle.std.specs.Prelude.{◌↔◌, slice_get, if◌then◌else◌}
use Rattle.std.specs.Str.{bytes_eq}
use Rattle.std.proofs.lemmas.Option.{slice_get-map}
use Rattle.lua_value.specs.declared.key.Key.{Key}
use Rattle.lua_value.specs.Pairs.{Datum, Pairs, listed, no_pairs}
use Rattle.build_targets.specs.Meanings.{is_lua_file}
use Rattle.build_targets.specs.declared.meanings.Listing.TheVariants.{Modules}
use Rattle.build_plan.specs.declared.fault.PlanFault.{PlanFault}
use Rattle.build_plan.specs.declared.fault.PlanFault.TheVariants.{BuildType, NoModules, External, Patches, NeedsCompiler, BadTarget, TwoForOne}
use Rattle.build_plan.specs.Entries.{Entry, build_of, bytes_of, build_type, entries_of, module_entries, table_at}
use Rattle.build_plan.specs.Plans.{fault_rank, key_bytes, HasPlanFault, IsFirstCompiled, IsFirstPlanFault}
use Rattle.build_plan.specs.Steps.{compiled_name, first_some, is_served, modules_in, type_in, LacksModules}
use Rattle.build_plan.proofs.Firsts.{first_at, found_now, none_at, stays_none}
use Rattle.build_plan.proofs.Meant.{entry_of, entry_there}

-- an element of a list, where one of the list that is made of it stands
pub made_from : {X Y : Type 0} (f : X → Y) (xs : List X) (k : ℕ) (y : Y) → slice_get (map f xs) k ≡ Some y → (x : X) × (slice_get xs k ≡ Some x) × (f x ≡ y)
made_from f [] k y is = absurd cc
made_from f (x ∷ xs) zero y is = let same : f x ≡ y = cc in (x, refl, same)
made_from f (x ∷ xs) (suc k) y is = made_from f xs k y is

pub made_there : {X Y : Type 0} (f : X → Y) (xs : List X) (k : ℕ) (x : X) → slice_get xs k ≡ Some x → slice_get (map f xs) k ≡ Some (f x)
made_there f xs k x is = slice_get-map f xs k ∙ ap (option_map f) is

-- ---- the compiled modules

pub compiled_is : (entry : Entry) → is_lua_file entry.file ≡ false → compiled_name entry ≡ Some (key_bytes entry.key)
compiled_is entry h = ap (λ (b : Bool). if b then None else Some (key_bytes entry.key)) h

pub compiled_not : (entry : Entry) → is_lua_file entry.file ≡ true → compiled_name entry ≡ None
compiled_not entry h = ap (λ (b : Bool). if b then None else Some (key_bytes entry.key)) h

if_compiled : (is : Bool) (key name : List ℕ) → (if is then None else Some key) ≡ Some name → (is ≡ false) × (name ≡ key)
if_compiled true key name e = absurd cc
if_compiled false key name e = let same : key ≡ name = cc in (refl, sym same)

is_lua : (b : Bool) → (b ≡ false → ⊥) → b ≡ true
is_lua true h = refl
is_lua false h = absurd (h refl)

modules_by : (builtin : Bool) (modules : Pairs) → (if builtin then entries_of Modules modules else []) ≡ entries_of Modules (if builtin then modules else no_pairs)
modules_by true modules = refl
modules_by false modules = refl

pub modules_are : (fields : Pairs) → module_entries fields ≡ entries_of Modules (modules_in (build_of fields))
modules_are fields = modules_by (bytes_eq (build_type fields) (codes "builtin")) (table_at (codes "modules") (build_of fields))

module _ (fields build modules : Pairs) (is_build : build ≡ build_of fields) (are_modules : modules ≡ modules_in build) where
  pub entries_are : entries_of Modules modules ≡ module_entries fields
  entries_are = ap (entries_of Modules) (are_modules ∙ ap modules_in is_build) ∙ sym (modules_are fields)

  pub compiled_first : (name : List ℕ) → first_some (map compiled_name (entries_of Modules modules)) ≡ Some name → IsFirstCompiled fields name
  compiled_first name some =
      let es = module_entries fields in
      let found = first_at (map compiled_name es) name (ap (λ (l : List Entry). first_some (map compiled_name l)) (sym entries_are) ∙ some) in
      let from = made_from compiled_name es found.place (Some name) found.is in
      let parts = if_compiled (is_lua_file from.0.file) (key_bytes from.0.key) name from.2 in
      record {
        place = found.place;
        entry = from.0;
        is = from.1;
        compiled = parts.0;
        named = parts.1;
        first = λ earlier other below at. is_lua (is_lua_file other.file) (λ not_lua.
            found.first earlier (key_bytes other.key) below (made_there compiled_name es earlier other at ∙ ap Some (compiled_is other not_lua)));
      }

  pub none_compiled : first_some (map compiled_name (entries_of Modules modules)) ≡ None → (name : List ℕ) → IsFirstCompiled fields name → ⊥
  none_compiled none name is =
      let es = module_entries fields in
      let without = ap (λ (l : List Entry). first_some (map compiled_name l)) (sym entries_are) ∙ none in
      none_at (map compiled_name es) without is.place (key_bytes is.entry.key) (made_there compiled_name es is.place is.entry is.is ∙ ap Some (compiled_is is.entry is.compiled))

-- ---- the faults before

clash : {X : Type 0} (b : Bool) → b ≡ false → b ≡ true → X
clash true f t = absurd cc
clash false f t = absurd cc

-- what the tests before the compiled modules have told
pub record AreTested (fields build : Pairs) : Type 0 where
  pub served : is_served (type_in build) ≡ true
  pub modules : ¬ LacksModules build
  pub external : ¬ (table_at (codes "external_dependencies") fields ≢ no_pairs)
  pub patches : ¬ (table_at (codes "patches") build ≢ no_pairs)

module _ (fields build : Pairs) (is_build : build ≡ build_of fields) (tested : AreTested fields build) where
  here : AreTested fields (build_of fields)
  here = subst (AreTested fields) is_build tested

  pub none_early : (rockspec : List ℕ) (fault : PlanFault) → HasPlanFault rockspec fields fault → 4 ≤ fault_rank fault
  none_early rockspec (BuildType told) has =
      clash (is_served told) has.1 (ap is_served has.0 ∙ here.served)
  none_early rockspec NoModules has = absurd (here.modules has)
  none_early rockspec External has = absurd (here.external has)
  none_early rockspec Patches has = absurd (here.patches has)
  none_early rockspec (NeedsCompiler name) has = omega arith
  none_early rockspec (BadTarget text) has = omega arith
  none_early rockspec (TwoForOne path) has = omega arith

  pub compiled_told : (modules : Pairs) (name : List ℕ) → modules ≡ modules_in build → first_some (map compiled_name (entries_of Modules modules)) ≡ Some name
      → (rockspec : List ℕ) → IsFirstPlanFault rockspec fields (NeedsCompiler name)
  compiled_told modules name are some rockspec = record { has = compiled_first fields build modules is_build are name some; first = none_early rockspec }

  pub none_before_five : (modules : Pairs) → modules ≡ modules_in build → first_some (map compiled_name (entries_of Modules modules)) ≡ None
      → (rockspec : List ℕ) (fault : PlanFault) → HasPlanFault rockspec fields fault → 5 ≤ fault_rank fault
  none_before_five modules are none rockspec (BuildType told) has = let early = none_early rockspec (BuildType told) has in absurd (omega arith)
  none_before_five modules are none rockspec NoModules has = let early = none_early rockspec NoModules has in absurd (omega arith)
  none_before_five modules are none rockspec External has = let early = none_early rockspec External has in absurd (omega arith)
  none_before_five modules are none rockspec Patches has = let early = none_early rockspec Patches has in absurd (omega arith)
  none_before_five modules are none rockspec (NeedsCompiler name) has = absurd (none_compiled fields build modules is_build are none name has)
  none_before_five modules are none rockspec (BadTarget text) has = omega arith
  none_before_five modules are none rockspec (TwoForOne path) has = omega arith

-- what the tests answer, as it is used
pub tested : (fields build : Pairs) (told : List ℕ) (served lacks external patches : Bool) → told ≡ type_in build → served ≡ is_served told → served ≡ true
    → IsTrue lacks ↔ LacksModules build → lacks ≡ false → IsTrue external ↔ (table_at (codes "external_dependencies") fields ≢ no_pairs) → external ≡ false
    → IsTrue patches ↔ (table_at (codes "patches") build ≢ no_pairs) → patches ≡ false → AreTested fields build
tested fields build told served lacks external patches says is_one yes' tells_lacks has_modules tells_external no_external tells_patches no_patches = record {
  served = ap is_served (sym says) ∙ sym is_one ∙ yes';
  modules = λ without. clash lacks has_modules (tells_lacks.1 without);
  external = λ some. clash external no_external (tells_external.1 some);
  patches = λ some. clash patches no_patches (tells_patches.1 some);
}

-- ---- a module's entry, as the walk through them reads it

module _ (ps : Pairs) (at : ℕ) (key : Key) (value : Datum) (file : List ℕ) (answer : Bool) (is : slice_get (listed ps) at ≡ Some (key, value)) (its_file : file ≡ bytes_of value)
    (tells : answer ≡ is_lua_file file) (none : first_some (map compiled_name (take at (entries_of Modules ps))) ≡ None) where
  pub found_compiled : answer ≡ false → first_some (map compiled_name (entries_of Modules ps)) ≡ Some (key_bytes key)
  found_compiled no' =
      found_now compiled_name (entries_of Modules ps) at (entry_of Modules (key, value)) (key_bytes key) (entry_there Modules ps at (key, value) is) none
      (compiled_is (entry_of Modules (key, value)) (ap is_lua_file (sym its_file) ∙ sym tells ∙ no'))

  pub not_compiled : answer ≡ true → first_some (map compiled_name (take (at + 1) (entries_of Modules ps))) ≡ None
  not_compiled yes' =
      stays_none compiled_name (entries_of Modules ps) at (entry_of Modules (key, value)) (entry_there Modules ps at (key, value) is) none
      (compiled_not (entry_of Modules (key, value)) (ap is_lua_file (sym its_file) ∙ sym tells ∙ yes'))
