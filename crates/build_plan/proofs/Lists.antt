-- The entries of modules and of `install`, list by list.
use Rattle.std.proofs.Common.{◌≡◌, ◌++◌, ℕ, List, [], Option, Some, None, sym, ap, subst, ◌∙◌, codes}
use Rattle.lua_value.specs.Pairs.{Pairs}
use Rattle.build_targets.specs.declared.meanings.Listing.{Listing}
use Rattle.build_targets.specs.declared.meanings.Listing.TheVariants.{Modules, Lua, Lib, Bin, Conf}
use Rattle.build_targets.specs.declared.target.Target.{Target}
use Rattle.build_plan.specs.declared.stop.Stop.{Stop}
use Rattle.build_plan.specs.Entries.{Entry, entries_of, table_at}
use Rattle.build_plan.specs.Steps.{blamed_in, entries_in, targets_of, IsStopped}
use Rattle.build_plan.proofs.Stops.{first_of_five, second_of_five, third_of_five, fourth_of_five, last_of_five, five_targets, stops_alike}

-- the entries of a table of `install`
abbrev list_of : Listing → (name : List ℕ) → (install : Pairs) → List Entry
list_of listing name install = entries_of listing (table_at name install)

module _ (modules install : Pairs) where
  seen : (listing : Listing) (name : List ℕ) (table : Pairs) → table ≡ table_at name install → blamed_in (entries_of listing table) ≡ None → blamed_in (list_of listing name install) ≡ None
  seen listing name table is none = sym (ap (λ (ps : Pairs). blamed_in (entries_of listing ps)) is) ∙ none

  stopped : (listing : Listing) (name : List ℕ) (table : Pairs) → table ≡ table_at name install → (stop : Stop) → IsStopped (blamed_in (entries_of listing table)) stop → IsStopped (blamed_in (list_of listing name install)) stop
  stopped listing name table is stop h = subst (λ (ps : Pairs). IsStopped (blamed_in (entries_of listing ps)) stop) is h

  pub first_stops : (stop : Stop) → IsStopped (blamed_in (entries_of Modules modules)) stop → IsStopped (blamed_in (entries_in modules install)) stop
  first_stops stop h =
      stops_alike (blamed_in (entries_of Modules modules)) (blamed_in (entries_in modules install)) stop h
      (first_of_five (entries_of Modules modules) (list_of Lua (codes "lua") install) (list_of Lib (codes "lib") install) (list_of Bin (codes "bin") install) (list_of Conf (codes "conf") install))

  module _ (lua : Pairs) (is_lua : lua ≡ table_at (codes "lua") install) (no_modules : blamed_in (entries_of Modules modules) ≡ None) where
    pub second_stops : (stop : Stop) → IsStopped (blamed_in (entries_of Lua lua)) stop → IsStopped (blamed_in (entries_in modules install)) stop
    second_stops stop h =
        stops_alike (blamed_in (list_of Lua (codes "lua") install)) (blamed_in (entries_in modules install)) stop (stopped Lua (codes "lua") lua is_lua stop h)
        (second_of_five (entries_of Modules modules) (list_of Lua (codes "lua") install) (list_of Lib (codes "lib") install) (list_of Bin (codes "bin") install) (list_of Conf (codes "conf") install) no_modules)

  pub third_stops : (lua lib : Pairs) → lua ≡ table_at (codes "lua") install → lib ≡ table_at (codes "lib") install → blamed_in (entries_of Modules modules) ≡ None → blamed_in (entries_of Lua lua) ≡ None
      → (stop : Stop) → IsStopped (blamed_in (entries_of Lib lib)) stop → IsStopped (blamed_in (entries_in modules install)) stop
  third_stops lua lib is_lua is_lib no_modules no_lua stop h =
      stops_alike (blamed_in (list_of Lib (codes "lib") install)) (blamed_in (entries_in modules install)) stop (stopped Lib (codes "lib") lib is_lib stop h)
      (third_of_five (entries_of Modules modules) (list_of Lua (codes "lua") install) (list_of Lib (codes "lib") install) (list_of Bin (codes "bin") install) (list_of Conf (codes "conf") install)
      no_modules (seen Lua (codes "lua") lua is_lua no_lua))

  pub fourth_stops : (lua lib bin : Pairs) → lua ≡ table_at (codes "lua") install → lib ≡ table_at (codes "lib") install → bin ≡ table_at (codes "bin") install
      → blamed_in (entries_of Modules modules) ≡ None → blamed_in (entries_of Lua lua) ≡ None → blamed_in (entries_of Lib lib) ≡ None
      → (stop : Stop) → IsStopped (blamed_in (entries_of Bin bin)) stop → IsStopped (blamed_in (entries_in modules install)) stop
  fourth_stops lua lib bin is_lua is_lib is_bin no_modules no_lua no_lib stop h =
      stops_alike (blamed_in (list_of Bin (codes "bin") install)) (blamed_in (entries_in modules install)) stop (stopped Bin (codes "bin") bin is_bin stop h)
      (fourth_of_five (entries_of Modules modules) (list_of Lua (codes "lua") install) (list_of Lib (codes "lib") install) (list_of Bin (codes "bin") install) (list_of Conf (codes "conf") install)
      no_modules (seen Lua (codes "lua") lua is_lua no_lua) (seen Lib (codes "lib") lib is_lib no_lib))

  module _ (lua lib bin conf : Pairs) (is_lua : lua ≡ table_at (codes "lua") install) (is_lib : lib ≡ table_at (codes "lib") install) (is_bin : bin ≡ table_at (codes "bin") install) (is_conf : conf ≡ table_at (codes "conf") install) where
    module _ (no_modules : blamed_in (entries_of Modules modules) ≡ None) (no_lua : blamed_in (entries_of Lua lua) ≡ None) (no_lib : blamed_in (entries_of Lib lib) ≡ None) (no_bin : blamed_in (entries_of Bin bin) ≡ None) where
      as_last : (blamed : Option (List ℕ)) → blamed_in (list_of Conf (codes "conf") install) ≡ blamed → blamed_in (entries_in modules install) ≡ blamed
      as_last blamed h =
          last_of_five (entries_of Modules modules) (list_of Lua (codes "lua") install) (list_of Lib (codes "lib") install) (list_of Bin (codes "bin") install) (list_of Conf (codes "conf") install)
          no_modules (seen Lua (codes "lua") lua is_lua no_lua) (seen Lib (codes "lib") lib is_lib no_lib) (seen Bin (codes "bin") bin is_bin no_bin) blamed h

      pub last_stops : (stop : Stop) → IsStopped (blamed_in (entries_of Conf conf)) stop → IsStopped (blamed_in (entries_in modules install)) stop
      last_stops stop h =
          stops_alike (blamed_in (list_of Conf (codes "conf") install)) (blamed_in (entries_in modules install)) stop (stopped Conf (codes "conf") conf is_conf stop h) (λ text. as_last (Some text))

      pub no_stop : blamed_in (entries_of Conf conf) ≡ None → blamed_in (entries_in modules install) ≡ None
      no_stop no_conf = as_last None (seen Conf (codes "conf") conf is_conf no_conf)

    along : (listing : Listing) (name : List ℕ) (table : Pairs) (new old : List Target) → table ≡ table_at name install → new ≡ old ++ targets_of (entries_of listing table) → new ≡ old ++ targets_of (list_of listing name install)
    along listing name table new old is h = h ∙ ap (λ (ps : Pairs). old ++ targets_of (entries_of listing ps)) is

    pub all_targets : (zero one two three four five : List Target) → zero ≡ [] → one ≡ zero ++ targets_of (entries_of Modules modules) → two ≡ one ++ targets_of (entries_of Lua lua) → three ≡ two ++ targets_of (entries_of Lib lib)
        → four ≡ three ++ targets_of (entries_of Bin bin) → five ≡ four ++ targets_of (entries_of Conf conf) → five ≡ targets_of (entries_in modules install)
    all_targets zero one two three four five h0 h1 h2 h3 h4 h5 =
        five_targets (entries_of Modules modules) (list_of Lua (codes "lua") install) (list_of Lib (codes "lib") install) (list_of Bin (codes "bin") install) (list_of Conf (codes "conf") install)
        zero one two three four five h0 h1 (along Lua (codes "lua") lua two one is_lua h2) (along Lib (codes "lib") lib three two is_lib h3) (along Bin (codes "bin") bin four three is_bin h4) (along Conf (codes "conf") conf five four is_conf h5)
