-- What is reached from a table's entries is what is visited.
use Rattle.std.proofs.Common.{◌≡◌, ◌≢◌, ℕ, ◌<◌, ◌≤◌, List, [], ◌∷◌, ◌++◌, Option, Some, None, Result, Ok, Err}
use Rattle.std.proofs.Common.{MatchResult, option_and_then, refl, sym, ap, ◌∙◌, subst, arith}
use Rattle.std.proofs.Math.Seq.{append_snoc}
use Rattle.std.proofs.lemmas.List.{append-nil}
use Rattle.std.specs.List.{slice_get}
use Rattle.std.specs.declared.cmp.Ordering.{Ordering}
use Rattle.std.specs.declared.cmp.Ordering.TheVariants.{Less, Equal, Greater}
use Rattle.std.specs.Ordering.{ordering_then}
use Rattle.std.specs.Cmp.Lexicographic.{slice_cmp}
use Rattle.lua_value.specs.declared.key.Key.{Key}
use Rattle.lua_value.specs.declared.table.Value.{Value}
use Rattle.lua_value.specs.declared.table.Value.TheVariants.{Nil, Bool, Int, Text, Table}
use Rattle.lua_value.specs.Key.{key_cmp}
use Rattle.lua_value.specs.View.{datum}
use Rattle.lua_value.specs.Ordered.{IsOrdered}
use Rattle.lua_value.specs.Pairs.{Datum, Pairs, table_value, value_at, count, listed}
use Rattle.lua_value.proofs.KeyOrder.{key_cmp-equal}
use Rattle.schema_table.specs.declared.row.Row.{Row}
use Rattle.schema_table.specs.declared.row.Format.{Format}
use Rattle.schema_table.specs.declared.fault.ShapeFault.{ShapeFault}
use Rattle.schema_table.specs.Paths.{value_within, at_path}
use Rattle.schema_table.specs.Visits.{IsGoneInto, IsVisited, IsFaultOf, IsBefore, IsFaultless, IsFirstFault}
use Rattle.schema_table.specs.Walk.{LeadsOn, IsReached, IsReachedIn, IsFaultlessAt, IsClear, IsClearTable}
use Rattle.schema_table.specs.Walk.{IsFirstReached, IsFirstReachedIn, IfTold}
use Rattle.schema_table.proofs.Entries.{place_of, value_of, place_rises}
use Rattle.schema_table.proofs.Told.{IfTold-weaker}

-- a step of a path leads to some value, and the rest on from there
record Steps (found : Option Datum) (rest : List Key) (value : Datum) : Type 0 where
  start : Datum
  here : found ≡ Some start
  on : at_path start rest ≡ Some value

steps : (found : Option Datum) (rest : List Key) (value : Datum) →
    option_and_then (λ within. at_path within rest) found ≡ Some value → Steps found rest value
steps None rest value e = cc
steps (Some start) rest value e = record { start = start; here = refl; on = e }

steps_along : (found : Option Datum) (start : Datum) (rest : List Key) (value : Datum) → found ≡ Some start →
    at_path start rest ≡ Some value → option_and_then (λ within. at_path within rest) found ≡ Some value
steps_along found start rest value e on = ap (option_and_then (λ within. at_path within rest)) e ∙ on

-- a value that is no table has nothing within
pub nothing_within : (value : Value) → ((table : Pairs) → value ≢ Table table) → (key : Key) →
    value_within key (datum value) ≡ None
nothing_within Nil h key = refl
nothing_within (Bool b) h key = refl
nothing_within (Int n) h key = refl
nothing_within (Text bytes) h key = refl
nothing_within (Table table) h key = absurd (h table refl)

-- no path is before the empty one
none_before : (path : List Key) → ¬ IsBefore path []
none_before [] e = cc
none_before (key ∷ path) e = cc

module _ (rows : List Row) where
  leads_on : (base keys : List Key) → ((front back : List Key) → keys ≡ front ++ back → ¬ (back ≡ []) →
      IsGoneInto rows (base ++ front)) → LeadsOn rows base keys
  leads_on base [] h = tt
  leads_on base (key ∷ rest) h = (
    subst (IsGoneInto rows) (append-nil base) (h [] (key ∷ rest) refl (λ e. cc)),
    leads_on (base ++ key ∷ []) rest (λ front back e some. subst (IsGoneInto rows) (sym (append_snoc base key front))
        (h (key ∷ front) back (ap (λ r. key ∷ r) e) some)),
  )

  leads_through : (base keys front back : List Key) → LeadsOn rows base keys → keys ≡ front ++ back → ¬ (back ≡ []) →
      IsGoneInto rows (base ++ front)
  leads_through base [] [] back h e some = absurd (some (sym e))
  leads_through base [] (key ∷ front) back h e some = cc
  leads_through base (key ∷ rest) [] back h e some = subst (IsGoneInto rows) (sym (append-nil base)) h.0
  leads_through base (key ∷ rest) (first ∷ front) back h e some =
      let same : key ≡ first = cc in
      let later : rest ≡ front ++ back = cc in
      subst (λ k. IsGoneInto rows (base ++ k ∷ front)) same
      (subst (IsGoneInto rows) (append_snoc base key front)
      (leads_through (base ++ key ∷ []) rest front back h.1 later some))

  visited_reached : (table : Pairs) (key : Key) (keys : List Key) (value : Datum) →
      IsVisited rows table (key ∷ keys) value → IsReachedIn rows [] table key keys value
  visited_reached table key keys value v =
      let s = steps (value_at key table) keys value v.there in
      record {
        start = s.start;
        entry = s.here;
        reached = record {
          there = s.on;
          through =
              leads_on (key ∷ []) keys (λ front back e some. v.through (key ∷ front) back (ap (λ r. key ∷ r) e)
              (λ f. cc) some);
        };
      }

  reached_visited : (table : Pairs) (key : Key) (keys : List Key) (value : Datum) →
      IsReachedIn rows [] table key keys value → IsVisited rows table (key ∷ keys) value
  reached_visited table key keys value r = record {
    some = λ e. cc;
    there = steps_along (value_at key table) r.start keys value r.entry r.reached.there;
    through = go;
  }
    where
      go : (front back : List Key) → key ∷ keys ≡ front ++ back → ¬ (front ≡ []) → ¬ (back ≡ []) → IsGoneInto rows front
      go [] back e f b = absurd (f refl)
      go (first ∷ front) back e f b =
          let same : key ≡ first = cc in
          let later : keys ≡ front ++ back = cc in
          subst (λ k. IsGoneInto rows (k ∷ front)) same
          (leads_through (key ∷ []) keys front back r.reached.through later b)

  entry_reached : (base : List Key) (table : Pairs) (key : Key) (keys : List Key) (value : Datum) →
      IsGoneInto rows base → IsReachedIn rows base table key keys value →
      IsReached rows base (table_value table) (key ∷ keys) value
  entry_reached base table key keys value gone r = record {
    there = steps_along (value_at key table) r.start keys value r.entry r.reached.there;
    through = (gone, r.reached.through);
  }

  reached_entry : (base : List Key) (table : Pairs) (key : Key) (keys : List Key) (value : Datum) →
      IsReached rows base (table_value table) (key ∷ keys) value → IsReachedIn rows base table key keys value
  reached_entry base table key keys value r =
      let s = steps (value_at key table) keys value r.there in
      record { start = s.start; entry = s.here; reached = record { there = s.on; through = r.through.1 } }

module _ (rows : List Row) (format : Format) where
  -- the value that a walk has come to
  here : (base : List Key) (start value : Datum) (fault : ShapeFault) → IsFaultlessAt rows format base start →
      IsReached rows base start [] value → ¬ IsFaultOf rows format (base ++ []) value fault
  here base start value fault own r is =
      let same : start ≡ value = (let e : Some start ≡ Some value = r.there in cc) in
      own fault (subst (λ v. IsFaultOf rows format base v fault) (sym same)
      (subst (λ path. IsFaultOf rows format path value fault) (append-nil base) is))

  -- a value that isn't gone into
  pub clear_alone : (base : List Key) (start : Datum) → IsFaultlessAt rows format base start →
      ((key : Key) → IsGoneInto rows base → value_within key start ≡ None) → IsClear rows format base start
  clear_alone base start own nothing [] value fault r is = here base start value fault own r is
  clear_alone base start own nothing (key ∷ keys) value fault r is =
      let s = steps (value_within key start) keys value r.there in
      let none = nothing key r.through.0 in
      let found = s.here in
      cc

  -- a table that is gone into
  pub clear_table : (base : List Key) (table : Pairs) → IsFaultlessAt rows format base (table_value table) →
      IsClearTable rows format base table → IsClear rows format base (table_value table)
  clear_table base table own within [] value fault r is = here base (table_value table) value fault own r is
  clear_table base table own within (key ∷ keys) value fault r is =
      within key keys value fault (reached_entry rows base table key keys value r) is

  first_here : (base : List Key) (start : Datum) (fault : ShapeFault) → IsFaultOf rows format base start fault →
      IsFirstReached rows format base start fault
  first_here base start fault is = record {
    keys = [];
    value = start;
    reached = record { there = refl; through = tt };
    is = subst (λ path. IsFaultOf rows format path start fault) (sym (append-nil base)) is;
    earlier = λ others found its r before. absurd (none_before others before);
  }

  first_within : (base : List Key) (table : Pairs) (fault : ShapeFault) →
      IsFaultlessAt rows format base (table_value table) → IsGoneInto rows base →
      IsFirstReachedIn rows format base table fault → IsFirstReached rows format base (table_value table) fault
  first_within base table fault own gone f = record {
    keys = f.key ∷ f.keys;
    value = f.value;
    reached = entry_reached rows base table f.key f.keys f.value gone f.reached;
    is = f.is;
    earlier = earlier;
  }
    where
      earlier : (others : List Key) (found : Datum) (its : ShapeFault) →
          IsReached rows base (table_value table) others found → IsBefore others (f.key ∷ f.keys) →
          ¬ IsFaultOf rows format (base ++ others) found its
      earlier [] found its r before = here base (table_value table) found its own r
      earlier (other ∷ others) found its r before =
          f.earlier other others found its (reached_entry rows base table other others found r) before

  pub told_here : (base : List Key) (start : Datum) (fault : ShapeFault) →
      IfTold fault (IsFaultOf rows format base start fault) →
      IfTold fault (IsFirstReached rows format base start fault)
  told_here base start fault = IfTold-weaker fault (first_here base start fault)

  -- what a table that is gone into adds to its own faultless place
  pub walked_into : (base : List Key) (table : Pairs) (result : Result (Unit {0}) ShapeFault) →
      IsFaultlessAt rows format base (table_value table) → IsGoneInto rows base →
      MatchResult result (λ _. IsClearTable rows format base table)
      (λ fault. IfTold fault (IsFirstReachedIn rows format base table fault)) →
      MatchResult result (λ _. IsClear rows format base (table_value table))
      (λ fault. IfTold fault (IsFirstReached rows format base (table_value table) fault))
  walked_into base table (Ok _) own gone h = clear_table base table own h
  walked_into base table (Err fault) own gone h = IfTold-weaker fault (first_within base table fault own gone) h

  module _ (base : List Key) (table : Pairs) where
    -- the entries before a place have no faults
    abbrev pub IsClearBefore : ℕ → Type 0
    IsClearBefore at = (i : ℕ) (key : Key) (value : Datum) → i < at → slice_get (listed table) i ≡ Some (key, value) →
        IsClear rows format (base ++ key ∷ []) value

    pub clear_entries : (at : ℕ) → count table ≤ at → IsClearBefore at → IsClearTable rows format base table
    clear_entries at all before key keys value fault r is =
        let found = place_of table key r.start r.entry in
        let within : found.0 < at = omega (arith, found.1.within) in
        before found.0 key r.start within found.1.there keys value fault r.reached
        (subst (λ path. IsFaultOf rows format path value fault) (sym (append_snoc base key keys)) is)

    first_entry : (at : ℕ) (key : Key) (start : Datum) (fault : ShapeFault) → IsOrdered table →
        slice_get (listed table) at ≡ Some (key, start) → IsClearBefore at →
        IsFirstReached rows format (base ++ key ∷ []) start fault → IsFirstReachedIn rows format base table fault
    first_entry at key start fault ordered there before f = record {
      key = key;
      keys = f.keys;
      value = f.value;
      reached = record { start = start; entry = entry; reached = f.reached };
      is = subst (λ path. IsFaultOf rows format path f.value fault) (append_snoc base key f.keys) f.is;
      earlier = earlier;
    }
      where
        entry : value_at key table ≡ Some start
        entry = value_of table at key start ordered there

        earlier : (other : Key) (others : List Key) (found : Datum) (its : ShapeFault) →
            IsReachedIn rows base table other others found → IsBefore (other ∷ others) (key ∷ f.keys) →
            ¬ IsFaultOf rows format (base ++ other ∷ others) found its
        earlier other others found its r first is = by_cases (key_cmp other key) refl
          where
            shifted : IsFaultOf rows format ((base ++ other ∷ []) ++ others) found its
            shifted = subst (λ path. IsFaultOf rows format path found its) (sym (append_snoc base other others)) is

            by_cases : (o : Ordering) → key_cmp other key ≡ o → ⊥
            by_cases Less o =
                let place = place_of table other r.start r.entry in
                let lower = place_rises table at place.0 key other start r.start ordered there place.1.there o in
                before place.0 other r.start lower place.1.there others found its r.reached shifted
            by_cases Equal o =
                let same : other ≡ key = key_cmp-equal other key o in
                let one : Some r.start ≡ Some start = sym r.entry ∙ ap (λ k. value_at k table) same ∙ entry in
                let value_same : r.start ≡ start = cc in
                let order : slice_cmp key_cmp others f.keys ≡ Less =
                ap (λ p. ordering_then p (slice_cmp key_cmp others f.keys)) (sym o) ∙ first in
                let reached : IsReached rows (base ++ key ∷ []) start others found =
                subst (λ v. IsReached rows (base ++ key ∷ []) v others found) value_same
                (subst (λ k. IsReached rows (base ++ k ∷ []) r.start others found) same r.reached) in
                f.earlier others found its reached order
                (subst (λ k. IsFaultOf rows format ((base ++ k ∷ []) ++ others) found its) same shifted)
            by_cases Greater o = let clash : ordering_then (key_cmp other key)
                (slice_cmp key_cmp others f.keys) ≡ Greater =
                ap (λ p. ordering_then p (slice_cmp key_cmp others f.keys)) o in cc

    pub told_entry : (at : ℕ) (key : Key) (start : Datum) (fault : ShapeFault) → IsOrdered table →
        slice_get (listed table) at ≡ Some (key, start) → IsClearBefore at →
        IfTold fault (IsFirstReached rows format (base ++ key ∷ []) start fault) →
        IfTold fault (IsFirstReachedIn rows format base table fault)
    told_entry at key start fault ordered there before =
        IfTold-weaker fault (first_entry at key start fault ordered there before)

  -- the whole table
  pub faultless_table : (table : Pairs) → IsClearTable rows format [] table → IsFaultless rows table format
  faultless_table table clear [] value fault v is = v.some refl
  faultless_table table clear (key ∷ keys) value fault v is =
      clear key keys value fault (visited_reached rows table key keys value v) is

  pub first_fault : (table : Pairs) (fault : ShapeFault) → IsFirstReachedIn rows format [] table fault →
      IsFirstFault rows table format fault
  first_fault table fault f = record {
    path = f.key ∷ f.keys;
    value = f.value;
    visited = reached_visited rows table f.key f.keys f.value f.reached;
    is = f.is;
    earlier = earlier;
  }
    where
      earlier : (other : List Key) (found : Datum) (its : ShapeFault) → IsVisited rows table other found →
          IsBefore other (f.key ∷ f.keys) → ¬ IsFaultOf rows format other found its
      earlier [] found its v before is = v.some refl
      earlier (other ∷ others) found its v before is =
          f.earlier other others found its (visited_reached rows table other others found v) before is
