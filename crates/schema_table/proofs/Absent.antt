-- Absence, part by part.
use Rattle.std.proofs.Common.{◌≡◌, ℕ, ◌<◌, ◌≤◌, Bool, true, false, not, ◌&&◌, List, [], ◌∷◌, ◌++◌, length, get_or, take}
use Rattle.std.proofs.Common.{drop, ◌-◌, length-drop, Option, Some, None, option_and_then, refl, sym, ap, ◌∙◌, subst}
use Rattle.std.proofs.Common.{arith, IsTrue}
use Rattle.std.proofs.lemmas.Bool.{and_parts}
use Rattle.std.proofs.lemmas.List.{take_all}
use Rattle.std.specs.Borrow.{Bor}
use Rattle.std.specs.List.{slice_get}
use Rattle.lua_value.specs.declared.key.Key.{Key}
use Rattle.lua_value.specs.Ordered.{IsOrdered}
use Rattle.lua_value.specs.Pairs.{Datum, Pairs, nil, truth_value, int_value, text_value, table_value, value_at, count}
use Rattle.lua_value.specs.Pairs.{listed}
use Rattle.schema_table.specs.Absence.{HasMatch, IsAbsent, IsAbsentWithin}
use Rattle.schema_table.specs.Paths.{referents, at_path}
use Rattle.schema_table.specs.Rows.{part_matches, matches}
use Rattle.schema_table.specs.Shapes.{IsTableAnd}
use Rattle.schema_table.proofs.Entries.{place_of, value_of}
use Rattle.schema_table.proofs.Lists.{last_same}

pub absent_last : (last : List ℕ) (table : Pairs) → ¬ HasMatch last table → IsAbsent (last ∷ []) table
absent_last last table none = record {
  front = [];
  last = last;
  are = refl;
  path = [];
  leads = refl;
  above =
      table;
  there = refl;
  none = none;
}

-- one part alone is the last one, and the table above is the whole one
pub last_absent : (last : List ℕ) (table : Pairs) → IsAbsent (last ∷ []) table → ¬ HasMatch last table
last_absent last table a =
    let same = last_same [] a.front last a.last a.are in
    by_cases a.path (subst (λ parts. IsTrue (matches parts a.path)) (sym same.0) a.leads) a.there same.1
  where
    by_cases : (path : List Key) → IsTrue (matches [] path) →
        at_path (table_value table) path ≡ Some (table_value a.above) → last ≡ a.last → ¬ HasMatch last table
    by_cases (key ∷ path) e there same m = cc
    by_cases [] e there same m =
        let whole : table ≡ a.above = cc in
        a.none (subst (λ part. HasMatch part a.above) same (subst (HasMatch last) whole m))

pub absent_first : (first next : List ℕ) (rest : List (List ℕ)) (table : Pairs) →
    IsAbsentWithin first (next ∷ rest) table → IsAbsent (first ∷ next ∷ rest) table
absent_first first next rest table w =
    let a = w.absent in
    let same : part_matches first w.key ≡ true = w.same in
    let leads : matches a.front a.path ≡ true = a.leads in
    let both : (part_matches first w.key && matches a.front a.path) ≡ true = (λ i. same i && leads i) in
    record {
      front = first ∷ a.front;
      last = a.last;
      are = ap (λ parts. first ∷ parts) a.are;
      path = w.key ∷ a.path;
      leads = both;
      above = a.above;
      there = ap (option_and_then (λ within. at_path within a.path)) w.there ∙ a.there;
      none = a.none;
    }

-- what leads to a table is a table
record LeadsToTable (start : Datum) (path : List Key) (above : Pairs) : Type 0 where
  within : Pairs
  is : start ≡ table_value within
  on : at_path (table_value within) path ≡ Some (table_value above)

leads_to_table : (start : Datum) (path : List Key) (above : Pairs) → at_path start path ≡ Some (table_value above) →
    LeadsToTable start path above
leads_to_table (table_value ps) path above e = record { within = ps; is = refl; on = e }
leads_to_table nil [] above e = cc
leads_to_table nil (key ∷ path) above e = cc
leads_to_table (truth_value b) [] above e = cc
leads_to_table (truth_value b) (key ∷ path) above e = cc
leads_to_table (int_value n) [] above e = cc
leads_to_table (int_value n) (key ∷ path) above e = cc
leads_to_table (text_value bytes) [] above e = cc
leads_to_table (text_value bytes) (key ∷ path) above e = cc

through : (found : Option Datum) (path : List Key) (above : Pairs) →
    option_and_then (λ within. at_path within path) found ≡ Some (table_value above) → (within : Pairs)
    × (found ≡ Some (table_value within)) × (at_path (table_value within) path ≡ Some (table_value above))
through None path above e = cc
through (Some start) path above e = let l = leads_to_table start path above e in (l.within, ap Some l.is, l.on)

pub first_absent : (first next : List ℕ) (rest : List (List ℕ)) (table : Pairs) → IsAbsent (first ∷ next ∷ rest) table →
    IsAbsentWithin first (next ∷ rest) table
first_absent first next rest table a = by_cases a.front a.path a.are a.leads a.there
  where
    by_cases : (front : List (List ℕ)) (path : List Key) → first ∷ next ∷ rest ≡ front ++ a.last ∷ [] →
        IsTrue (matches front path) → at_path (table_value table) path ≡ Some (table_value a.above) →
        IsAbsentWithin first (next ∷ rest) table
    by_cases [] path are leads there = cc
    by_cases (part ∷ front) [] are leads there = cc
    by_cases (part ∷ front) (key ∷ path) are leads there =
        let same : part ≡ first = cc in
        let later : next ∷ rest ≡ front ++ a.last ∷ [] = cc in
        let both = and_parts (part_matches part key) (matches front path) leads in
        let step = through (value_at key table) path a.above there in
        record {
          key = key;
          same = subst (λ p. IsTrue (part_matches p key)) same both.0;
          within = step.0;
          there = step.1;
          absent = record {
            front = front;
            last = a.last;
            are = later;
            path = path;
            leads = both.1;
            above =
                a.above;
            there = step.2;
            none = a.none;
          };
        }

-- no entry before the place leads to a table from which the rest is absent
abbrev pub IsNotAbsentBefore : List ℕ → List (List ℕ) → Pairs → ℕ → Type 0
IsNotAbsentBefore first rest table at = (i : ℕ) (key : Key) (value : Datum) → i < at →
    slice_get (listed table) i ≡ Some (key, value) → IsTrue (part_matches first key) →
    ¬ IsTableAnd value (IsAbsent rest)

pub absent_at : (first : List ℕ) (rest : List (List ℕ)) (table : Pairs) (at : ℕ) (key : Key) (value : Datum) →
    IsOrdered table → slice_get (listed table) at ≡ Some (key, value) → IsTrue (part_matches first key) →
    IsTableAnd value (IsAbsent rest) → IsAbsentWithin first rest table
absent_at first rest table at key nil ordered there same a = absurd a
absent_at first rest table at key (truth_value b) ordered there same a = absurd a
absent_at first rest table at key (int_value n) ordered there same a = absurd a
absent_at first rest table at key (text_value bytes) ordered there same a = absurd a
absent_at first rest table at key (table_value ps) ordered there same a =
    record {
      key = key;
      same = same;
      within = ps;
      there =
          value_of table at key (table_value ps) ordered there;
      absent = a;
    }

pub absent_nowhere : (first : List ℕ) (rest : List (List ℕ)) (table : Pairs) (at : ℕ) → count table ≤ at →
    IsNotAbsentBefore first rest table at → ¬ IsAbsentWithin first rest table
absent_nowhere first rest table at all before w =
    let found = place_of table w.key (table_value w.within) w.there in
    let within : found.0 < at = omega (arith, found.1.within) in
    before found.0 w.key (table_value w.within) within found.1.there w.same w.absent

-- no key before the place matches
abbrev pub HasNoMatchBefore : List ℕ → Pairs → ℕ → Type 0
HasNoMatchBefore part table at = (i : ℕ) (key : Key) (value : Datum) → i < at →
    slice_get (listed table) i ≡ Some (key, value) → ¬ IsTrue (part_matches part key)

pub match_at : (part : List ℕ) (table : Pairs) (at : ℕ) (key : Key) (value : Datum) → IsOrdered table →
    slice_get (listed table) at ≡ Some (key, value) → IsTrue (part_matches part key) → HasMatch part table
match_at part table at key value ordered there same =
    record { key = key; value = value; there = value_of table at key value ordered there; same = same }

pub match_nowhere : (part : List ℕ) (table : Pairs) (at : ℕ) → count table ≤ at → HasNoMatchBefore part table at →
    ¬ HasMatch part table
match_nowhere part table at all before m =
    let found = place_of table m.key m.value m.there in
    let within : found.0 < at = omega (arith, found.1.within) in
    before found.0 m.key m.value within found.1.there m.same

one_part : (parts : List (Bor (List ℕ))) (d : Bor (List ℕ)) → 1 ≤ length parts → length parts < 2 →
    referents parts ≡ (get_or parts 0 d).now ∷ []
one_part [] d some few = absurd (omega arith)
one_part (part ∷ []) d some few = refl
one_part (part ∷ next ∷ rest) d some few = absurd (omega arith)

-- whether one part is absent
pub absent_one : (parts : List (Bor (List ℕ))) (d : Bor (List ℕ)) (table : Pairs) (found : Bool) → 1 ≤ length parts →
    length parts < 2 → (IsTrue found → HasMatch (get_or parts 0 d).now table)
    × (HasMatch (get_or parts 0 d).now table → IsTrue found) → (IsTrue (not found) → IsAbsent (referents parts) table)
    × (IsAbsent (referents parts) table → IsTrue (not found))
absent_one parts d table found some few h = subst (λ texts. (IsTrue (not found) → IsAbsent texts table)
    × (IsAbsent texts table → IsTrue (not found))) (sym (one_part parts d some few)) (by_cases found h)
  where
    by_cases : (b : Bool) → (IsTrue b → HasMatch (get_or parts 0 d).now table)
        × (HasMatch (get_or parts 0 d).now table → IsTrue b) →
        (IsTrue (not b) → IsAbsent ((get_or parts 0 d).now ∷ []) table)
        × (IsAbsent ((get_or parts 0 d).now ∷ []) table → IsTrue (not b))
    by_cases true g = ((λ e. cc), λ a. absurd (last_absent _ table a (g.0 refl)))
    by_cases false g = ((λ e. absent_last _ table (λ m. let e : false ≡ true = g.1 m in cc)), λ a. refl)

rest_of : (parts : List (Bor (List ℕ))) → 2 ≤ length parts → take (length parts - 1) (drop 1 parts) ≡ drop 1 parts
rest_of parts some = take_all (length parts - 1) (drop 1 parts) (simp length-drop (omega arith))

-- whether several parts are absent
pub absent_more : (parts : List (Bor (List ℕ))) (d : Bor (List ℕ)) (table : Pairs) (P : Type 0) → 2 ≤ length parts →
    (P → IsAbsentWithin (get_or parts 0 d).now (referents (take (length parts - 1) (drop 1 parts))) table)
    × (IsAbsentWithin (get_or parts 0 d).now (referents (take (length parts - 1) (drop 1 parts))) table → P) →
    (P → IsAbsent (referents parts) table) × (IsAbsent (referents parts) table → P)
absent_more parts d table P some h = by_cases parts some
    (subst (λ rest. (P → IsAbsentWithin (get_or parts 0 d).now (referents rest) table)
    × (IsAbsentWithin (get_or parts 0 d).now (referents rest) table → P)) (rest_of parts some) h)
  where
    by_cases : (parts : List (Bor (List ℕ))) → 2 ≤ length parts →
        (P → IsAbsentWithin (get_or parts 0 d).now (referents (drop 1 parts)) table)
        × (IsAbsentWithin (get_or parts 0 d).now (referents (drop 1 parts)) table → P) →
        (P → IsAbsent (referents parts) table) × (IsAbsent (referents parts) table → P)
    by_cases [] some g = absurd (omega arith)
    by_cases (part ∷ []) some g = absurd (omega arith)
    by_cases (part ∷ next ∷ rest) some g = (
      (λ p. absent_first part.now next.now (referents rest) table (g.0 p)),
      λ a. g.1 (first_absent part.now next.now (referents rest) table a),
    )
