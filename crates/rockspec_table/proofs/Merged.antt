-- What is left without a key, and the merged fields: they are ordered, and come entry by entry.
use Rattle.std.proofs.Common.{◌≡◌, ◌≢◌, ℕ, ◌+◌, ◌≤◌, Bool, true, false, cond, List, ◌∷◌, codes, Option}
use Rattle.std.proofs.Common.{Some, None, IfSome, refl, sym, ap, ◌∙◌, subst}
use Rattle.std.specs.List.{slice_get}
use Rattle.std.specs.declared.cmp.Ordering.{Ordering}
use Rattle.std.specs.declared.cmp.Ordering.TheVariants.{Less, Equal, Greater}
use Rattle.std.specs.Ordering.{is_eq}
use Rattle.lua_value.specs.declared.key.Key.{Key}
use Rattle.lua_value.specs.declared.key.Key.TheVariants.{Text}
use Rattle.lua_value.specs.Key.{key_cmp}
use Rattle.lua_value.specs.Pairs.{Datum, Pairs, nil, truth_value, int_value, text_value, table_value}
use Rattle.lua_value.specs.Pairs.{no_pairs, with_pair, count, listed, keys, value_at, put}
use Rattle.lua_value.specs.Ordered.{IsBeforeAll, IsServed, IsOrdered}
use Rattle.lua_value.proofs.KeyOrder.{key_cmp-equal, key_cmp-itself}
use Rattle.lua_value.proofs.Left.{left, left-entry, left-end}
use Rattle.lua_value.proofs.Merges.{IsOrdered-merged_pairs}
use Rattle.lua_value.proofs.Puts.{value_at-served}
use Rattle.rockspec_table.specs.Platforms.{is_platform_field, table_of, table_at, without, for_platforms}
use Rattle.rockspec_table.specs.Platforms.{field_value, merged_fields}
use Rattle.rockspec_table.proofs.Gathered.{gathered, gathered-nothing}

-- a choice with a fact about each of two tables
chosen : (P : Pairs → Type 0) (b : Bool) (ps qs : Pairs) → P ps → P qs → P (cond b ps qs)
chosen P true ps qs p q = p
chosen P false ps qs p q = q

IsBeforeAll-without : (first key : Key) (ps : Pairs) → IsBeforeAll first (keys ps) →
    IsBeforeAll first (keys (without key ps))
IsBeforeAll-without first key no_pairs h = tt
IsBeforeAll-without first key (with_pair next value rest) h =
    let later = IsBeforeAll-without first key rest h.1 in
    chosen (λ ps. IsBeforeAll first (keys ps)) (is_eq (key_cmp key next)) _ _ later (h.0, later)

pub IsOrdered-without : (key : Key) (ps : Pairs) → IsOrdered ps → IsOrdered (without key ps)
IsOrdered-without key no_pairs h = tt
IsOrdered-without key (with_pair next value rest) h =
    let later = IsOrdered-without key rest h.4 in
    chosen IsOrdered (is_eq (key_cmp key next)) _ _ later
    (IsBeforeAll-without next key rest h.0, h.1, h.2, h.3, later)

IsOrdered-table_of : (found : Option Datum) → IfSome found (λ value. (value ≢ nil) × IsServed value) →
    IsOrdered (table_of found)
IsOrdered-table_of None h = tt
IsOrdered-table_of (Some nil) h = tt
IsOrdered-table_of (Some (truth_value b)) h = tt
IsOrdered-table_of (Some (int_value n)) h = tt
IsOrdered-table_of (Some (text_value bytes)) h = tt
IsOrdered-table_of (Some (table_value ps)) h = h.1

pub IsOrdered-table_at : (name : List ℕ) (ps : Pairs) → IsOrdered ps → IsOrdered (table_at name ps)
IsOrdered-table_at name ps h = IsOrdered-table_of (value_at (Text name) ps) (value_at-served (Text name) ps h)

pub IsOrdered-for_platforms : (field : Pairs) → IsOrdered field → IsOrdered (for_platforms field)
IsOrdered-for_platforms field h =
    let platforms = IsOrdered-table_at (codes "platforms") field h in
    IsOrdered-merged_pairs _ _
    (IsOrdered-merged_pairs _ _ (IsOrdered-without (Text (codes "platforms")) field h)
    (IsOrdered-table_at (codes "unix") _ platforms))
    (IsOrdered-table_at (codes "linux") _ platforms)

-- a value of a field is no nil and served where the value was
pub field_value-served : (key : Key) (value : Datum) → value ≢ nil → IsServed value →
    (field_value key value ≢ nil) × IsServed (field_value key value)
field_value-served key nil some h = absurd (some refl)
field_value-served key (truth_value b) some h = (some, h)
field_value-served key (int_value n) some h = (some, h)
field_value-served key (text_value bytes) some h = (some, h)
field_value-served key (table_value ps) some h =
    (λ e. cc, chosen IsOrdered (is_platform_field key) _ _ (IsOrdered-for_platforms ps h) h)

pub keys-merged_fields : (globals : Pairs) → keys (merged_fields globals) ≡ keys globals
keys-merged_fields no_pairs = refl
keys-merged_fields (with_pair key value rest) = ap (λ ks. key ∷ ks) (keys-merged_fields rest)

pub IsOrdered-merged_fields : (globals : Pairs) → IsOrdered globals → IsOrdered (merged_fields globals)
IsOrdered-merged_fields no_pairs h = tt
IsOrdered-merged_fields (with_pair key value rest) h =
    let here = field_value-served key value h.2 h.3 in (
      subst (IsBeforeAll key) (sym (keys-merged_fields rest)) h.0,
      h.1,
      here.0,
      here.1,
      IsOrdered-merged_fields rest h.4,
    )

-- the walk that leaves a key out
abbrev pub IsWithoutSoFar : (key : Key) (table others : Pairs) (at : ℕ) → Type 0
IsWithoutSoFar key table others at = gathered others (without key (left at table)) ≡ without key table

module _ (key : Key) (table : Pairs) where
  pub without_start : IsOrdered table → IsWithoutSoFar key table no_pairs 0
  without_start h = gathered-nothing (without key table) (IsOrdered-without key table h)

  module _ (others : Pairs) (at : ℕ) where
    pub without_end : count table ≤ at → IsWithoutSoFar key table others at → others ≡ without key table
    without_end beyond so_far =
        sym (ap (λ ps. gathered others (without key ps)) (left-end table at beyond)) ∙ so_far

    module _ (found : Key) (value : Datum) (there : slice_get (listed table) at ≡ Some (found, value))
        (so_far : IsWithoutSoFar key table others at) where
      abbrev rest : Pairs
      rest = without key (left (at + 1) table)

      opened : gathered others (cond (is_eq (key_cmp key found)) rest (with_pair found value rest)) ≡ without key table
      opened = sym (ap (λ ps. gathered others (without key ps)) (left-entry table at (found, value) there)) ∙ so_far

      pub without_it : found ≡ key → IsWithoutSoFar key table others (at + 1)
      without_it same =
          let tie : key_cmp key found ≡ Equal = subst (λ k. key_cmp key k ≡ Equal) (sym same) (key_cmp-itself key) in
          sym (ap (λ o. gathered others (cond (is_eq o) rest (with_pair found value rest))) tie) ∙ opened

      pub without_another : ¬ (found ≡ key) → IsWithoutSoFar key table (put found value others) (at + 1)
      without_another other = by_cases (key_cmp key found) refl
        where
          by_cases : (o : Ordering) → key_cmp key found ≡ o → gathered (put found value others) rest ≡ without key table
          by_cases Less o =
              sym (ap (λ o. gathered others (cond (is_eq o) rest (with_pair found value rest))) o) ∙ opened
          by_cases Equal o = absurd (other (sym (key_cmp-equal key found o)))
          by_cases Greater o =
              sym (ap (λ o. gathered others (cond (is_eq o) rest (with_pair found value rest))) o) ∙ opened

-- the walk that merges field by field
abbrev pub IsMergedSoFar : (globals merged : Pairs) (at : ℕ) → Type 0
IsMergedSoFar globals merged at = gathered merged (merged_fields (left at globals)) ≡ merged_fields globals

module _ (globals : Pairs) where
  pub merged_start : IsOrdered globals → IsMergedSoFar globals no_pairs 0
  merged_start h = gathered-nothing (merged_fields globals) (IsOrdered-merged_fields globals h)

  module _ (merged : Pairs) (at : ℕ) where
    pub merged_end : count globals ≤ at → IsMergedSoFar globals merged at → merged ≡ merged_fields globals
    merged_end beyond so_far =
        sym (ap (λ ps. gathered merged (merged_fields ps)) (left-end globals at beyond)) ∙ so_far

    pub merged_more : (key : Key) (value : Datum) → slice_get (listed globals) at ≡ Some (key, value) →
        IsMergedSoFar globals merged at → IsMergedSoFar globals (put key (field_value key value) merged) (at + 1)
    merged_more key value there so_far =
        sym (ap (λ ps. gathered merged (merged_fields ps)) (left-entry globals at (key, value) there)) ∙ so_far
