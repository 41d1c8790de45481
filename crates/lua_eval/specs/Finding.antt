-- What the functions that find values take and answer.
use Rattle.std.specs.Prelude.{◌≡◌, ◌⊎◌, ◌||◌, ℕ, List, is_some, Result, Ok, Err}
use Rattle.std.specs.List.{list_any}
use Rattle.std.specs.Ordering.{is_eq}
use Rattle.lua_syntax.specs.declared.tree.Field.{Field}
use Rattle.lua_syntax.specs.Trees.{Tree, Suffixes, Trees, Fields, nil, truth, int, text, name, index, concat, table, no_suffixes, with_suffix, no_trees, with_tree, no_fields, with_position, with_key, field}
use Rattle.lua_value.specs.declared.key.Key.{Key}
use Rattle.lua_value.specs.Key.{key_cmp, IsInteger}
use Rattle.lua_value.specs.Pairs.{Datum, Pairs, value_at}
use Rattle.lua_eval.specs.Joins.{and_then}
use Rattle.lua_eval.specs.declared.fault.EvalFault.{EvalFault}
use Rattle.lua_eval.specs.declared.fault.EvalFault.TheVariants.{NoMemory}
use Rattle.lua_eval.specs.Values.{find, fill, unused, with_value}

-- ---- integers

-- every integer in the tree is at most 9,223,372,036,854,775,807
abbrev mutual
  pub HasIntegers : Tree → Type 0
  HasIntegers (nil place) = Unit {0}
  HasIntegers (truth place b) = Unit {0}
  HasIntegers (int place n) = IsInteger n
  HasIntegers (text place bytes) = Unit {0}
  HasIntegers (name place bytes) = Unit {0}
  HasIntegers (index place base suffixes) = HasIntegers base × AreIntegersIn suffixes
  HasIntegers (concat place operands operators) = AreIntegersAmong operands
  HasIntegers (table place fields) = AreIntegersOf fields

  pub AreIntegersIn : Suffixes → Type 0
  AreIntegersIn no_suffixes = Unit {0}
  AreIntegersIn (with_suffix place key rest) = HasIntegers key × AreIntegersIn rest

  pub AreIntegersAmong : Trees → Type 0
  AreIntegersAmong no_trees = Unit {0}
  AreIntegersAmong (with_tree first rest) = HasIntegers first × AreIntegersAmong rest

  pub AreIntegersOf : Fields → Type 0
  AreIntegersOf no_fields = Unit {0}
  AreIntegersOf (with_position place value rest) = HasIntegers value × AreIntegersOf rest
  AreIntegersOf (with_key place key value rest) = HasIntegers key × HasIntegers value × AreIntegersOf rest

-- ---- answers

-- a fault is the one of the definition, or memory ran out
abbrev pub IsFaultOf : {A : Type 0} → Result A EvalFault → EvalFault → Type 0
IsFaultOf meaning fault = (fault ≡ NoMemory) ⊎ (meaning ≡ Err fault)

-- ---- nodes by their parts

-- a base with its suffixes
abbrev pub indexed_value : (List ℕ → Datum) → ℕ → Tree → Suffixes → ℕ → Result (Datum × ℕ) EvalFault
indexed_value names place base suffixes sum = find names (index place base suffixes) sum

-- operands with the places of their operators
abbrev pub concatenated : (List ℕ → Datum) → ℕ → Trees → List ℕ → ℕ → Result (Datum × ℕ) EvalFault
concatenated names place operands operators sum = find names (concat place operands operators) sum

-- fields
abbrev pub tabled : (List ℕ → Datum) → ℕ → Fields → ℕ → Result (Datum × ℕ) EvalFault
tabled names place fields sum = find names (table place fields) sum

-- ---- fields

-- a field whose key is known
abbrev pub taken : (List ℕ → Datum) → ℕ → Key → Tree → List Key → Pairs → ℕ → Result (Pairs × ℕ) EvalFault
taken names place key value before made sum =
    and_then (unused place before key) (λ key. and_then (find names value sum)
    (λ found. Ok (with_value key found.0 made, found.1)))

-- whatever fields come behind it, this one leads to them so
abbrev pub LeadsTo : (List ℕ → Datum) → Field → ℕ → List Key → Pairs → ℕ → ℕ → List Key → Pairs → ℕ → Type 0
LeadsTo names one next before made sum next_after before_after made_after sum_after =
    (rest : Fields) → fill names (field one rest) next before made sum
    ≡ fill names rest next_after before_after made_after sum_after

-- whatever fields come behind it, this one has the fault, or memory ran out
abbrev pub FailsWith : (List ℕ → Datum) → Field → ℕ → List Key → Pairs → ℕ → EvalFault → Type 0
FailsWith names one next before made sum fault =
    (fault ≡ NoMemory) ⊎ ((rest : Fields) → fill names (field one rest) next before made sum ≡ Err fault)

-- the keys that fields gave are those that have a value and those whose value was nil
abbrev pub AreGiven : List Key → Pairs → Pairs → Type 0
AreGiven before made without_value =
    (key : Key) → list_any (λ other. is_eq (key_cmp key other)) before
    ≡ (is_some (value_at key made) || is_some (value_at key without_value))
