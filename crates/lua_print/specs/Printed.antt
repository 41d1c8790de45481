-- The one text of a table (this project's own).
use Rattle.std.specs.Prelude.{ℕ, zero, suc, Bool, true, false, ◌&&◌, nat_lt, ◌++◌, List, [], ◌∷◌, if◌then◌else◌, codes, IsTrue}
use Rattle.std.specs.List.{list_any}
use Rattle.std.specs.Fmt.{decimal}
use Rattle.std.specs.Ordering.{is_eq}
use Rattle.lua_names.specs.Names.{is_name}
use Rattle.lua_value.specs.declared.key.Key.{Key}
use Rattle.lua_value.specs.declared.key.Key.TheVariants.{Int as IntKey, Text as TextKey, Bool as TruthKey}
use Rattle.lua_value.specs.Key.{key_cmp}
use Rattle.lua_value.specs.Pairs.{Datum, Pairs, nil, truth_value, int_value, text_value, table_value, no_pairs, with_pair, keys}
use Rattle.lua_print.specs.Quoted.{quoted}

abbrev pub truth_text : Bool → List ℕ
truth_text true = codes "true"
truth_text false = codes "false"

-- one of the keys is this one
abbrev pub has_key : List Key → Key → Bool
has_key ks key = list_any (λ other. is_eq (key_cmp key other)) ks

-- the integers 1 to n are all among the keys
abbrev pub reaches : List Key → ℕ → Bool
reaches ks zero = true
reaches ks (suc n) = has_key ks (IntKey (suc n)) && reaches ks n

-- the key is one of 1, 2 and so on up to the last without a gap
abbrev pub is_position : List Key → Key → Bool
is_position ks (IntKey n) = nat_lt 0 n && reaches ks n
is_position ks (TextKey bytes) = false
is_position ks (TruthKey b) = false

-- what stands before the value of an entry, if its key is no position
abbrev pub key_text : Key → List ℕ
key_text (IntKey n) = codes "[" ++ decimal n ++ codes "] = "
key_text (TextKey bytes) = if is_name bytes then bytes ++ codes " = " else codes "[" ++ quoted bytes ++ codes "] = "
key_text (TruthKey b) = codes "[" ++ truth_text b ++ codes "] = "

-- the same of any key of a table with these keys: a position prints nothing
abbrev pub entry_key_text : List Key → Key → List ℕ
entry_key_text ks key = if is_position ks key then [] else key_text key

-- a table with these keys, whose entries are printed as the text, on a line with this indentation
abbrev pub braced : List ℕ → List Key → List ℕ → List ℕ
braced indent [] text = codes "{}"
braced indent (key ∷ rest) text = codes "{" ++ 10 ∷ text ++ indent ++ codes "}"

abbrev pub deeper : List ℕ → List ℕ
deeper indent = indent ++ codes "   "

abbrev mutual
  -- a value on a line with this indentation
  pub value_text : List ℕ → Datum → List ℕ
  value_text indent nil = codes "nil"
  value_text indent (truth_value b) = truth_text b
  value_text indent (int_value n) = decimal n
  value_text indent (text_value bytes) = quoted bytes
  value_text indent (table_value ps) = braced indent (keys ps) (entries_text (deeper indent) (keys ps) ps)

  -- entries of a table with these keys, each on lines of its own with this indentation, and with a comma behind it
  pub entries_text : List ℕ → List Key → Pairs → List ℕ
  entries_text indent ks no_pairs = []
  entries_text indent ks (with_pair key value rest) =
      indent ++ entry_key_text ks key ++ value_text indent value ++ 44 ∷ 10 ∷ entries_text indent ks rest

-- a table on a line with this indentation
abbrev pub table_text : List ℕ → Pairs → List ℕ
table_text indent ps = value_text indent (table_value ps)

-- the name of a global
abbrev pub name_text : Key → List ℕ
name_text (TextKey bytes) = bytes
name_text (IntKey n) = []
name_text (TruthKey b) = []

-- a table of globals: each as its name, ` = `, its value and a line feed
abbrev pub globals_text : Pairs → List ℕ
globals_text no_pairs = []
globals_text (with_pair key value rest) = name_text key ++ codes " = " ++ value_text [] value ++ 10 ∷ globals_text rest

-- the key is a name
abbrev pub IsNameKey : Key → Type 0
IsNameKey (TextKey bytes) = IsTrue (is_name bytes)
IsNameKey (IntKey n) = ⊥
IsNameKey (TruthKey b) = ⊥

-- each key is a name
abbrev pub HasNames : Pairs → Type 0
HasNames no_pairs = Unit {0}
HasNames (with_pair key value rest) = IsNameKey key × HasNames rest
