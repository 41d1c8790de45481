-- Which values have which shape.
use Rattle.lua_value.specs.declared.key.Key.{Key}
use Rattle.lua_value.specs.declared.key.Key.TheVariants.{Int as IntKey, Text as TextKey, Bool as TruthKey}
use Rattle.lua_value.specs.Pairs.{Datum, Pairs, nil, truth_value, int_value, text_value, table_value, no_pairs}
use Rattle.lua_value.specs.Pairs.{with_pair, IsList}
use Rattle.schema_table.specs.declared.row.Shape.{Shape}
use Rattle.schema_table.specs.declared.row.Shape.TheVariants.{Text, Bool, Texts, Mixed, Named, Closed, Open, Lists}

abbrev pub IsText : Datum → Type 0
IsText nil = ⊥
IsText (truth_value b) = ⊥
IsText (int_value n) = ⊥
IsText (text_value bytes) = Unit {0}
IsText (table_value ps) = ⊥

abbrev pub IsTruth : Datum → Type 0
IsTruth nil = ⊥
IsTruth (truth_value b) = Unit {0}
IsTruth (int_value n) = ⊥
IsTruth (text_value bytes) = ⊥
IsTruth (table_value ps) = ⊥

-- the value is a table of which the fact holds
abbrev pub IsTableAnd : Datum → (Pairs → Type 0) → Type 0
IsTableAnd nil P = ⊥
IsTableAnd (truth_value b) P = ⊥
IsTableAnd (int_value n) P = ⊥
IsTableAnd (text_value bytes) P = ⊥
IsTableAnd (table_value ps) P = P ps

abbrev pub IsTable : Datum → Type 0
IsTable value = IsTableAnd value (λ _. Unit {0})

-- the fact holds of each value of a table
abbrev pub EachValue : (Datum → Type 0) → Pairs → Type 0
EachValue P no_pairs = Unit {0}
EachValue P (with_pair key value rest) = P value × EachValue P rest

-- the fact holds of each key of a table
abbrev pub EachKey : (Key → Type 0) → Pairs → Type 0
EachKey P no_pairs = Unit {0}
EachKey P (with_pair key value rest) = P key × EachKey P rest

abbrev pub IsTextKey : Key → Type 0
IsTextKey (IntKey n) = ⊥
IsTextKey (TextKey bytes) = Unit {0}
IsTextKey (TruthKey b) = ⊥

abbrev pub IsIntOrTextKey : Key → Type 0
IsIntOrTextKey (IntKey n) = Unit {0}
IsIntOrTextKey (TextKey bytes) = Unit {0}
IsIntOrTextKey (TruthKey b) = ⊥

-- a table has the shape, of those that are tables
abbrev pub HasTableShape : Shape → Pairs → Type 0
HasTableShape Text ps = ⊥
HasTableShape Bool ps = ⊥
HasTableShape Texts ps = IsList ps × EachValue IsText ps
HasTableShape Mixed ps = EachKey IsIntOrTextKey ps × EachValue IsText ps
HasTableShape Named ps = EachKey IsTextKey ps
HasTableShape Closed ps = Unit {0}
HasTableShape Open ps = Unit {0}
HasTableShape Lists ps = IsList ps × EachValue IsTable ps

-- a value has the shape
abbrev pub HasShape : Shape → Datum → Type 0
HasShape Text value = IsText value
HasShape Bool value = IsTruth value
HasShape Texts value = IsTableAnd value (HasTableShape Texts)
HasShape Mixed value = IsTableAnd value (HasTableShape Mixed)
HasShape Named value = IsTableAnd value (HasTableShape Named)
HasShape Closed value = IsTableAnd value (HasTableShape Closed)
HasShape Open value = IsTableAnd value (HasTableShape Open)
HasShape Lists value = IsTableAnd value (HasTableShape Lists)
