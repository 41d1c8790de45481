-- The fields of a table one by one.
use Rattle.std.proofs.Common.{◌≡◌, ◌≤◌, ◌⊎◌, inl, inr, ℕ, ◌+◌, List, [], drop, Some, sym, ap, subst, ◌∙◌, arith}
use Rattle.std.specs.List.{slice_get}
use Rattle.lua_syntax.specs.declared.tree.Field.{Field}
use Rattle.lua_syntax.specs.Trees.{Tree, Fields, no_fields, with_position, with_key, tree, field, fields}
use Rattle.lua_syntax.proofs.Trees.{field-cases}
use Rattle.lua_value.specs.declared.key.Key.{Key}
use Rattle.lua_value.specs.Pairs.{Datum, Pairs, no_pairs, table_value}
use Rattle.lua_eval.specs.declared.fault.EvalFault.{EvalFault}
use Rattle.lua_eval.specs.Finding.{AreIntegersOf, FailsWith, IsFaultOf, tabled}
use Rattle.lua_eval.specs.Joins.{and_then}
use Rattle.lua_eval.specs.Values.{fill}
use Rattle.lua_eval.specs.Weights.{weighed}
use Rattle.lua_eval.proofs.Depths.{fields_depth}
use Rattle.lua_eval.proofs.Walks.{drop-member}

-- the fields from a place on begin with the one there
pub fields-begin : (list : List Field) (i : ℕ) (f : Field) → slice_get list i ≡ Some f → fields (drop i list) ≡ field f (fields (drop (i + 1) list))
fields-begin list i f at = ap fields (drop-member list i f at)

-- integers of a field and of those behind it
pub integers-apart : (f : Field) (rest : Fields) → AreIntegersOf (field f rest) → AreIntegersOf (field f no_fields) × AreIntegersOf rest
integers-apart f rest integers = by_cases (field-cases f)
  where
    by_cases : ((others : Fields) → field f others ≡ with_position f.place (tree f.value) others) ⊎ ((key : Tree) × ((others : Fields) → field f others ≡ with_key f.place key (tree f.value) others)) → AreIntegersOf (field f no_fields) × AreIntegersOf rest
    by_cases (inl same) =
        let all = subst AreIntegersOf (same rest) integers in
        (subst AreIntegersOf (sym (same no_fields)) (all.0, tt), all.1)
    by_cases (inr (key, same)) =
        let all = subst AreIntegersOf (same rest) integers in
        (subst AreIntegersOf (sym (same no_fields)) (all.0, all.1, tt), all.2)

-- neither is deeper than both
pub depths-apart : (f : Field) (rest : Fields) → (fields_depth (field f no_fields) ≤ fields_depth (field f rest)) × (fields_depth rest ≤ fields_depth (field f rest))
depths-apart f rest = by_cases (field-cases f)
  where
    by_cases : ((others : Fields) → field f others ≡ with_position f.place (tree f.value) others) ⊎ ((key : Tree) × ((others : Fields) → field f others ≡ with_key f.place key (tree f.value) others)) → (fields_depth (field f no_fields) ≤ fields_depth (field f rest)) × (fields_depth rest ≤ fields_depth (field f rest))
    by_cases (inl same) =
        let alone = ap fields_depth (same no_fields) in let all = ap fields_depth (same rest) in
        (omega (arith, alone, all), omega (arith, alone, all))
    by_cases (inr (key, same)) =
        let alone = ap fields_depth (same no_fields) in let all = ap fields_depth (same rest) in
        (omega (arith, alone, all), omega (arith, alone, all))

-- where a field has a fault, the table has it
pub table-fails : (names : List ℕ → Datum) (place : ℕ) (list : List Field) (i : ℕ) (f : Field) (next : ℕ) (before : List Key) (made : Pairs) (sum start : ℕ) (fault : EvalFault) → slice_get list i ≡ Some f → fill names (fields (drop i list)) next before made sum ≡ fill names (fields list) 1 [] no_pairs start → FailsWith names f next before made sum fault → IsFaultOf (tabled names place (fields list) start) fault
table-fails names place list i f next before made sum start fault at whole (inl none) = inl none
table-fails names place list i f next before made sum start fault at whole (inr all) =
    inr (ap (λ r. and_then {A = Pairs × ℕ} {B = Datum × ℕ} r (λ m. weighed place (table_value m.0) m.1))
    (sym whole ∙ ap (λ fs. fill names fs next before made sum) (fields-begin list i f at) ∙ all (fields (drop (i + 1) list))))
