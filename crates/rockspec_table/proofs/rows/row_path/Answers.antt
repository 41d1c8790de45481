use Rattle.std.proofs.Common.{◌≡◌, ℕ, List, Option, Some, None, ap, sym, ◌∙◌, rules}
use Rattle.std.proofs.lemmas.Option.{slice_get-get_or, slice_get-map, slice_get_past}
use Rattle.std.specs.List.{join_with_byte, slice_get}
use Rattle.std.specs.Prelude.{option_map, IfOk}
use Rattle.schema_table.specs.Rows.{parts_of}
use Rattle.schema_table.specs.declared.row.Row.{Row}
use Rattle.rockspec_table.specs.Rows.{row_path, rule_of, rule_path, AreRockspecRows}
use Rattle.rockspec_table.proofs.rows.row_path.Goals as goal

-- the path by what the rows have at the number
path_at : (rows : List Row) (number : ℕ) (found : Option Row) → AreRockspecRows rows → slice_get rows number ≡ found
    → row_path number ≡ rule_path (option_map rule_of found)
path_at rows number found are is =
    ap (λ rules. rule_path (slice_get rules number)) (sym are) ∙ ap rule_path (slice_get-map rule_of rows number ∙ ap (option_map rule_of) is)

pub returns-in-Some : goal.returns-in-Some
returns-in-Some c =
    let path = path_at c.rows.result c.args.number (Some c.in-Some.row.now) c.rows.ensures
    (slice_get-get_or c.rows.result c.args.number c.in-Some.row.now c.in-Some.ensures.lookup.3.0 ∙ ap Some (sym (c.in-Some.ensures.lookup.3.1 c.in-Some.row.now))) in
    rw path c.joined.ensures

pub returns-in-None : goal.returns-in-None
returns-in-None c =
    let path = path_at c.rows.result c.args.number None c.rows.ensures (slice_get_past c.rows.result c.args.number c.in-None.ensures.lookup.3) in
    c.from.ensures ∙ c.new.ensures.items ∙ sym path
