use Rattle.std.proofs.Common.{◌≡◌, ◌≤◌, ◌<◌, ◌*◌, ◌++◌, ◌∷◌, [], ap, ◌∙◌, subst, arith}
use Rattle.std.proofs.lemmas.Result.{err_from_is_err_and}
use Rattle.lua_value.specs.Depth.{value_depth, depth}
use Rattle.lua_value.specs.Pairs.{table_value}
use Rattle.lua_value.specs.View.{datum}
use Rattle.lua_value.proofs.Left.{depth_at}
use Rattle.schema_table.specs.Paths.{referents}
use Rattle.schema_table.specs.Walk.{IsFaultlessAt, IsFirstReached, IfTold}
use Rattle.schema_table.proofs.Reached.{told_here, walked_into, clear_alone, told_entry, clear_entries, nothing_within}
use Rattle.schema_table.proofs.visits.+visit.Goals as goal
use Rattle.schema_table.proofs.visits.+visit.Goals.{visit-in_default-via-in-Table+else-enters}
use Rattle.schema_table.proofs.visits.+visit.Goals.{visit-in_default-via-in_default}

pub visit-returns-in_err-enters : goal.visit-returns-in_err-enters
visit-returns-in_err-enters t c =
    let p = err_from_is_err_and c.from_residual.result c.from_residual.ensures.1 in
    rw (p.1, p.2) (told_here c.args.rows.now c.args.format (referents c.args.path.now)
    (datum c.args.value.now) _ c.in_err-enters.ensures.err)

pub visit-returns-in-Table : goal.visit-returns-in-Table
visit-returns-in-Table t c =
    let rows = c.args.rows.now in
    let path = referents c.args.path.now in
    let is : datum c.args.value.now ≡ table_value c.in-Table.table = ap datum c.in-Table.is in
    let own : IsFaultlessAt rows c.args.format path (table_value c.in-Table.table) =
    subst (IsFaultlessAt rows c.args.format path) is c.in_ok-enters.ensures.ok in
    let gone = c.in_ok-enters.ensures.enters.0 c.if-enters.true in
    rw is (walked_into rows c.args.format path c.in-Table.table c.visit_entries.result own gone c.visit_entries.ensures)

pub visit-returns-in_default : goal.visit-returns-in_default
visit-returns-in_default t c =
    let start = datum c.args.value.now in
    let clear = clear_alone c.args.rows.now c.args.format (referents c.args.path.now) start c.in_ok-enters.ensures.ok in
    elim c.in_default.branch [
      | visit-in_default-via-in-Table+else-enters w ↦ clear (λ key gone. let enters =
          c.in_ok-enters.ensures.enters.1 gone in cc)
      | visit-in_default-via-in_default w ↦ clear
          (λ key gone. nothing_within c.args.value.now w.in_default.not-Table key)
    ]

pub visit_entries-visit-requires : goal.visit_entries-visit-requires
visit_entries-visit-requires t c = (
  (let within : value_depth (datum c.entry_at.result.1.now) ≤ depth c.args.table.now =
      depth_at _ _ _ c.entry_at.ensures.entry in let falls : 2 * value_depth (datum c.entry_at.result.1.now) < t =
      omega arith in falls),
  (c.requires.few, c.entry_at.ensures.served),
)

pub visit_entries-returns-in_err-visit : goal.visit_entries-returns-in_err-visit
visit_entries-returns-in_err-visit t c =
    let p = err_from_is_err_and c.from_residual-in_err-visit.result c.from_residual-in_err-visit.ensures.1 in
    let rows = c.args.rows.now in
    let path = referents c.args.path.now in
    let key = c.entry_at.result.0.now in
    let start = datum c.entry_at.result.1.now in
    let fault = c.in_err-visit.field-0.0 in
    let below : referents c.deref.result.now ≡ path ++ key ∷ [] = ap referents c.deref.ensures.value
    ∙ c.in_ok-below.ensures in
    let first : IfTold fault (IsFirstReached rows c.args.format (path ++ key ∷ []) start fault) =
    subst (λ keys. IfTold fault (IsFirstReached rows c.args.format keys start fault)) below c.in_err-visit.ensures
    in
    rw (p.1, p.2) (told_entry rows c.args.format path c.args.table.now c.loop-at.at key start fault c.requires.ordered
    c.entry_at.ensures.entry c.loop-at.invariant first)

pub visit_entries-returns : goal.visit_entries-returns
visit_entries-returns t c =
    clear_entries c.args.rows.now c.args.format (referents c.args.path.now) c.args.table.now c.loop-at.at
    (omega (arith, c.len-at-end.ensures)) c.loop-at.invariant
