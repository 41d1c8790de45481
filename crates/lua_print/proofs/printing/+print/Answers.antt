use Rattle.std.proofs.Common.{codes, ◌≤◌, ◌<◌, ◌*◌, ◌≡◌, ◌≢◌, ◌+◌, cond, ◌++◌, ◌∷◌, [], sym, ap, ◌∙◌, arith}
use Rattle.std.specs.Prelude.{is_ok}
use Rattle.std.proofs.lemmas.List.{append-nil}
use Rattle.lua_value.specs.declared.key.Key.{Key}
use Rattle.lua_value.specs.Depth.{value_depth, depth}
use Rattle.lua_value.specs.Pairs.{Datum, Pairs, count, keys}
use Rattle.lua_value.specs.View.{datum}
use Rattle.lua_print.specs.Printed.{entries_text, deeper}
use Rattle.lua_print.specs.Steps.{is_number_key, entry_text}
use Rattle.lua_value.proofs.Left.{depth_at, left, left-entry, left-end}
use Rattle.lua_print.proofs.Tables.{table_text-none, pieces, on_last}
use Rattle.lua_print.proofs.Walk.{walk_text, walk_text-all, print_step}
use Rattle.lua_print.proofs.printing.+print.Goals as goal
use Rattle.lua_print.proofs.printing.+print.Goals.{print_entries-then-is_position, print_entries-else-is_position}

pub print_entries-loop-at-preserved : goal.print_entries-loop-at-preserved
print_entries-loop-at-preserved t c =
    let ps : Pairs = c.args.table.now in
    let indent = c.args.indent.now in
    let l = c.loop-at in
    let x : Key × Datum = (c.entry_at.result.0.now, datum c.entry_at.result.1.now) in
    let b = c.is_number-is_position.result in
    let is_next : b ≡ is_number_key x.0 (l.positions + 1) = c.is_number-is_position.ensures in
    let line : c.print_entry.new.out.items ≡ l.out.items ++ entry_text indent b x.0 x.1 = c.in_ok-print_entry.ensures in
    let positions : c.if-is_position.positions ≡ cond b (l.positions + 1) l.positions = elim c.if-is_position.branch [
      | print_entries-then-is_position w ↦ w.positions-is ∙ ap (λ p. cond p (l.positions + 1) l.positions) (sym w.if-is_position.true)
      | print_entries-else-is_position w ↦ w.positions-is ∙ ap (λ p. cond p (l.positions + 1) l.positions) (sym w.if-is_position.false)
    ] in
    let text : walk_text indent l.positions (left l.at ps) ≡ entry_text indent b x.0 x.1 ++ walk_text indent c.if-is_position.positions (left (l.at + 1) ps) =
    ap (walk_text indent l.positions) (left-entry ps l.at x c.entry_at.ensures.entry)
    ∙ ap (λ p. entry_text indent p x.0 x.1 ++ walk_text indent (cond p (l.positions + 1) l.positions) (left (l.at + 1) ps)) (sym is_next)
    ∙ ap (λ m. entry_text indent b x.0 x.1 ++ walk_text indent m (left (l.at + 1) ps)) (sym positions) in
    record {
      positions_within = elim c.if-is_position.branch [ print_entries-then-is_position w ↦ omega arith | print_entries-else-is_position w ↦ omega arith ];
      so_far = print_step l.out.items c.print_entry.new.out.items (entry_text indent b x.0 x.1) _ _ _ line text l.invariant.so_far;
    }

pub print_entries-returns : goal.print_entries-returns
print_entries-returns t c =
    let ps : Pairs = c.args.table.now in
    let indent = c.args.indent.now in
    let l = c.loop-at in
    let nothing = left-end ps l.at (omega (arith, c.len-at-end.ensures)) in
    sym (append-nil l.out.items) ∙ ap (λ qs. l.out.items ++ walk_text indent l.positions qs) (sym nothing) ∙ l.invariant.so_far
    ∙ ap (λ text. c.args.out.now.items ++ text) (walk_text-all indent ps c.requires)

pub print_table-returns : goal.print_table-returns
print_table-returns t c =
    let ps : Pairs = c.args.table.now in
    let indent = c.args.indent.now in
    let out = c.args.out.now.items in
    let some : count ps ≢ 0 = λ e. c.if-len-eq0.false (c.len.ensures ∙ e) in
    let within : c.deref.result.now ≡ deeper indent = c.deref.ensures.value ∙ c.in_ok-within.ensures in
    let a : c.extend_from_slice-2.new.self.items ≡ out ++ 123 ∷ 10 ∷ [] = c.in_ok-extend_from_slice.ensures.items in
    let b : c.print_entries.new.out.items ≡ c.extend_from_slice-2.new.self.items ++ entries_text c.deref.result.now (keys ps) ps = c.in_ok-print_entries.ensures in
    let d : c.extend_from_slice-3.new.self.items ≡ c.print_entries.new.out.items ++ indent = c.in_ok-extend_from_slice-2.ensures.items in
    let last : c.extend_from_slice-4.new.self.items ≡ cond (is_ok c.extend_from_slice-4.result) (c.extend_from_slice-3.new.self.items ++ 125 ∷ []) c.extend_from_slice-3.new.self.items = c.extend_from_slice-4.ensures.items in
    on_last c.extend_from_slice-4.result _ c.extend_from_slice-3.new.self.items (125 ∷ []) _ last (pieces out indent c.deref.result.now _ _ _ ps some within a b d)

pub print_table-returns-then-len-eq0 : goal.print_table-returns-then-len-eq0
print_table-returns-then-len-eq0 t c =
    let out = c.args.out.now.items in
    let empty : count c.args.table.now ≡ 0 = sym c.len.ensures ∙ c.if-len-eq0.true in
    on_last c.extend_from_slice.result _ out (codes "{}") _ c.extend_from_slice.ensures.items (ap (λ text. out ++ text) (table_text-none c.args.indent.now c.args.table.now empty))

pub print_entries-print_entry-requires : goal.print_entries-print_entry-requires
print_entries-print_entry-requires t c = (
  (let within : value_depth (datum c.entry_at.result.1.now) ≤ depth c.args.table.now = depth_at _ _ _ c.entry_at.ensures.entry in let falls : 4 * value_depth (datum c.entry_at.result.1.now) + 1 < t = omega arith in falls),
  c.entry_at.ensures.served,
)
