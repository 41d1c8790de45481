use Rattle.std.proofs.Common.{◌≡◌, ◌++◌, ◌∷◌, [], sym, ap, ◌∙◌, arith, codes}
use Rattle.std.proofs.lemmas.List.{append-nil}
use Rattle.lua_value.specs.declared.key.Key.{Key}
use Rattle.lua_value.specs.Pairs.{Datum, Pairs}
use Rattle.lua_value.specs.View.{datum}
use Rattle.lua_print.specs.Printed.{value_text, name_text, globals_text}
use Rattle.lua_value.proofs.Left.{left-end}
use Rattle.lua_print.proofs.Tables.{on_last, names_at, globals_text-left}
use Rattle.lua_print.proofs.Walk.{print_step}
use Rattle.lua_print.proofs.printing.print.Goals as goal

pub print_global-requires-clause-named : goal.print_global-requires-clause-named
print_global-requires-clause-named c = names_at c.args.table.now c.loop-at.at _ c.requires.named c.entry_at.ensures.entry

pub loop-at-preserved : goal.loop-at-preserved
loop-at-preserved c =
    let ps : Pairs = c.args.table.now in
    let l = c.loop-at in
    let x : Key × Datum = (c.entry_at.result.0.now, datum c.entry_at.result.1.now) in
    let line : c.print_global.new.out.items ≡ l.out.items ++ (name_text x.0 ++ codes " = " ++ value_text [] x.1 ++ 10 ∷ []) = c.in_ok-print_global.ensures in
    print_step l.out.items c.print_global.new.out.items _ _ _ _ line (globals_text-left ps l.at x c.entry_at.ensures.entry) l.invariant

pub returns-clause-ok : goal.returns-clause-ok
returns-clause-ok c =
    let ps : Pairs = c.args.table.now in
    let l = c.loop-at in
    let into = c.args.into.now.items in
    let nothing = left-end ps l.at (omega (arith, c.len-at-end.ensures)) in
    let all : l.out.items ≡ globals_text ps = sym (append-nil l.out.items) ∙ ap (λ qs. l.out.items ++ globals_text qs) (sym nothing) ∙ l.invariant in
    on_last c.extend_from_slice.result _ into _ _ c.extend_from_slice.ensures.items (ap (λ text. into ++ text) (c.deref.ensures.value ∙ all))
