use Rattle.std.proofs.Common.{◌<◌, ◌+◌, ◌*◌, ◌∷◌, drop, length, refl, ap, sym, subst, arith, ◌∙◌}
use Rattle.std.specs.Prelude.{max}
use Rattle.std.proofs.lemmas.Result.{err_from_is_err_and}
use Rattle.std.proofs.lemmas.Option.{slice_get_read}
use Rattle.lua_syntax.specs.Trees.{tree, suffixes, trees, fields}
use Rattle.lua_syntax.proofs.Trees.{tree-index, tree-concat, tree-table, field-position, field-key}
use Rattle.lua_value.specs.declared.key.Key.TheVariants.{Int}
use Rattle.lua_eval.specs.Finding.{HasIntegers, AreIntegersOf}
use Rattle.lua_eval.specs.Joins.{and_then}
use Rattle.lua_eval.specs.Names.{given}
use Rattle.lua_eval.specs.Values.{fill}
use Rattle.lua_eval.proofs.Depths.{tree_depth, suffixes_depth, trees_depth, fields_depth}
use Rattle.lua_eval.proofs.Filling.{fill-position, fill-key}
use Rattle.lua_eval.proofs.Tables.{fields-begin, integers-apart, depths-apart, table-fails}
use Rattle.lua_eval.proofs.+find.Goals as goal

pub find::find-find_index-requires : goal.find::find-find_index-requires
find::find-find_index-requires t c =
    let e = tree-index c.args.expr.now c.in-Index.base c.in-Index.suffixes c.in-Index.is in
    let integers = subst HasIntegers e c.requires.integers in
    let deep = ap tree_depth e in
    let falls : 4 * max (tree_depth (tree c.in-Index.base)) (suffixes_depth (suffixes c.in-Index.suffixes)) + 1 < t = omega (arith, deep) in
    rw (c.get.ensures, c.as_slice.ensures) (falls, (integers.0, (integers.1, c.requires.low)))

pub find::find-find_concat-requires : goal.find::find-find_concat-requires
find::find-find_concat-requires t c =
    let e = tree-concat c.args.expr.now c.in-Concat.operands c.in-Concat.operators c.in-Concat.is in
    let integers = subst HasIntegers e c.requires.integers in
    let deep = ap tree_depth e in
    let falls : 4 * trees_depth (trees c.in-Concat.operands) + 1 < t = omega (arith, deep) in
    rw (c.as_slice-in-Concat.ensures) (falls, (integers, c.requires.low))

pub find::find-find_table-requires : goal.find::find-find_table-requires
find::find-find_table-requires t c =
    let e = tree-table c.args.expr.now c.in-Table.fields c.in-Table.is in
    let integers = subst HasIntegers e c.requires.integers in
    let deep = ap tree_depth e in
    let falls : 4 * fields_depth (fields c.in-Table.fields) + 3 < t = omega (arith, deep) in
    rw (c.as_slice-in-Table.ensures) (falls, (integers, c.requires.low))

pub find::find-returns-in-Index-clause-found : goal.find::find-returns-in-Index-clause-found
find::find-returns-in-Index-clause-found t c =
    let e = tree-index c.args.expr.now c.in-Index.base c.in-Index.suffixes c.in-Index.is in
    rw (e, ← c.get.ensures, ← c.as_slice.ensures) (c.find_index.ensures.found)

pub find::find-returns-in-Concat-clause-found : goal.find::find-returns-in-Concat-clause-found
find::find-returns-in-Concat-clause-found t c =
    let e = tree-concat c.args.expr.now c.in-Concat.operands c.in-Concat.operators c.in-Concat.is in
    rw (e, ← c.as_slice-in-Concat.ensures, ← c.as_slice-in-Concat-2.ensures) (c.find_concat.ensures.found)

pub find::find-returns-in-Table-clause-found : goal.find::find-returns-in-Table-clause-found
find::find-returns-in-Table-clause-found t c =
    let e = tree-table c.args.expr.now c.in-Table.fields c.in-Table.is in
    rw (e, ← c.as_slice-in-Table.ensures) (c.find_table.ensures.found)

pub table::fill-returns-in_ok-sum-in-Position-clause-filled : goal.table::fill-returns-in_ok-sum-in-Position-clause-filled
table::fill-returns-in_ok-sum-in-Position-clause-filled t c = λ before are.
    let names = given c.args.scope.now.locals c.args.scope.now.globals in
    let one = c.args.one.now in
    let made = c.args.making.now.made in
    let took = c.in_ok-sum-in-Position.ensures.taken before are in (
      Int c.args.next ∷ before,
      took.0,
      λ rest.
          ap (λ fs. fill names fs c.args.next before made c.args.sum) (field-position one rest c.in-Position.is)
          ∙ fill-position names one.place (tree one.value) rest c.args.next before made c.args.sum
          ∙ ap (λ r. and_then r (λ m. fill names rest (c.args.next + 1) (Int c.args.next ∷ before) m.0 m.1)) took.1,
    )

pub table::fill-returns-in_ok-take-in-Given-clause-filled : goal.table::fill-returns-in_ok-take-in-Given-clause-filled
table::fill-returns-in_ok-take-in-Given-clause-filled t c = λ before are.
    let names = given c.args.scope.now.locals c.args.scope.now.globals in
    let one = c.args.one.now in
    let made = c.args.making.now.made in
    let key = c.in_ok-key-in-Given.key in
    let took = c.in_ok-take-in-Given.ensures.taken before are in (
      key ∷ before,
      took.0,
      λ rest.
          ap (λ fs. fill names fs c.args.next before made c.args.sum) (field-key one rest c.in-Given.key c.in-Given.is)
          ∙ fill-key names one.place (tree c.in-Given.key) (tree one.value) rest c.args.next before made c.args.sum _ _ key c.in_ok-found-in-Given.ensures.found c.in_ok-key-in-Given.ensures.key
          ∙ ap (λ r. and_then r (λ m. fill names rest c.args.next (key ∷ before) m.0 m.1)) took.1,
    )

pub table::find_table-returns-in_err-next-clause-found : goal.table::find_table-returns-in_err-next-clause-found
table::find_table-returns-in_err-next-clause-found t c =
    let names = given c.args.scope.now.locals c.args.scope.now.globals in
    let l = c.loop-field in
    let at = slice_get_read c.args.list.now (length c.args.list.now) l.field-index c.field-item.result refl c.loop-field-test.true c.field-item.is in
    let (before, are, whole) = l.invariant.filled in
    let fails = c.in_err-next.ensures.filled before are in
    let p = err_from_is_err_and c.from_residual.result c.from_residual.ensures.1 in
    rw (p.1, p.2) (table-fails names c.args.place c.args.list.now l.field-index c.field-item.result l.next before l.making.made l.sum c.args.sum _ at whole fails)

pub table::find_table-loop-field-preserved : goal.table::find_table-loop-field-preserved
table::find_table-loop-field-preserved t c =
    let names = given c.args.scope.now.locals c.args.scope.now.globals in
    let l = c.loop-field in
    let f = c.field-item.result in
    let list = c.args.list.now in
    let rest = fields (drop (l.field-index + 1) list) in
    let at = slice_get_read list (length list) l.field-index f refl c.loop-field-test.true c.field-item.is in
    let begins = fields-begin list l.field-index f at in
    let (before, are, whole) = l.invariant.filled in
    let (others, given_now, leads) = c.in_ok-next.ensures.filled before are in
    let deep = ap fields_depth begins in
    let depths = depths-apart f rest in
    record {
      filled = (others, given_now, sym (leads rest) ∙ ap (λ fs. fill names fs l.next before l.making.made l.sum) (sym begins) ∙ whole);
      integers = (integers-apart f rest (subst AreIntegersOf begins l.invariant.integers)).1;
      shallow = omega (arith, deep, depths.1, l.invariant.shallow);
      made = c.in_ok-next.ensures.ordered.0;
      without_value = c.in_ok-next.ensures.ordered.1;
      next = c.in_ok-next.ensures.next;
      low = c.in_ok-next.ensures.low;
      grows = omega (arith, c.in_ok-next.ensures.grows, l.invariant.grows);
    }
