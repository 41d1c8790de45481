use Rattle.std.proofs.Common.{◌==◌, ap, length, sym, ◌∙◌, rules, arith}
use Rattle.std.proofs.lemmas.Iterator.Consumers.{YieldsList-turn, YieldsList-end}
use Rattle.std.proofs.lemmas.Iterator.Splits.{YieldsList-from_slice_split}
use Rattle.std.proofs.lemmas.List.{at_drop_all, length_push}
use Rattle.tree_manifest.specs.Reading.{lines, with_lines}
use Rattle.tree_manifest.proofs.Turns.{one_line_more}
use Rattle.tree_manifest.proofs.groups.groups_under.Goals as goal

pub loop-line-preserved : goal.loop-line-preserved
loop-line-preserved c =
    let road = YieldsList-from_slice_split _ (λ b. b == 10) c.args.bytes.now (cc) (cc) (cc) (λ x b q k. search rules) in
    let at = YieldsList-turn road c.loop-line.yielded _ c.loop-line.yielded_by _ _ c.in-Some.line c.in-Some.is
    c.next.ensures.steps in
    one_line_more c.args.name.now c.args.depths (lines c.args.bytes.now) (length c.loop-line.yielded) _
    c.in-Some.line.now c.loop-line.gathered c.add_line.new.gathered _
    (length_push c.loop-line.yielded c.in-Some.line) at c.loop-line.invariant c.in_ok-add_line.ensures

pub returns : goal.returns
returns c =
    let road = YieldsList-from_slice_split _ (λ b. b == 10) c.args.bytes.now (cc) (cc) (cc) (λ x b q k. search rules) in
    let end = YieldsList-end road c.loop-line.yielded _ c.loop-line.yielded_by _ _ c.in-None.is c.next.ensures.steps in
    let none = at_drop_all (with_lines c.args.name.now c.args.depths c.loop-line.gathered) (lines c.args.bytes.now)
    (length c.loop-line.yielded) (omega (arith, end.1)) in
    ap (λ g. g.groups) (sym none ∙ c.loop-line.invariant)
