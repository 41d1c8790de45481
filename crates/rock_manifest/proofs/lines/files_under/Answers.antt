use Rattle.std.proofs.Common.{◌==◌, ◌++◌, Bool, ap, length, sym, ◌∙◌, append_assoc, append-nil, rules, arith}
use Rattle.std.proofs.lemmas.Iterator.Consumers.{YieldsList-turn, YieldsList-end}
use Rattle.std.proofs.lemmas.Iterator.Splits.{YieldsList-from_slice_split}
use Rattle.std.proofs.lemmas.List.{at_drop_all, length_push}
use Rattle.rock_manifest.specs.Reading.{files_under, lines}
use Rattle.rock_manifest.proofs.Gathering.{one_more, skipped, taken, turned}
use Rattle.rock_manifest.proofs.Spelling.{Files}
use Rattle.rock_manifest.proofs.lines.files_under.Goals as goal

pub loop-line-preserved : goal.loop-line-preserved
loop-line-preserved c =
    let road = YieldsList-from_slice_split _ (λ b. b == 10) c.args.bytes.now (cc) (cc) (cc) (λ x b q k. search rules) in
    let at = YieldsList-turn road c.loop-line.yielded _ c.loop-line.yielded_by _ _ c.in-Some.line c.in-Some.is
    c.next.ensures.steps in
    let blank = sym c.starts_with.ensures.value ∙ c.if-not-starts_with.false in
    one_more c.args.name.now (lines c.args.bytes.now) (length c.loop-line.yielded) _ c.in-Some.line.now
    c.loop-line.inside c.loop-line.inside c.loop-line.files.items c.loop-line.files.items _
    (length_push c.loop-line.yielded c.in-Some.line) at c.loop-line.invariant
    (λ rest. ap (λ (l : Files). c.loop-line.files.items ++ l)
    (sym (skipped c.args.name.now c.in-Some.line.now rest c.loop-line.inside blank c.if-inside.false)))

pub loop-line-preserved-then-not-starts_with : goal.loop-line-preserved-then-not-starts_with
loop-line-preserved-then-not-starts_with c =
    let road = YieldsList-from_slice_split _ (λ b. b == 10) c.args.bytes.now (cc) (cc) (cc) (λ x b q k. search rules) in
    let at = YieldsList-turn road c.loop-line.yielded _ c.loop-line.yielded_by _ _ c.in-Some.line c.in-Some.is
    c.next.ensures.steps in
    let other = sym c.starts_with.ensures.value ∙ c.if-not-starts_with.true in
    one_more c.args.name.now (lines c.args.bytes.now) (length c.loop-line.yielded) _ c.in-Some.line.now
    c.loop-line.inside c.starts_with-inside.result c.loop-line.files.items c.loop-line.files.items _
    (length_push c.loop-line.yielded c.in-Some.line) at c.loop-line.invariant
    (λ rest. ap (λ (t : Bool). c.loop-line.files.items ++ files_under c.args.name.now t rest)
    c.starts_with-inside.ensures.value
    ∙ ap (λ (l : Files). c.loop-line.files.items ++ l)
    (sym (turned c.args.name.now c.in-Some.line.now rest c.loop-line.inside other)))

pub loop-line-preserved-in-Continue-1 : goal.loop-line-preserved-in-Continue-1
loop-line-preserved-in-Continue-1 c =
    let road = YieldsList-from_slice_split _ (λ b. b == 10) c.args.bytes.now (cc) (cc) (cc) (λ x b q k. search rules) in
    let at = YieldsList-turn road c.loop-line.yielded _ c.loop-line.yielded_by _ _ c.in-Some.line c.in-Some.is
    c.next.ensures.steps in
    let blank = sym c.starts_with.ensures.value ∙ c.if-not-starts_with.false in
    let name = c.args.name.now in
    one_more name (lines c.args.bytes.now) (length c.loop-line.yielded) _ c.in-Some.line.now c.loop-line.inside
    c.loop-line.inside c.loop-line.files.items c.add_file.new.files.items _
    (length_push c.loop-line.yielded c.in-Some.line) at c.loop-line.invariant
    (λ rest.
    ap (λ (l : Files). l ++ files_under name c.loop-line.inside rest) c.in_ok-add_file.ensures
    ∙ append_assoc c.loop-line.files.items _ (files_under name c.loop-line.inside rest)
    ∙ ap (λ (l : Files). c.loop-line.files.items ++ l)
    (sym (taken name c.in-Some.line.now rest c.loop-line.inside blank c.if-inside.true)))

pub returns : goal.returns
returns c =
    let road = YieldsList-from_slice_split _ (λ b. b == 10) c.args.bytes.now (cc) (cc) (cc) (λ x b q k. search rules) in
    let end = YieldsList-end road c.loop-line.yielded _ c.loop-line.yielded_by _ _ c.in-None.is c.next.ensures.steps in
    let none = at_drop_all (files_under c.args.name.now c.loop-line.inside) (lines c.args.bytes.now)
    (length c.loop-line.yielded) (omega (arith, end.1)) in
    sym (append-nil c.loop-line.files.items) ∙ ap (λ (l : Files). c.loop-line.files.items ++ l) (sym none)
    ∙ c.loop-line.invariant
