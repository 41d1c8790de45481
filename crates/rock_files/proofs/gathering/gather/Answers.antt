use Rattle.std.proofs.Common.{◌≡◌, List, ◌∷◌, ◌++◌, drop, length, suc, refl, sym, subst, rules}
use Rattle.std.proofs.lemmas.Iterator.Adapters.{YieldsList-from_vec}
use Rattle.std.proofs.lemmas.Iterator.Consumers.{YieldsList-so_far, YieldsList-turn}
use Rattle.std.proofs.lemmas.Result.{err_from_is_err_and}
use Rattle.rock_parts.specs.declared.parts.Step.{Step}
use Rattle.rock_files.specs.Gathering.{IsFaultOf}
use Rattle.rock_files.specs.Taking.{AreTaken}
use Rattle.rock_files.proofs.Asking.{stays_same}
use Rattle.rock_files.proofs.Failing.{next_item}
use Rattle.rock_files.proofs.Steps.{nothing_taken}
use Rattle.rock_files.proofs.gathering.gather.Goals as goal

pub loop-step-init : goal.loop-step-init
loop-step-init g c = record {
  stays = stays_same (g.F.Shelf.state c.args.shelf.now);
  taken = nothing_taken c.args.server c.args.folder.now (g.F.Shelf.state c.args.shelf.now).holds _ c.new.ensures.items c.new-2.ensures.items refl;
}

pub returns-in_err-take_step-clause-fault : goal.returns-in_err-take_step-clause-fault
returns-in_err-take_step-clause-fault g c =
    let all = c.args.steps.items in
    let front = c.loop-step.yielded in
    let step = c.in-Some.step in
    let folder = c.args.folder.now in
    let fault = c.in_err-take_step.field-0.0 in
    let holds = (g.F.Shelf.state c.args.shelf.now).holds in
    let road = YieldsList-from_vec all c.into_iter-step-iterator.ensures.into_iter_gives.0 (search rules) in
    let so_far = YieldsList-so_far road front c.loop-step.step-iterator c.loop-step.yielded_by in
    let turn = YieldsList-turn road front c.loop-step.step-iterator c.loop-step.yielded_by c.next.result c.next.new.self step c.in-Some.is c.next.ensures.steps in
    let here : all ≡ front ++ step ∷ drop (suc (length front)) all = next_item all front step so_far turn.0 turn.1 in
    let rest = drop (suc (length front)) all in
    let same = c.loop-step.invariant.stays.holds in
    let before = subst (λ h. AreTaken h c.args.server folder front c.loop-step.taken) (sym same) c.loop-step.invariant.taken in
    let fails = subst (λ h. IsFaultOf h c.args.server folder (front ++ step ∷ rest) fault) same (c.in_err-take_step.ensures.fault front rest before) in
    let p = err_from_is_err_and c.from_residual.result c.from_residual.ensures.1 in
    rw (p.1, p.2) (subst (λ (steps : List Step). IsFaultOf holds c.args.server folder steps fault) (sym here) fails)
