use Rattle.std.proofs.Common.{ap, inl, inr, refl, sym, ◌∙◌, arith}
use Rattle.std.specs.Prelude.{Err}
use Rattle.rocks_session.specs.declared.status.Status.TheVariants.{Done, Refused, NoMemory, DeviceFault, Damaged}
use Rattle.rocks_session.proofs.Carried.{says_nothing, says_all, says_some, says_none, runs, only_opened, only_read, only_said, refused_ends, done_ends}
use Rattle.rocks_session.proofs.Complete.{anyway, not_damaged, risen_since}
use Rattle.rocks_session.proofs.Writing.{fault_risen}
use Rattle.rocks_session.proofs.session.run.Goals as goal

pub returns-in-Err-Damaged-clause-said : goal.returns-in-Err-Damaged-clause-said
returns-in-Err-Damaged-clause-said g c = says_nothing _ (g.F.Shelf.state c.args.shelf.now).holds (g.V.Device.state c.args.device.now) (g.V.Device.state c.open.new.device) (c.open.ensures.left.said)

pub returns-in-Err-DeviceFault-clause-said : goal.returns-in-Err-DeviceFault-clause-said
returns-in-Err-DeviceFault-clause-said g c = says_nothing _ (g.F.Shelf.state c.args.shelf.now).holds (g.V.Device.state c.args.device.now) (g.V.Device.state c.open.new.device) (c.open.ensures.left.said)

pub returns-in-Err-NoMemory-open-clause-said : goal.returns-in-Err-NoMemory-open-clause-said
returns-in-Err-NoMemory-open-clause-said g c = says_nothing _ (g.F.Shelf.state c.args.shelf.now).holds (g.V.Device.state c.args.device.now) (g.V.Device.state c.open.new.device) (c.open.ensures.left.said)

pub returns-in-Err-DeviceFault-carry_out-clause-said : goal.returns-in-Err-DeviceFault-carry_out-clause-said
returns-in-Err-DeviceFault-carry_out-clause-said g c = says_nothing _ (g.F.Shelf.state c.args.shelf.now).holds (g.V.Device.state c.args.device.now) (g.V.Device.state c.carry_out.new.device) (c.carry_out.ensures.1.keeps.said ∙ c.open.ensures.left.said)

pub returns-in-Err-ShelfFault-clause-said : goal.returns-in-Err-ShelfFault-clause-said
returns-in-Err-ShelfFault-clause-said g c = says_nothing _ (g.F.Shelf.state c.args.shelf.now).holds (g.V.Device.state c.args.device.now) (g.V.Device.state c.carry_out.new.device) (c.carry_out.ensures.1.keeps.said ∙ c.open.ensures.left.said)

pub returns-in-Err-NoMemory-carry_out-clause-said : goal.returns-in-Err-NoMemory-carry_out-clause-said
returns-in-Err-NoMemory-carry_out-clause-said g c = says_nothing _ (g.F.Shelf.state c.args.shelf.now).holds (g.V.Device.state c.args.device.now) (g.V.Device.state c.carry_out.new.device) (c.carry_out.ensures.1.keeps.said ∙ c.open.ensures.left.said)

pub returns-in-Ok-say-clause-carried : goal.returns-in-Ok-say-clause-carried
returns-in-Ok-say-clause-carried g c =
    let first = g.V.Device.state c.args.device.now in
    let mid = g.V.Device.state c.open.new.device in
    let exec = g.V.Device.state c.carry_out.new.device in
    let now = g.V.Device.state c.say.new.device in
    let holds = (g.F.Shelf.state c.args.shelf.now).holds in
    λ _. (
      c.in-Ok.command,
      c.in-Ok.ensures,
      runs c.in-Ok.command holds c.in-Ok-carry_out.reply c.in-Ok-open.tree c.in-Ok-carry_out.ensures.0 first mid exec now c.open.ensures.left c.in-Ok-open.ensures.only c.in-Ok-carry_out.ensures.1.carried c.carry_out.ensures.1.keeps.said
          Refused c.in-Ok-carry_out.reply.text c.in-Ok-say.field-0 (g.met.V.Device.tells c.args.device.now c.carry_out.new.device) refl c.in-Ok-say.ensures (refused_ends c.in-Ok-carry_out.reply.refusal (sym c.is_some-is_refused.ensures ∙ c.if-is_refused.true)),
    )

pub returns-in-Ok-say-clause-said : goal.returns-in-Ok-say-clause-said
returns-in-Ok-say-clause-said g c =
    let first = g.V.Device.state c.args.device.now in
    let mid = g.V.Device.state c.open.new.device in
    let exec = g.V.Device.state c.carry_out.new.device in
    let now = g.V.Device.state c.say.new.device in
    let holds = (g.F.Shelf.state c.args.shelf.now).holds in
    says_all c.in-Ok.command holds c.in-Ok-carry_out.reply c.in-Ok-open.tree c.in-Ok-carry_out.ensures.0 first mid exec now c.open.ensures.left c.in-Ok-open.ensures.only c.in-Ok-carry_out.ensures.1.carried c.carry_out.ensures.1.keeps.said
    _ c.in-Ok-carry_out.reply.text c.in-Ok-say.field-0 c.in-Ok.ensures refl c.in-Ok-say.ensures

pub returns-in-Ok-2-clause-carried : goal.returns-in-Ok-2-clause-carried
returns-in-Ok-2-clause-carried g c =
    let first = g.V.Device.state c.args.device.now in
    let mid = g.V.Device.state c.open.new.device in
    let exec = g.V.Device.state c.carry_out.new.device in
    let now = g.V.Device.state c.say.new.device in
    let holds = (g.F.Shelf.state c.args.shelf.now).holds in
    λ _. (
      c.in-Ok.command,
      c.in-Ok.ensures,
      runs c.in-Ok.command holds c.in-Ok-carry_out.reply c.in-Ok-open.tree c.in-Ok-carry_out.ensures.0 first mid exec now c.open.ensures.left c.in-Ok-open.ensures.only c.in-Ok-carry_out.ensures.1.carried c.carry_out.ensures.1.keeps.said
          Done c.in-Ok-carry_out.reply.text c.in-Ok-2.field-0 (g.met.V.Device.tells c.args.device.now c.carry_out.new.device) refl c.in-Ok-2.ensures (done_ends c.in-Ok-carry_out.reply.refusal (sym c.is_some-is_refused.ensures ∙ c.if-is_refused.false)),
    )

pub returns-in-Ok-2-clause-said : goal.returns-in-Ok-2-clause-said
returns-in-Ok-2-clause-said g c =
    let first = g.V.Device.state c.args.device.now in
    let mid = g.V.Device.state c.open.new.device in
    let exec = g.V.Device.state c.carry_out.new.device in
    let now = g.V.Device.state c.say.new.device in
    let holds = (g.F.Shelf.state c.args.shelf.now).holds in
    says_all c.in-Ok.command holds c.in-Ok-carry_out.reply c.in-Ok-open.tree c.in-Ok-carry_out.ensures.0 first mid exec now c.open.ensures.left c.in-Ok-open.ensures.only c.in-Ok-carry_out.ensures.1.carried c.carry_out.ensures.1.keeps.said
    _ c.in-Ok-carry_out.reply.text c.in-Ok-2.field-0 c.in-Ok.ensures refl c.in-Ok-2.ensures

pub returns-in-Err-Failed-clause-said : goal.returns-in-Err-Failed-clause-said
returns-in-Err-Failed-clause-said g c =
    let first = g.V.Device.state c.args.device.now in
    let mid = g.V.Device.state c.open.new.device in
    let exec = g.V.Device.state c.carry_out.new.device in
    let now = g.V.Device.state c.say.new.device in
    let holds = (g.F.Shelf.state c.args.shelf.now).holds in
    says_some c.in-Ok.command holds c.in-Ok-carry_out.reply c.in-Ok-open.tree c.in-Ok-carry_out.ensures.0 first mid exec now c.open.ensures.left c.in-Ok-open.ensures.only c.in-Ok-carry_out.ensures.1.carried c.carry_out.ensures.1.keeps.said
    _ c.in-Ok-carry_out.reply.text c.in-Err-Failed.field-0 c.in-Err-Failed.field-0-is c.in-Ok.ensures refl c.in-Err-Failed.ensures

pub returns-in-Err-NoMemory-say-clause-said : goal.returns-in-Err-NoMemory-say-clause-said
returns-in-Err-NoMemory-say-clause-said g c =
    let first = g.V.Device.state c.args.device.now in
    let mid = g.V.Device.state c.open.new.device in
    let exec = g.V.Device.state c.carry_out.new.device in
    let now = g.V.Device.state c.say.new.device in
    let holds = (g.F.Shelf.state c.args.shelf.now).holds in
    says_none c.in-Ok.command holds c.in-Ok-carry_out.reply c.in-Ok-open.tree c.in-Ok-carry_out.ensures.0 first mid exec now c.open.ensures.left c.in-Ok-open.ensures.only c.in-Ok-carry_out.ensures.1.carried c.carry_out.ensures.1.keeps.said
    _ c.in-Ok-carry_out.reply.text c.in-Err-NoMemory-say.field-0 c.in-Err-NoMemory-say.field-0-is c.in-Err-NoMemory-say.ensures

pub returns-in-Err-Damaged-clause-complete : goal.returns-in-Err-Damaged-clause-complete
returns-in-Err-Damaged-clause-complete g c = λ command set _.
    rw c.in-Err-Damaged.path-is (not_damaged (g.V.Device.state c.args.device.now).files set _ _ (Damaged c.in-Err-Damaged.path) c.in-Err-Damaged.path
    (rw c.in-Err-Damaged.field-0-is at c.in-Err-Damaged.ensures.fault))

pub returns-in-Err-DeviceFault-clause-complete : goal.returns-in-Err-DeviceFault-clause-complete
returns-in-Err-DeviceFault-clause-complete g c = λ command set _.
    anyway (g.V.Device.state c.args.device.now).files set _ _ DeviceFault (inr (inr (inl (rw c.in-Err-DeviceFault.field-0-is at c.in-Err-DeviceFault.ensures.fault))))

pub returns-in-Err-NoMemory-open-clause-complete : goal.returns-in-Err-NoMemory-open-clause-complete
returns-in-Err-NoMemory-open-clause-complete g c = λ command set _. anyway (g.V.Device.state c.args.device.now).files set _ _ NoMemory (inr (inl refl))

pub returns-in-Err-Failed-clause-complete : goal.returns-in-Err-Failed-clause-complete
returns-in-Err-Failed-clause-complete g c = λ command set _.
    let first = (g.V.Device.state c.args.device.now).faults in
    let mid = (g.V.Device.state c.open.new.device).faults in
    let exec = (g.V.Device.state c.carry_out.new.device).faults in
    let now = (g.V.Device.state c.say.new.device).faults in
    anyway (g.V.Device.state c.args.device.now).files set _ _ DeviceFault
    (inr (inr (inl (risen_since first mid exec now c.open.ensures.faults c.carry_out.ensures.1.keeps.device_faults (fault_risen {T = Unit {0}} (Err c.in-Err-Failed.field-0) exec exec now (omega arith) c.in-Err-Failed.ensures.faults (ap Err c.in-Err-Failed.field-0-is))))))

pub returns-in-Err-DeviceFault-carry_out-clause-read_only : goal.returns-in-Err-DeviceFault-carry_out-clause-read_only
returns-in-Err-DeviceFault-carry_out-clause-read_only g c = λ command is reads.
    only_read _ c.in-Ok.command command c.in-Ok-open.tree c.carry_out.ensures.0 (g.V.Device.state c.args.device.now) (g.V.Device.state c.open.new.device) (g.V.Device.state c.carry_out.new.device)
    c.open.ensures.left c.carry_out.ensures.1.untouched c.in-Ok.ensures is reads

pub returns-in-Err-ShelfFault-clause-read_only : goal.returns-in-Err-ShelfFault-clause-read_only
returns-in-Err-ShelfFault-clause-read_only g c = λ command is reads.
    only_read _ c.in-Ok.command command c.in-Ok-open.tree c.carry_out.ensures.0 (g.V.Device.state c.args.device.now) (g.V.Device.state c.open.new.device) (g.V.Device.state c.carry_out.new.device)
    c.open.ensures.left c.carry_out.ensures.1.untouched c.in-Ok.ensures is reads

pub returns-in-Err-NoMemory-carry_out-clause-read_only : goal.returns-in-Err-NoMemory-carry_out-clause-read_only
returns-in-Err-NoMemory-carry_out-clause-read_only g c = λ command is reads.
    only_read _ c.in-Ok.command command c.in-Ok-open.tree c.carry_out.ensures.0 (g.V.Device.state c.args.device.now) (g.V.Device.state c.open.new.device) (g.V.Device.state c.carry_out.new.device)
    c.open.ensures.left c.carry_out.ensures.1.untouched c.in-Ok.ensures is reads

pub returns-in-Ok-say-clause-read_only : goal.returns-in-Ok-say-clause-read_only
returns-in-Ok-say-clause-read_only g c = λ command is reads.
    only_said _ c.in-Ok.command command c.in-Ok-open.tree c.carry_out.ensures.0 (g.V.Device.state c.args.device.now) (g.V.Device.state c.open.new.device) (g.V.Device.state c.carry_out.new.device)
    c.open.ensures.left c.carry_out.ensures.1.untouched c.in-Ok.ensures is reads _ c.in-Ok-carry_out.reply.text (g.V.Device.state c.say.new.device) c.in-Ok-say.ensures

pub returns-in-Ok-2-clause-read_only : goal.returns-in-Ok-2-clause-read_only
returns-in-Ok-2-clause-read_only g c = λ command is reads.
    only_said _ c.in-Ok.command command c.in-Ok-open.tree c.carry_out.ensures.0 (g.V.Device.state c.args.device.now) (g.V.Device.state c.open.new.device) (g.V.Device.state c.carry_out.new.device)
    c.open.ensures.left c.carry_out.ensures.1.untouched c.in-Ok.ensures is reads _ c.in-Ok-carry_out.reply.text (g.V.Device.state c.say.new.device) c.in-Ok-2.ensures

pub returns-in-Err-Failed-clause-read_only : goal.returns-in-Err-Failed-clause-read_only
returns-in-Err-Failed-clause-read_only g c = λ command is reads.
    only_said _ c.in-Ok.command command c.in-Ok-open.tree c.carry_out.ensures.0 (g.V.Device.state c.args.device.now) (g.V.Device.state c.open.new.device) (g.V.Device.state c.carry_out.new.device)
    c.open.ensures.left c.carry_out.ensures.1.untouched c.in-Ok.ensures is reads _ c.in-Ok-carry_out.reply.text (g.V.Device.state c.say.new.device) c.in-Err-Failed.ensures

pub returns-in-Err-NoMemory-say-clause-read_only : goal.returns-in-Err-NoMemory-say-clause-read_only
returns-in-Err-NoMemory-say-clause-read_only g c = λ command is reads.
    only_said _ c.in-Ok.command command c.in-Ok-open.tree c.carry_out.ensures.0 (g.V.Device.state c.args.device.now) (g.V.Device.state c.open.new.device) (g.V.Device.state c.carry_out.new.device)
    c.open.ensures.left c.carry_out.ensures.1.untouched c.in-Ok.ensures is reads _ c.in-Ok-carry_out.reply.text (g.V.Device.state c.say.new.device) c.in-Err-NoMemory-say.ensures

pub returns-in-Err-Damaged-clause-read_only : goal.returns-in-Err-Damaged-clause-read_only
returns-in-Err-Damaged-clause-read_only g c = λ command is reads. only_opened (g.V.Device.state c.args.device.now) (g.V.Device.state c.open.new.device) c.open.ensures.left

pub returns-in-Err-DeviceFault-clause-read_only : goal.returns-in-Err-DeviceFault-clause-read_only
returns-in-Err-DeviceFault-clause-read_only g c = λ command is reads. only_opened (g.V.Device.state c.args.device.now) (g.V.Device.state c.open.new.device) c.open.ensures.left

pub returns-in-Err-NoMemory-open-clause-read_only : goal.returns-in-Err-NoMemory-open-clause-read_only
returns-in-Err-NoMemory-open-clause-read_only g c = λ command is reads. only_opened (g.V.Device.state c.args.device.now) (g.V.Device.state c.open.new.device) c.open.ensures.left
