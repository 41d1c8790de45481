use Rattle.std.proofs.Common.{◌≡◌, true, false, sym, subst, ◌∙◌, codes}
use Rattle.std.specs.Str.{bytes_eq}
use Rattle.served_rocks.specs.Fetched.{IsNoRock}
use Rattle.served_rocks.proofs.Keeping.{kept_same}
use Rattle.rocks_session.specs.Step.{command_from}
use Rattle.rocks_session.proofs.Adding.{answered, joins, provided, unfetched}
use Rattle.rocks_session.proofs.add.add.Goals as goal

pub returns-then-eq : goal.returns-then-eq
returns-then-eq g c =
    let key = c.args.key.now in
    let keys = c.args.tree.now in
    let device = g.V.Device.state c.args.device.now in
    let shelf = g.F.Shelf.state c.args.shelf.now in
    let reply = c.in_ok-refused.field-0 in
    let lua : bytes_eq key.name (codes "lua") ≡ true = rw (← c.as_str.ensures.value) (sym c.eq.ensures ∙ c.if-eq.true) in
    answered (command_from c.args.origin key) keys device shelf shelf reply (kept_same shelf)
    (provided c.args.origin key keys device shelf.holds lua reply c.in_ok-refused.ensures.refusal c.in_ok-refused.ensures.text)

pub returns-in-Ok : goal.returns-in-Ok
returns-in-Ok g c =
    let key = c.args.key.now in
    let other : bytes_eq key.name (codes "lua") ≡ false = rw (← c.as_str.ensures.value) (sym c.eq.ensures ∙ c.if-eq.false) in
    joins c.args.origin key c.args.tree.now c.join.new.tree (g.V.Device.state c.args.device.now) (g.V.Device.state c.join.new.device) (g.F.Shelf.state c.args.shelf.now) (g.F.Shelf.state c.fetch.new.shelf) c.in-Ok.ensures.asks.kept
    other c.in-Ok.rock c.in-Ok.ensures.rock c.join.result c.join.ensures

pub returns-in_ok-refused-in-Err-Refused : goal.returns-in_ok-refused-in-Err-Refused
returns-in_ok-refused-in-Err-Refused g c =
    let key = c.args.key.now in
    let keys = c.args.tree.now in
    let device = g.V.Device.state c.args.device.now in
    let shelf = g.F.Shelf.state c.args.shelf.now in
    let reply = c.in_ok-refused-in-Err-Refused.field-0 in
    let other : bytes_eq key.name (codes "lua") ≡ false = rw (← c.as_str.ensures.value) (sym c.eq.ensures ∙ c.if-eq.false) in
    let no_rock = subst (IsNoRock c.args.origin key shelf.holds) c.in-Err-Refused.field-0-is c.in-Err-Refused.ensures.no_rock in
    answered (command_from c.args.origin key) keys device shelf (g.F.Shelf.state c.fetch.new.shelf) reply c.in-Err-Refused.ensures.asks.kept
    (unfetched c.args.origin key keys device shelf.holds other c.in-Err-Refused.refusal no_rock reply c.in_ok-refused-in-Err-Refused.ensures.refusal c.in_ok-refused-in-Err-Refused.ensures.text)
