use Rattle.std.proofs.Common.{sym, ◌∙◌}
use Rattle.lua_eval.proofs.Joined.{first_served}
use Rattle.lua_eval.proofs.join.first.Goals as goal

pub returns-in-Some-clause-served : goal.returns-in-Some-clause-served
returns-in-Some-clause-served c =
    first_served c.args.values.items c.next.new.self.rest.items c.in-Some.value (sym c.into_iter.ensures.rest ∙ c.in-Some.ensures.items) c.requires
