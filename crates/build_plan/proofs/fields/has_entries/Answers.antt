use Rattle.std.proofs.Common.{ap, ◌∙◌}
use Rattle.lua_value.specs.Pairs.{count}
use Rattle.build_plan.proofs.Meant.{some_pairs}
use Rattle.build_plan.proofs.fields.has_entries.Goals as goal

pub returns : goal.returns
returns c = some_pairs _ c.len.result (c.len.ensures ∙ ap count c.in_ok-table_at.ensures.value)
