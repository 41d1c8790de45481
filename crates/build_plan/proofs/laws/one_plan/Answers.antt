use Rattle.build_plan.proofs.PlanLaws.{only_plan}
use Rattle.build_plan.proofs.laws.one_plan.Goals as goal

pub returns : goal.returns
returns c = only_plan
