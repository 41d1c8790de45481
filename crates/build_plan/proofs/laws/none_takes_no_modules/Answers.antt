use Rattle.build_plan.proofs.PlanLaws.{not_of_modules, target_not_of_modules}
use Rattle.build_plan.proofs.laws.none_takes_no_modules.Goals as goal

pub returns : goal.returns
returns c = record { entries = not_of_modules; targets = target_not_of_modules }
