use Rattle.build_plan.proofs.PlanLaws.{folders_beside, folders_differ, targets_beside, targets_differ}
use Rattle.build_plan.proofs.laws.targets_are_apart.Goals as goal

pub returns : goal.returns
returns c = record {
  differ = λ rockspec fields recipe plan. targets_differ rockspec fields recipe plan;
  beside = λ rockspec fields recipe upper lower plan. targets_beside rockspec fields recipe plan upper lower;
  folders_differ = λ rockspec fields recipe plan. folders_differ rockspec fields recipe plan;
  folders_beside = λ rockspec fields recipe folder other plan. folders_beside rockspec fields recipe plan folder other;
}
