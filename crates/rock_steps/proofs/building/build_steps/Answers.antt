use Rattle.std.proofs.Common.{List, IsTrue, sym, subst}
use Rattle.std.specs.List.{All}
use Rattle.rocks_text.specs.Texts.{is_file_path}
use Rattle.build_targets.specs.Places.{path_of}
use Rattle.build_targets.specs.declared.target.Target.{Target}
use Rattle.rock_steps.proofs.Recipes.{targets_stand}
use Rattle.rock_steps.proofs.building.build_steps.Goals as goal

pub target_steps-requires : goal.target_steps-requires
target_steps-requires c =
    let plan = c.requires in
    subst (λ (l : List Target). All (λ target. IsTrue (is_file_path (path_of target.to))) l) (sym c.as_slice.ensures)
    (targets_stand plan.0 plan.1 c.args.recipe.now plan.2)
