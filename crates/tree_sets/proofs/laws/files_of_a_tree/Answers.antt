use Rattle.tree_sets.proofs.TreeFiles.{only, each}
use Rattle.tree_sets.proofs.laws.files_of_a_tree.Goals as goal

pub returns-clause-only : goal.returns-clause-only
returns-clause-only c = only

pub returns-clause-each : goal.returns-clause-each
returns-clause-each c = each
