use Rattle.tree_moves.proofs.RenameLaws.{others, sources, targets}
use Rattle.tree_moves.proofs.laws.moved_files.Goals as goal

pub returns-clause-targets : goal.returns-clause-targets
returns-clause-targets c = targets

pub returns-clause-sources : goal.returns-clause-sources
returns-clause-sources c = sources

pub returns-clause-others : goal.returns-clause-others
returns-clause-others c = others
