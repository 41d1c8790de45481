use Rattle.tree_sets.proofs.NoFolders.{no_folders}
use Rattle.tree_sets.proofs.laws.no_folder_is_a_file.Goals as goal

pub returns : goal.returns
returns c = no_folders
