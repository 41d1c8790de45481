-- How the faults of builds are told. (This project's own.)
use Rattle.std.specs.Prelude.{ℕ, List, ◌++◌, codes}
use Rattle.rock_files.specs.declared.fault.BuildFault.{BuildFault}
use Rattle.rock_files.specs.declared.fault.BuildFault.TheVariants.{NoSourceFolder, MissingFile, TooLarge, BadTarget, ShelfFault, NoMemory}

abbrev pub build_fault_text : BuildFault → List ℕ
build_fault_text NoSourceFolder = codes "NoSourceFolder"
build_fault_text (MissingFile path) = codes "MissingFile " ++ path
build_fault_text (TooLarge path) = codes "TooLarge " ++ path
build_fault_text (BadTarget path) = codes "BadTarget " ++ path
build_fault_text ShelfFault = codes "ShelfFault"
build_fault_text NoMemory = codes "NoMemory"
