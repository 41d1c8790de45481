use Rattle.std.proofs.Common.{◌≡◌, ◌++◌}
use Rattle.std.specs.Bool.{nat_eq}
use Rattle.std.specs.List.{filter, starts_with}
use Rattle.std.specs.BTreeMap.{keys}
use Rattle.rocks_outside.proofs.memory_device.paths_from.Given as goal

-- the paths so far and those of the keys to come are those of all keys
abbrev pub invariant-loop-path : goal.invariant-loop-path
invariant-loop-path l =
    l.paths.items ++ filter (λ path. starts_with nat_eq path l.prefix) l.path-iterator ≡ filter (λ path. starts_with nat_eq path l.prefix) (keys l.files)
