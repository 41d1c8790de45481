use Rattle.std.proofs.Common.{◌≡◌, map, take}
use Rattle.disk_paths.specs.Places.{whole_of}
use Rattle.disk_paths.proofs.unsynced.sync_each.Given as goal

abbrev pub invariant-loop-path : goal.invariant-loop-path
invariant-loop-path g l = map (λ synced. synced.at) l.all.items ≡ map (whole_of l.root) (take l.path-index l.paths)
