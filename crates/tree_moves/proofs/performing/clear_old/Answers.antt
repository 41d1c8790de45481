use Rattle.std.proofs.Common.{◌≡◌, List, ℕ, IfSome, sym, subst}
use Rattle.rocks_outside.specs.Device.{paths_from}
use Rattle.tree_moves.specs.Moves.{old_folder}
use Rattle.tree_moves.proofs.Clearing.{clears}
use Rattle.tree_moves.proofs.performing.clear_old.Goals as goal

pub returns : goal.returns
returns g c =
    let first = g.V.Device.state c.args.device.now in
    let listed = subst (λ (paths : List (List ℕ)). IfSome first.files (λ files. paths ≡ paths_from old_folder files)) (sym c.deref.ensures.value) c.in_ok-paths.ensures.listed in
    clears c.deref.result.now c.in_ok-paths.paths first (g.V.Device.state c.list.new.self) (g.V.Device.state c.remove_all.new.device) listed c.in_ok-paths.ensures.looks c.remove_all.result c.remove_all.ensures
