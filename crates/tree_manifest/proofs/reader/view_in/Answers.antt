use Rattle.std.proofs.Common.{subst, sym}
use Rattle.std.proofs.lemmas.List.Sorted.{IsPermutation-trans}
use Rattle.tree_manifest.proofs.Again.{are_paths}
use Rattle.tree_manifest.proofs.OneOrder.{listed_again}
use Rattle.tree_manifest.proofs.Wholes.{gathered_of, IsGathered}
use Rattle.tree_manifest.proofs.reader.view_in.Goals as goal

pub returns-clause-known : goal.returns-clause-known
returns-clause-known c whole is same =
    let g = subst (IsGathered whole) (sym same) (gathered_of whole is) in
    let commands = c.in_ok-commands.ensures.known whole.commands (are_paths whole.commands is.commands) g.commands in
    let libs = c.in_ok-libs.ensures.known whole.libs (are_paths whole.libs is.libs) g.libs in
    let modules = c.in_ok-modules.ensures.known whole.modules (are_paths whole.modules is.modules) g.modules in
    let moved = IsPermutation-trans whole.rocks g.rocks c.in_ok-rocks.rocks g.same
    (c.in_ok-rocks.ensures.known g.rocks g.good g.dependencies) in
    let rocks = listed_again whole.rocks c.in_ok-rocks.rocks is.rocks c.in_ok-rocks.ensures.listed moved in
    λ i. record { commands = commands i; libs = libs i; modules = modules i; rocks = rocks i }
