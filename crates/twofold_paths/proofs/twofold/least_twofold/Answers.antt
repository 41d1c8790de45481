use Rattle.std.proofs.Common.{List, Some, None, length, sym, subst}
use Rattle.twofold_paths.specs.Places.{IsLeastTwofoldPath}
use Rattle.twofold_paths.specs.Search.{IsLeastTaken}
use Rattle.twofold_paths.specs.declared.place.Place.{Place}
use Rattle.twofold_paths.proofs.Taken.{told}
use Rattle.twofold_paths.proofs.twofold.least_twofold.Goals as goal

pub returns-in-Some : goal.returns-in-Some
returns-in-Some c =
    subst (IsLeastTwofoldPath c.args.places.items) (sym c.in_ok-copy-in-Some.ensures)
    (told c.args.places.items c.sort.new.self.items (Some c.in-Some.path.now) c.in_ok-sort.ensures.permutation c.in_ok-sort.ensures.sorted
    (subst (λ (l : List Place). IsLeastTaken l (length l) (Some c.in-Some.path.now)) c.deref.ensures.value c.in-Some.ensures))

pub returns : goal.returns
returns c =
    told c.args.places.items c.sort.new.self.items None c.in_ok-sort.ensures.permutation c.in_ok-sort.ensures.sorted
    (subst (λ (l : List Place). IsLeastTaken l (length l) None) c.deref.ensures.value c.in-None.ensures)
