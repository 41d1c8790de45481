use Rattle.twofold_paths.proofs.Taken.{place_told}
use Rattle.twofold_paths.proofs.search.has_place.Goals as goal

pub returns : goal.returns
returns c = place_told c.args.places.now (record { sort = c.args.sort; path = c.args.path.now }) c.requires c.place_of.result c.is_ok.result c.is_ok.ensures.value c.place_of.ensures.bound c.place_of.ensures.place
