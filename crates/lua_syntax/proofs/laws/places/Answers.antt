use Rattle.lua_syntax.proofs.Placed.{chunk_places}
use Rattle.lua_syntax.proofs.laws.places.Goals as goal

pub returns : goal.returns
returns c = λ chunk place derives is. chunk_places c.args.tokens.now chunk place derives.0 is
