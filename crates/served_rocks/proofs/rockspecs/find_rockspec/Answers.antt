use Rattle.std.proofs.Common.{IfSome, subst}
use Rattle.rockspec.specs.declared.read.TheConstants.{LONGEST_ROCKSPEC}
use Rattle.served_rocks.specs.Search.{IsFoundIn, IsFoundWithin}
use Rattle.served_rocks.specs.declared.search.Found.TheVariants.{TooLong, At}
use Rattle.served_rocks.proofs.Serving.{serving, too_long_there, unserving}
use Rattle.served_rocks.proofs.rockspecs.find_rockspec.Goals as goal

pub returns-in-TooLong-clause-unserved : goal.returns-in-TooLong-clause-unserved
returns-in-TooLong-clause-unserved g c =
    let H = (g.F.Shelf.state c.args.shelf.now).holds in
    let found = subst (λ f. IfSome H (λ servers. IsFoundIn LONGEST_ROCKSPEC servers c.in_ok-path.path f)) c.in-TooLong.is c.in_ok-find.ensures.found in
    let there = subst (λ path. IfSome H (λ servers. IsFoundIn LONGEST_ROCKSPEC servers path TooLong)) c.in_ok-path.ensures found in
    too_long_there c.args.origin c.args.key.now H c.in_ok-too_large-in-TooLong.field-0 c.in_ok-too_large-in-TooLong.ensures there

pub returns-clause-served : goal.returns-clause-served
returns-clause-served g c =
    let shelf = g.F.Shelf.state c.args.shelf.now in
    let found = subst (λ f. IfSome shelf.holds (λ servers. IsFoundIn LONGEST_ROCKSPEC servers c.in_ok-path.path f)) c.in-At.is c.in_ok-find.ensures.found in
    let there = subst (λ path. IfSome shelf.holds (λ servers. IsFoundIn LONGEST_ROCKSPEC servers path (At c.in-At.server c.in-At.bytes))) c.in_ok-path.ensures found in
    let within = subst (IsFoundWithin LONGEST_ROCKSPEC shelf.servers) c.in-At.is c.in_ok-find.ensures.within in
    serving c.args.origin c.args.key.now shelf c.in-At.server c.in-At.bytes within.0 there c.serve.result c.serve.ensures.served

pub returns-clause-unserved : goal.returns-clause-unserved
returns-clause-unserved g c =
    let H = (g.F.Shelf.state c.args.shelf.now).holds in
    let found = subst (λ f. IfSome H (λ servers. IsFoundIn LONGEST_ROCKSPEC servers c.in_ok-path.path f)) c.in-At.is c.in_ok-find.ensures.found in
    let there = subst (λ path. IfSome H (λ servers. IsFoundIn LONGEST_ROCKSPEC servers path (At c.in-At.server c.in-At.bytes))) c.in_ok-path.ensures found in
    unserving c.args.origin c.args.key.now H c.in-At.server c.in-At.bytes there c.serve.result c.serve.ensures.unserved
