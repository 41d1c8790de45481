use Rattle.std.proofs.Common.{arith, sym, ◌∙◌}
use Rattle.std.proofs.lemmas.List.{get_or_read}
use Rattle.twofold_paths.proofs.PlaceOrder.{same_place, place_same}
use Rattle.twofold_paths.proofs.search.is_again.Goals as goal

pub returns-then-at-gt0 : goal.returns-then-at-gt0
returns-then-at-gt0 c = (
  λ yes'. (
    c.if-at-gt0.true,
    λ d.
        let same = same_place c.index-places-at.result c.index-places-at-then-at-gt0.result (sym c.eq.ensures ∙ yes') in
        sym (get_or_read c.args.places.now _ c.index-places-at.result (omega arith) c.index-places-at.is d) ∙ same ∙ get_or_read c.args.places.now _ c.index-places-at-then-at-gt0.result c.requires c.index-places-at-then-at-gt0.is d,
  ),
  λ again.
      let first = c.index-places-at.is in
      let second = get_or_read c.args.places.now _ c.index-places-at-then-at-gt0.result c.requires c.index-places-at-then-at-gt0.is c.index-places-at.result in
      c.eq.ensures ∙ place_same c.index-places-at.result c.index-places-at-then-at-gt0.result (first ∙ again.1 c.index-places-at.result ∙ sym second),
)
