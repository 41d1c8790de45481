use Rattle.std.proofs.Common.{◌≡◌, false, true, map, refl, string_bytes, subst, sym}
use Rattle.rocks_outside.proofs.Held.{sorted_from_ascending}
use Rattle.disk_paths.specs.Listings.{HasNoneBelow}
use Rattle.disk_paths.proofs.Apart.{apart_as_all, apart_behind, apart_first, apart_none, sorted_rest}
use Rattle.disk_paths.proofs.listing.are_apart.Goals as goal

pub loop-rest-init : goal.loop-rest-init
loop-rest-init c = record {
  question = (λ apart. apart, λ apart. apart);
  sorted = sorted_from_ascending (map string_bytes c.args.names.now) c.requires;
}

pub returns-then-not-none_below : goal.returns-then-not-none_below
returns-then-not-none_below c =
    let names = map string_bytes c.args.names.now in (
      λ holds. let never : false ≡ true = holds in cc,
      λ all. c.if-not-none_below.ensures.1 (subst (HasNoneBelow _) (sym c.as_str.ensures.value)
          (apart_first string_bytes c.loop-rest.rest.now c.first-item.result c.in-len1-up.len_at_least c.first-item.is
          (c.loop-rest.invariant.question.1 ((apart_as_all names (sorted_from_ascending names c.requires)).1 all)))),
    )

pub loop-rest-preserved : goal.loop-rest-preserved
loop-rest-preserved c = record {
  question = apart_behind string_bytes c.loop-rest.rest.now c.first-item.result _ c.in-len1-up.len_at_least c.first-item.is
      (subst (HasNoneBelow _) c.as_str.ensures.value (c.if-not-none_below.ensures.0 refl)) c.loop-rest.invariant.question;
  sorted = sorted_rest string_bytes c.loop-rest.rest.now c.in-len1-up.len_at_least c.loop-rest.invariant.sorted;
}

pub returns : goal.returns
returns c =
    let names = map string_bytes c.args.names.now in (
      λ _. (apart_as_all names (sorted_from_ascending names c.requires)).0 (c.loop-rest.invariant.question.0 (apart_none string_bytes c.loop-rest.rest.now c.in_default.len_below)),
      λ _. refl,
    )
