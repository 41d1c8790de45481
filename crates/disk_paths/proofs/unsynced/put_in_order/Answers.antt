use Rattle.std.proofs.Common.{◌≡◌, refl, reverse, subst, sym, ◌∙◌, ap}
use Rattle.std.specs.List.{Contains, dedup}
use Rattle.std.specs.Ordering.{eq_by_cmp}
use Rattle.std.proofs.lemmas.Cmp.{eq_by_cmp_equiv}
use Rattle.std.proofs.lemmas.List.{reverse-reverse}
use Rattle.std.proofs.lemmas.List.Filters.{dedup_is}
use Rattle.std.proofs.lemmas.List.Kept.{Contains-dedup, Contains-from_dedup, IsStrictlySortedBy-dedup}
use Rattle.std.proofs.lemmas.List.Sorted.{Contains-permutation, IsPermutation-sym}
use Rattle.rocks_text.specs.Files.{path_cmp}
use Rattle.rocks_outside.specs.Device.{IsAscending}
use Rattle.rocks_outside.proofs.Held.{ascending_from_sorted, same_path, total}
use Rattle.disk_paths.proofs.unsynced.put_in_order.Goals as goal

pub returns-clause-same : goal.returns-clause-same
returns-clause-same c = λ path.
    let before = c.args.paths.now.items in
    let sorted = c.sort_unstable.new.self.items in
    let once = c.dedup.new.self.items in
    let after = c.reverse.new.self.items in
    let kept : once ≡ dedup (eq_by_cmp path_cmp) sorted = dedup_is (eq_by_cmp path_cmp) sorted once c.dedup.ensures.filtered in
    let turned = c.reverse.ensures.permutation in (
      λ held. Contains-permutation once after path turned
          (subst (λ paths. Contains paths path) (sym kept)
          (Contains-dedup (eq_by_cmp_equiv total) (λ x y same. (same_path x y).0 same) sorted path
          (Contains-permutation before sorted path c.sort_unstable.ensures.permutation held))),
      λ held. Contains-permutation sorted before path (IsPermutation-sym before sorted c.sort_unstable.ensures.permutation)
          (Contains-from_dedup (eq_by_cmp path_cmp) sorted path
          (subst (λ paths. Contains paths path) kept
          (Contains-permutation after once path (IsPermutation-sym once after turned) held))),
    )

pub returns-clause-order : goal.returns-clause-order
returns-clause-order c =
    let sorted = c.sort_unstable.new.self.items in
    let once = c.dedup.new.self.items in
    let kept : once ≡ dedup (eq_by_cmp path_cmp) sorted = dedup_is (eq_by_cmp path_cmp) sorted once c.dedup.ensures.filtered in
    let back : reverse c.reverse.new.self.items ≡ once = ap reverse c.reverse.ensures.items ∙ reverse-reverse once in
    subst IsAscending (sym (back ∙ kept))
    (ascending_from_sorted (dedup (eq_by_cmp path_cmp) sorted)
    (IsStrictlySortedBy-dedup total (λ x y. refl) sorted c.sort_unstable.ensures.sorted))
