-- The order of where files stand.
use Rattle.std.proofs.Common.{◌≡◌, ◌<◌, ℕ, List, refl, sym, ap, ◌∙◌, subst, arith, rules}
use Rattle.std.specs.Cmp.{IsTotalOrder, IsStrictWeakOrder}
use Rattle.std.specs.Ordering.{is_lt}
use Rattle.std.specs.declared.cmp.Ordering.{Ordering}
use Rattle.std.specs.declared.cmp.Ordering.TheVariants.{Equal}
use Rattle.std.proofs.lemmas.Cmp.{on_total}
use Rattle.std.proofs.lemmas.List.Sorted.{ranks_by}
use Rattle.rocks_text.specs.Items.{rank_of}
use Rattle.rocks_text.specs.declared.item.Kind.{Kind}
use Rattle.rocks_text.specs.declared.item.Kind.TheVariants.{Lua, Lib, Bin}
use Rattle.build_targets.specs.contracts.target.DestOrd.TheImpl as impl
use Rattle.build_targets.specs.declared.target.Dest.{Dest}
use Rattle.build_targets.specs.declared.target.Dest.TheVariants as dests
use Rattle.build_targets.specs.declared.target.Target.{Target}
use Rattle.twofold_paths.specs.Search.{place_cmp}
use Rattle.twofold_paths.specs.declared.place.Place.{Place}
use Rattle.twofold_paths.proofs.PlaceOrder.{equal_places, place_total}
use Rattle.build_plan.specs.Plans.{dest_cmp, path_of, sort_of}
use Rattle.build_plan.specs.Steps.{place_of}

kinds_equal : (x y : Kind) → rank_of x ≡ rank_of y → x ≡ y
kinds_equal Lua Lua e = refl
kinds_equal Lua Lib e = absurd (omega arith)
kinds_equal Lua Bin e = absurd (omega arith)
kinds_equal Lib Lua e = absurd (omega arith)
kinds_equal Lib Lib e = refl
kinds_equal Lib Bin e = absurd (omega arith)
kinds_equal Bin Lua e = absurd (omega arith)
kinds_equal Bin Lib e = absurd (omega arith)
kinds_equal Bin Bin e = refl

rank_below : (kind : Kind) → rank_of kind < 3
rank_below Lua = omega arith
rank_below Lib = omega arith
rank_below Bin = omega arith

pub sort_below : (dest : Dest) → sort_of dest < 4
sort_below (dests.Item item) = let below = rank_below item.kind in omega arith
sort_below (dests.Conf path) = omega arith

pub dests_equal : (x y : Dest) → sort_of x ≡ sort_of y → path_of x ≡ path_of y → x ≡ y
dests_equal (dests.Item item) (dests.Item other) sorts paths = let kinds = kinds_equal item.kind other.kind sorts in λ i. dests.Item (record { kind = kinds i; path = paths i })
dests_equal (dests.Item item) (dests.Conf path) sorts paths = let below = rank_below item.kind in absurd (omega arith)
dests_equal (dests.Conf path) (dests.Item other) sorts paths = let below = rank_below other.kind in absurd (omega arith)
dests_equal (dests.Conf path) (dests.Conf other) sorts paths = ap dests.Conf paths

by_kind : (kind : Kind) (path other : List ℕ) → dest_cmp (dests.Item (record { kind = kind; path = path })) (dests.Conf other) ≡ place_cmp (place_of (dests.Item (record { kind = kind; path = path }))) (place_of (dests.Conf other))
by_kind Lua path other = refl
by_kind Lib path other = refl
by_kind Bin path other = refl

by_kind_back : (kind : Kind) (path other : List ℕ) → dest_cmp (dests.Conf other) (dests.Item (record { kind = kind; path = path })) ≡ place_cmp (place_of (dests.Conf other)) (place_of (dests.Item (record { kind = kind; path = path })))
by_kind_back Lua path other = refl
by_kind_back Lib path other = refl
by_kind_back Bin path other = refl

-- it is that of their places
pub cmp_is : (x y : Dest) → dest_cmp x y ≡ place_cmp (place_of x) (place_of y)
cmp_is (dests.Item item) (dests.Item other) = refl
cmp_is (dests.Item item) (dests.Conf path) = by_kind item.kind item.path path
cmp_is (dests.Conf path) (dests.Item other) = by_kind_back other.kind other.path path
cmp_is (dests.Conf path) (dests.Conf other) = refl

by_places : Dest → Dest → Ordering
by_places x y = place_cmp (place_of x) (place_of y)

by_place : IsTotalOrder by_places
unfolding by_places
by_place = on_total place_of place_total

same_at : (x y : Dest) → place_cmp (place_of x) (place_of y) ≡ dest_cmp x y
same_at x y = sym (cmp_is x y)

same_order : by_places ≡ dest_cmp
unfolding by_places
same_order = λ i x y. same_at x y i

pub dest_total : IsTotalOrder dest_cmp
dest_total = subst (λ (R : Dest → Dest → Ordering). IsTotalOrder R) same_order by_place

pub dest_equal : (x y : Dest) → dest_cmp x y ≡ Equal → x ≡ y
dest_equal x y e =
    let same = equal_places (place_of x) (place_of y) (sym (cmp_is x y) ∙ e) in
    dests_equal x y (ap (λ (p : Place). p.sort) same) (ap (λ (p : Place). p.path) same)

pub target_order : IsStrictWeakOrder (λ (x : Target) (y : Target). is_lt (dest_cmp x.to y.to))
target_order = ranks_by dest_total (λ (x : Target). x.to)

-- what `cmp` computes, as it is derived
pub derived_cmp : (x y : Dest) → impl.ghosts.cmp x y ≡ dest_cmp x y
derived_cmp (dests.Item item) (dests.Item other) = search rules
derived_cmp (dests.Item item) (dests.Conf path) = search rules
derived_cmp (dests.Conf path) (dests.Item other) = search rules
derived_cmp (dests.Conf path) (dests.Conf other) = search rules
