-- The first rock that meets a dependency.
use Rattle.std.proofs.Common.{◌≡◌, ◌≢◌, Bool, true, false, cond, List, [], ◌∷◌, Some, None, refl, sym, ap, subst, ◌∙◌, inl, inr, ⊎_elim, IsTrue}
use Rattle.std.specs.Prelude.{◌⊎◌}
use Rattle.std.specs.List.{find, Contains}
use Rattle.std.specs.List.Sorted.{IsStrictlySortedBy}
use Rattle.std.specs.Ordering.{is_lt}
use Rattle.std.specs.declared.cmp.Ordering.TheVariants.{Less}
use Rattle.rocks_constraint.specs.Wanted.{Wanted}
use Rattle.rocks_version.proofs.OrderLaws.{is_before_is}
use Rattle.rocks_version.specs.Keys.{is_before, listing_cmp}
use Rattle.rocks_version.specs.declared.key.RockKey.{RockKey}
use Rattle.tree_claims.proofs.Members.{cons_behind, cons_cases, cons_here}
use Rattle.tree_sets.proofs.Rows.{all_at}
use Rattle.tree_sets.specs.Needs.{is_met_by}
use Rattle.tree_sets.specs.Sets.{AreListed}

none_some : {X : Type 0} (x : X) → None ≢ Some x
none_some x e = cc

some_same : {X : Type 0} (x y : X) → Some x ≡ Some y → x ≡ y
some_same x y e = cc

-- the first of some rocks that passes a test is listed before all others that do
pub first_passing : (p : RockKey → Bool) (keys : List RockKey) (key other : RockKey) → AreListed keys → find p keys ≡ Some key
    → Contains keys other → p other ≡ true → (other ≡ key) ⊎ IsTrue (is_before key other)
unfolding IsStrictlySortedBy
first_passing p [] key other up found among passes = absurd (none_some key found)
first_passing p (first ∷ keys) key other up found among passes =
    elim (p first) as (λ b. p first ≡ b → cond b (Some first) (find p keys) ≡ Some key → (other ≡ key) ⊎ IsTrue (is_before key other)) [
      | true ↦ λ _ is.
          let here = some_same first key is in
          ⊎_elim (λ e. inl (sym e ∙ here))
          (λ behind. inr (subst (λ (k : RockKey). IsTrue (is_before k other)) here
          (is_before_is first other ∙ ap is_lt (all_at (λ k. listing_cmp first k ≡ Less) keys other up.0 behind))))
          (cons_cases first keys other among)
      | false ↦ λ fails is.
          ⊎_elim (λ e. let clash = sym passes ∙ ap p (sym e) ∙ fails in absurd cc)
          (λ behind. first_passing p keys key other up.1 is behind passes) (cons_cases first keys other among)
    ] refl found

pub find_contains : (p : RockKey → Bool) (keys : List RockKey) (key : RockKey) → find p keys ≡ Some key → Contains keys key × (p key ≡ true)
find_contains p [] key found = absurd (none_some key found)
find_contains p (first ∷ keys) key found =
    elim (p first) as (λ b. p first ≡ b → cond b (Some first) (find p keys) ≡ Some key → Contains (first ∷ keys) key × (p key ≡ true)) [
      | true ↦ λ passes is.
          let here = some_same first key is in
          (subst (λ (k : RockKey). Contains (first ∷ keys) k) here (cons_here first keys), ap p (sym here) ∙ passes)
      | false ↦ λ _ is. let more = find_contains p keys key is in (cons_behind first keys key more.0, more.1)
    ] refl found

pub newest : (keys : List RockKey) (wanted : Wanted) (key other : RockKey) → AreListed keys → find (is_met_by wanted) keys ≡ Some key
    → Contains keys other → IsTrue (is_met_by wanted other) → (other ≡ key) ⊎ IsTrue (is_before key other)
newest keys wanted key other = first_passing (is_met_by wanted) keys key other
