-- The rock that is listed first of those with an entry in the way.
use Rattle.std.proofs.Common.{◌≡◌, ℕ, ◌+◌, ◌<◌, List, [], ◌∷◌, ◌++◌, length, get_or, take, refl, sym, ap, subst, ◌∙◌, Bool, true, false, Option, Some, None, IsTrue}
use Rattle.std.specs.Bool.{MatchBool}
use Rattle.std.proofs.lemmas.Bool.{false_from_ne_true}
use Rattle.std.proofs.lemmas.List.{take_more}
use Rattle.std.proofs.lemmas.List.Elements.{All-push, All-weaker, Contains-push}
use Rattle.rocks_version.specs.Keys.{is_before}
use Rattle.rocks_version.specs.declared.key.RockKey.{RockKey}
use Rattle.rocks_version.proofs.OrderLaws.{listing_irreflexive, listing_transitive}
use Rattle.tree_claims.specs.Index.{GoesFirst, IsHitBy, IsLeastHit}
use Rattle.tree_claims.specs.declared.entry.Entry.{Entry}
use Rattle.tree_claims.proofs.Members.{any_from, any_left}

-- what does not go before a rock doesn't go before one that goes before it
pub still_not : (first middle last : RockKey) → IsTrue (is_before last middle) → is_before first middle ≡ false → is_before first last ≡ false
still_not first middle last less not_less =
    false_from_ne_true (is_before first last) (λ h. let clash = sym (listing_transitive first last middle h less) ∙ not_less in cc clash)

pub taken : (others mine : List Entry) (other : Entry) (least : Option RockKey) → IsLeastHit others mine least → IsHitBy mine other → GoesFirst other.key least → IsLeastHit (others ++ other ∷ []) mine (Some other.key)
taken others mine other None so_far hit goes = (
  any_from (λ (e : Entry). IsHitBy mine e × (e.key ≡ other.key)) (others ++ other ∷ []) other (Contains-push others other) (hit, refl),
  All-push (λ (e : Entry). IsHitBy mine e → is_before e.key other.key ≡ false) others other
      (All-weaker (λ (e : Entry). IsHitBy mine e → ⊥) (λ (e : Entry). IsHitBy mine e → is_before e.key other.key ≡ false) (λ e none h. absurd (none h)) others so_far)
      (λ h. listing_irreflexive other.key),
)
taken others mine other (Some least) so_far hit goes = (
  any_from (λ (e : Entry). IsHitBy mine e × (e.key ≡ other.key)) (others ++ other ∷ []) other (Contains-push others other) (hit, refl),
  All-push (λ (e : Entry). IsHitBy mine e → is_before e.key other.key ≡ false) others other
      (All-weaker (λ (e : Entry). IsHitBy mine e → is_before e.key least ≡ false) (λ (e : Entry). IsHitBy mine e → is_before e.key other.key ≡ false)
      (λ e none h. still_not e.key least other.key goes (none h)) others so_far.1)
      (λ h. listing_irreflexive other.key),
)

pub kept : (others mine : List Entry) (other : Entry) (least : Option RockKey) → IsLeastHit others mine least → (IsHitBy mine other → GoesFirst other.key least → ⊥) → IsLeastHit (others ++ other ∷ []) mine least
kept others mine other None so_far never = All-push (λ (e : Entry). IsHitBy mine e → ⊥) others other so_far (λ h. never h tt)
kept others mine other (Some least) so_far never = (
  any_left (λ (e : Entry). IsHitBy mine e × (e.key ≡ least)) others (other ∷ []) so_far.0,
  All-push (λ (e : Entry). IsHitBy mine e → is_before e.key least ≡ false) others other so_far.1 (λ h. false_from_ne_true (is_before other.key least) (never h)),
)

-- one more of the others
pub one_more : (others mine : List Entry) (i : ℕ) (other : Entry) (least : Option RockKey) → i < length others → other ≡ get_or others i other → IsLeastHit (take i others ++ other ∷ []) mine least → IsLeastHit (take (i + 1) others) mine least
one_more others mine i other least within is h =
    subst (λ (l : List Entry). IsLeastHit l mine least) (sym (take_more others i other within ∙ ap (λ (e : Entry). take i others ++ e ∷ []) (sym is))) h

pub next_if : (mine : List Entry) (other : Entry) (least : Option RockKey) (next : Bool) → next ≡ true
    → MatchBool next (IsHitBy mine other × GoesFirst other.key least) (IsHitBy mine other → ¬ (GoesFirst other.key least)) → IsHitBy mine other × GoesFirst other.key least
next_if mine other least true is h = h
next_if mine other least false is h = absurd cc

pub not_next_if : (mine : List Entry) (other : Entry) (least : Option RockKey) (next : Bool) → next ≡ false
    → MatchBool next (IsHitBy mine other × GoesFirst other.key least) (IsHitBy mine other → ¬ (GoesFirst other.key least)) → IsHitBy mine other → GoesFirst other.key least → ⊥
not_next_if mine other least true is h = absurd cc
not_next_if mine other least false is h = h
