-- Entries tell of claims whether they can stand beside each other.
use Rattle.std.proofs.Common.{◌≡◌, ℕ, List, ◌∷◌, refl, sym, ap, subst, ◌∙◌, Bool, true, false, ◌&&◌, inl, inr, ⊎_elim}
use Rattle.std.specs.List.{Contains}
use Rattle.std.specs.Str.{bytes_eq}
use Rattle.std.proofs.lemmas.Bool.{false_from_ne_true}
use Rattle.std.proofs.lemmas.Slice.Eq.{bytes_eq-Decides}
use Rattle.rocks_text.specs.declared.item.Item.{Item}
use Rattle.rocks_version.specs.declared.key.RockKey.{RockKey}
use Rattle.tree_paths.specs.Conflicts.{Conflicts}
use Rattle.tree_paths.specs.Places.{plain_path, versioned_path}
use Rattle.tree_paths.proofs.Apart.{plain_apart, versioned_apart}
use Rattle.tree_claims.specs.Claims.{Claim, Form, IsPlain, IsVersioned, claim_path, claims_of, claims_of_rock, MayShare}
use Rattle.tree_claims.specs.Clashes.{Clashes}
use Rattle.tree_claims.specs.Index.{entry_of, may_stand, Hits}
use Rattle.tree_claims.specs.Rocks.{is_same_rock}
use Rattle.tree_claims.proofs.RockSets.{is_same, same_rock}

and_both : (a b : Bool) → (a && b) ≡ true → (a ≡ true) × (b ≡ true)
and_both true b h = (refl, h)
and_both false b h = cc

both_and : (a b : Bool) → a ≡ true → b ≡ true → (a && b) ≡ true
both_and a b h g = rw (h, g) refl

abbrev claim_at : RockKey → Item → Form → Claim
claim_at key item form = record { key = key; item = item; form = form }

stand_share_at : (key rock : RockKey) (item other : Item) (form shape : Form) → may_stand (entry_of (claim_at key item form)) (entry_of (claim_at rock other shape)) ≡ true → MayShare (claim_at key item form) (claim_at rock other shape)
unfolding may_stand
stand_share_at key rock item other IsPlain IsPlain h =
    let parts = and_both (bytes_eq (plain_path item) (plain_path other)) true h in
    inr (refl, refl, plain_apart item other ((bytes_eq-Decides (plain_path item) (plain_path other)).0 parts.0))
stand_share_at key rock item other IsPlain IsVersioned h =
    let parts = and_both (bytes_eq (plain_path item) (versioned_path other rock)) false h in let never = parts.1 in absurd cc
stand_share_at key rock item other IsVersioned IsPlain h =
    let parts = and_both (bytes_eq (versioned_path item key) (plain_path other)) false h in let never = parts.1 in absurd cc
stand_share_at key rock item other IsVersioned IsVersioned h =
    let parts = and_both (bytes_eq (versioned_path item key) (versioned_path other rock)) (is_same_rock key rock) h in
    let keys = same_rock key rock parts.1 in
    let paths = (bytes_eq-Decides (versioned_path item key) (versioned_path other rock)).0 parts.0 in
    let items = versioned_apart key item other (paths ∙ ap (versioned_path other) (sym keys)) in
    inl (λ i. record { key = keys i; item = items i; form = IsVersioned })

pub stand_share : (left right : Claim) → may_stand (entry_of left) (entry_of right) ≡ true → MayShare left right
stand_share left right h = stand_share_at left.key right.key left.item right.item left.form right.form h

stands_itself : (key : RockKey) (item : Item) (form : Form) → may_stand (entry_of (claim_at key item form)) (entry_of (claim_at key item form)) ≡ true
unfolding may_stand
stands_itself key item IsPlain = both_and (bytes_eq (plain_path item) (plain_path item)) true ((bytes_eq-Decides (plain_path item) (plain_path item)).1 refl) refl
stands_itself key item IsVersioned =
    both_and (bytes_eq (versioned_path item key) (versioned_path item key)) (is_same_rock key key) ((bytes_eq-Decides (versioned_path item key) (versioned_path item key)).1 refl) (is_same key key refl)

plain_stand : (key rock : RockKey) (item other : Item) → item ≡ other → may_stand (entry_of (claim_at key item IsPlain)) (entry_of (claim_at rock other IsPlain)) ≡ true
unfolding may_stand
plain_stand key rock item other e =
    both_and (bytes_eq (plain_path item) (plain_path other)) true ((bytes_eq-Decides (plain_path item) (plain_path other)).1 (ap plain_path e)) refl

plain_forms : (left right : Claim) → left.form ≡ IsPlain → right.form ≡ IsPlain → left.item ≡ right.item → may_stand (entry_of left) (entry_of right) ≡ true
plain_forms left right f g e =
    subst (λ (form : Form). may_stand (entry_of (claim_at left.key left.item form)) (entry_of right) ≡ true) (sym f)
    (subst (λ (form : Form). may_stand (entry_of (claim_at left.key left.item IsPlain)) (entry_of (claim_at right.key right.item form)) ≡ true) (sym g)
    (plain_stand left.key right.key left.item right.item e))

pub share_stand : (left right : Claim) → MayShare left right → may_stand (entry_of left) (entry_of right) ≡ true
share_stand left right share =
    ⊎_elim (λ e. subst (λ (c : Claim). may_stand (entry_of left) (entry_of c) ≡ true) e (stands_itself left.key left.item left.form))
    (λ plain. plain_forms left right plain.0 plain.1 plain.2) share

pub share_back : (left right : Claim) → MayShare left right → MayShare right left
share_back left right share = ⊎_elim (λ e. inl (sym e)) (λ plain. inr (plain.1, plain.0, sym plain.2)) share

pub conflict_back : (left right : List ℕ) → Conflicts left right → Conflicts right left
conflict_back left right met = ⊎_elim (λ e. inl (sym e)) (⊎_elim (λ below. inr (inr below)) (λ above. inr (inl above))) met

-- claims that conflict share their paths unless their entries hit each other
pub shares : (left right : Claim) → Conflicts (claim_path left) (claim_path right) → (Hits (entry_of left) (entry_of right) → ⊥) → MayShare left right
shares left right met none =
    elim (may_stand (entry_of left) (entry_of right)) as (λ b. may_stand (entry_of left) (entry_of right) ≡ b → MayShare left right) [
      | true ↦ λ h. stand_share left right h
      | false ↦ λ h. absurd (none (record { meet = met; apart = h }))
    ] refl

pub clash_if : (rocks : List (RockKey × List Item)) (key : RockKey) (items : List Item) (mine other : Claim) → Contains (claims_of_rock key items) mine → Contains (claims_of ((key, items) ∷ rocks)) other
    → Hits (entry_of mine) (entry_of other) → Clashes rocks key items mine other
clash_if rocks key items mine other added among hits = record {
  added = added;
  among = among;
  meet = hits.meet;
  apart = λ share. let clash = sym (share_stand mine other share) ∙ hits.apart in cc clash;
}

pub hits_if : (rocks : List (RockKey × List Item)) (key : RockKey) (items : List Item) (mine other : Claim) → Clashes rocks key items mine other → Hits (entry_of mine) (entry_of other)
hits_if rocks key items mine other clash = record {
  meet = clash.meet;
  apart = false_from_ne_true (may_stand (entry_of mine) (entry_of other)) (λ h. clash.apart (stand_share mine other h));
}
