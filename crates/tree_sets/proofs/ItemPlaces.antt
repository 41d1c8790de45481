-- Where the items of a set stand: no two of them at one place.
use Rattle.std.proofs.Common.{◌≡◌, ℕ, true, false, cond, List, [], ◌∷◌, refl, sym, ap, subst, ◌∙◌, inl, ⊎_elim}
use Rattle.std.specs.List.{Contains}
use Rattle.rocks_text.specs.declared.item.Item.{Item}
use Rattle.rocks_version.specs.declared.key.RockKey.{RockKey}
use Rattle.tree_claims.proofs.Members.{cons_behind, cons_here, flat_contains, map_contains}
use Rattle.tree_claims.proofs.RockSets.{has_claims, same_rock}
use Rattle.tree_claims.specs.Claims.{claims_for, claims_of, Claim, Form, IsPlain, IsVersioned, IsClean, path_of}
use Rattle.tree_claims.specs.Rocks.{is_same_rock}
use Rattle.tree_paths.specs.Places.{plain_path, versioned_path}
use Rattle.tree_sets.specs.Places.{place_among, place_of, providers_of}
use Rattle.tree_sets.specs.Sets.{claimed}
use Rattle.tree_sets.specs.declared.entry.IndexEntry.{IndexEntry}

-- the rock is the first of these
abbrev pub IsFirst : List RockKey → RockKey → Type 0
IsFirst [] key = ⊥
IsFirst (first ∷ others) key = first ≡ key

one_first : (keys : List RockKey) (left right : RockKey) → IsFirst keys left → IsFirst keys right → left ≡ right
one_first [] left right h g = absurd h
one_first (first ∷ others) left right h g = sym h ∙ g

not_plain : IsVersioned ≡ IsPlain → ⊥
not_plain e = cc

-- a place is the plain path or the versioned one, and the plain one is that of the first alone
abbrev pub IsPlaced : List RockKey → RockKey → Item → List ℕ → Type 0
IsPlaced keys key item path = (form : Form) × (path ≡ path_of form item key) × (form ≡ IsPlain → IsFirst keys key)

pub placed_among : (keys : List RockKey) (key : RockKey) (item : Item) → IsPlaced keys key item (place_among keys key item)
placed_among [] key item = (IsVersioned, refl, λ e. absurd (not_plain e))
placed_among (first ∷ others) key item =
    elim (is_same_rock first key) as (λ b. is_same_rock first key ≡ b → IsPlaced (first ∷ others) key item (cond b (plain_path item) (versioned_path item key))) [
      | true ↦ λ is. (IsPlain, refl, λ _. same_rock first key is)
      | false ↦ λ _. (IsVersioned, refl, λ e. absurd (not_plain e))
    ] refl

pub placed : (entries : List IndexEntry) (key : RockKey) (item : Item) → IsPlaced (providers_of entries item) key item (place_of entries key item)
placed entries key item = placed_among (providers_of entries item) key item

abbrev claim_at : RockKey → Item → Form → Claim
claim_at key item form = record { key = key; item = item; form = form }

one_claim : (key : RockKey) (item : Item) (form : Form) → Contains (claims_for key item) (claim_at key item form)
one_claim key item IsPlain = cons_here (claim_at key item IsPlain) (claim_at key item IsVersioned ∷ [])
one_claim key item IsVersioned =
    cons_behind (claim_at key item IsPlain) (claim_at key item IsVersioned ∷ []) (claim_at key item IsVersioned) (cons_here (claim_at key item IsVersioned) [])

-- both paths of each item are claimed
pub claimed_at : (entries : List IndexEntry) (entry : IndexEntry) (item : Item) (form : Form) → Contains entries entry → Contains entry.items item
    → Contains (claims_of (claimed entries)) (record { key = entry.key; item = item; form = form })
claimed_at entries entry item form among has =
    has_claims (claimed entries) (entry.key, entry.items) (claim_at entry.key item form)
    (map_contains (λ (e : IndexEntry). (e.key, e.items)) entries entry among)
    (flat_contains (claims_for entry.key) entry.items item (claim_at entry.key item form) has (one_claim entry.key item form))

-- items at one place are one item of one rock
pub one_place : (entries : List IndexEntry) → IsClean (claimed entries) → (x y : IndexEntry) (item other : Item)
    → Contains entries x → Contains entries y → Contains x.items item → Contains y.items other
    → place_of entries x.key item ≡ place_of entries y.key other → (x.key ≡ y.key) × (item ≡ other)
one_place entries clean x y item other x_in y_in has too same =
    let left = placed entries x.key item in
    let right = placed entries y.key other in
    let share = clean.share (claim_at x.key item left.0) (claim_at y.key other right.0)
    (claimed_at entries x item left.0 x_in has) (claimed_at entries y other right.0 y_in too)
    (inl (sym left.1 ∙ same ∙ right.1)) in
    ⊎_elim (λ e. (ap (λ (c : Claim). c.key) e, ap (λ (c : Claim). c.item) e))
    (λ plain. (
      one_first (providers_of entries item) x.key y.key (left.2 plain.0)
          (subst (λ (i : Item). IsFirst (providers_of entries i) y.key) (sym plain.2) (right.2 plain.1)),
      plain.2,
    )) share
