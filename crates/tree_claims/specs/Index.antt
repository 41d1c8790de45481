-- How claims are held so that one is found fast: an entry for each, in the order of their paths.
use Rattle.std.specs.Prelude.{ℕ, ◌≡◌, ◌≤◌, ◌<◌, ◌⊎◌, Bool, true, false, ◌&&◌, List, ◌++◌, length, take, slice_index_or, not, if◌then◌else◌, Option, Some, None, IsTrue}
use Rattle.std.specs.List.{All, Any, Contains, HoldsAt}
use Rattle.std.specs.List.Sorted.{IsPermutation, IsSortedBy}
use Rattle.std.specs.Ordering.{is_lt}
use Rattle.std.specs.Str.{bytes_eq}
use Rattle.rocks_text.specs.Files.{path_cmp}
use Rattle.rocks_text.specs.declared.item.Item.{Item}
use Rattle.rocks_version.specs.Keys.{is_before}
use Rattle.rocks_version.specs.declared.key.RockKey.{RockKey}
use Rattle.tree_paths.specs.Conflicts.{Conflicts}
use Rattle.tree_claims.specs.Claims.{Form, IsPlain, IsVersioned, Claim, claim_path, claims_of, IsClean}
use Rattle.tree_claims.specs.Rocks.{is_same_rock, IsListed}
use Rattle.tree_claims.specs.declared.entry.Entry.{Entry}

abbrev pub has_plain : Form → Bool
has_plain IsPlain = true
has_plain IsVersioned = false

abbrev pub entry_of : Claim → Entry
entry_of claim = record { path = claim_path claim; key = claim.key; is_plain = has_plain claim.form }

-- the path of one goes before that of the other
abbrev pub goes_before : Entry → Entry → Bool
goes_before left right = is_lt (path_cmp left.path right.path)

-- an entry for each claim and no other, in the order of paths
pub record IsIndex (claims : List Claim) (index : List Entry) : Type 0 where
  pub whole : (claim : Claim) → Contains claims claim → Contains index (entry_of claim)
  pub sound : (entry : Entry) → Contains index entry
      → (claim : Claim) × Contains claims claim × (entry ≡ entry_of claim)
  pub in_order : IsSortedBy goes_before index

-- of one path, which is the plain one of both, or the versioned one of the same claim
unfoldable pub may_stand : Entry → Entry → Bool
may_stand left right =
    bytes_eq left.path right.path
    && (if left.is_plain then right.is_plain else not right.is_plain && is_same_rock left.key right.key)

-- two entries whose claims can't stand beside each other
pub record Hits (mine other : Entry) : Type 0 where
  pub meet : Conflicts mine.path other.path
  pub apart : may_stand mine other ≡ false

-- none of the others and none of the own entries is in this one's way
pub record IsFree (others own : List Entry) (mine : Entry) : Type 0 where
  pub of_others : Any (Hits mine) others → ⊥
  pub of_own : Any (Hits mine) own → ⊥

-- the place of the first of the own entries that isn't free
abbrev pub IsFirstHit : (others own : List Entry) → Option ℕ → Type 0
IsFirstHit others own None = All (IsFree others own) own
IsFirstHit others own (Some at) =
    (at < length own) × All (IsFree others own) (take at own)
    × HoldsAt (λ mine. Any (Hits mine) others ⊎ Any (Hits mine) own) own at

-- some entries behind a place that have the path of the one there, and no others there have it
pub record AreOfPath (entries : List Entry) (first : ℕ) (group : List Entry) : Type 0 where
  pub members : (entry : Entry) → Contains group entry → Contains entries entry
  pub of_path : (entry d : Entry) → Contains group entry → entry.path ≡ (slice_index_or entries first d).path
  pub whole : (k : ℕ) (d : Entry) → first ≤ k → k < length entries
      → (slice_index_or entries k d).path ≡ (slice_index_or entries first d).path
      → Contains group (slice_index_or entries k d)

-- one of the entries is in this one's way
abbrev pub IsHitBy : List Entry → Entry → Type 0
IsHitBy mine other = Any (λ entry. Hits entry other) mine

-- the rock is listed before this one, if there is one
abbrev pub GoesFirst : RockKey → Option RockKey → Type 0
GoesFirst key None = Unit {0}
GoesFirst key (Some least) = IsTrue (is_before key least)

-- the rock that is listed first of those with an entry that one of some entries can't stand beside
abbrev pub IsLeastHit : (others mine : List Entry) → Option RockKey → Type 0
IsLeastHit others mine None = All (λ other. IsHitBy mine other → ⊥) others
IsLeastHit others mine (Some key) =
    Any (λ other. IsHitBy mine other × (other.key ≡ key)) others
    × All (λ other. IsHitBy mine other → is_before other.key key ≡ false) others

-- the first of two rocks: this one, if it is in question, or the other, if there is one
abbrev pub first_of : RockKey → Bool → Option RockKey → RockKey
first_of key in_question None = key
first_of key in_question (Some other) = if in_question && is_before key other then key else other

-- what is held: the rocks in their order, of which the claims can stand beside each other, and their index
pub record IsHeld (rocks : List (RockKey × List Item)) (index : List Entry) : Type 0 where
  pub listed : IsListed rocks
  pub clean : IsClean rocks
  pub indexed : IsIndex (claims_of rocks) index

-- the entries of both, in the order of paths
pub record AreMerged (left right both : List Entry) : Type 0 where
  pub same : IsPermutation (left ++ right) both
  pub in_order : IsSortedBy goes_before both
