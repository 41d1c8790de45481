-- Why a rock can't be added to a set: the least of its paths that is not free, and the first rock that has it.
-- (This project's own.)
use Rattle.std.specs.Prelude.{ℕ, ◌≡◌, false, List, ◌∷◌, IsTrue}
use Rattle.std.specs.List.{Contains}
use Rattle.std.specs.Ordering.{is_le}
use Rattle.rocks_text.specs.Files.{path_cmp}
use Rattle.rocks_text.specs.declared.item.Item.{Item}
use Rattle.rocks_version.specs.Keys.{is_before}
use Rattle.rocks_version.specs.declared.key.RockKey.{RockKey}
use Rattle.tree_paths.specs.Conflicts.{Conflicts}
use Rattle.tree_claims.specs.Claims.{Claim, claim_path, claims_of, claims_of_rock, MayShare}
use Rattle.tree_claims.specs.declared.clash.Clash.{Clash}

-- a claim of the added rock, and one of the whole set that can't stand beside it
pub record Clashes (rocks : List (RockKey × List Item)) (key : RockKey) (items : List Item)
    (mine other : Claim) : Type 0 where
  pub added : Contains (claims_of_rock key items) mine
  pub among : Contains (claims_of ((key, items) ∷ rocks)) other
  pub meet : Conflicts (claim_path mine) (claim_path other)
  pub apart : ¬ (MayShare mine other)

-- two claims that clash, the added rock's at this path, and the other that of this rock
pub record IsBetween (rocks : List (RockKey × List Item)) (key : RockKey) (items : List Item)
    (path : List ℕ) (rock : RockKey) : Type 0 where
  pub mine : Claim
  pub other : Claim
  pub clashes : Clashes rocks key items mine other
  pub at : claim_path mine ≡ path
  pub of : other.key ≡ rock

-- No path of the added rock that clashes is less by bytes, and no rock with which this path clashes is listed before.
pub record IsClash (rocks : List (RockKey × List Item)) (key : RockKey) (items : List Item)
    (clash : Clash) : Type 0 where
  pub by : clash.by ≡ key
  pub between : IsBetween rocks key items clash.path clash.other
  pub least : (mine other : Claim) → Clashes rocks key items mine other
      → IsTrue (is_le (path_cmp clash.path (claim_path mine)))
  pub first : (rock : RockKey) → IsBetween rocks key items clash.path rock → is_before rock clash.other ≡ false
