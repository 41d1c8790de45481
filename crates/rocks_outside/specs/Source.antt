-- What a read of a stream does.
use Rattle.std.specs.Prelude.{ℕ, ◌≡◌, ◌⊎◌, ◌≤◌, ◌↔◌, List, [], length, take, drop}

-- n bytes of what is left have come to the front of the piece; none only where there is nothing to give or no room
pub record Gives (n : ℕ) (piece_before piece_now left_before left_now : List ℕ) : Type 0 where
  pub enough : n ≤ length left_before
  pub given : take n piece_now ≡ take n left_before
  pub rest : left_now ≡ drop n left_before
  pub none : (n ≡ 0) ↔ ((piece_before ≡ []) ⊎ (left_before ≡ []))
