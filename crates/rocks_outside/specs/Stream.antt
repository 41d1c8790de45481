-- A stream in memory, and what a call of it does.
use Rattle.std.specs.Prelude.{ℕ, zero, ◌+◌, ◌-◌, ◌^◌, Bool, true, false, List, length, drop, min, Option, None, Some, if◌then◌else◌}

-- the bytes not read yet, how many a call gives at most, how many calls come before the one that fails, and how often
-- the stream has failed
pub record Stream : Type 0 where
  pub left : List ℕ
  pub step : ℕ
  pub calls_left : Option ℕ
  pub faults : ℕ

-- whether the next call fails
abbrev pub is_failing : Option ℕ → Bool
is_failing (Some zero) = true
is_failing other = false

-- a call that doesn't fail comes before the one that does
abbrev pub one_less : Option ℕ → Option ℕ
one_less None = None
one_less (Some calls) = Some (calls - 1)

-- how many bytes a call gives that doesn't fail
abbrev pub given : (room : ℕ) → Stream → ℕ
given room stream = min (min stream.step room) (length stream.left)

-- after such a call
abbrev pub after_given : (room : ℕ) → Stream → Stream
after_given room stream = record stream { left = drop (given room stream) stream.left; calls_left = one_less stream.calls_left }

-- after the call that fails; a count of 64 bits stands still at its end
abbrev pub after_failed : Stream → Stream
after_failed stream = record stream { calls_left = None; faults = min (stream.faults + 1) (2 ^ 64 - 1) }

-- after a call with room for so many bytes
abbrev pub after_call : (room : ℕ) → Stream → Stream
after_call room stream = if is_failing stream.calls_left then after_failed stream else after_given room stream
