-- Which line on standard error goes with which status.
use Rattle.std.specs.Prelude.{◌≡◌, Option, None, Some}
use Rattle.rocks_session.specs.declared.status.Status.{Status}
use Rattle.rocks_session.specs.declared.status.Status.TheVariants as status
use Rattle.rocks_program.specs.declared.status_line.StatusLine.{StatusLine}
use Rattle.rocks_program.specs.declared.status_line.StatusLine.TheVariants as line

-- a run that carried its commands out has none
abbrev pub IsLineOf : Status → Option StatusLine → Type 0
IsLineOf status.Done shown = shown ≡ None
IsLineOf status.Refused shown = shown ≡ None
IsLineOf status.BadWords shown = shown ≡ Some line.BadWords
IsLineOf status.NoMemory shown = shown ≡ Some line.NoMemory
IsLineOf status.DeviceFault shown = shown ≡ Some line.DeviceFault
IsLineOf status.ShelfFault shown = shown ≡ Some line.ShelfFault
IsLineOf (status.Damaged path) (Some (line.Damaged shown)) = shown.now ≡ path
IsLineOf (status.Damaged path) other = ⊥
