-- The orders of versions. (LuaRocks; that `cvs`, `scm` and `dev` are above every number, however large, and the order
-- among versions that LuaRocks takes as equal are this project's own.)
use Rattle.std.specs.Prelude.{ℕ, ◌==◌, ◌-◌, max, List, ◌++◌, length, slice_index, replicate, codes, if◌then◌else◌, Option, Some, unwrap_or}
use Rattle.std.specs.Str.{bytes_eq}
use Rattle.std.specs.declared.cmp.Ordering.{Ordering}
use Rattle.std.specs.declared.cmp.Ordering.TheVariants.{Equal}
use Rattle.std.specs.Ordering.{nat_cmp, on, then_cmp}
use Rattle.std.specs.Cmp.Lexicographic.{slice_cmp}
use Rattle.rocks_version.specs.declared.component.Step.{Step}
use Rattle.rocks_version.specs.declared.component.Step.TheVariants as steps
use Rattle.rocks_version.specs.Components.{Component, Number, Word, components}
use Rattle.rocks_version.specs.Texts.{body, revision}

-- seven words have a step of their own, and the others share one
unfoldable pub word_step : List ℕ → Step
word_step word =
    if bytes_eq word (codes "alpha") then steps.Alpha
    else (if bytes_eq word (codes "beta") then steps.Beta
    else (if bytes_eq word (codes "pre") then steps.Pre
    else (if bytes_eq word (codes "rc") then steps.Rc
    else (if bytes_eq word (codes "cvs") then steps.Cvs
    else (if bytes_eq word (codes "scm") then steps.Scm
    else (if bytes_eq word (codes "dev") then steps.Dev
    else steps.Other))))))

-- 0 has a step of its own, and the other numbers share one
abbrev pub number_step : ℕ → Step
number_step n = if n == 0 then steps.Zero else steps.Positive

abbrev pub step_of : Component → Step
step_of (Number n) = number_step n
step_of (Word word) = word_step word

-- how many steps are below this one
abbrev pub height_of : Step → ℕ
height_of steps.Alpha = 0
height_of steps.Beta = 1
height_of steps.Pre = 2
height_of steps.Rc = 3
height_of steps.Zero = 4
height_of steps.Other = 5
height_of steps.Positive = 6
height_of steps.Cvs = 7
height_of steps.Scm = 8
height_of steps.Dev = 9

abbrev pub step_cmp : Step → Step → Ordering
step_cmp = on height_of nat_cmp

-- what orders the components of one step: numbers go by themselves, and words by their first byte
abbrev pub place_of : Component → ℕ
place_of (Number n) = n
place_of (Word word) = slice_index word 0

abbrev pub component_cmp : Component → Component → Ordering
component_cmp = then_cmp (on step_of step_cmp) (on place_of nat_cmp)

-- the components and, behind them, as many zeros as make them so many
abbrev pub padded : ℕ → List Component → List Component
padded count list = list ++ replicate (count - length list) (Number 0)

-- lists of components go by their first that differ, the shorter one padded with zeros
unfoldable pub components_cmp : List Component → List Component → Ordering
components_cmp left right =
    let count = max (length left) (length right)
    in slice_cmp component_cmp (padded count left) (padded count right)

-- by the components of the bodies
abbrev pub body_cmp : List ℕ → List ℕ → Ordering
body_cmp = on (λ text. components (body text)) components_cmp

-- revisions are compared where there are two
abbrev pub revision_cmp : Option ℕ → Option ℕ → Ordering
revision_cmp (Some left) (Some right) = nat_cmp left right
revision_cmp left right = Equal

-- by the bodies and then by the revisions, where both have one: LuaRocks' own comparison
unfoldable pub version_cmp : List ℕ → List ℕ → Ordering
version_cmp = then_cmp body_cmp (on revision revision_cmp)

-- by the bodies, then by the revisions, where none is the number 0, and then by the bytes
unfoldable pub version_rank : List ℕ → List ℕ → Ordering
version_rank = then_cmp body_cmp (then_cmp (on (λ text. unwrap_or (revision text) 0) nat_cmp) (slice_cmp nat_cmp))
