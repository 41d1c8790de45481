-- When a version meets constraints. (LuaRocks.)
use Rattle.std.specs.Prelude.{ℕ, Bool, true, false, ◌==◌, ◌&&◌, not, List, [], ◌∷◌, Option, Some, None}
use Rattle.std.specs.List.{list_all}
use Rattle.std.specs.Ordering.{is_eq, is_ge, is_gt, is_le, is_lt}
use Rattle.rocks_version.specs.Components.{Component, Number, components}
use Rattle.rocks_version.specs.Orders.{component_cmp, version_cmp}
use Rattle.rocks_version.specs.Texts.{body, revision}
use Rattle.rocks_constraint.specs.declared.constraint.Constraint.{Constraint}
use Rattle.rocks_constraint.specs.declared.constraint.Operator.{Operator}
use Rattle.rocks_constraint.specs.declared.constraint.Operator.TheVariants.{Eq, Ne, Lt, Gt, Le, Ge, Near}

-- components are the same where they are compared as equal
abbrev pub is_same : Component → Component → Bool
is_same c d = is_eq (component_cmp c d)

-- equally many components, each the same as the other list's
unfoldable pub are_same : List Component → List Component → Bool
are_same [] [] = true
are_same [] (d ∷ ds) = false
are_same (c ∷ cs) [] = false
are_same (c ∷ cs) (d ∷ ds) = is_same c d && are_same cs ds

-- the first list, followed by zeros, begins with the second
unfoldable pub begin_with : List Component → List Component → Bool
begin_with cs [] = true
begin_with [] (d ∷ ds) = is_same (Number 0) d && begin_with [] ds
begin_with (c ∷ cs) (d ∷ ds) = is_same c d && begin_with cs ds

-- the revisions are equal, if there are two
abbrev pub same_revisions : Option ℕ → Option ℕ → Bool
same_revisions (Some left) (Some right) = left == right
same_revisions left right = true

-- the revision is the one given, if one is given
abbrev pub near_revisions : Option ℕ → Option ℕ → Bool
near_revisions revision None = true
near_revisions (Some revision) (Some given) = revision == given
near_revisions None (Some given) = false

abbrev pub is_equal : List ℕ → List ℕ → Bool
is_equal version given =
    are_same (components (body version)) (components (body given)) && same_revisions (revision version) (revision given)

abbrev pub is_near : List ℕ → List ℕ → Bool
is_near version given =
    begin_with (components (body version)) (components (body given)) && near_revisions (revision version) (revision given)

-- whether a version stands so to the given one
unfoldable pub holds : Operator → (version given : List ℕ) → Bool
holds Eq version given = is_equal version given
holds Ne version given = not (is_equal version given)
holds Lt version given = is_lt (version_cmp version given)
holds Gt version given = is_gt (version_cmp version given)
holds Le version given = is_le (version_cmp version given)
holds Ge version given = is_ge (version_cmp version given)
holds Near version given = is_near version given

-- a version meets a list of constraints where all hold
abbrev pub meets_all : List ℕ → List Constraint → Bool
meets_all version constraints = list_all (λ c. holds c.operator version c.version) constraints
