-- Going over the servers in turn, for the earliest that has a path.
use Rattle.std.proofs.Common.{◌≡◌, ◌<◌, ◌+◌, ℕ, zero, suc, List, [], ◌∷◌, Option, None, Some, IfSome, length, drop, refl, sym, ap, ◌∙◌, subst, arith, slice_get, is_some, cond, add-one}
use Rattle.std.specs.FinMap.{get}
use Rattle.rocks_text.specs.Files.{Files}
use Rattle.rocks_outside.specs.Shelf.{held_at, IsRead}
use Rattle.rocks_outside.specs.declared.shelf.ShelfRead.{ShelfRead}
use Rattle.rocks_outside.specs.declared.shelf.ShelfRead.TheVariants.{Absent, TooLong, Bytes}
use Rattle.served_rocks.specs.declared.search.Found.TheVariants as at
use Rattle.served_rocks.specs.Search.{earliest_with, IsFoundIn}

-- a server that lacks the path is passed over
passed : (path : List ℕ) (servers : List Files) (i : ℕ) → i < length servers → held_at servers i path ≡ None → earliest_with path (drop i servers) ≡ earliest_with path (drop (suc i) servers)
passed path [] i within none = absurd (omega arith)
passed path (files ∷ servers) zero within none = ap (λ (o : Option (List ℕ)). cond (is_some o) (Some files) (earliest_with path servers)) none
passed path (files ∷ servers) (suc i) within none = passed path servers i (omega arith) none

-- a server that has it is the one
found : (path bytes : List ℕ) (servers : List Files) (i : ℕ) → held_at servers i path ≡ Some bytes → (files : Files) × (slice_get servers i ≡ Some files) × (get files path ≡ Some bytes) × (earliest_with path (drop i servers) ≡ Some files)
found path bytes [] i here = cc
found path bytes (files ∷ servers) zero here = (files, refl, here, ap (λ (o : Option (List ℕ)). cond (is_some o) (Some files) (earliest_with path servers)) here)
found path bytes (files ∷ servers) (suc i) here = found path bytes servers i here

module _ (limit : ℕ) (path : List ℕ) (i : ℕ) (read : ShelfRead) where
  -- what a read says, and how far no server had the path, where the shelf tells
  abbrev Reads : Option (List Files) → Type 0
  Reads now = IfSome now (λ servers. IsRead limit (held_at servers i path) read)

  abbrev NoneBefore : Option (List Files) → ℕ → Type 0
  NoneBefore holds k = IfSome holds (λ servers. earliest_with path (drop k servers) ≡ earliest_with path servers)

  pub found_too_long : (holds now : Option (List Files)) → now ≡ holds → read ≡ TooLong → Reads now → NoneBefore holds i → IfSome holds (λ servers. IsFoundIn limit servers path at.TooLong)
  found_too_long None now same is reads before = tt
  found_too_long (Some servers) now same is reads before =
      let long : IsRead limit (held_at servers i path) TooLong = subst (λ r. IsRead limit (held_at servers i path) r) is (subst (λ h. IfSome h (λ all. IsRead limit (held_at all i path) read)) same reads) in
      let here = found path long.0 servers i long.1 in
      (here.0, long.0, sym before ∙ here.3, here.2, long.2)

  pub found_bytes : (bytes : List ℕ) (server : ℕ) (holds now : Option (List Files)) → server ≡ i → now ≡ holds → read ≡ Bytes bytes → Reads now → NoneBefore holds i → IfSome holds (λ servers. IsFoundIn limit servers path (at.At server bytes))
  found_bytes bytes server None now where_ same is reads before = tt
  found_bytes bytes server (Some servers) now where_ same is reads before =
      let short : IsRead limit (held_at servers i path) (Bytes bytes) = subst (λ r. IsRead limit (held_at servers i path) r) is (subst (λ h. IfSome h (λ all. IsRead limit (held_at all i path) read)) same reads) in
      let here = found path bytes servers i short.0 in
      (here.0, sym before ∙ here.3, subst (λ k. slice_get servers k ≡ Some here.0) (sym where_) here.1, here.2, short.1)

  pub not_here : (holds now : Option (List Files)) (count : ℕ) → now ≡ holds → i < count → IfSome holds (λ servers. length servers ≡ count) → read ≡ Absent → Reads now → NoneBefore holds i → NoneBefore holds (i + 1)
  not_here None now count same more each is reads before = tt
  not_here (Some servers) now count same more each is reads before =
      let none : IsRead limit (held_at servers i path) Absent = subst (λ r. IsRead limit (held_at servers i path) r) is (subst (λ h. IfSome h (λ all. IsRead limit (held_at all i path) read)) same reads) in
      rw add-one (sym (passed path servers i (omega (arith, each)) none) ∙ before)
