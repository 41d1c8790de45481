-- From what was found to which rockspec is served, or why none.
use Rattle.std.proofs.Common.{◌≡◌, ◌<◌, ◌≤◌, ◌&&◌, ℕ, Bool, true, false, List, Option, None, Some, IfSome, length, refl, sym, ap, ◌∙◌, subst, inl, inr, Ok, Err, Result}
use Rattle.std.specs.Prelude.{IfErr, IfOk, MatchResult}
use Rattle.std.proofs.lemmas.Slice.Eq.{bytes_eq-Decides}
use Rattle.rocks_text.specs.Files.{Files}
use Rattle.rocks_outside.specs.Shelf.{ShelfState}
use Rattle.rocks_outside.specs.declared.fault.ShelfError.TheVariants.{Failed as Stopped, NoMemory}
use Rattle.rocks_version.specs.declared.key.RockKey.{RockKey}
use Rattle.rockspec.specs.Specs.{IsSpec}
use Rattle.rockspec.specs.declared.read.Rockspec.{Rockspec}
use Rattle.rockspec.specs.declared.read.TheConstants.{LONGEST_ROCKSPEC}
use Rattle.rocks_reply.specs.declared.reply.Refusal.{Refusal}
use Rattle.rocks_reply.specs.declared.reply.Refusal.TheVariants.{NotTheRock, Spec}
use Rattle.served_rocks.specs.Rockspecs.{absent, is_of_rock, matching, spec_path, spec_too_large, HasNoSpec, IsMismatch, IsChecked, IsServed, IsServedBy, IsUnserved}
use Rattle.served_rocks.specs.Search.{IsFoundIn}
use Rattle.served_rocks.specs.declared.fault.Unserved.{Unserved}
use Rattle.served_rocks.specs.declared.fault.Unserved.TheVariants.{Refused, Failed}
use Rattle.served_rocks.specs.declared.rockspecs.Origin.{Origin}
use Rattle.served_rocks.specs.declared.rockspecs.Served.{Served}
use Rattle.served_rocks.specs.declared.search.Found.{Found}
use Rattle.served_rocks.specs.declared.search.Found.TheVariants.{Nowhere, TooLong, At}

both : (a b : Bool) → (a && b) ≡ true → (a ≡ true) × (b ≡ true)
both true true e = (refl, refl)
both true false e = cc
both false b e = cc

by_bool : {P : Type 0} (b : Bool) → (b ≡ true → P) → (b ≡ false → P) → P
by_bool true here there = here refl
by_bool false here there = there refl

pub same_key : (key : RockKey) (spec : Rockspec) → is_of_rock key spec ≡ true → spec.key ≡ key
same_key key spec is =
    let parts = both _ _ is in
    let name : spec.key.name ≡ key.name = sym ((bytes_eq-Decides key.name spec.key.name).0 parts.0) in
    let version : spec.key.version ≡ key.version = sym ((bytes_eq-Decides key.version spec.key.version).0 parts.1) in
    λ i. record { name = name i; version = version i }

-- a rockspec that bytes are found to be is theirs, and of the rock
pub spec_of : (key : RockKey) (bytes : List ℕ) (spec : Rockspec) → IsChecked key bytes (Ok spec) → IsSpec bytes spec × (spec.key ≡ key)
spec_of key bytes spec (inl long) = cc
spec_of key bytes spec (inr (short, (Ok read, has, is))) = by_bool (is_of_rock key read)
    (λ yes.
    let made : Ok spec ≡ Ok read = is ∙ rw yes refl in
    let same : spec ≡ read = cc in
    (subst (IsSpec bytes) (sym same) has, same_key key spec (ap (is_of_rock key) same ∙ yes)))
    (λ other. let made : Ok spec ≡ Err (NotTheRock key) = is ∙ rw other refl in cc)
spec_of key bytes spec (inr (short, (Err fault, has, is))) = cc

module _ (key : RockKey) (bytes : List ℕ) (spec : Rockspec) (short : length bytes ≤ LONGEST_ROCKSPEC) (is : IsSpec bytes spec) where
  pub checked_ok : (result : Result Rockspec Unserved) → MatchResult result (λ kept. matching key (Ok spec) ≡ Ok kept) (IsMismatch key spec) → IfOk result (λ kept. IsChecked key bytes (Ok kept))
  checked_ok (Ok kept) same = inr (short, (Ok spec, is, sym same))
  checked_ok (Err fault) other = tt

  pub checked_err : (result : Result Rockspec Unserved) → MatchResult result (λ kept. matching key (Ok spec) ≡ Ok kept) (IsMismatch key spec) → IfErr result (HasNoSpec key bytes)
  checked_err (Ok kept) same = tt
  checked_err (Err (Failed Stopped)) other = absurd other
  checked_err (Err (Failed NoMemory)) other = tt
  checked_err (Err (Refused refusal)) other = (inr (short, (Ok spec, is, sym other.0)), inr other.1)

module _ (origin : Origin) (key : RockKey) where
  abbrev Finds : Option (List Files) → Found → Type 0
  Finds holds found = IfSome holds (λ servers. IsFoundIn LONGEST_ROCKSPEC servers (spec_path origin key) found)

  pub absent_everywhere : (holds : Option (List Files)) (refusal : Refusal) → refusal ≡ absent origin key → Finds holds Nowhere → IsUnserved origin key holds (Refused refusal)
  absent_everywhere None refusal is found = (inl is, tt)
  absent_everywhere (Some servers) refusal is found = (inl is, inl (found, is))

  pub too_long_there : (holds : Option (List Files)) (refusal : Refusal) → refusal ≡ Spec key spec_too_large → Finds holds TooLong → IsUnserved origin key holds (Refused refusal)
  too_long_there None refusal is found = (inr (inl (spec_too_large, is)), tt)
  too_long_there (Some servers) refusal is (files, bytes, first, at, long) =
      (inr (inl (spec_too_large, is)), inr (record { files = files; bytes = bytes; earliest = first; at = at; checked = inl (long, ap Err is) }))

  no_spec_there : (holds : Option (List Files)) (server : ℕ) (bytes : List ℕ) (fault : Unserved) → HasNoSpec key bytes fault → Finds holds (At server bytes) → IsUnserved origin key holds fault
  no_spec_there holds server bytes (Failed Stopped) bad found = absurd bad
  no_spec_there holds server bytes (Failed NoMemory) bad found = tt
  no_spec_there None server bytes (Refused refusal) bad found = (inr bad.1, tt)
  no_spec_there (Some servers) server bytes (Refused refusal) bad (files, first, at, there, short) =
      (inr bad.1, inr (record { files = files; bytes = bytes; earliest = first; at = there; checked = bad.0 }))

  served_there : (shelf : ShelfState) (server : ℕ) (bytes : List ℕ) (spec : Rockspec) → IsChecked key bytes (Ok spec) → server < shelf.servers → Finds shelf.holds (At server bytes) → IsServed origin key shelf (record { server = server; bytes = bytes; spec = spec })
  served_there shelf server bytes spec checked within found =
      let so = spec_of key bytes spec checked in
      record { server = within; spec = so.0; of_rock = so.1; told = from shelf.holds found }
    where
      from : (holds : Option (List Files)) → Finds holds (At server bytes) → IfSome holds (λ servers. IsServedBy origin key servers (record { server = server; bytes = bytes; spec = spec }))
      from None found = tt
      from (Some servers) (files, first, at, there, short) = record { files = files; earliest = first; at = at; bytes = there; checked = checked }

  abbrev Serves : ℕ → List ℕ → Served → Type 0
  Serves server bytes served = (served.server ≡ server) × (served.bytes ≡ bytes) × IsChecked key bytes (Ok served.spec)

  pub serving : (shelf : ShelfState) (server : ℕ) (bytes : List ℕ) → server < shelf.servers → Finds shelf.holds (At server bytes) → (result : Result Served Unserved) → IfOk result (Serves server bytes) → IfOk result (IsServed origin key shelf)
  serving shelf server bytes within found (Ok served) (at, same, checked) =
      subst (IsServed origin key shelf) (λ i. record { server = sym at i; bytes = sym same i; spec = served.spec }) (served_there shelf server bytes served.spec checked within found)
  serving shelf server bytes within found (Err fault) serves = tt

  pub unserving : (holds : Option (List Files)) (server : ℕ) (bytes : List ℕ) → Finds holds (At server bytes) → (result : Result Served Unserved) → IfErr result (HasNoSpec key bytes) → IfErr result (IsUnserved origin key holds)
  unserving holds server bytes found (Ok served) bad = tt
  unserving holds server bytes found (Err fault) bad = no_spec_there holds server bytes fault bad found
