-- What calls of a device that change it leave, one after another.
use Rattle.std.proofs.Common.{◌≡◌, ◌≤◌, ◌+◌, ◌-◌, ℕ, List, Option, None, Some, IfSome, length, [], ◌∷◌, ◌++◌, refl, sym, ap, subst, ◌∙◌, arith, inl, inr}
use Rattle.std.specs.Prelude.{Result, Ok, Err, IsErrOf}
use Rattle.rocks_text.specs.Files.{Files}
use Rattle.rocks_outside.specs.Counts.{HasRisen, RisesByOne}
use Rattle.rocks_outside.specs.Device.{DeviceState, CountsFaults, RisesByOneWhereTold, Ticks, SyncsOnly}
use Rattle.rocks_outside.specs.Told.{WhereTold}
use Rattle.rocks_outside.specs.declared.fault.DeviceError.{DeviceError}
use Rattle.rocks_outside.specs.declared.fault.DeviceError.TheVariants as device_error
use Rattle.rock_record.specs.declared.rock.Rock.{Rock}
use Rattle.tree_model.specs.Tree.{file_count}
use Rattle.rocks_session.specs.Faults.{IsDeviceFault, fault_of_device}
use Rattle.rocks_session.specs.Installing.{put_all, File, Writes, Installs}
use Rattle.rocks_session.specs.Step.{Outcome, ticks, ticks_for}
use Rattle.rocks_session.specs.declared.fault.SessionFault.{SessionFault}
use Rattle.rocks_session.specs.declared.fault.SessionFault.TheVariants as session_fault
use Rattle.rocks_version.specs.declared.key.RockKey.{RockKey}

rises_one : (before now : ℕ) → RisesByOne before now → before ≤ now
rises_one before now (inl up) = omega (arith, up)
rises_one before now (inr stands) = omega (arith, stands.1)

rises_told : (files : Option Files) (before now : ℕ) → RisesByOneWhereTold files before now → before ≤ now
rises_told None before now up = rises_one before now up
rises_told (Some files) before now up = omega (arith, up)

-- the clock never falls
pub tick_rises : {T : Type 0} (result : Result T DeviceError) (files : Option Files) (before now : ℕ) → Ticks result files before now → before ≤ now
tick_rises (Ok x) files before now up = rises_told files before now up
tick_rises (Err device_error.Failed) files before now up = rises_told files before now up
tick_rises (Err device_error.NoMemory) files before now up = omega (arith, up)

-- nor do the faults
pub faults_rise : {T : Type 0} (result : Result T DeviceError) (before now : ℕ) → CountsFaults result before now → before ≤ now
faults_rise (Ok x) before now same = omega (arith, same)
faults_rise (Err device_error.Failed) before now up = up.0
faults_rise (Err device_error.NoMemory) before now same = omega (arith, same)

-- a device that fails has counted it
pub fault_risen : {T : Type 0} (result : Result T DeviceError) (first before now : ℕ) → first ≤ before → CountsFaults result before now → IsErrOf result device_error.Failed → HasRisen first now
fault_risen (Ok x) first before now rises counts is = cc
fault_risen (Err device_error.Failed) first before now rises counts is = omega (arith, counts.1)
fault_risen (Err device_error.NoMemory) first before now rises counts is = cc

-- one more tick of the clock of a device that tells its files
pub one_more_tick : (R : Files → Files → Type 0) (first mid : Option Files) (clock_first clock_mid clock_now count : ℕ) → WhereTold R first mid → IfSome first (λ _. clock_mid ≡ clock_first + count) → RisesByOneWhereTold mid clock_mid clock_now → IfSome first (λ _. clock_now ≡ clock_first + (count + 1))
one_more_tick R None mid a b c count told ticked up = tt
one_more_tick R (Some files) None a b c count told ticked up = absurd told
one_more_tick R (Some files) (Some now) a b c count told ticked up = omega (arith, ticked, up)

no_ticks : (count : ℕ) → ticks_for (count - count) ≡ 0
no_ticks count = let none : count - count ≡ 0 = omega arith in rw none refl

-- a set that is kept takes no tick
pub no_tick : (first : Option Files) (clock : ℕ) (set : List Rock) (outcome : Outcome) → outcome.set ≡ set → IfSome first (λ _. clock ≡ clock + ticks set outcome)
no_tick None clock set outcome kept = tt
no_tick (Some files) clock set outcome kept =
    let none : ticks set outcome ≡ 0 = ap (λ (now : List Rock). ticks_for (file_count now - file_count set)) kept ∙ no_ticks (file_count set) in
    omega (arith, none)

-- the cause of a fault of the device
caused : (e : DeviceError) (fault : SessionFault) (before now : ℕ) → fault ≡ fault_of_device e → (IsErrOf {T = Unit {0}} (Err e) device_error.Failed → HasRisen before now) → IsDeviceFault before now fault
caused device_error.Failed fault before now is cause = subst (IsDeviceFault before now) (sym is) (cause refl)
caused device_error.NoMemory fault before now is cause = subst (IsDeviceFault before now) (sym is) tt

module _ (key : RockKey) (new : List File) (keys_before keys_now : List RockKey) where
  pub installs_nothing : (device : DeviceState) → Installs (Err session_fault.NoMemory) key new keys_before keys_now device device
  installs_nothing device = record { tree = tt; files = tt; ticked = tt; clock = omega arith; said = refl; faults = omega arith; cause = tt }

  pub installs_in_part : (e : DeviceError) (fault : SessionFault) (before now : DeviceState) → fault ≡ fault_of_device e → Writes (Err e) new before now → Installs (Err fault) key new keys_before keys_now before now
  installs_in_part e fault before now is writes =
      record { tree = tt; files = tt; ticked = tt; clock = writes.clock; said = writes.said; faults = writes.faults; cause = caused e fault _ _ is writes.cause }

  pub installs_unsynced : (e : DeviceError) (fault : SessionFault) (done : Unit {0}) (before mid now : DeviceState) → fault ≡ fault_of_device e → Writes (Ok done) new before mid → SyncsOnly {T = Unit {0}} (Err e) mid now → Installs (Err fault) key new keys_before keys_now before now
  installs_unsynced e fault done before mid now is writes syncs =
      let up = faults_rise {T = Unit {0}} (Err e) mid.faults now.faults syncs.faults in
      let rises = tick_rises {T = Unit {0}} (Err e) mid.files mid.clock now.clock syncs.clock in
      record {
        tree = tt;
        files = tt;
        ticked = tt;
        clock = omega (arith, writes.clock, rises);
        said = syncs.said ∙ writes.said;
        faults = omega (arith, writes.faults, up);
        cause = caused e fault _ _ is (λ failed. fault_risen {T = Unit {0}} (Err e) before.faults mid.faults now.faults writes.faults syncs.faults failed);
      }

  pub installs_all : (done synced all : Unit {0}) (before mid now : DeviceState) → keys_now ≡ keys_before ++ key ∷ [] → Writes (Ok done) new before mid → SyncsOnly (Ok synced) mid now → Installs (Ok all) key new keys_before keys_now before now
  installs_all done synced all before mid now keys writes syncs =
      let rises = rises_told mid.files mid.clock now.clock syncs.clock in
      record {
        tree = keys;
        files = subst (λ files. WhereTold (λ old after. after ≡ put_all new old) before.files files) (sym syncs.files) writes.files;
        ticked = regrouped before.files before.clock now.clock (one_more_tick _ before.files mid.files before.clock mid.clock now.clock (length new) writes.files writes.ticked syncs.clock);
        clock = omega (arith, writes.clock, rises);
        said = syncs.said ∙ writes.said;
        faults = omega (arith, writes.faults, syncs.faults);
        cause = tt;
      }
    where
      regrouped : (first : Option Files) (clock_first clock_now : ℕ) → IfSome first (λ _. clock_now ≡ clock_first + (length new + 1)) → IfSome first (λ _. clock_now ≡ clock_first + length new + 1)
      regrouped None a b ticked = tt
      regrouped (Some files) a b ticked = omega (arith, ticked)
