-- Taking all files of `old/` away, as one step.
use Rattle.std.proofs.Common.{◌≡◌, ℕ, ◌+◌, List, Option, None, Some, IfSome, length, refl, sym, ap, subst, ◌∙◌, arith}
use Rattle.std.specs.Prelude.{Result, Ok, Err, IsErrOf, OnOk}
use Rattle.rocks_text.specs.Files.{Files}
use Rattle.rocks_outside.specs.Counts.{HasRisen}
use Rattle.rocks_outside.specs.Device.{paths_from, DeviceState, LooksOnly}
use Rattle.rocks_outside.specs.Told.{WhereTold}
use Rattle.rocks_outside.specs.declared.fault.DeviceError.{DeviceError}
use Rattle.rocks_outside.specs.declared.fault.DeviceError.TheVariants.{Failed}
use Rattle.tree_moves.specs.Moves.{old_folder, settled_old}
use Rattle.tree_moves.specs.Performing.{old_count, removed_all, Performs}
use Rattle.tree_moves.proofs.FileMaps.{settles}

cleared_files : (paths : List (List ℕ)) (before now : Option Files) → IfSome before (λ files. paths ≡ paths_from old_folder files)
    → WhereTold (λ old new. new ≡ removed_all paths old) before now → WhereTold (λ old new. new ≡ settled_old old) before now
cleared_files paths None None listed told = tt
cleared_files paths None (Some new) listed told = told
cleared_files paths (Some old) None listed told = told
cleared_files paths (Some old) (Some new) listed told = told ∙ ap (λ (l : List (List ℕ)). removed_all l old) listed ∙ settles old

counted : (paths : List (List ℕ)) (before : Option Files) (clock_before clock_now : ℕ) → IfSome before (λ files. paths ≡ paths_from old_folder files)
    → IfSome before (λ _. clock_now ≡ clock_before + length paths) → IfSome before (λ old. clock_now ≡ clock_before + old_count old)
counted paths None a b listed ticked = tt
counted paths (Some old) a b listed ticked = ticked ∙ ap (λ (l : List (List ℕ)). a + length l) listed

module _ {T : Type 0} (paths : List (List ℕ)) (done : T) (before mid now : DeviceState) (listed : IfSome before.files (λ files. paths ≡ paths_from old_folder files))
    (looks : LooksOnly (Ok done) before mid) where
  started : (result : Result Unit DeviceError) → Performs Failed result (removed_all paths) (λ _. length paths) mid now → Performs Failed result (removed_all paths) (λ _. length paths) before now
  started (Ok end) removes = record {
    files = subst (λ files. WhereTold (λ old new. new ≡ removed_all paths old) files now.files) looks.files removes.files;
    ticked = subst (λ clock. IfSome before.files (λ old. now.clock ≡ clock + length paths)) looks.clock (subst (λ files. IfSome files (λ old. now.clock ≡ mid.clock + length paths)) looks.files removes.ticked);
    clock = omega (arith, looks.clock, removes.clock);
    said = removes.said ∙ looks.said;
    faults = omega (arith, looks.faults, removes.faults);
    cause = λ is. cc is;
  }
  started (Err e) removes = record {
    files = tt;
    ticked = tt;
    clock = omega (arith, looks.clock, removes.clock);
    said = removes.said ∙ looks.said;
    faults = omega (arith, looks.faults, removes.faults);
    cause = λ is. subst (λ count. HasRisen count now.faults) looks.faults (removes.cause is);
  }

  pub clears : (result : Result Unit DeviceError) → Performs Failed result (removed_all paths) (λ _. length paths) mid now → Performs Failed result settled_old old_count before now
  clears (Ok end) removes =
      let all = started (Ok end) removes in
      record {
        files = cleared_files paths before.files now.files listed all.files;
        ticked = counted paths before.files before.clock now.clock listed all.ticked;
        clock = all.clock;
        said = all.said;
        faults = all.faults;
        cause = all.cause;
      }
  clears (Err e) removes =
      let all = started (Err e) removes in
      record { files = tt; ticked = tt; clock = all.clock; said = all.said; faults = all.faults; cause = all.cause }
