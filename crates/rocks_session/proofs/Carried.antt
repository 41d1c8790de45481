-- From what the parts of a run leave to what the run leaves.
use Rattle.std.proofs.Common.{◌≡◌, ◌≤◌, ◌+◌, inl, inr, ℕ, List, ◌++◌, Option, None, Some, IfSome, Result, Ok, Err, refl, sym, ap, ◌∙◌, subst, take, length, arith, is_some, true, false}
use Rattle.std.proofs.lemmas.List.{append-nil, take_all}
use Rattle.rocks_text.specs.Files.{Files}
use Rattle.rocks_outside.specs.Device.{DeviceState, SaysOnly, Says, Ticks, RisesByOneWhereTold, TellsTheSame}
use Rattle.rocks_outside.specs.Told.{WhereTold}
use Rattle.rocks_outside.specs.declared.fault.DeviceError.{DeviceError}
use Rattle.rocks_outside.specs.declared.fault.DeviceError.TheVariants as device_error
use Rattle.rock_record.specs.declared.rock.Rock.{Rock}
use Rattle.tree_model.specs.Tree.{tree_of}
use Rattle.rocks_session.specs.Execute.{CarriesOut, IsReadOnly, IsLeft}
use Rattle.rocks_session.specs.Opened.{Opens, IsTreeOf, IsOpenAs}
use Rattle.rocks_session.specs.Step.{Outcome, IsStep, ticks}
use Rattle.rocks_session.specs.Run.{Runs, IsUntouched, OnlySays, SaysAtMost, status_of}
use Rattle.rocks_reply.specs.declared.reply.Reply.{Reply}
use Rattle.rocks_reply.specs.declared.reply.Refusal.{Refusal}
use Rattle.rocks_session.specs.declared.status.Status.{Status}
use Rattle.rocks_session.specs.declared.status.Status.TheVariants.{Done, Refused}
use Rattle.rocks_version.specs.declared.key.RockKey.{RockKey}
use Rattle.rocks_command.specs.declared.command.Command.{Command}
use Rattle.rocks_command.specs.declared.fault.WordsFault.{WordsFault}

abbrev Read : Type 0
Read = Result Command WordsFault

abbrev Held : Type 0
Held = Option (List Files)

-- the set that the files stand for is that of the tree that was opened
pub opened_as : (set : List Rock) (keys : List RockKey) (before now : DeviceState) → IsUntouched before now → Opens before.files set → IsTreeOf set keys → IsOpenAs set keys now
opened_as set keys before now left opens tree = record { tree = tree; opens = subst (λ f. Opens f set) (sym left.files) opens }

-- ---- what was said

abbrev AtMost : List ℕ → Option (List ℕ) → Option (List ℕ) → Type 0
AtMost text before now = WhereTold (λ old new. (n : ℕ) × (new ≡ old ++ take n text)) before now

nothing : (text : List ℕ) (before now : Option (List ℕ)) → now ≡ before → AtMost text before now
nothing text None now same = subst (λ s. AtMost text None s) (sym same) tt
nothing text (Some said) now same = subst (λ s. AtMost text (Some said) s) (sym same) (0, sym (append-nil said))

-- where nothing was said
pub says_nothing : (read : Read) (servers : Held) (before now : DeviceState) → now.said ≡ before.said → SaysAtMost read servers before now
says_nothing read None before now same = λ command set is opens. tt
says_nothing read (Some held) before now same = λ command set is opens outcome step. nothing outcome.text before.said now.said same

-- a part of a reply, said after nothing was
part_of : (text bytes : List ℕ) (first exec now : Option (List ℕ)) → exec ≡ first → bytes ≡ text → AtMost bytes exec now → AtMost text first now
part_of text bytes first exec now quiet same said = subst (λ t. AtMost t first now) same (subst (λ s. AtMost bytes s now) quiet said)

all_is_part : (text : List ℕ) (before now : Option (List ℕ)) → WhereTold (λ old new. new ≡ old ++ text) before now → AtMost text before now
all_is_part text None None said = tt
all_is_part text None (Some new) said = absurd said
all_is_part text (Some old) None said = absurd said
all_is_part text (Some old) (Some new) said = (length text, said ∙ ap (λ (t : List ℕ). old ++ t) (sym (take_all (length text) text (omega arith))))

-- ---- after a command

module _ (command : Command) (servers : Held) (reply : Reply) (keys keys_now : List RockKey) (first mid exec now : DeviceState)
    (left : IsUntouched first mid) (tree : (set : List Rock) → Opens first.files set → IsTreeOf set keys)
    (carried : (set : List Rock) → IsOpenAs set keys mid → CarriesOut command set servers reply keys_now mid exec)
    (quiet : exec.said ≡ mid.said) where
  carries : (set : List Rock) → Opens first.files set → CarriesOut command set servers reply keys_now mid exec
  carries set opens = carried set (opened_as set keys first mid left opens (tree set opens))

  silent : exec.said ≡ first.said
  silent = quiet ∙ left.said

  -- where a first part of the reply was said
  says_part : (read : Read) (bytes : List ℕ) → read ≡ Ok command → bytes ≡ reply.text → AtMost bytes exec.said now.said → SaysAtMost read servers first now
  says_part read bytes is same said = λ other set says_so opens. from other set says_so (carries set opens) servers (carries set opens).model.only
    where
      from : (other : Command) (set : List Rock) → read ≡ Ok other → (done : CarriesOut command set servers reply keys_now mid exec) → (h : Held) → IfSome h (λ held. (outcome : Outcome) → IsStep held set command outcome → outcome ≡ done.outcome)
          → IfSome h (λ held. (outcome : Outcome) → IsStep held set other outcome → AtMost outcome.text first.said now.said)
      from other set says_so done None only = tt
      from other set says_so done (Some held) only = λ outcome step.
          let one : Ok command ≡ Ok other = sym is ∙ says_so in
          let commands : command ≡ other = cc in
          let steps : IsStep held set command outcome = subst (λ (c : Command). IsStep held set c outcome) (sym commands) step in
          let text : bytes ≡ outcome.text = same ∙ done.text ∙ sym (ap (λ (o : Outcome). o.text) (only outcome steps)) in
          part_of _ bytes first.said exec.said now.said silent text said

  pub says_all : (read : Read) (bytes : List ℕ) (u : Unit {0}) → read ≡ Ok command → bytes ≡ reply.text → SaysOnly (Ok u) bytes exec now → SaysAtMost read servers first now
  says_all read bytes u is same says = says_part read bytes is same (all_is_part bytes exec.said now.said says.said)

  pub says_some : (read : Read) (bytes : List ℕ) (e : DeviceError) → e ≡ device_error.Failed → read ≡ Ok command → bytes ≡ reply.text → SaysOnly {T = Unit {0}} (Err e) bytes exec now → SaysAtMost read servers first now
  says_some read bytes e failed is same says =
      let said : Says {T = Unit {0}} (Err device_error.Failed) bytes exec.said now.said = subst (λ f. Says {T = Unit {0}} (Err f) bytes exec.said now.said) failed says.said in
      says_part read bytes is same said

  pub says_none : (read : Read) (bytes : List ℕ) (e : DeviceError) → e ≡ device_error.NoMemory → SaysOnly {T = Unit {0}} (Err e) bytes exec now → SaysAtMost read servers first now
  says_none read bytes e none says =
      let said : Says {T = Unit {0}} (Err device_error.NoMemory) bytes exec.said now.said = subst (λ f. Says {T = Unit {0}} (Err f) bytes exec.said now.said) none says.said in
      says_nothing read servers first now (said ∙ silent)

  -- a run that carried its command out
  pub runs : (status : Status) (bytes : List ℕ) (u : Unit {0}) → TellsTheSame first exec → bytes ≡ reply.text → SaysOnly (Ok u) bytes exec now → status ≡ status_of reply.refusal
      → (set : List Rock) → Opens first.files set → Runs command set servers status first now
  runs status bytes u tells same says ends set opens =
      let done = carries set opens in
      record {
        outcome = done.outcome;
        model = done.model;
        ends = ends ∙ ap status_of done.refusal;
        files = subst (λ f. IfSome f (λ files. files ≡ tree_of done.outcome.set)) (sym says.files) done.files;
        says = subst (λ t. WhereTold (λ old new. new ≡ old ++ t) first.said now.said) (same ∙ done.text) (subst (λ s. WhereTold (λ old new. new ≡ old ++ bytes) s now.said) silent says.said);
        clock = ticked first.files mid.files exec.files (ticks set done.outcome) (sym left.files) tells.files done.clock says.clock;
      }
    where
      ticked : (first_files mid_files exec_files : Option Files) (n : ℕ) → first_files ≡ mid_files → WhereTold (λ _ _. Unit {0}) first_files exec_files
          → IfSome mid_files (λ _. exec.clock ≡ mid.clock + n) → RisesByOneWhereTold exec_files exec.clock now.clock → IfSome first_files (λ _. now.clock ≡ first.clock + n + 1)
      ticked None mid_files exec_files n same_files told worked up = tt
      ticked (Some files) mid_files None n same_files told worked up = absurd told
      ticked (Some files) mid_files (Some after) n same_files told worked up =
          let spent = subst (λ f. IfSome f (λ _. exec.clock ≡ mid.clock + n)) (sym same_files) worked in
          omega (arith, spent, up, left.clock)

-- a call that ticks or doesn't, by its answer
ticks_once : {T : Type 0} (result : Result T DeviceError) (files : Option Files) (before now : ℕ) → Ticks result files before now → (before ≤ now) × (now ≤ before + 1)
ticks_once (Ok done) None before now (inl rises) = (omega arith, omega arith)
ticks_once (Ok done) None before now (inr stands) = (omega arith, omega arith)
ticks_once (Ok done) (Some files) before now ticks = (omega arith, omega arith)
ticks_once (Err device_error.Failed) None before now (inl rises) = (omega arith, omega arith)
ticks_once (Err device_error.Failed) None before now (inr stands) = (omega arith, omega arith)
ticks_once (Err device_error.Failed) (Some files) before now ticks = (omega arith, omega arith)
ticks_once (Err device_error.NoMemory) files before now ticks = (omega arith, omega arith)

-- a device that was opened alone
pub only_opened : (first mid : DeviceState) → IsUntouched first mid → OnlySays first mid
only_opened first mid left = record { files = left.files; clock_kept = omega (arith, left.clock); clock_once = omega (arith, left.clock) }

module _ (read : Read) (command other : Command) (keys keys_now : List RockKey) (first mid exec : DeviceState)
    (left : IsUntouched first mid) (untouched : IsReadOnly command → IsLeft keys keys_now mid exec)
    (is : read ≡ Ok command) (says_so : read ≡ Ok other) (reads : IsReadOnly other) where
  still : IsLeft keys keys_now mid exec
  still =
      let both : Ok command ≡ Ok other = sym is ∙ says_so in
      let commands : command ≡ other = cc in
      untouched (subst IsReadOnly (sym commands) reads)

  -- after a command that only reads and that broke off
  pub only_read : OnlySays first exec
  only_read = record { files = still.files ∙ left.files; clock_kept = omega (arith, still.clock, left.clock); clock_once = omega (arith, still.clock, left.clock) }

  -- after one whose reply was to be said
  pub only_said : {T : Type 0} (result : Result T DeviceError) (bytes : List ℕ) (now : DeviceState) → SaysOnly result bytes exec now → OnlySays first now
  only_said result bytes now says =
      let once = ticks_once result exec.files exec.clock now.clock says.clock in
      record { files = says.files ∙ still.files ∙ left.files; clock_kept = omega (arith, still.clock, left.clock, once.0); clock_once = omega (arith, still.clock, left.clock, once.1) }

pub refused_ends : (refusal : Option Refusal) → is_some refusal ≡ true → Refused ≡ status_of refusal
refused_ends None e = cc
refused_ends (Some refusal) e = refl

pub done_ends : (refusal : Option Refusal) → is_some refusal ≡ false → Done ≡ status_of refusal
done_ends None e = refl
done_ends (Some refusal) e = cc
