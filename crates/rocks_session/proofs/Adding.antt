-- From what the parts of `add` and `install` leave to what they leave.
use Rattle.std.proofs.Common.{◌≡◌, ◌<◌, ◌+◌, ◌-◌, ℕ, true, false, List, [], ◌∷◌, ◌++◌, Option, None, Some, IfSome, length, refl, sym, ap, ◌∙◌, subst, arith, inl, inr}
use Rattle.std.proofs.lemmas.List.{append-nil}
use Rattle.std.proofs.lemmas.Bool.Decides.{nat_tests}
use Rattle.std.specs.Prelude.{Result, Ok, Err, IsErrOf, IsSome}
use Rattle.rocks_text.specs.Files.{Files}
use Rattle.rocks_outside.specs.Device.{DeviceState}
use Rattle.rocks_outside.specs.Shelf.{ShelfState}
use Rattle.rocks_outside.specs.Told.{WhereTold}
use Rattle.rocks_constraint.specs.Wanted.{Wanted}
use Rattle.rocks_version.specs.declared.key.RockKey.{RockKey}
use Rattle.rocks_command.specs.declared.command.Command.{Command}
use Rattle.rock_record.specs.declared.rock.Rock.{Rock}
use Rattle.tree_model.specs.Tree.{files_of, file_count, tree_of, HaveOwnPaths}
use Rattle.tree_model.proofs.OwnPaths.{own_paths}
use Rattle.served_rocks.specs.Asking.{IsKept}
use Rattle.served_rocks.specs.Fetched.{IsFetched, IsNoRock, IsRock}
use Rattle.served_rocks.specs.declared.fault.Unserved.TheVariants.{Refused as Unserved}
use Rattle.served_rocks.specs.declared.rockspecs.Origin.{Origin}
use Rattle.served_rocks.specs.declared.rockspecs.Origin.TheVariants.{Unpacked, Sources}
use Rattle.rocks_reply.specs.Texts.{added_text, refusal_text}
use Rattle.rocks_reply.specs.declared.reply.Refusal.{Refusal}
use Rattle.rocks_reply.specs.declared.reply.Refusal.TheVariants.{Provided, Unmet}
use Rattle.rocks_reply.specs.declared.reply.Reply.{Reply}
use Rattle.rocks_session.specs.Execute.{CarriesOut, Executes, IsLeft, IsModels, IsReadOnly}
use Rattle.rocks_session.specs.Faults.{HasCause, IsShelfFault, IsDeviceFault}
use Rattle.rocks_session.specs.Installing.{put_all, Installs, IsJoined, JoinsTree}
use Rattle.rocks_session.specs.Opened.{IsOpenAs}
use Rattle.rocks_session.specs.Step.{command_from, is_lua, joined, joined_by, joined_unless, refused, ticks_for, unmet, CanJoin, IsOutcomeOf, IsStep, Joins, Outcome}
use Rattle.rocks_session.specs.declared.fault.SessionFault.{SessionFault}
use Rattle.rocks_session.specs.declared.fault.SessionFault.TheVariants as session_fault
use Rattle.rocks_session.proofs.Put.{tree_of_one}
use Rattle.rocks_session.proofs.Steps.{one_step}
use Rattle.rocks_session.proofs.Writing.{no_tick}

pub left : (keys : List RockKey) (device : DeviceState) → IsLeft keys keys device device
left keys device = record { tree = refl; files = refl; said = refl; clock = refl }

cause_of_shelf : (fault : SessionFault) (device shelf_before shelf_now : ℕ) → IsShelfFault shelf_before shelf_now fault → HasCause device device shelf_before shelf_now fault
cause_of_shelf session_fault.DeviceFault device before now is = absurd is
cause_of_shelf session_fault.ShelfFault device before now is = is
cause_of_shelf session_fault.NoMemory device before now is = tt

cause_of_device : (fault : SessionFault) (before now shelf_before shelf_now : ℕ) → IsDeviceFault before now fault → HasCause before now shelf_before shelf_now fault
cause_of_device session_fault.DeviceFault before now shelf_before shelf_now is = is
cause_of_device session_fault.ShelfFault before now shelf_before shelf_now is = absurd is
cause_of_device session_fault.NoMemory before now shelf_before shelf_now is = tt

not_of_shelf : (fault : SessionFault) (before now : ℕ) → IsDeviceFault before now fault → IsErrOf {T = Reply} (Err fault) session_fault.ShelfFault → ⊥
not_of_shelf session_fault.DeviceFault before now is e = cc
not_of_shelf session_fault.ShelfFault before now is e = is
not_of_shelf session_fault.NoMemory before now is e = cc

not_refused : (refusal : Option Refusal) → refusal ≡ None → IsSome refusal → ⊥
not_refused None none is = cc
not_refused (Some refusal) none is = cc

module _ (command : Command) (keys : List RockKey) (device : DeviceState) (shelf_before shelf_now : ShelfState) where
  -- a reply that leaves the device alone
  pub answered : (reply : Reply) → IsKept shelf_before shelf_now → ((set : List Rock) → IsOpenAs set keys device → CarriesOut command set shelf_before.holds reply keys device device) → Executes command (Ok reply) keys keys device device shelf_before shelf_now
  answered reply stays carried = record {
    carried = carried;
    refused = λ _. left keys device;
    broken_off = λ e. cc;
    untouched = λ _. left keys device;
    keeps = record { said = refl; clock = omega arith; holds = stays.holds; servers = stays.servers; device_faults = omega arith; shelf_faults = stays.faults; cause = tt };
  }

  -- a fault before the device is called
  pub broken_off : (fault : SessionFault) → IsKept shelf_before shelf_now → IsShelfFault shelf_before.faults shelf_now.faults fault → Executes command (Err fault) keys keys device device shelf_before shelf_now
  broken_off fault stays is = record {
    carried = tt;
    refused = tt;
    broken_off = λ _. left keys device;
    untouched = λ _. left keys device;
    keeps = record { said = refl; clock = omega arith; holds = stays.holds; servers = stays.servers; device_faults = omega arith; shelf_faults = stays.faults; cause = cause_of_shelf fault _ _ _ is };
  }

-- ---- `add` and `install`

always : (holds : Option (List Files)) {P : List Files → Type 0} → ((servers : List Files) → P servers) → IfSome holds P
always None all = tt
always (Some servers) all = all servers

module _ (origin : Origin) (key : RockKey) where
  step_from : (servers : List Files) (set : List Rock) (outcome : Outcome) → Joins origin servers set key outcome → IsStep servers set (command_from origin key) outcome
  step_from servers set outcome = elim origin as (λ o. Joins o servers set key outcome → IsStep servers set (command_from o key) outcome) [ Unpacked ↦ λ joins. joins | Sources ↦ λ joins. joins ]

  can_from : (set : List Rock) (outcome : Outcome) → CanJoin origin set key outcome → IsOutcomeOf (command_from origin key) set outcome
  can_from set outcome = elim origin as (λ o. CanJoin o set key outcome → IsOutcomeOf (command_from o key) set outcome) [ Unpacked ↦ λ can. can | Sources ↦ λ can. can ]

  writes_too : IsReadOnly (command_from origin key) → ⊥
  writes_too = elim origin as (λ o. IsReadOnly (command_from o key) → ⊥) [ Unpacked ↦ λ is. is | Sources ↦ λ is. is ]

  -- an outcome that the servers give, where they are told, is the model's only one
  models : (holds : Option (List Files)) (set : List Rock) (outcome : Outcome) → CanJoin origin set key outcome → IfSome holds (λ servers. Joins origin servers set key outcome) → IsModels (command_from origin key) set holds outcome
  models None set outcome can joins = record { told = tt; only = tt; own = can_from set outcome can }
  models (Some servers) set outcome can joins =
      let step = step_from servers set outcome joins in
      record { told = step; only = λ other so. one_step servers set (command_from origin key) other outcome so step; own = can_from set outcome can }

  module _ (keys : List RockKey) (device : DeviceState) (holds : Option (List Files)) where
    -- a refusal, where it is the model's
    refuses : (refusal : Refusal) (reply : Reply) → reply.refusal ≡ Some refusal → reply.text ≡ refusal_text refusal
        → ((set : List Rock) → IsOpenAs set keys device → IsModels (command_from origin key) set holds (refused set refusal))
        → (set : List Rock) → IsOpenAs set keys device → CarriesOut (command_from origin key) set holds reply keys device device
    refuses refusal reply is says model set opened = record {
      outcome = refused set refusal;
      model = model set opened;
      refusal = is;
      text = says;
      tree = opened.tree;
      files = opened.opens.files;
      clock = no_tick device.files device.clock set (refused set refusal) refl;
    }

    pub provided : is_lua key ≡ true → (reply : Reply) → reply.refusal ≡ Some Provided → reply.text ≡ refusal_text Provided → (set : List Rock) → IsOpenAs set keys device → CarriesOut (command_from origin key) set holds reply keys device device
    provided lua reply is says = refuses Provided reply is says (λ set opened. models holds set (refused set Provided) (inl (lua, refl)) (always holds (λ servers. inl (lua, refl))))

    module _ (other : is_lua key ≡ false) where
      joins_none : (refusal : Refusal) (set : List Rock) (h : Option (List Files)) → IfSome h (λ servers. IsFetched origin key servers (Err refusal)) → IfSome h (λ servers. Joins origin servers set key (refused set refusal))
      joins_none refusal set None fetched = tt
      joins_none refusal set (Some servers) fetched = inr (other, (Err refusal, fetched, refl))

      -- no rock was fetched
      pub unfetched : (refusal : Refusal) → IsNoRock origin key holds (Unserved refusal) → (reply : Reply) → reply.refusal ≡ Some refusal → reply.text ≡ refusal_text refusal → (set : List Rock) → IsOpenAs set keys device → CarriesOut (command_from origin key) set holds reply keys device device
      unfetched refusal no_rock reply is says = refuses refusal reply is says (λ set opened.
          models holds set (refused set refusal) (inr (other, inr (refusal, no_rock.0, refl))) (joins_none refusal set holds no_rock.1))

      joins_rock : (rock : Rock) (set : List Rock) (h : Option (List Files)) → IfSome h (λ servers. IsFetched origin key servers (Ok rock)) → IfSome h (λ servers. Joins origin servers set key (joined set (Ok rock)))
      joins_rock rock set None fetched = tt
      joins_rock rock set (Some servers) fetched = inr (other, (Ok rock, fetched, refl))

      -- what becomes of a rock that was fetched
      model_of : (rock : Rock) → IsRock origin key holds rock → (set : List Rock) → IsModels (command_from origin key) set holds (joined set (Ok rock))
      model_of rock is set = models holds set (joined set (Ok rock)) (inr (other, inl (rock, is.key_is, is.well_made, refl))) (joins_rock rock set holds is.told)

      -- the rock needs something
      pub lacking : (rock : Rock) → IsRock origin key holds rock → (wanted : Wanted) → unmet keys rock.key rock.dependencies ≡ Some wanted
          → (reply : Reply) → reply.refusal ≡ Some (Unmet wanted) → reply.text ≡ refusal_text (Unmet wanted) → (set : List Rock) → IsOpenAs set keys device → CarriesOut (command_from origin key) set holds reply keys device device
      lacking rock fetched wanted needs reply is says = refuses (Unmet wanted) reply is says (λ set opened.
          let same : joined set (Ok rock) ≡ refused set (Unmet wanted) = ap (joined_unless set rock) (sym (ap (λ (k : List RockKey). unmet k rock.key rock.dependencies) opened.tree) ∙ needs) in
          subst (IsModels (command_from origin key) set holds) same (model_of rock fetched set))

-- ---- a rock that joined the tree

module _ (rock : Rock) (before now : DeviceState) (own : HaveOwnPaths (files_of rock)) where
  written : (first after : Option Files) → IfSome first (λ files. files ≡ tree_of []) → WhereTold (λ old new. new ≡ put_all (files_of rock) old) first after → IfSome after (λ files. files ≡ tree_of (rock ∷ []))
  written None None none put = tt
  written None (Some new) none put = absurd put
  written (Some old) None none put = tt
  written (Some old) (Some new) none put = put ∙ ap (put_all (files_of rock)) none ∙ tree_of_one rock own

  counted : length (files_of rock) ≡ file_count (rock ∷ [])
  counted = ap length (sym (append-nil (files_of rock)))

  ticked : (first : Option Files) → IfSome first (λ _. now.clock ≡ before.clock + length (files_of rock) + 1) → IfSome first (λ _. now.clock ≡ before.clock + ticks_for (file_count (rock ∷ []) - file_count []))
  ticked None tick = tt
  ticked (Some files) tick =
      let some : 0 < file_count (rock ∷ []) = omega arith in
      grind (arith, nat_tests, tick, counted)

module _ (origin : Origin) (key : RockKey) (keys_before keys_now : List RockKey) (before now : DeviceState) (holds : Option (List Files)) (other : is_lua key ≡ false) (rock : Rock) (fetched : IsRock origin key holds rock) (met : unmet keys_before rock.key rock.dependencies ≡ None) where
  from_empty : Installs (Ok tt) rock.key (files_of rock) keys_before keys_now before now → IsOpenAs [] keys_before before → CarriesOut (command_from origin key) [] holds (record { refusal = None; text = added_text rock.key }) keys_now before now
  from_empty installs opened =
      let own = own_paths rock fetched.well_made.paths in
      let same : joined [] (Ok rock) ≡ joined_by [] rock = ap (joined_unless [] rock) (sym (ap (λ (k : List RockKey). unmet k rock.key rock.dependencies) opened.tree) ∙ met) in
      record {
        outcome = joined_by [] rock;
        model = subst (IsModels (command_from origin key) [] holds) same (model_of origin key keys_before before holds other rock fetched []);
        refusal = refl;
        text = refl;
        tree = installs.tree ∙ ap (λ (k : List RockKey). k ++ rock.key ∷ []) opened.tree;
        files = written rock before now own before.files now.files opened.opens.files installs.files;
        clock = ticked rock before now own before.files installs.ticked;
      }

  -- from whatever set the tree stands for
  pub installed : Installs (Ok tt) rock.key (files_of rock) keys_before keys_now before now → (set : List Rock) → IsOpenAs set keys_before before → CarriesOut (command_from origin key) set holds (record { refusal = None; text = added_text rock.key }) keys_now before now
  installed installs set opened =
      subst (λ s. CarriesOut (command_from origin key) s holds (record { refusal = None; text = added_text rock.key }) keys_now before now) (sym opened.opens.empty)
      (from_empty installs (subst (λ s. IsOpenAs s keys_before before) opened.opens.empty opened))

-- ---- what the commands leave

module _ (origin : Origin) (key : RockKey) (keys_before keys_now : List RockKey) (before now : DeviceState) (shelf_before shelf_now : ShelfState) (kept : IsKept shelf_before shelf_now) where
  -- a rock that was installed
  done : (rock : Rock) (reply : Reply) → Installs (Ok tt) rock.key (files_of rock) keys_before keys_now before now → reply.refusal ≡ None
      → ((set : List Rock) → IsOpenAs set keys_before before → CarriesOut (command_from origin key) set shelf_before.holds reply keys_now before now)
      → Executes (command_from origin key) (Ok reply) keys_before keys_now before now shelf_before shelf_now
  done rock reply installs accepted carried = record {
    carried = carried;
    refused = λ is. absurd (not_refused reply.refusal accepted is);
    broken_off = λ e. cc;
    untouched = λ is. absurd (writes_too origin key is);
    keeps = record { said = installs.said; clock = installs.clock; holds = kept.holds; servers = kept.servers; device_faults = installs.faults; shelf_faults = kept.faults; cause = tt };
  }

  -- a fault while it is installed
  failed : (rock : Rock) (fault : SessionFault) → Installs (Err fault) rock.key (files_of rock) keys_before keys_now before now → Executes (command_from origin key) (Err fault) keys_before keys_now before now shelf_before shelf_now
  failed rock fault installs = record {
    carried = tt;
    refused = tt;
    broken_off = λ e. absurd (not_of_shelf fault _ _ installs.cause e);
    untouched = λ is. absurd (writes_too origin key is);
    keeps = record { said = installs.said; clock = installs.clock; holds = kept.holds; servers = kept.servers; device_faults = installs.faults; shelf_faults = kept.faults; cause = cause_of_device fault _ _ _ _ installs.cause };
  }

  -- after a rock was fetched
  pub joins : is_lua key ≡ false → (rock : Rock) → IsRock origin key shelf_before.holds rock → (result : Result Reply SessionFault) → JoinsTree rock result keys_before keys_now before now → Executes (command_from origin key) result keys_before keys_now before now shelf_before shelf_now
  joins other rock fetched (Err fault) installs = failed rock fault installs
  joins other rock fetched (Ok reply) so = by (unmet keys_before rock.key rock.dependencies) refl so
    where
      by : (needs : Option Wanted) → unmet keys_before rock.key rock.dependencies ≡ needs → IsJoined rock reply keys_before keys_now before now needs → Executes (command_from origin key) (Ok reply) keys_before keys_now before now shelf_before shelf_now
      by None met (is, installs) =
          subst (λ r. Executes (command_from origin key) (Ok r) keys_before keys_now before now shelf_before shelf_now) (sym is)
          (done rock (record { refusal = None; text = added_text rock.key }) installs refl (installed origin key keys_before keys_now before now shelf_before.holds other rock fetched met installs))
      by (Some wanted) needs (is, keys, device) =
          subst (λ k. Executes (command_from origin key) (Ok reply) keys_before k before now shelf_before shelf_now) (sym keys)
          (subst (λ d. Executes (command_from origin key) (Ok reply) keys_before keys_before before d shelf_before shelf_now) (sym device)
          (answered (command_from origin key) keys_before before shelf_before shelf_now reply kept
          (lacking origin key keys_before before shelf_before.holds other rock fetched wanted needs reply (ap (λ (r : Reply). r.refusal) is) (ap (λ (r : Reply). r.text) is))))
