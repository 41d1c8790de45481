-- One step more behind those that were taken.
use Rattle.std.proofs.Common.{◌≡◌, ◌<◌, ◌≤◌, ◌+◌, ℕ, true, false, ◌&&◌, List, [], ◌∷◌, ◌++◌, Option, Some, None, length, refl, sym, ap, ◌∙◌, subst, arith, unwrap_or, nat_le, nat_lt, length-append, cond}
use Rattle.std.specs.List.{filter_map}
use Rattle.std.proofs.lemmas.Bool.{and_from, and_right}
use Rattle.std.proofs.lemmas.Bool.Decides.{nat_tests}
use Rattle.std.proofs.lemmas.List.{map-append}
use Rattle.std.proofs.lemmas.List.Elements.{filter_map-append}
use Rattle.std.proofs.lemmas.List.Sums.{sum-map, sum_by_push}
use Rattle.rocks_text.specs.Files.{Files}
use Rattle.rocks_outside.specs.Shelf.{IsRead}
use Rattle.rocks_outside.specs.declared.shelf.ShelfRead.{ShelfRead}
use Rattle.rocks_outside.specs.declared.shelf.ShelfRead.TheVariants.{Absent, TooLong, Bytes}
use Rattle.rock_record.specs.declared.limits.TheConstants.{LONGEST_FILE, MOST_FILES, MOST_BYTES}
use Rattle.rock_parts.specs.declared.parts.Part.{Part}
use Rattle.rock_parts.specs.declared.parts.Part.TheVariants as parts
use Rattle.rock_parts.specs.declared.parts.Source.{Source}
use Rattle.rock_parts.specs.declared.parts.Step.{Step}
use Rattle.rock_parts.specs.declared.parts.Step.TheVariants.{Read, NoFile}
use Rattle.rock_files.specs.Gathering.{Found, IsFaultOf, IsFirstFault, IsFoundOn, NoneFails, FailsFirst, bytes_found, fault_at, fault_with, fits, found_in, held_in, item_of, own_of, size_of}
use Rattle.rock_files.specs.Taking.{AreTaken, IsLimitFault, IsWithinLimits, OnServer, count_of, fits_behind, items_with, own_with}
use Rattle.rock_files.specs.declared.fault.BuildFault.{BuildFault}
use Rattle.rock_files.specs.declared.fault.BuildFault.TheVariants.{NoSourceFolder, MissingFile, TooLarge, BadTarget, ShelfFault, NoMemory}
use Rattle.rock_files.specs.declared.gathering.Taken.{Taken}
use Rattle.rock_files.proofs.Failing.{first_fails, none_fails_more}

-- ---- the limits

abbrev read_with : Source → List ℕ → Found
read_with source bytes = record { step = Read source; bytes = Some bytes }

module _ (found : List Found) (taken : Taken) (count : length found ≡ count_of taken) (size : size_of found ≡ taken.size) (bytes : List ℕ) where
  same_test : nat_lt (length found) MOST_FILES && nat_le (size_of found + length bytes) MOST_BYTES ≡ fits_behind taken bytes
  same_test = λ i. nat_lt (count i) MOST_FILES && nat_le (size i + length bytes) MOST_BYTES

  fits_so : length bytes ≤ LONGEST_FILE → fits_behind taken bytes ≡ true → fits found bytes ≡ true
  fits_so short behind =
      let first : nat_le (length bytes) LONGEST_FILE ≡ true = grind (arith, nat_tests) in
      and_from (nat_le (length bytes) LONGEST_FILE) (nat_lt (length found) MOST_FILES && nat_le (size_of found + length bytes) MOST_BYTES) first (same_test ∙ behind)

  past_so : fits_behind taken bytes ≡ false → fits found bytes ≡ false
  past_so behind = and_right (nat_le (length bytes) LONGEST_FILE) (nat_lt (length found) MOST_FILES && nat_le (size_of found + length bytes) MOST_BYTES) (same_test ∙ behind)

too_long : (found : List Found) (bytes : List ℕ) → LONGEST_FILE < length bytes → fits found bytes ≡ false
too_long found bytes long =
    let first : nat_le (length bytes) LONGEST_FILE ≡ false = grind (arith, nat_tests) in
    ap (λ b. b && (nat_lt (length found) MOST_FILES && nat_le (size_of found + length bytes) MOST_BYTES)) first

too_large : (found : List Found) (path : List ℕ) (bytes : List ℕ) (held : Option (List ℕ)) → held ≡ Some bytes → fits found bytes ≡ false → fault_with found path held ≡ Some (TooLarge path)
too_large found path bytes held is past = ap (fault_with found path) is ∙ ap (λ b. cond b None (Some (TooLarge path))) past

-- ---- the files of one source

one_item : (part : Part) (from bytes : List ℕ) → filter_map item_of (read_with (record { part = part; from = from }) bytes ∷ []) ≡ items_with part bytes
one_item (parts.Item item) from bytes = refl
one_item (parts.Own path) from bytes = refl

one_own : (part : Part) (from bytes : List ℕ) → filter_map own_of (read_with (record { part = part; from = from }) bytes ∷ []) ≡ own_with part bytes
one_own (parts.Item item) from bytes = refl
one_own (parts.Own path) from bytes = refl

one_file : (part : Part) (bytes : List ℕ) → length (items_with part bytes) + length (own_with part bytes) ≡ 1
one_file (parts.Item item) bytes = omega arith
one_file (parts.Own path) bytes = omega arith

abbrev bytes_of : Found → ℕ
bytes_of one = length (unwrap_or one.bytes [])

size_more : (found : List Found) (source : Source) (bytes : List ℕ) → size_of (found ++ read_with source bytes ∷ []) ≡ size_of found + length bytes
size_more found source bytes =
    sum-map bytes_of (found ++ read_with source bytes ∷ []) ∙ sum_by_push bytes_of found (read_with source bytes) ∙ ap (λ n. n + length bytes) (sym (sum-map bytes_of found))

within_more : (part : Part) (bytes : List ℕ) (taken now : Taken) → fits_behind taken bytes ≡ true
    → now.items.items ≡ taken.items.items ++ items_with part bytes → now.own.items ≡ taken.own.items ++ own_with part bytes → now.size ≡ taken.size + length bytes → IsWithinLimits now
within_more part bytes taken now behind items own size =
    let few : count_of taken < MOST_FILES = grind (arith, nat_tests) in
    let small : taken.size + length bytes ≤ MOST_BYTES = grind (arith, nat_tests) in
    record {
      few = omega (arith, few, ap length items, ap length own, length-append taken.items.items (items_with part bytes), length-append taken.own.items (own_with part bytes), one_file part bytes);
      small = omega (arith, small, size);
    }

-- ---- what a server has

module _ (server : ℕ) (folder : List ℕ) where
  abbrev Reads : Option (List Files) → (from : List ℕ) → ShelfRead → Type 0
  Reads holds from read = OnServer holds server (λ files. IsRead LONGEST_FILE (held_in files folder from) read)

  on_server : (holds : Option (List Files)) {P Q : Files → Type 0} → ((files : Files) → P files → Q files) → OnServer holds server P → OnServer holds server Q
  on_server None so told = tt
  on_server (Some servers) so told = λ files is. so files (told files is)

  told_none : (holds : Option (List Files)) → IsFoundOn holds server folder [] []
  told_none None = tt
  told_none (Some servers) = λ files is. refl

  abbrev found_with : Files → Step → Found
  found_with files step = record { step = step; bytes = bytes_found files folder step }

  told_more : (holds : Option (List Files)) (front : List Step) (found : List Found) (source : Source) (bytes : List ℕ) → IsFoundOn holds server folder front found
      → OnServer holds server (λ files. held_in files folder source.from ≡ Some bytes) → IsFoundOn holds server folder (front ++ Read source ∷ []) (found ++ read_with source bytes ∷ [])
  told_more None front found source bytes told held = tt
  told_more (Some servers) front found source bytes told held = λ files is.
      (λ i. told files is i ++ record { step = Read source; bytes = sym (held files is) i } ∷ [])
      ∙ sym (map-append (found_with files) front (Read source ∷ []))

  fails_here : (holds : Option (List Files)) (front rest : List Step) (step : Step) (found : List Found) (fault : BuildFault) → IsFoundOn holds server folder front found → NoneFails found
      → OnServer holds server (λ files. fault_at found (found_with files step) ≡ Some fault) → IsFirstFault holds server folder (front ++ step ∷ rest) fault
  fails_here None front rest step found fault told none fails = tt
  fails_here (Some servers) front rest step found fault told none fails = λ files is.
      subst (λ (all : List Found). FailsFirst all fault)
      ((λ i. told files is i ++ found_with files step ∷ found_in files folder rest) ∙ sym (map-append (found_with files) front (step ∷ rest)))
      (first_fails found (found_in files folder rest) (found_with files step) fault none (fails files is))

  held_bytes : (holds : Option (List Files)) (from : List ℕ) (read : ShelfRead) (bytes : List ℕ) → read ≡ Bytes bytes → Reads holds from read → OnServer holds server (λ files. held_in files folder from ≡ Some bytes)
  held_bytes holds from read bytes is reads =
      on_server holds (λ files has. (subst (λ r. IsRead LONGEST_FILE (held_in files folder from) r) is has).0) reads

  -- ---- the steps so far

  pub nothing_taken : (holds : Option (List Files)) (taken : Taken) → taken.items.items ≡ [] → taken.own.items ≡ [] → taken.size ≡ 0 → AreTaken holds server folder [] taken
  nothing_taken holds taken items own size = record {
    found = [];
    steps_taken = refl;
    none_fails = λ place one is. cc;
    told = told_none holds;
    count = sym (λ i. length (items i) + length (own i));
    size = sym size;
    limits = record { few = omega (arith, ap length items, ap length own); small = omega (arith, size) };
    items = items;
    own = own;
  }

  module _ (holds : Option (List Files)) (front : List Step) (taken : Taken) (so_far : AreTaken holds server folder front taken) where
    -- a source was read
    pub one_taken : (source : Source) (read : ShelfRead) (bytes : List ℕ) (now : Taken) → Reads holds source.from read → read ≡ Bytes bytes → length bytes ≤ LONGEST_FILE → fits_behind taken bytes ≡ true
        → now.items.items ≡ taken.items.items ++ items_with source.part bytes → now.own.items ≡ taken.own.items ++ own_with source.part bytes → now.size ≡ taken.size + length bytes
        → AreTaken holds server folder (front ++ Read source ∷ []) now
    one_taken source read bytes now reads is short behind items own size =
        let found = so_far.found in
        let one = read_with source bytes in
        let behind_all = fits_so found taken so_far.count so_far.size bytes short behind in
        let passes : fault_at found one ≡ None = ap (λ b. cond b None (Some (TooLarge source.from))) behind_all in
        record {
          found = found ++ one ∷ [];
          steps_taken = map-append (λ (o : Found). o.step) found (one ∷ []) ∙ ap (λ (steps : List Step). steps ++ Read source ∷ []) so_far.steps_taken;
          none_fails = none_fails_more found one so_far.none_fails passes;
          told = told_more holds front found source bytes so_far.told (held_bytes holds source.from read bytes is reads);
          count = omega (arith, length-append found (one ∷ []), so_far.count, ap length items, ap length own, length-append taken.items.items (items_with source.part bytes), length-append taken.own.items (own_with source.part bytes), one_file source.part bytes);
          size = omega (arith, size_more found source bytes, so_far.size, size);
          limits = within_more source.part bytes taken now behind items own size;
          items = items ∙ (λ i. so_far.items i ++ sym (one_item source.part source.from bytes) i) ∙ sym (filter_map-append item_of found (one ∷ []));
          own = own ∙ (λ i. so_far.own i ++ sym (one_own source.part source.from bytes) i) ∙ sym (filter_map-append own_of found (one ∷ []));
        }

    -- a source can't be taken
    pub source_fails : (rest : List Step) (source : Source) (read : ShelfRead) (fault : BuildFault) → Reads holds source.from read → IsLimitFault source.from taken read fault
        → IsFaultOf holds server folder (front ++ Read source ∷ rest) fault
    source_fails rest source read NoSourceFolder reads stops = stops
    source_fails rest source read (MissingFile path) reads stops =
        fails_here holds front rest (Read source) so_far.found (MissingFile path) so_far.told so_far.none_fails
        (on_server holds (λ files has.
        let none : held_in files folder source.from ≡ None = subst (λ r. IsRead LONGEST_FILE (held_in files folder source.from) r) stops.1 has in
        ap (fault_with so_far.found source.from) none ∙ ap (λ p. Some (MissingFile p)) (sym stops.0)) reads)
    source_fails rest source Absent (TooLarge path) reads stops = absurd stops.1
    source_fails rest source TooLong (TooLarge path) reads stops =
        fails_here holds front rest (Read source) so_far.found (TooLarge path) so_far.told so_far.none_fails
        (on_server holds (λ files has.
        too_large so_far.found source.from has.0 (held_in files folder source.from) has.1 (too_long so_far.found has.0 has.2) ∙ ap (λ p. Some (TooLarge p)) (sym stops.0)) reads)
    source_fails rest source (Bytes bytes) (TooLarge path) reads stops =
        fails_here holds front rest (Read source) so_far.found (TooLarge path) so_far.told so_far.none_fails
        (on_server holds (λ files has.
        too_large so_far.found source.from bytes (held_in files folder source.from) has.0 (past_so so_far.found taken so_far.count so_far.size bytes stops.1) ∙ ap (λ p. Some (TooLarge p)) (sym stops.0)) reads)
    source_fails rest source read (BadTarget path) reads stops = stops
    source_fails rest source read ShelfFault reads stops = absurd stops
    source_fails rest source read NoMemory reads stops = tt

    -- a folder that has no file
    pub folder_fails : (rest : List Step) (named : List ℕ) → IsFirstFault holds server folder (front ++ NoFile named ∷ rest) (MissingFile named)
    folder_fails rest named =
        fails_here holds front rest (NoFile named) so_far.found (MissingFile named) so_far.told so_far.none_fails (always holds)
      where
        always : (holds : Option (List Files)) → OnServer holds server (λ files. fault_at so_far.found (found_with files (NoFile named)) ≡ Some (MissingFile named))
        always None = tt
        always (Some servers) = λ files is. refl
