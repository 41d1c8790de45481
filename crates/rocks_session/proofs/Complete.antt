-- That a run ends otherwise than done or refused only with a cause.
use Rattle.std.proofs.Common.{◌≡◌, ◌≤◌, ℕ, List, [], ◌∷◌, Option, None, Some, IfSome, length, sym, ap, ◌∙◌, arith}
use Rattle.std.proofs.lemmas.List.{length-map}
use Rattle.std.specs.FinMap.{len, entries, len-empty, len-entries}
use Rattle.rocks_text.specs.Files.{Files, path_cmp}
use Rattle.rocks_outside.specs.Counts.{HasRisen}
use Rattle.rock_record.specs.declared.rock.Rock.{Rock}
use Rattle.tree_model.specs.Tree.{tree_of}
use Rattle.rocks_session.specs.Faults.{IsLeastPath}
use Rattle.rocks_session.specs.Opened.{Opens}
use Rattle.rocks_session.specs.Run.{HasRunUnless}
use Rattle.rocks_session.specs.declared.status.Status.{Status}

-- where a status has its cause, whatever the files are
pub anyway : (found : Option Files) (set : List Rock) (device_failed shelf_failed : Type 0) (status : Status) → HasRunUnless device_failed shelf_failed status → IfSome found (λ files. Opens (Some files) set → HasRunUnless device_failed shelf_failed status)
anyway None set device_failed shelf_failed status is = tt
anyway (Some files) set device_failed shelf_failed status is = λ opens. is

-- a tree that opens has no least path that shows damage
pub not_damaged : (found : Option Files) (set : List Rock) (device_failed shelf_failed : Type 0) (status : Status) (path : List ℕ) → IfSome found (IsLeastPath path) → IfSome found (λ files. Opens (Some files) set → HasRunUnless device_failed shelf_failed status)
not_damaged None set device_failed shelf_failed status path least = tt
not_damaged (Some files) set device_failed shelf_failed status path (more, are) = λ opens.
    let none : files ≡ tree_of [] = opens.files ∙ ap tree_of opens.empty in
    let count : len files ≡ 0 = ap len none ∙ len-empty path_cmp (List ℕ) in
    let no_key : 0 ≡ length (path ∷ more) = sym (length-map (entries files) _ ∙ sym (len-entries files) ∙ count) ∙ ap length are in
    absurd cc

-- a count that rose after it hadn't fallen has risen
pub risen_since : (before opened executed now : ℕ) → before ≤ opened → opened ≤ executed → HasRisen executed now → HasRisen before now
risen_since before opened executed now first second risen = omega arith
