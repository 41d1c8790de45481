-- What moves leave at each path.
use Rattle.std.proofs.Common.{◌≡◌, ◌≢◌, ℕ, zero, suc, Bool, true, false, cond, List, [], ◌∷◌, Option, Some, None, refl, sym, ap, subst, ◌∙◌, arith}
use Rattle.std.specs.Prelude.{IsSome}
use Rattle.std.specs.List.{AllByRecursion, Contains}
use Rattle.std.specs.FinMap.{get, insert, remove, get-insert, get-remove}
use Rattle.std.specs.Ordering.{eq_by_cmp}
use Rattle.std.proofs.lemmas.Cmp.{nat_list_cmp_total}
use Rattle.rocks_text.specs.Files.{Files, path_cmp}
use Rattle.rocks_outside.specs.Device.{renamed}
use Rattle.tree_moves.specs.Moves.{moved, HaveOwn, AreApart}
use Rattle.tree_moves.specs.declared.lists.Move.{Move}
use Rattle.tree_moves.proofs.FileMaps.{ties, untied}

-- ---- one rename

renamed_is : (files : Files) (from to : List ℕ) (found : Option (List ℕ)) → get files from ≡ found → (q : List ℕ)
    → q ≢ from → q ≢ to → get (renamed from to files) q ≡ get files q
renamed_is files from to None is q off aside = rw is refl
renamed_is files from to (Some bytes) is q off aside =
    let first : eq_by_cmp path_cmp q to ≡ false = untied q to aside in
    let second : eq_by_cmp path_cmp q from ≡ false = untied q from off in
    let whole : renamed from to files ≡ insert (remove files from) to bytes = rw is refl in
    ap (λ (m : Files). get m q) whole
    ∙ get-insert nat_list_cmp_total (remove files from) to bytes q
    ∙ ap (λ (b : Bool). cond b (Some bytes) (get (remove files from) q)) first
    ∙ get-remove nat_list_cmp_total files from q
    ∙ ap (λ (b : Bool). cond b None (get files q)) second

-- a path that is no end of it
rename_beside : (files : Files) (from to q : List ℕ) → q ≢ from → q ≢ to → get (renamed from to files) q ≡ get files q
rename_beside files from to q off aside = renamed_is files from to (get files from) refl q off aside

target_is : (files : Files) (from to : List ℕ) (found : Option (List ℕ)) → get files from ≡ found → IsSome found → get (renamed from to files) to ≡ found
target_is files from to None is some = let wrong = some in cc
target_is files from to (Some bytes) is some =
    let whole : renamed from to files ≡ insert (remove files from) to bytes = rw is refl in
    ap (λ (m : Files). get m to) whole
    ∙ get-insert nat_list_cmp_total (remove files from) to bytes to
    ∙ ap (λ (b : Bool). cond b (Some bytes) (get (remove files from) to)) (ties to to refl)

rename_target : (files : Files) (from to : List ℕ) → IsSome (get files from) → get (renamed from to files) to ≡ get files from
rename_target files from to some = target_is files from to (get files from) refl some

source_is : (files : Files) (from to : List ℕ) (found : Option (List ℕ)) → get files from ≡ found → from ≢ to → get (renamed from to files) from ≡ None
source_is files from to None is apart = let whole : renamed from to files ≡ files = rw is refl in ap (λ (m : Files). get m from) whole ∙ is
source_is files from to (Some bytes) is apart =
    let whole : renamed from to files ≡ insert (remove files from) to bytes = rw is refl in
    ap (λ (m : Files). get m from) whole
    ∙ get-insert nat_list_cmp_total (remove files from) to bytes from
    ∙ ap (λ (b : Bool). cond b (Some bytes) (get (remove files from) from)) (untied from to apart)
    ∙ get-remove nat_list_cmp_total files from from
    ∙ ap (λ (b : Bool). cond b None (get files from)) (ties from from refl)

rename_source : (files : Files) (from to : List ℕ) → from ≢ to → get (renamed from to files) from ≡ None
rename_source files from to apart = source_is files from to (get files from) refl apart

-- ---- many renames

behind : {X : Type 0} (first : X) (xs : List X) (x : X) → Contains xs x → Contains (first ∷ xs) x
behind first xs x (k, within, is) = (suc k, omega arith, is)

here : {X : Type 0} (x : X) (xs : List X) → Contains (x ∷ xs) x
here x xs = (0, omega arith, refl)

pub others : (moves : List Move) (files : Files) (path : List ℕ) → ((move : Move) → Contains moves move → (path ≢ move.to) × (path ≢ move.from))
    → get (moved moves files) path ≡ get files path
others [] files path apart = refl
others (move ∷ moves) files path apart =
    others moves (renamed move.from move.to files) path (λ other among. apart other (behind move moves other among))
    ∙ rename_beside files move.from move.to path (apart move (here move moves)).1 (apart move (here move moves)).0

-- what all of a list differ from
all_of : (P : Move → Type 0) (moves : List Move) (move : Move) → AllByRecursion P moves → Contains moves move → P move
all_of P [] move all (k, within, is) = absurd (omega arith)
all_of P (first ∷ moves) move all (zero, within, is) = subst P is all.0
all_of P (first ∷ moves) move all (suc k, within, is) = all_of P moves move all.1 (k, omega arith, is)

-- the moves behind the first don't meet either, on the files that it leaves
rest_apart : (move : Move) (moves : List Move) (files : Files) → AreApart (move ∷ moves) files → AreApart moves (renamed move.from move.to files)
rest_apart move moves files all = record {
  sources = all.sources.1;
  targets = all.targets.1;
  free = λ one other first second. all.free one other (behind move moves one first) (behind move moves other second);
  there = λ one among.
      let off : one.from ≢ move.from = all_of (λ other. other.from ≢ move.from) moves one all.sources.0 among in
      let aside : one.from ≢ move.to = λ same. all.free move one (here move moves) (behind move moves one among) (sym same) in
      subst IsSome (sym (rename_beside files move.from move.to one.from off aside)) (all.there one (behind move moves one among));
}

module _ (move : Move) (moves : List Move) (files : Files) (all : AreApart (move ∷ moves) files) where
  first_target : get (moved moves (renamed move.from move.to files)) move.to ≡ get files move.from
  first_target =
      others moves (renamed move.from move.to files) move.to (λ other among. (
        λ same. all_of (λ one. one.to ≢ move.to) moves other all.targets.0 among (sym same),
        all.free move other (here move moves) (behind move moves other among),
      ))
      ∙ rename_target files move.from move.to (all.there move (here move moves))

  first_source : get (moved moves (renamed move.from move.to files)) move.from ≡ None
  first_source =
      others moves (renamed move.from move.to files) move.from (λ other among. (
        λ same. all.free other move (behind move moves other among) (here move moves) (sym same),
        λ same. all_of (λ one. one.from ≢ move.from) moves other all.sources.0 among (sym same),
      ))
      ∙ rename_source files move.from move.to (λ same. all.free move move (here move moves) (here move moves) (sym same))

pub targets : (moves : List Move) (files : Files) (move : Move) → AreApart moves files → Contains moves move → get (moved moves files) move.to ≡ get files move.from
targets [] files move all (k, within, is) = absurd (omega arith)
targets (first ∷ moves) files move all (zero, within, is) = subst (λ (m : Move). get (moved (first ∷ moves) files) m.to ≡ get files m.from) is (first_target first moves files all)
targets (first ∷ moves) files move all (suc k, within, is) =
    let among : Contains moves move = (k, omega arith, is) in
    let off : move.from ≢ first.from = all_of (λ other. other.from ≢ first.from) moves move all.sources.0 among in
    let aside : move.from ≢ first.to = λ same. all.free first move (here first moves) (behind first moves move among) (sym same) in
    targets moves (renamed first.from first.to files) move (rest_apart first moves files all) among
    ∙ rename_beside files first.from first.to move.from off aside

pub sources : (moves : List Move) (files : Files) (move : Move) → AreApart moves files → Contains moves move → get (moved moves files) move.from ≡ None
sources [] files move all (k, within, is) = absurd (omega arith)
sources (first ∷ moves) files move all (zero, within, is) = subst (λ (m : Move). get (moved (first ∷ moves) files) m.from ≡ None) is (first_source first moves files all)
sources (first ∷ moves) files move all (suc k, within, is) =
    sources moves (renamed first.from first.to files) move (rest_apart first moves files all) (k, omega arith, is)
