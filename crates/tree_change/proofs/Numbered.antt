-- Files that go to numbered paths, or come from there.
use Rattle.std.proofs.Common.{◌≡◌, ◌≢◌, ℕ, ◌+◌, ◌≤◌, ◌<◌, ◌^◌, suc, Bool, cond, List, [], ◌∷◌, codes, decimal, length, Some, refl, sym, ap, subst, ◌∙◌, arith, inl, inr, ⊎_elim}
use Rattle.std.specs.Prelude.{◌⊎◌}
use Rattle.std.proofs.lemmas.Fmt.{decimal_injective}
use Rattle.std.proofs.lemmas.List.{append_cancel_left}
use Rattle.std.specs.List.{AllByRecursion, Contains}
use Rattle.std.specs.FinMap.{get, insert, get-insert}
use Rattle.rocks_text.specs.Files.{Files}
use Rattle.rock_manifest.proofs.Orders.{path_total}
use Rattle.tree_claims.proofs.Members.{cons_behind, cons_cases, cons_here, nil_none}
use Rattle.tree_moves.specs.Moves.{new_path, old_path, staged_in}
use Rattle.tree_moves.specs.declared.lists.Move.{Move}
use Rattle.tree_sets.proofs.PathTies.{ties, untied}
use Rattle.tree_sets.proofs.Rows.{all_at, Pairwise}
use Rattle.tree_sets.specs.Trees.{File}
use Rattle.tree_change.proofs.Entries.{AreOwn}
use Rattle.tree_change.specs.Change.{from_new, staged_from, to_old}

old_number : (m n : ℕ) → m < 2 ^ 64 → n < 2 ^ 64 → old_path m ≡ old_path n → m ≡ n
old_number m n p q e = decimal_injective m n p q (append_cancel_left (codes "lib/luarocks/work/old/") (decimal m) (decimal n) e)

new_number : (m n : ℕ) → m < 2 ^ 64 → n < 2 ^ 64 → new_path m ≡ new_path n → m ≡ n
new_number m n p q e = decimal_injective m n p q (append_cancel_left (codes "lib/luarocks/work/new/") (decimal m) (decimal n) e)

-- moves with one end
abbrev pub ShareEnd : Move → Move → Type 0
ShareEnd move other = (move.from ≡ other.from) ⊎ (move.to ≡ other.to)

pub share_turned : (move other : Move) → ShareEnd move other → ShareEnd other move
share_turned move other (inl e) = inl (sym e)
share_turned move other (inr e) = inr (sym e)

-- ---- what goes to `old/`

-- one of the paths, which goes to a number
pub record IsOld (n : ℕ) (paths : List (List ℕ)) (move : Move) : Type 0 where
  pub number : ℕ
  pub low : n ≤ number
  pub high : number < n + length paths
  pub to : move.to ≡ old_path number
  pub from : Contains paths move.from

pub old_of : (n : ℕ) (paths : List (List ℕ)) (move : Move) → Contains (to_old n paths) move → IsOld n paths move
old_of n [] move has = absurd (nil_none move has)
old_of n (path ∷ paths) move has =
    ⊎_elim
    (λ is. record {
      number = n;
      low = omega arith;
      high = omega arith;
      to = sym (ap (λ (m : Move). m.to) is);
      from = subst (λ (p : List ℕ). Contains (path ∷ paths) p) (ap (λ (m : Move). m.from) is) (cons_here path paths);
    })
    (λ more.
    let rest = old_of (suc n) paths move more in
    record {
      number = rest.number;
      low = omega (arith, rest.low);
      high = omega (arith, rest.high);
      to = rest.to;
      from = cons_behind path paths move.from rest.from;
    })
    (cons_cases (record { from = path; to = old_path n }) (to_old (suc n) paths) move has)

pub old_with : (n : ℕ) (paths : List (List ℕ)) (path : List ℕ) → Contains paths path → (move : Move) × Contains (to_old n paths) move × (move.from ≡ path)
old_with n [] path has = absurd (nil_none path has)
old_with n (first ∷ paths) path has =
    let move : Move = record { from = first; to = old_path n } in
    ⊎_elim (λ is. (move, cons_here move (to_old (suc n) paths), is))
    (λ more. let rest = old_with (suc n) paths path more in (rest.0, cons_behind move (to_old (suc n) paths) rest.0 rest.1, rest.2))
    (cons_cases first paths path has)

-- the first and one behind it share no end
old_first : (n : ℕ) (path : List ℕ) (paths : List (List ℕ)) → n + suc (length paths) ≤ 2 ^ 64 → AllByRecursion (λ q. q ≢ path) paths
    → (move : Move) → Contains (to_old (suc n) paths) move → ShareEnd (record { from = path; to = old_path n }) move → ⊥
old_first n path paths few own move has (inl same) =
    let found = old_of (suc n) paths move has in
    all_at (λ q. q ≢ path) paths move.from own found.from (sym same)
old_first n path paths few own move has (inr same) =
    let found = old_of (suc n) paths move has in
    let low = found.low in
    let high = found.high in
    let number = old_number n found.number (omega (arith, few)) (omega (arith, few, high)) (same ∙ found.to) in
    absurd (omega (arith, number, low))

pub old_one : (n : ℕ) (paths : List (List ℕ)) → n + length paths ≤ 2 ^ 64 → Pairwise (λ p q. q ≢ p) paths
    → (move other : Move) → Contains (to_old n paths) move → Contains (to_old n paths) other → ShareEnd move other → move ≡ other
old_one n [] few own move other has too share = absurd (nil_none move has)
old_one n (path ∷ paths) few own move other has too share =
    let first : Move = record { from = path; to = old_path n } in
    ⊎_elim
    (λ is. ⊎_elim (λ also. sym is ∙ also)
    (λ behind. absurd (old_first n path paths few own.0 other behind (subst (λ (m : Move). ShareEnd m other) (sym is) share)))
    (cons_cases first (to_old (suc n) paths) other too))
    (λ behind. ⊎_elim
    (λ also. absurd (old_first n path paths few own.0 move behind (subst (λ (m : Move). ShareEnd m move) (sym also) (share_turned move other share))))
    (λ both. old_one (suc n) paths (omega (arith, few)) own.1 move other behind both share)
    (cons_cases first (to_old (suc n) paths) other too))
    (cons_cases first (to_old (suc n) paths) move has)

-- ---- what comes from `new/`

-- one of the files, which comes from a number, where its bytes are staged
pub record IsNew (n : ℕ) (files : List File) (before : Files) (move : Move) : Type 0 where
  pub number : ℕ
  pub low : n ≤ number
  pub high : number < n + length files
  pub from : move.from ≡ new_path number
  pub file : File
  pub among : Contains files file
  pub to : move.to ≡ file.0
  pub there : get (staged_in (staged_from n files) before) move.from ≡ Some file.1

-- the number alone
number_of : (n : ℕ) (files : List File) (move : Move) → Contains (from_new n files) move
    → (k : ℕ) × (n ≤ k) × (k < n + length files) × (move.from ≡ new_path k) × ((file : File) × Contains files file × (move.to ≡ file.0))
number_of n [] move has = absurd (nil_none move has)
number_of n (file ∷ files) move has =
    ⊎_elim
    (λ is. (n, omega arith, omega arith, sym (ap (λ (m : Move). m.from) is), (file, cons_here file files, sym (ap (λ (m : Move). m.to) is))))
    (λ more.
    let rest = number_of (suc n) files move more in
    let low = rest.1 in
    let high = rest.2 in
    let file_of = rest.4 in
    (rest.0, omega (arith, low), omega (arith, high), rest.3, (file_of.0, cons_behind file files file_of.0 file_of.1, file_of.2)))
    (cons_cases (record { from = new_path n; to = file.0 }) (from_new (suc n) files) move has)

-- a path that no file comes from keeps what it has
pub staged_beside : (n : ℕ) (files : List File) (before : Files) (path : List ℕ) → ((move : Move) → Contains (from_new n files) move → path ≢ move.from)
    → get (staged_in (staged_from n files) before) path ≡ get before path
staged_beside n [] before path apart = refl
staged_beside n (file ∷ files) before path apart =
    let first : Move = record { from = new_path n; to = file.0 } in
    staged_beside (suc n) files (insert before (new_path n) file.1) path (λ move has. apart move (cons_behind first (from_new (suc n) files) move has))
    ∙ get-insert path_total before (new_path n) file.1 path
    ∙ ap (λ (b : Bool). cond b (Some file.1) (get before path)) (untied path (new_path n) (apart first (cons_here first (from_new (suc n) files))))

-- the first number is none of those behind it
first_number : (n : ℕ) (files : List File) → n + suc (length files) ≤ 2 ^ 64 → (move : Move) → Contains (from_new (suc n) files) move → new_path n ≢ move.from
first_number n files few move has same =
    let found = number_of (suc n) files move has in
    let low = found.1 in
    let high = found.2 in
    let number = new_number n found.0 (omega (arith, few)) (omega (arith, few, high)) (same ∙ found.3) in
    absurd (omega (arith, number, low))

first_there : (n : ℕ) (file : File) (files : List File) (before : Files) → n + suc (length files) ≤ 2 ^ 64
    → get (staged_in (staged_from n (file ∷ files)) before) (new_path n) ≡ Some file.1
first_there n file files before few =
    staged_beside (suc n) files (insert before (new_path n) file.1) (new_path n) (first_number n files few)
    ∙ get-insert path_total before (new_path n) file.1 (new_path n)
    ∙ ap (λ (b : Bool). cond b (Some file.1) (get before (new_path n))) (ties (new_path n) (new_path n) refl)

pub new_of : (n : ℕ) (files : List File) (before : Files) → n + length files ≤ 2 ^ 64 → (move : Move) → Contains (from_new n files) move → IsNew n files before move
new_of n [] before few move has = absurd (nil_none move has)
new_of n (file ∷ files) before few move has =
    ⊎_elim
    (λ is. record {
      number = n;
      low = omega arith;
      high = omega arith;
      from = sym (ap (λ (m : Move). m.from) is);
      file = file;
      among = cons_here file files;
      to = sym (ap (λ (m : Move). m.to) is);
      there = subst (λ (m : Move). get (staged_in (staged_from n (file ∷ files)) before) m.from ≡ Some file.1) is (first_there n file files before few);
    })
    (λ more.
    let rest = new_of (suc n) files (insert before (new_path n) file.1) (omega (arith, few)) move more in
    let low = rest.low in
    let high = rest.high in
    record {
      number = rest.number;
      low = omega (arith, low);
      high = omega (arith, high);
      from = rest.from;
      file = rest.file;
      among = cons_behind file files rest.file rest.among;
      to = rest.to;
      there = rest.there;
    })
    (cons_cases (record { from = new_path n; to = file.0 }) (from_new (suc n) files) move has)

pub new_with : (n : ℕ) (files : List File) (file : File) → Contains files file → (move : Move) × Contains (from_new n files) move × (move.to ≡ file.0)
new_with n [] file has = absurd (nil_none file has)
new_with n (first ∷ files) file has =
    let move : Move = record { from = new_path n; to = first.0 } in
    ⊎_elim (λ is. (move, cons_here move (from_new (suc n) files), ap (λ (f : File). f.0) is))
    (λ more. let rest = new_with (suc n) files file more in (rest.0, cons_behind move (from_new (suc n) files) rest.0 rest.1, rest.2))
    (cons_cases first files file has)

new_first : (n : ℕ) (file : File) (files : List File) → n + suc (length files) ≤ 2 ^ 64 → AllByRecursion (λ f. f.0 ≢ file.0) files
    → (move : Move) → Contains (from_new (suc n) files) move → ShareEnd (record { from = new_path n; to = file.0 }) move → ⊥
new_first n file files few own move has (inl same) = first_number n files few move has same
new_first n file files few own move has (inr same) =
    let found = (number_of (suc n) files move has).4 in
    all_at (λ f. f.0 ≢ file.0) files found.0 own found.1 (sym (same ∙ found.2))

pub new_one : (n : ℕ) (files : List File) → n + length files ≤ 2 ^ 64 → AreOwn files
    → (move other : Move) → Contains (from_new n files) move → Contains (from_new n files) other → ShareEnd move other → move ≡ other
new_one n [] few own move other has too share = absurd (nil_none move has)
new_one n (file ∷ files) few own move other has too share =
    let first : Move = record { from = new_path n; to = file.0 } in
    ⊎_elim
    (λ is. ⊎_elim (λ also. sym is ∙ also)
    (λ behind. absurd (new_first n file files few own.0 other behind (subst (λ (m : Move). ShareEnd m other) (sym is) share)))
    (cons_cases first (from_new (suc n) files) other too))
    (λ behind. ⊎_elim
    (λ also. absurd (new_first n file files few own.0 move behind (subst (λ (m : Move). ShareEnd m move) (sym also) (share_turned move other share))))
    (λ both. new_one (suc n) files (omega (arith, few)) own.1 move other behind both share)
    (cons_cases first (from_new (suc n) files) other too))
    (cons_cases first (from_new (suc n) files) move has)
