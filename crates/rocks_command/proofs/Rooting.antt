-- The parts that words are read into are the ones that make them.
use Rattle.std.proofs.Common.{◌≡◌, ◌≤◌, ℕ, Bool, true, false, ◌||◌, if◌then◌else◌, nat_lt, List, [], ◌∷◌, ◌++◌, length, codes, refl, sym, ap, ◌∙◌, subst, arith, Ok, Err}
use Rattle.std.proofs.lemmas.Bool.Decides.{nat_tests}
use Rattle.std.proofs.lemmas.Slice.Eq.{bytes_eq-Decides}
use Rattle.std.specs.List.{list_any}
use Rattle.rocks_command.specs.Words.{is_tree_flag, is_from_flag, is_option, Rooted, from_words, AreRooted, from_folders, after_from, rooted_in, rooted}
use Rattle.rocks_command.specs.declared.fault.WordsFault.TheVariants.{Options}

neither : (a b : Bool) → (a || b) ≡ false → (a ≡ false) × (b ≡ false)
neither true b h = cc
neither false b h = (refl, h)

-- the pairs at the front and what is behind them make the words
parts_make : (words : List (List ℕ)) → words ≡ from_words (from_folders words) ++ after_from words
parts_make [] = refl
parts_make (word ∷ []) = refl
parts_make (flag ∷ folder ∷ words) =
    elim (is_from_flag flag) as (λ b. is_from_flag flag ≡ b → flag ∷ folder ∷ words ≡ from_words (if b then folder ∷ from_folders words else []) ++ (if b then after_from words else flag ∷ folder ∷ words)) [
      | true ↦ λ is. ap (λ (word : List ℕ). word ∷ folder ∷ words) ((bytes_eq-Decides flag (codes "--from")).0 is) ∙ ap (λ (rest : List (List ℕ)). codes "--from" ∷ folder ∷ rest) (parts_make words)
      | false ↦ λ is. refl
    ] refl

no_pair : (command : List (List ℕ)) → list_any is_option command ≡ false → (from_folders command ≡ []) × (after_from command ≡ command)
no_pair [] none = (refl, refl)
no_pair (word ∷ []) none = (refl, refl)
no_pair (flag ∷ folder ∷ words) none =
    let first = neither (is_option flag) (list_any is_option (folder ∷ words)) none in
    let other : is_from_flag flag ≡ false = (neither (is_tree_flag flag) (is_from_flag flag) first.0).1 in
    (rw other refl, rw other refl)

-- such pairs are read as the servers that they name
pairs_read : (servers command : List (List ℕ)) → list_any is_option command ≡ false → (from_folders (from_words servers ++ command) ≡ servers) × (after_from (from_words servers ++ command) ≡ command)
pairs_read [] command none = no_pair command none
pairs_read (server ∷ servers) command none =
    let rest = pairs_read servers command none in
    (ap (λ (more : List (List ℕ)). server ∷ more) rest.0, rest.1)

taken : (b : Bool) (read parts : Rooted) → (if b then Err Options else Ok read) ≡ Ok parts → (b ≡ false) × (read ≡ parts)
taken true read parts h = cc
taken false read parts h = (refl, cc)

few_enough : (count : ℕ) → nat_lt 8 count ≡ false → count ≤ 8
few_enough count is = grind (arith, nat_tests)

not_more : (count : ℕ) → count ≤ 8 → nat_lt 8 count ≡ false
not_more count few = grind (arith, nat_tests)

read_in : (tree : List ℕ) (words : List (List ℕ)) (parts : Rooted) → rooted_in tree (from_folders words) (after_from words) ≡ Ok parts → AreRooted (codes "--tree" ∷ tree ∷ words) parts
read_in tree words parts is =
    let servers = from_folders words in
    let command = after_from words in
    let read = taken (nat_lt 8 (length servers) || list_any is_option command) (record { tree = tree; servers = servers; command = command }) parts is in
    let fit = neither (nat_lt 8 (length servers)) (list_any is_option command) read.0 in
    subst (AreRooted (codes "--tree" ∷ tree ∷ words)) read.1 (record {
      spelled = ap (λ (rest : List (List ℕ)). codes "--tree" ∷ tree ∷ rest) (parts_make words);
      few = few_enough (length servers) fit.0;
      no_option = fit.1;
    })

pub are_rooted : (words : List (List ℕ)) (parts : Rooted) → rooted words ≡ Ok parts → AreRooted words parts
are_rooted [] parts is = cc
are_rooted (word ∷ []) parts is = cc
are_rooted (flag ∷ tree ∷ words) parts is =
    elim (is_tree_flag flag) as (λ b. is_tree_flag flag ≡ b → (if b then rooted_in tree (from_folders words) (after_from words) else Err Options) ≡ Ok parts → AreRooted (flag ∷ tree ∷ words) parts) [
      | true ↦ λ flagged read. subst (λ (word : List ℕ). AreRooted (word ∷ tree ∷ words) parts) (sym ((bytes_eq-Decides flag (codes "--tree")).0 flagged)) (read_in tree words parts read)
      | false ↦ λ flagged read. cc
    ] refl is

pub are_read : (words : List (List ℕ)) (parts : Rooted) → AreRooted words parts → rooted words ≡ Ok parts
are_read words parts so =
    let rest = pairs_read parts.servers parts.command so.no_option in
    let few = not_more (length parts.servers) so.few in
    let none = so.no_option in
    ap rooted so.spelled ∙ rw (rest.0, rest.1, few, none) refl
