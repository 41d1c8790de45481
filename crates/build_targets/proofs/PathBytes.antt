-- Paths as bytes.
use Rattle.std.proofs.Common.{◌≡◌, ◌≢◌, ℕ, ◌+◌, ◌-◌, ◌<◌, ◌≤◌, List, ◌++◌, length, get_or, take, drop, true, false, cond, not, ◌==◌, refl, sym, ap, ◌∙◌, arith, Option, Some, None}
use Rattle.std.specs.Prelude.{codes}
use Rattle.std.specs.List.{suffix_len}
use Rattle.std.specs.Str.{is_utf8}
use Rattle.std.proofs.lemmas.Bool.{and_parts, and_from, cond-true, ne_eqb, eq-eqb, not_from_true, not_from_false}
use Rattle.std.proofs.lemmas.List.{take_all}
use Rattle.std.proofs.lemmas.List.Sums.{suffix_len_is, prefix_len_is}
use Rattle.std.proofs.lemmas.Str.{IsCharBoundary-after_ascii, IsUtf8-drop, IsUtf8-from_is_utf8, is_utf8-from_IsUtf8}
use Rattle.rocks_text.specs.Texts.{is_file_path}
use Rattle.rocks_text.proofs.Below.{rest_is_path}
use Rattle.build_targets.specs.Folders.{first_part}
use Rattle.build_targets.specs.Meanings.{is_path, last_part}

-- what stands behind `conf/` in a path is a path
pub conf_rest : (path : List ℕ) → is_path (codes "conf/" ++ path) ≡ true → is_path path ≡ true
conf_rest path h =
    let whole : List ℕ = codes "conf/" ++ path in
    let both = and_parts (is_utf8 whole) (is_file_path whole) h in
    let text = IsUtf8-from_is_utf8 whole both.0 in
    let rest = IsUtf8-drop whole 5 text (IsCharBoundary-after_ascii whole 4 text (omega arith) (omega arith)) in
    and_from (is_utf8 path) (is_file_path path) (is_utf8-from_IsUtf8 path rest) (rest_is_path (codes "conf") path both.1)

-- bytes of which a path was made are one
pub found_path : (bytes path : List ℕ) (found : Option (List ℕ)) → found ≡ cond (is_path bytes) (Some bytes) None → found ≡ Some path → is_path bytes ≡ true
found_path bytes path found is some =
    elim (is_path bytes) as (λ b. found ≡ cond b (Some bytes) None → b ≡ true) [
      | true ↦ λ _. refl
      | false ↦ λ none. cc
    ] is

-- so where `conf/` and some bytes are a path, it doesn't matter which of the two was asked
pub conf_found : (path : List ℕ) (found : Option (List ℕ)) → is_path (codes "conf/" ++ path) ≡ true
    → found ≡ cond (is_path path) (Some path) None → found ≡ cond (is_path (codes "conf/" ++ path)) (Some path) None
conf_found path found h is =
    is ∙ cond-true (is_path path) (Some path) None (conf_rest path h)
    ∙ sym (cond-true (is_path (codes "conf/" ++ path)) (Some path) None h)

-- what stands behind the last slash of a path
pub last_part_at : (path : List ℕ) (i : ℕ) → i < length path → get_or path i 0 ≡ 47
    → ((k : ℕ) → i + 1 ≤ k → k < length path → get_or path k 0 ≢ 47) → last_part path ≡ drop (i + 1) path
last_part_at path i inside here after =
    let suffix = suffix_len_is (λ b. not (b == 47)) path (i + 1) 0 (omega arith)
    (λ k from to. not_from_false (get_or path k 0 == 47) (ne_eqb (get_or path k 0) 47 (after k from to)))
    (λ _. not_from_true (get_or path (i + 1 - 1) 0 == 47) (eq-eqb (get_or path (i + 1 - 1) 0) 47 (let e : i + 1 - 1 ≡ i = omega arith in rw e here))) in
    ap (λ n. drop n path) (omega (arith, suffix))

pub last_part_all : (path : List ℕ) → ((k : ℕ) → k < length path → get_or path k 0 ≢ 47) → last_part path ≡ path
last_part_all path none =
    let suffix = suffix_len_is (λ b. not (b == 47)) path 0 0 (omega arith)
    (λ k _ to. not_from_false (get_or path k 0 == 47) (ne_eqb (get_or path k 0) 47 (none k to)))
    (λ at. absurd (omega arith)) in
    let start : length path - suffix_len (λ b. not (b == 47)) path ≡ 0 = omega (arith, suffix) in
    ap (λ n. drop n path) start

-- what stands before the first slash of a path
pub first_part_at : (path : List ℕ) (i : ℕ) → i < length path → get_or path i 0 ≡ 47
    → ((k : ℕ) → k < i → get_or path k 0 ≢ 47) → first_part path ≡ take i path
first_part_at path i inside here before =
    ap (λ n. take n path) (prefix_len_is (λ b. not (b == 47)) path i 0 (omega arith)
    (λ k to. not_from_false (get_or path k 0 == 47) (ne_eqb (get_or path k 0) 47 (before k to)))
    (λ _. not_from_true (get_or path i 0 == 47) (eq-eqb (get_or path i 0) 47 here)))

pub first_part_all : (path : List ℕ) → ((k : ℕ) → k < length path → get_or path k 0 ≢ 47) → first_part path ≡ path
first_part_all path none =
    ap (λ n. take n path) (prefix_len_is (λ b. not (b == 47)) path (length path) 0 (omega arith)
    (λ k to. not_from_false (get_or path k 0 == 47) (ne_eqb (get_or path k 0) 47 (none k to)))
    (λ at. absurd (omega arith))) ∙ take_all (length path) path (omega arith)
