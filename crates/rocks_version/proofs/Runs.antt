-- The components of a text, from the front on.
use Rattle.std.proofs.Common.{◌≡◌, ℕ, ◌+◌, ◌<◌, List, [], ◌∷◌, length, take, drop, refl, sym, ap, ◌∙◌, true, false, not, Bool, cond, arith, None, slice_index}
use Rattle.std.specs.List.{prefix_len, filter_map, cons_option}
use Rattle.std.specs.Char.{is_ascii_alphanumeric, is_ascii_alphabetic, is_ascii_digit}
use Rattle.std.specs.Str.Parse.{digits_value}
use Rattle.std.proofs.Math.Numerals.{one-add}
use Rattle.std.proofs.lemmas.Bool.Decides.{nat_tests}
use Rattle.rocks_version.specs.Components.{Number, Word, is_alike, joined, runs_of, component_of, components}

-- tests that agree take the same front
same_front : (p q : ℕ → Bool) → ((b : ℕ) → p b ≡ q b) → (text : List ℕ) → prefix_len p text ≡ prefix_len q text
same_front p q same [] = refl
same_front p q same (b ∷ bs) = rw (same b, same_front p q same bs) refl

-- bytes that are alike are alike to the same bytes
alike_same : (b c d : ℕ) → is_alike b c ≡ true → is_alike b d ≡ is_alike c d
alike_same b c d h = grind (arith, nat_tests)

-- the first run and what follows it
run_first : (b : ℕ) (bs : List ℕ) → runs_of (b ∷ bs) ≡ (b ∷ take (prefix_len (is_alike b) bs) bs) ∷ runs_of (drop (prefix_len (is_alike b) bs) bs)
run_first b [] = refl
run_first b (c ∷ cs) =
    let rest = run_first c cs in
    ap (joined b) rest ∙ elim (is_alike b c) as (λ t. is_alike b c ≡ t → cond t ((b ∷ c ∷ take (prefix_len (is_alike c) cs) cs) ∷ runs_of (drop (prefix_len (is_alike c) cs) cs)) ((b ∷ []) ∷ (c ∷ take (prefix_len (is_alike c) cs) cs) ∷ runs_of (drop (prefix_len (is_alike c) cs) cs))
    ≡ (b ∷ take (cond t (1 + prefix_len (is_alike b) cs) 0) (c ∷ cs)) ∷ runs_of (drop (cond t (1 + prefix_len (is_alike b) cs) 0) (c ∷ cs))) [
      | true ↦ λ passes. rw (same_front (is_alike b) (is_alike c) (λ d. alike_same b c d passes) cs, one-add (prefix_len (is_alike c) cs)) refl
      | false ↦ λ fails. ap (λ runs. (b ∷ []) ∷ runs) (sym rest)
    ] refl

letter_no_digit : (b : ℕ) → is_ascii_alphabetic b ≡ true → is_ascii_digit b ≡ false
letter_no_digit b h = grind (arith, nat_tests)

other_no_digit : (b : ℕ) → is_ascii_alphanumeric b ≡ false → is_ascii_digit b ≡ false
other_no_digit b h = grind (arith, nat_tests)

other_no_letter : (b : ℕ) → is_ascii_alphanumeric b ≡ false → is_ascii_alphabetic b ≡ false
other_no_letter b h = grind (arith, nat_tests)

-- a text that begins with a digit begins with a number
pub number_first : (text : List ℕ) → is_ascii_digit (slice_index text 0) ≡ true
    → components text ≡ Number (digits_value 10 (take (prefix_len is_ascii_digit text) text)) ∷ components (drop (prefix_len is_ascii_digit text) text)
unfolding components
number_first [] passes = cc
number_first (b ∷ bs) passes =
    let same = same_front (is_alike b) is_ascii_digit (λ c. rw passes refl) bs in
    ap (filter_map component_of) (run_first b bs) ∙ rw (same, passes, one-add (prefix_len is_ascii_digit bs)) refl

-- one that begins with a letter begins with a word
pub word_first : (text : List ℕ) → is_ascii_alphabetic (slice_index text 0) ≡ true
    → components text ≡ Word (take (prefix_len is_ascii_alphabetic text) text) ∷ components (drop (prefix_len is_ascii_alphabetic text) text)
unfolding components
word_first [] passes = cc
word_first (b ∷ bs) passes =
    let fails = letter_no_digit b passes in
    let same = same_front (is_alike b) is_ascii_alphabetic (λ c. rw (fails, passes) refl) bs in
    ap (filter_map component_of) (run_first b bs) ∙ rw (same, fails, passes, one-add (prefix_len is_ascii_alphabetic bs)) refl

none_between : (b : ℕ) (run : List ℕ) → is_ascii_alphanumeric b ≡ false → component_of (b ∷ run) ≡ None
none_between b run fails = rw (other_no_digit b fails, other_no_letter b fails) refl

other_alike : (b c : ℕ) → is_ascii_alphanumeric b ≡ false → is_alike b c ≡ true → is_ascii_alphanumeric c ≡ false
other_alike b c fails h = grind (arith, nat_tests)

joined_other : (b : ℕ) (runs : List (List ℕ)) → is_ascii_alphanumeric b ≡ false → filter_map component_of (joined b runs) ≡ filter_map component_of runs
joined_other b [] fails = rw (none_between b [] fails) refl
joined_other b ([] ∷ runs) fails = rw (none_between b [] fails) refl
joined_other b ((c ∷ run) ∷ runs) fails =
    elim (is_alike b c) as (λ t. is_alike b c ≡ t → filter_map component_of (cond t ((b ∷ c ∷ run) ∷ runs) ((b ∷ []) ∷ (c ∷ run) ∷ runs)) ≡ filter_map component_of ((c ∷ run) ∷ runs)) [
      | true ↦ λ passes. ap (λ o. cons_option o (filter_map component_of runs)) (none_between b (c ∷ run) fails ∙ sym (none_between c run (other_alike b c fails passes)))
      | false ↦ λ _. ap (λ o. cons_option o (filter_map component_of ((c ∷ run) ∷ runs))) (none_between b [] fails)
    ] refl

-- what stands before the first letter or digit is no component
pub past_others : (text : List ℕ) → components (drop (prefix_len (λ b. not (is_ascii_alphanumeric b)) text) text) ≡ components text
unfolding components
past_others [] = refl
past_others (b ∷ bs) =
    elim (is_ascii_alphanumeric b) as (λ t. is_ascii_alphanumeric b ≡ t → filter_map component_of (runs_of (drop (cond (not t) (1 + prefix_len (λ b. not (is_ascii_alphanumeric b)) bs) 0) (b ∷ bs))) ≡ filter_map component_of (joined b (runs_of bs))) [
      | true ↦ λ passes. refl
      | false ↦ λ fails. rw (one-add (prefix_len (λ b. not (is_ascii_alphanumeric b)) bs)) (past_others bs ∙ sym (joined_other b (runs_of bs) fails))
    ] refl

-- what follows those begins with a letter or digit
pub begins_past : (text : List ℕ) → 0 < length (drop (prefix_len (λ b. not (is_ascii_alphanumeric b)) text) text)
    → is_ascii_alphanumeric (slice_index (drop (prefix_len (λ b. not (is_ascii_alphanumeric b)) text) text) 0) ≡ true
begins_past [] some = absurd (omega arith)
begins_past (b ∷ bs) some =
    elim (is_ascii_alphanumeric b) as (λ t. is_ascii_alphanumeric b ≡ t → 0 < length (drop (cond (not t) (1 + prefix_len (λ b. not (is_ascii_alphanumeric b)) bs) 0) (b ∷ bs))
    → is_ascii_alphanumeric (slice_index (drop (cond (not t) (1 + prefix_len (λ b. not (is_ascii_alphanumeric b)) bs) 0) (b ∷ bs)) 0) ≡ true) [
      | true ↦ λ passes some. passes
      | false ↦ λ fails. rw (one-add (prefix_len (λ b. not (is_ascii_alphanumeric b)) bs)) (begins_past bs)
    ] refl some

-- a text whose first byte passes a test that 0 fails begins with some that pass
pub some_front : (p : ℕ → Bool) (text : List ℕ) → p 0 ≡ false → p (slice_index text 0) ≡ true → 0 < prefix_len p text
some_front p [] zero_no passes = cc
some_front p (b ∷ bs) zero_no passes = rw passes (omega arith)

-- an empty text has no components
pub no_components : (text : List ℕ) → length text ≡ 0 → components text ≡ []
unfolding components
no_components [] none = refl
no_components (b ∷ bs) none = absurd (omega arith)

-- a text that begins with a letter or digit has a component, and a text with one is not empty
pub some_component : (text : List ℕ) → 0 < length text → is_ascii_alphanumeric (slice_index text 0) ≡ true → 0 < length (components text)
some_component text some begins =
    elim (is_ascii_digit (slice_index text 0)) as (λ t. is_ascii_digit (slice_index text 0) ≡ t → 0 < length (components text)) [
      | true ↦ λ digit. rw (number_first text digit) (omega arith)
      | false ↦ λ other. let letter : is_ascii_alphabetic (slice_index text 0) ≡ true = grind (arith, nat_tests, begins, other) in rw (word_first text letter) (omega arith)
    ] refl

pub some_text : (text : List ℕ) → 0 < length (components text) → 0 < length text
unfolding components
some_text [] has = absurd (omega arith)
some_text (b ∷ bs) has = omega arith
