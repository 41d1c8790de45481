-- The body and the revision of a text.
use Rattle.std.proofs.Common.{◌≡◌, ℕ, zero, suc, ◌-◌, ◌<◌, ◌≤◌, List, [], ◌∷◌, length, drop, take, refl, ap, sym, ◌∙◌, true, false, not, Bool, arith, nat_lt, nat_le, ◌&&◌, slice_index, if◌then◌else◌}
use Rattle.std.specs.List.{suffix_len, list_all, before_last, after_last}
use Rattle.std.specs.Char.{is_ascii_alphanumeric, is_ascii_digit}
use Rattle.std.proofs.lemmas.Bool.Decides.{nat_tests}
use Rattle.std.proofs.lemmas.Bool.{lt-ltb}
use Rattle.std.proofs.lemmas.List.{length-take-le, take_rest}
use Rattle.rocks_version.specs.Texts.{is_dash, is_numeral, has_revision, body, has_form, has_short_numbers, is_version, is_version_byte, is_rock_byte, is_rock_version}
use Rattle.rocks_version.proofs.Numbers.{and_left, and_right, prefix_len-all, short_front, short_drop, short_take}

-- where the bytes behind the last dash begin; 0 where there is no dash
abbrev pub behind_dash : List ℕ → ℕ
behind_dash text = length text - suffix_len (λ b. not (is_dash b)) text

some_front : (n : ℕ) (text : List ℕ) → n ≤ length text → nat_le 1 (length (take (n - 1) text)) ≡ nat_lt 1 n
some_front n text within = rw (length-take-le (n - 1) text (omega arith)) (grind (arith, nat_tests))

-- a text has a revision where a dash has something before it and digits behind it
pub revision_is : (text : List ℕ) → has_revision text ≡ (nat_lt 1 (behind_dash text) && is_numeral (drop (behind_dash text) text))
unfolding has_revision
revision_is text = rw (some_front (behind_dash text) text (omega arith)) refl

front_first : (n : ℕ) (text : List ℕ) → nat_le 1 (length (take n text)) ≡ true → slice_index (take n text) 0 ≡ slice_index text 0
front_first zero text h = cc
front_first (suc n) [] h = refl
front_first (suc n) (b ∷ bs) h = refl

-- the same, at a place that is known to be the one behind the last dash
pub revision_at : (text : List ℕ) (k : ℕ) (has : Bool) → k ≡ behind_dash text → 1 < k → has ≡ is_numeral (take (length text - k) (drop k text))
    → has_revision text ≡ has
revision_at text k has e some digits =
    let there : (nat_lt 1 k && is_numeral (drop k text)) ≡ has = rw (lt-ltb 1 k some) (sym (digits ∙ ap is_numeral (take_rest text k))) in
    revision_is text ∙ ap (λ (n : ℕ). nat_lt 1 n && is_numeral (drop n text)) (sym e) ∙ there

-- the body begins as the text does
body_first : (text : List ℕ) → slice_index (body text) 0 ≡ slice_index text 0
unfolding body has_revision
body_first text =
    elim (has_revision text) as (λ has. has_revision text ≡ has → slice_index (if has then before_last is_dash text else text) 0 ≡ slice_index text 0) [
      | true ↦ λ yes. front_first (behind_dash text - 1) text (and_left (nat_le 1 (length (before_last is_dash text))) (is_numeral (after_last is_dash text)) yes)
      | false ↦ λ no. refl
    ] refl

-- the form of a text, by its own first byte
pub form_is : (text : List ℕ) → has_form text
    ≡ (list_all is_version_byte text && nat_le (length text) 40 && is_ascii_alphanumeric (slice_index text 0))
unfolding has_form
form_is text = rw (body_first text) refl

-- the digits of a revision
pub revision_digits : (text : List ℕ) → has_revision text ≡ true → list_all is_ascii_digit (after_last is_dash text) ≡ true
unfolding has_revision
revision_digits text h =
    let numeral = and_right (nat_le 1 (length (before_last is_dash text))) (is_numeral (after_last is_dash text)) h in
    and_right (nat_le 1 (length (after_last is_dash text))) (list_all is_ascii_digit (after_last is_dash text)) numeral

-- of which there are few
pub revision_short : (text : List ℕ) → has_revision text ≡ true → has_short_numbers text ≡ true → length (after_last is_dash text) ≤ 18
revision_short text has short =
    let digits = after_last is_dash text in
    let all = prefix_len-all is_ascii_digit digits (revision_digits text has) in
    let few = short_front digits (short_drop text (behind_dash text) short) in
    omega arith

-- the body of a text of short numbers is one too
pub short_body : (text : List ℕ) → has_short_numbers text ≡ true → has_short_numbers (body text) ≡ true
unfolding body
short_body text short =
    elim (has_revision text) as (λ has. has_short_numbers (if has then before_last is_dash text else text) ≡ true) [
      | true ↦ short_take text (behind_dash text - 1) short
      | false ↦ short
    ]

pub version_short : (text : List ℕ) → is_version text ≡ true → has_short_numbers text ≡ true
unfolding is_version
version_short text h = and_right (has_form text) (has_short_numbers text) h

-- a version that is a rock's
pub rock_version_is : (text : List ℕ) → is_version text ≡ true → is_rock_version text
    ≡ (has_revision text && list_all is_rock_byte (before_last is_dash text))
unfolding is_rock_version body
rock_version_is text version =
    rw version (elim (has_revision text) as (λ has. (true && has && list_all is_rock_byte (if has then before_last is_dash text else text)) ≡ (has && list_all is_rock_byte (before_last is_dash text))) [ true ↦ refl | false ↦ refl ])

pub version_body_short : (text : List ℕ) → is_version text ≡ true → has_short_numbers (body text) ≡ true
version_body_short text h = short_body text (version_short text h)
