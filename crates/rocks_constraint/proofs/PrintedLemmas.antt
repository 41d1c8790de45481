-- What is written is read back.
use Rattle.std.proofs.Common.{◌≡◌, ℕ, suc, ◌+◌, ◌<◌, ◌≤◌, List, [], ◌∷◌, ◌++◌, length, refl, sym, ap, ◌∙◌, true, false, not, Bool, ◌&&◌, arith, append_assoc, Some, IsTrue, nat_lt, nat_le, slice_index, codes}
use Rattle.std.specs.List.{flat_map, list_all}
use Rattle.std.specs.Char.{is_ascii_alphanumeric, to_ascii_lowercase}
use Rattle.std.specs.Str.{bytes_eq}
use Rattle.std.proofs.lemmas.Bool.{lt-ltb}
use Rattle.std.proofs.lemmas.Bool.Decides.{nat_tests}
use Rattle.rocks_text.specs.Texts.{is_name, is_name_byte, lowered}
use Rattle.rocks_version.specs.Texts.{has_form, has_short_numbers, is_version, is_version_byte}
use Rattle.rocks_version.proofs.Parts.{form_is}
use Rattle.rocks_constraint.specs.declared.constraint.Constraint.{Constraint}
use Rattle.rocks_constraint.specs.declared.constraint.Operator.{Operator}
use Rattle.rocks_constraint.specs.declared.constraint.Operator.TheVariants.{Eq, Ne, Lt, Gt, Le, Ge, Near}
use Rattle.rocks_constraint.specs.Alphabet.{may_part, is_operator_byte, is_blank, operator_of, BeginsOtherwise}
use Rattle.rocks_constraint.specs.Grammar.{IsConstraintAt, IsDependency, IsRead, IsTail, ended, goes_on}
use Rattle.rocks_constraint.specs.Printed.{constraint_text, constraints_text, operator_text, printed}

left : (a b : Bool) → (a && b) ≡ true → a ≡ true
left true b h = refl
left false b h = cc

right : (a b : Bool) → (a && b) ≡ true → b ≡ true
right true b h = h
right false b h = cc

-- ---- versions

form : (version : List ℕ) → is_version version ≡ true → (list_all is_version_byte version && nat_le (length version) 40 && is_ascii_alphanumeric (slice_index version 0)) ≡ true
unfolding is_version
form version h = sym (form_is version) ∙ left (has_form version) (has_short_numbers version) h

version_bytes : (version : List ℕ) → is_version version ≡ true → list_all is_version_byte version ≡ true
version_bytes version h =
    let all = form version h in
    left (list_all is_version_byte version) (nat_le (length version) 40) (left (list_all is_version_byte version && nat_le (length version) 40) (is_ascii_alphanumeric (slice_index version 0)) all)

version_begins : (version : List ℕ) → is_version version ≡ true → is_ascii_alphanumeric (slice_index version 0) ≡ true
version_begins version h = right (list_all is_version_byte version && nat_le (length version) 40) (is_ascii_alphanumeric (slice_index version 0)) (form version h)

no_blank : (b : ℕ) → is_ascii_alphanumeric b ≡ true → is_blank b ≡ false
no_blank b h = grind (arith, nat_tests)

begins_no_blank : (front rest : List ℕ) → is_ascii_alphanumeric (slice_index front 0) ≡ true → BeginsOtherwise is_blank (front ++ rest)
begins_no_blank [] rest h = cc
begins_no_blank (b ∷ bs) rest h = no_blank b h

-- ---- operators

operator_bytes : (operator : Operator) → list_all is_operator_byte (operator_text operator) ≡ true
operator_bytes Eq = refl
operator_bytes Ne = refl
operator_bytes Lt = refl
operator_bytes Gt = refl
operator_bytes Le = refl
operator_bytes Ge = refl
operator_bytes Near = refl

operator_read : (operator : Operator) → operator_of (operator_text operator) ≡ Some operator
unfolding operator_of
operator_read Eq = refl
operator_read Ne = refl
operator_read Lt = refl
operator_read Gt = refl
operator_read Le = refl
operator_read Ge = refl
operator_read Near = refl

never : (b : Bool) → (b && false) ≡ false
never true = refl
never false = refl

operator_parts : (count : ℕ) (operator : Operator) (rest : List ℕ) → BeginsOtherwise (may_part count) (operator_text operator ++ rest)
operator_parts count Eq rest = never (nat_lt 0 count)
operator_parts count Ne rest = never (nat_lt 0 count)
operator_parts count Lt rest = never (nat_lt 0 count)
operator_parts count Gt rest = never (nat_lt 0 count)
operator_parts count Le rest = never (nat_lt 0 count)
operator_parts count Ge rest = never (nat_lt 0 count)
operator_parts count Near rest = never (nat_lt 0 count)

-- ---- constraints

abbrev behind_gap : Constraint → List ℕ → List ℕ
behind_gap c rest = operator_text c.operator ++ 32 ∷ (c.version ++ rest)

one_read : (c : Constraint) (rest : List ℕ) → is_version c.version ≡ true → BeginsOtherwise is_version_byte rest → IsConstraintAt (behind_gap c rest) c rest
one_read c rest version stops = record {
  operator_run = operator_text c.operator;
  behind = 32 ∷ (c.version ++ rest);
  blanks = 32 ∷ [];
  from_version = c.version ++ rest;
  cut_operator = record { whole = refl; passes = operator_bytes c.operator; longest = refl };
  operator = operator_read c.operator;
  cut_blanks = record { whole = refl; passes = refl; longest = begins_no_blank c.version rest (version_begins c.version version) };
  cut_version = record { whole = refl; passes = version_bytes c.version version; longest = stops };
  version = version;
}

abbrev with_comma : List Constraint → List ℕ
with_comma cs = flat_map (λ d. 44 ∷ constraint_text d) cs

comma_stops : (cs : List Constraint) → BeginsOtherwise is_version_byte (with_comma cs)
comma_stops [] = tt
comma_stops (c ∷ cs) = refl

regrouped : (c : Constraint) (rest : List ℕ) → constraint_text c ++ rest ≡ 32 ∷ behind_gap c rest
regrouped c rest = ap (λ (l : List ℕ). 32 ∷ l) (append_assoc (operator_text c.operator) (32 ∷ c.version) rest)

abbrev pub are_versions : List Constraint → Bool
are_versions cs = list_all (λ c. is_version c.version) cs

later_read : (count : ℕ) (cs : List Constraint) → 0 < count → count + length cs ≤ 32 → are_versions cs ≡ true → IsTail count (with_comma cs) cs
later_read count [] some few all = ended count [] (record { whole = refl; passes = refl; longest = tt })
later_read count (c ∷ cs) some few all =
    let positive = lt-ltb 0 count some in
    goes_on count (with_comma (c ∷ cs)) (44 ∷ 32 ∷ []) (behind_gap c (with_comma cs)) (with_comma cs) c cs (omega arith)
    (record {
      whole = ap (λ (l : List ℕ). 44 ∷ l) (regrouped c (with_comma cs));
      passes = rw positive refl;
      longest = operator_parts count c.operator (32 ∷ (c.version ++ with_comma cs));
    })
    (one_read c (with_comma cs) (left (is_version c.version) (are_versions cs) all) (comma_stops cs))
    (later_read (suc count) cs (omega arith) (omega arith) (right (is_version c.version) (are_versions cs) all))

first_read : (cs : List Constraint) → length cs ≤ 32 → are_versions cs ≡ true → IsTail 0 (constraints_text cs) cs
first_read [] few all = ended 0 [] (record { whole = refl; passes = refl; longest = tt })
first_read (c ∷ cs) few all =
    goes_on 0 (constraints_text (c ∷ cs)) (32 ∷ []) (behind_gap c (with_comma cs)) (with_comma cs) c cs (omega arith)
    (record { whole = regrouped c (with_comma cs); passes = refl; longest = operator_parts 0 c.operator (32 ∷ (c.version ++ with_comma cs)) })
    (one_read c (with_comma cs) (left (is_version c.version) (are_versions cs) all) (comma_stops cs))
    (later_read 1 cs (omega arith) (omega arith) (right (is_version c.version) (are_versions cs) all))

-- ---- names

name_byte : (b : ℕ) → is_name_byte b ≡ true → is_version_byte b ≡ true
name_byte b h = grind (arith, nat_tests)

low_byte : (b : ℕ) → is_name_byte b ≡ true → to_ascii_lowercase b ≡ b
low_byte b h = grind (arith, nat_tests)

both : (a b : Bool) → a ≡ true → b ≡ true → (a && b) ≡ true
both true b p q = q
both false b p q = cc

name_bytes : (name : List ℕ) → list_all is_name_byte name ≡ true → list_all is_version_byte name ≡ true
name_bytes [] all = refl
name_bytes (b ∷ bs) all =
    both (is_version_byte b) (list_all is_version_byte bs) (name_byte b (left (is_name_byte b) (list_all is_name_byte bs) all)) (name_bytes bs (right (is_name_byte b) (list_all is_name_byte bs) all))

low_name : (name : List ℕ) → list_all is_name_byte name ≡ true → name ≡ lowered name
low_name [] all = refl
low_name (b ∷ bs) all =
    sym (ap (λ (x : ℕ). x ∷ lowered bs) (low_byte b (left (is_name_byte b) (list_all is_name_byte bs) all)) ∙ ap (λ (l : List ℕ). b ∷ l) (sym (low_name bs (right (is_name_byte b) (list_all is_name_byte bs) all))))

name_stops : (cs : List Constraint) → BeginsOtherwise is_version_byte (constraints_text cs)
name_stops [] = tt
name_stops (c ∷ cs) = refl

pub printed_reading : (name : List ℕ) (constraints : List Constraint) → IsTrue (is_name name) → IsTrue (are_versions constraints) → length constraints ≤ 32
    → IsRead (printed name constraints) name constraints
printed_reading name constraints named all few =
    let front = left (nat_le 1 (length name) && nat_le (length name) 60 && is_ascii_alphanumeric (slice_index name 0) && list_all is_name_byte name) (not (bytes_eq name (codes "manifest"))) named in
    let bytes = right (nat_le 1 (length name) && nat_le (length name) 60 && is_ascii_alphanumeric (slice_index name 0)) (list_all is_name_byte name) front in
    let begins = right (nat_le 1 (length name) && nat_le (length name) 60) (is_ascii_alphanumeric (slice_index name 0))
    (left (nat_le 1 (length name) && nat_le (length name) 60 && is_ascii_alphanumeric (slice_index name 0)) (list_all is_name_byte name) front) in
    record {
      blanks = [];
      from_name = printed name constraints;
      run = name;
      behind = constraints_text constraints;
      cut_blanks = record { whole = refl; passes = refl; longest = begins_no_blank name (constraints_text constraints) begins };
      cut_name = record { whole = refl; passes = name_bytes name bytes; longest = name_stops constraints };
      lowers = low_name name bytes;
      is_one = named;
      tail = first_read constraints few all;
    }

pub printed_read : (name : List ℕ) (constraints : List Constraint) → IsTrue (is_name name) → IsTrue (are_versions constraints) → length constraints ≤ 32
    → length (printed name constraints) ≤ 1000 → IsDependency (printed name constraints) name constraints
printed_read name constraints named all few short = (short, printed_reading name constraints named all few)
