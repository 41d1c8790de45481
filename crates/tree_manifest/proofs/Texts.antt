-- Names, versions and dependencies are found in their texts.
use Rattle.std.proofs.Common.{◌≡◌, ℕ, suc, ◌+◌, ◌<◌, ◌≤◌, List, [], ◌∷◌, length, refl, sym, ap, subst, true, Bool, arith, Option, Some, None, IfSome, Result, Ok, Err, IfOk, IsTrue}
use Rattle.std.specs.Char.{to_ascii_lowercase}
use Rattle.std.specs.List.{list_all, All}
use Rattle.std.specs.Str.{IsUtf8}
use Rattle.std.proofs.lemmas.Bool.{and_parts}
use Rattle.std.proofs.lemmas.Bool.Decides.{nat_tests}
use Rattle.std.proofs.lemmas.List.Elements.{All-cons, All-nil}
use Rattle.std.proofs.lemmas.Str.{IsUtf8-from_ascii}
use Rattle.std.proofs.lemmas.Str.Ascii.{IsAscii-from_all}
use Rattle.manifest_text.specs.Views.{IsWanted}
use Rattle.rocks_constraint.specs.Grammar.{IsRead, IsTail}
use Rattle.rocks_constraint.specs.Grammar.IsTail.{ended, goes_on}
use Rattle.rocks_constraint.specs.Printed.{printed}
use Rattle.rocks_constraint.specs.Wanted.{Wanted}
use Rattle.rocks_constraint.specs.declared.constraint.Constraint.{Constraint}
use Rattle.rocks_constraint.specs.declared.constraint.TheConstants.{MOST_CONSTRAINTS}
use Rattle.rocks_text.specs.Texts.{is_name, is_name_byte, lowered}
use Rattle.rocks_version.specs.Texts.{is_version, is_version_byte}
use Rattle.tree_manifest.proofs.Bytes.{name_alone, version_alone}
use Rattle.tree_manifest.proofs.Decoded.{one_wanted, reading}

-- ---- names and versions

ascii : (p : ℕ → Bool) → ((b : ℕ) → p b ≡ true → b < 128) → (text : List ℕ) → list_all p text ≡ true
    → All (λ b. b < 128) text
ascii p below [] all = All-nil (λ b. b < 128)
ascii p below (b ∷ text) all =
    let h = and_parts (p b) (list_all p text) all in All-cons (λ c. c < 128) b text (below b h.0) (ascii p below text h.1)

name_below : (b : ℕ) → is_name_byte b ≡ true → b < 128
name_below b is = grind (arith, nat_tests)

version_below : (b : ℕ) → is_version_byte b ≡ true → b < 128
version_below b is = grind (arith, nat_tests)

pub name_utf8 : (name : List ℕ) → is_name name ≡ true → IsUtf8 name
name_utf8 name is =
    IsUtf8-from_ascii name (IsAscii-from_all name (ascii is_name_byte name_below name (name_alone name is)))

pub version_utf8 : (version : List ℕ) → is_version version ≡ true → IsUtf8 version
version_utf8 version is =
    IsUtf8-from_ascii version
    (IsAscii-from_all version (ascii is_version_byte version_below version (version_alone version is)))

low : (b : ℕ) → is_name_byte b ≡ true → to_ascii_lowercase b ≡ b
low b is = grind (arith, nat_tests)

lowered_bytes : (text : List ℕ) → list_all is_name_byte text ≡ true → lowered text ≡ text
lowered_bytes [] all = refl
lowered_bytes (b ∷ text) all =
    let h = and_parts (is_name_byte b) (list_all is_name_byte text) all in
    let first = low b h.0 in
    let rest = lowered_bytes text h.1 in
    λ i. first i ∷ rest i

-- a name stands for itself
pub lowered_name : (name : List ℕ) → is_name name ≡ true → lowered name ≡ name
lowered_name name is = lowered_bytes name (name_alone name is)

-- ---- dependencies

abbrev IsRight : Constraint → Type 0
IsRight constraint = IsTrue (is_version constraint.version)

tail_right : (count : ℕ) (text : List ℕ) (constraints : List Constraint) → count ≤ MOST_CONSTRAINTS
    → IsTail count text constraints → All IsRight constraints × (count + length constraints ≤ MOST_CONSTRAINTS)
tail_right _ _ _ within (ended count text cut) = (All-nil IsRight, omega arith)
tail_right _ _ _ within (goes_on count text gap behind rest constraint constraints few cut is more) =
    let later = tail_right (suc count) rest constraints (omega arith) more in
    let size = later.1 in
    (All-cons IsRight constraint constraints is.version later.0, omega arith)

wanted_of : (text : List ℕ) (wanted : Wanted) → IsRead text wanted.name wanted.constraints → IsWanted wanted
wanted_of text wanted is =
    let tail = tail_right 0 is.behind wanted.constraints (omega arith) is.tail in
    let size = tail.1 in
    record { name = is.is_one; versions = tail.0; few = omega arith }

pub read_wanted : (text : List ℕ) (found : Option Wanted) → IfSome found (λ d. IsRead text d.name d.constraints)
    → IfSome found IsWanted
read_wanted text None is = tt
read_wanted text (Some wanted) is = wanted_of text wanted is

pub read_again : {E : Type 0} (text : List ℕ) (r : Result (Option Wanted) E)
    → IfOk r (λ found. IfSome found (λ d. IsRead text d.name d.constraints))
    → IfOk r (λ found. found ≡ None → (name : List ℕ) (constraints : List Constraint) → IsRead text name constraints → ⊥)
    → IfOk r (λ found. (wanted : Wanted) → IsWanted wanted → text ≡ printed wanted.name wanted.constraints
    → found ≡ Some wanted)
read_again text (Err e) read none = tt
read_again text (Ok None) read none = λ wanted is same.
    absurd (none refl wanted.name wanted.constraints
    (subst (λ (t : List ℕ). IsRead t wanted.name wanted.constraints) (sym same) (reading wanted is)))
read_again text (Ok (Some found)) read none = λ wanted is same.
    ap Some (one_wanted found wanted text read
    (subst (λ (t : List ℕ). IsRead t wanted.name wanted.constraints) (sym same) (reading wanted is)))
