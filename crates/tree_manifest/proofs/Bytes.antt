-- The bytes of names, versions and what is written of them.
use Rattle.std.proofs.Common.{◌≡◌, ℕ, List, [], ◌∷◌, ◌++◌, refl, ◌∙◌, true, Bool, codes, arith, IsTrue}
use Rattle.std.specs.List.{flat_map, list_all, All}
use Rattle.std.proofs.lemmas.Bool.{and_from, and_parts}
use Rattle.std.proofs.lemmas.Bool.Decides.{nat_tests}
use Rattle.std.proofs.lemmas.List.Elements.{All-head, All-tail}
use Rattle.std.proofs.lemmas.List.Folds.{list_all-append}
use Rattle.rocks_constraint.specs.Printed.{constraint_text, constraints_text, operator_text, printed}
use Rattle.rocks_constraint.specs.Wanted.{Wanted}
use Rattle.rocks_constraint.specs.declared.constraint.Constraint.{Constraint}
use Rattle.rocks_constraint.specs.declared.constraint.Operator.{Operator}
use Rattle.rocks_constraint.specs.declared.constraint.Operator.TheVariants.{Eq, Ne, Lt, Gt, Le, Ge, Near}
use Rattle.rocks_text.specs.Texts.{is_name, is_name_byte, is_part_byte}
use Rattle.rocks_version.specs.Texts.{has_form, is_version, is_version_byte}
use Rattle.rocks_version.specs.declared.key.RockKey.{RockKey}
use Rattle.manifest_text.specs.Text.{key_text}
use Rattle.manifest_text.specs.Views.{IsRockKey, IsWanted}

abbrev pub are_part_bytes : List ℕ → Bool
are_part_bytes text = list_all is_part_byte text

weaker : (p q : ℕ → Bool) → ((b : ℕ) → p b ≡ true → q b ≡ true) → (text : List ℕ) → list_all p text ≡ true
    → list_all q text ≡ true
weaker p q each [] all = refl
weaker p q each (b ∷ text) all =
    let h = and_parts (p b) (list_all p text) all in
    and_from _ _ (each b h.0) (weaker p q each text h.1)

both : (front back : List ℕ) → are_part_bytes front ≡ true → are_part_bytes back ≡ true
    → are_part_bytes (front ++ back) ≡ true
both front back f b = list_all-append is_part_byte front back ∙ and_from _ _ f b

name_byte : (b : ℕ) → is_name_byte b ≡ true → is_part_byte b ≡ true
name_byte b is = grind (arith, nat_tests)

version_byte : (b : ℕ) → is_version_byte b ≡ true → is_part_byte b ≡ true
version_byte b is = grind (arith, nat_tests)

pub name_alone : (name : List ℕ) → is_name name ≡ true → list_all is_name_byte name ≡ true
name_alone name is = (and_parts _ _ (and_parts _ _ is).0).1

pub version_alone : (version : List ℕ) → is_version version ≡ true → list_all is_version_byte version ≡ true
unfolding is_version has_form
version_alone version is = (and_parts _ _ (and_parts _ _ (and_parts _ _ is).0).0).0

pub name_bytes : (name : List ℕ) → is_name name ≡ true → are_part_bytes name ≡ true
name_bytes name is = weaker is_name_byte is_part_byte name_byte name (name_alone name is)

pub version_bytes : (version : List ℕ) → is_version version ≡ true → are_part_bytes version ≡ true
version_bytes version is = weaker is_version_byte is_part_byte version_byte version (version_alone version is)

pub key_bytes : (key : RockKey) → IsRockKey key → are_part_bytes (key_text key) ≡ true
key_bytes key is =
    both key.name (codes "/" ++ key.version) (name_bytes key.name is.0)
    (both (codes "/") key.version refl (version_bytes key.version is.1))

operator_bytes : (operator : Operator) → are_part_bytes (32 ∷ operator_text operator) ≡ true
operator_bytes Eq = refl
operator_bytes Ne = refl
operator_bytes Lt = refl
operator_bytes Gt = refl
operator_bytes Le = refl
operator_bytes Ge = refl
operator_bytes Near = refl

abbrev IsRight : Constraint → Type 0
IsRight constraint = IsTrue (is_version constraint.version)

constraint_bytes : (constraint : Constraint) → IsRight constraint → are_part_bytes (constraint_text constraint) ≡ true
constraint_bytes constraint is =
    both (32 ∷ operator_text constraint.operator) (32 ∷ constraint.version) (operator_bytes constraint.operator)
    (both (codes " ") constraint.version refl (version_bytes constraint.version is))

further_bytes : (constraints : List Constraint) → All IsRight constraints
    → are_part_bytes (flat_map (λ d. 44 ∷ constraint_text d) constraints) ≡ true
further_bytes [] all = refl
further_bytes (constraint ∷ constraints) all =
    both (44 ∷ constraint_text constraint) (flat_map (λ d. 44 ∷ constraint_text d) constraints)
    (both (codes ",") (constraint_text constraint) refl
    (constraint_bytes constraint (All-head IsRight constraint constraints all)))
    (further_bytes constraints (All-tail IsRight constraint constraints all))

constraints_bytes : (constraints : List Constraint) → All IsRight constraints
    → are_part_bytes (constraints_text constraints) ≡ true
constraints_bytes [] all = refl
constraints_bytes (constraint ∷ constraints) all =
    both (constraint_text constraint) (flat_map (λ d. 44 ∷ constraint_text d) constraints)
    (constraint_bytes constraint (All-head IsRight constraint constraints all))
    (further_bytes constraints (All-tail IsRight constraint constraints all))

pub wanted_bytes : (wanted : Wanted) → IsWanted wanted
    → are_part_bytes (printed wanted.name wanted.constraints) ≡ true
wanted_bytes wanted is =
    both wanted.name (constraints_text wanted.constraints) (name_bytes wanted.name is.name)
    (constraints_bytes wanted.constraints is.versions)
