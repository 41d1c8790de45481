-- Where the fault of a run lies.
use Rattle.std.proofs.Common.{◌≡◌, ℕ, suc, ◌+◌, ◌≤◌, List, [], ◌∷◌, length, refl, subst, true, false, not, cond, nat_lt, arith, Option, Some, None, if◌then◌else◌, ◌∙◌, ap, sym, inl, inr, Err}
use Rattle.std.specs.Prelude.{◌⊎◌, Result, IfNone, IfSome}
use Rattle.std.specs.List.{position_or_len, prefix_len}
use Rattle.std.specs.Option.{option_map_or}
use Rattle.std.proofs.lemmas.List.Sums.{prefix_len-le-length}
use Rattle.std.specs.Char.{is_ascii_digit}
use Rattle.std.proofs.lemmas.Bool.Decides.{nat_tests}
use Rattle.rocks_version.specs.Faults.{bad_place, fault_of, long_number_place, told}
use Rattle.rocks_version.specs.Texts.{has_form, is_version, is_version_byte}
use Rattle.rocks_version.specs.declared.fault.VersionFault.{VersionFault}
use Rattle.rocks_version.specs.declared.fault.VersionFault.TheVariants.{BadVersion, NumberTooLong, NoMemory}
use Rattle.std.specs.Prelude.{◌≢◌}
use Rattle.rocks_constraint.specs.declared.constraint.Operator.{Operator}
use Rattle.rocks_constraint.specs.declared.fault.DependencyFault.TheVariants.{BadDependency}
use Rattle.rocks_constraint.specs.declared.reader.Wrong.{Wrong}
use Rattle.rocks_constraint.specs.declared.reader.Wrong.TheVariants as wrongs
use Rattle.rocks_constraint.specs.Alphabet.{is_blank, is_operator_byte, operator_of, IsCut}
use Rattle.rocks_constraint.specs.Faults.{fault_at, place_of, version_place, IsNoConstraint, no_version, LacksVersion}
use Rattle.rocks_constraint.proofs.Tails.{cut_length}

long_within : (run : List ℕ) → long_number_place run ≤ length run
long_within [] = omega arith
long_within (b ∷ bs) =
    let rest = long_within bs in
    elim (nat_lt 18 (prefix_len is_ascii_digit (b ∷ bs))) as (λ t. cond t 0 (long_number_place bs + 1) ≤ suc (length bs)) [ true ↦ omega arith | false ↦ omega arith ]

few_or_none : (n : ℕ) → (if nat_lt 40 n then 40 else 0) ≤ n
few_or_none n = grind (arith, nat_tests)

bad_within : (run : List ℕ) → bad_place run ≤ length run
bad_within run =
    let size = prefix_len-le-length (λ (b : ℕ). not (not (is_version_byte b))) run in
    elim (nat_lt (position_or_len (λ (b : ℕ). not (is_version_byte b)) run) (length run)) as (λ t. option_map_or told (cond t (Some (position_or_len (λ (b : ℕ). not (is_version_byte b)) run)) None) (if nat_lt 40 (length run) then 40 else 0) ≤ length run) [
      | true ↦ omega arith
      | false ↦ few_or_none (length run)
    ]

-- it lies in the run or right behind it
pub version_within : (run : List ℕ) (fault : VersionFault) → fault_of run ≡ Some fault → version_place fault ≤ length run
unfolding fault_of
version_within run fault =
    elim (has_form run) as (λ form. (if not form then Some (BadVersion (bad_place run)) else (if not (is_version run) then Some (NumberTooLong (long_number_place run)) else None)) ≡ Some fault → version_place fault ≤ length run) [
      | true ↦ elim (is_version run) as (λ version. (if not version then Some (NumberTooLong (long_number_place run)) else None) ≡ Some fault → version_place fault ≤ length run) [
        | true ↦ λ e. cc
        | false ↦ λ e. let same : NumberTooLong (long_number_place run) ≡ fault = cc in subst (λ (f : VersionFault). version_place f ≤ length run) same (long_within run)
      ]
      | false ↦ λ e. let same : BadVersion (bad_place run) ≡ fault = cc in subst (λ (f : VersionFault). version_place f ≤ length run) same (bad_within run)
    ]

-- no text has want of memory as its fault
no_memory : (run : List ℕ) → fault_of run ≡ Some NoMemory → ⊥
unfolding fault_of
no_memory run =
    elim (has_form run) as (λ form. (if not form then Some (BadVersion (bad_place run)) else (if not (is_version run) then Some (NumberTooLong (long_number_place run)) else None)) ≡ Some NoMemory → ⊥) [
      | true ↦ elim (is_version run) as (λ version. (if not version then Some (NumberTooLong (long_number_place run)) else None) ≡ Some NoMemory → ⊥) [ true ↦ λ e. cc | false ↦ λ e. cc ]
      | false ↦ λ e. cc
    ]

told_by : (o : Option VersionFault) (fault : VersionFault) → IfNone o (fault ≡ NoMemory)
    → IfSome o (λ f. ◌≡◌ {A = Result (List ℕ) VersionFault} (Err fault) (Err f)) → (fault ≡ NoMemory) ⊎ (o ≡ Some fault)
told_by None fault none some = inl none
told_by (Some f) fault none some = let same : f ≡ fault = cc in inr (ap (λ (g : VersionFault). Some g) same)

-- what a run is told to be that is read as no version: the fault that it has, or want of memory
pub read_cases : (run text : List ℕ) (fault : VersionFault) → text ≡ run → IfNone (fault_of text) (fault ≡ NoMemory)
    → IfSome (fault_of text) (λ f. ◌≡◌ {A = Result (List ℕ) VersionFault} (Err fault) (Err f)) → (fault ≡ NoMemory) ⊎ (fault_of run ≡ Some fault)
read_cases run text fault same none some = subst (λ (t : List ℕ). (fault ≡ NoMemory) ⊎ (fault_of t ≡ Some fault)) same (told_by (fault_of text) fault none some)

pub case_within : (run : List ℕ) (fault : VersionFault) → (fault ≡ NoMemory) ⊎ (fault_of run ≡ Some fault) → version_place fault ≤ length run
case_within run fault cases =
    elim cases [
      | inl memory ↦ rw memory (omega arith)
      | inr is ↦ version_within run fault is
    ]

-- what is wrong with a constraint without a version
module _ (place : ℕ) (text operator_run from_blanks blanks from_version run rest : List ℕ) (operator : Operator) (fault : VersionFault) (wrong : Wrong)
    (cut_operator : IsCut is_operator_byte text operator_run from_blanks) (is_operator : operator_of operator_run ≡ Some operator)
    (cut_blanks : IsCut is_blank from_blanks blanks from_version) (cut_version : IsCut is_version_byte from_version run rest)
    (cases : (fault ≡ NoMemory) ⊎ (fault_of run ≡ Some fault)) where
  pub place_within : place + length operator_run + length blanks + version_place fault ≤ place + length text
  place_within =
      let one = cut_length is_operator_byte text operator_run from_blanks cut_operator in
      let two = cut_length is_blank from_blanks blanks from_version cut_blanks in
      let three = cut_length is_version_byte from_version run rest cut_version in
      let four = case_within run fault cases in
      omega arith

  pub wrong_constraint : (fault ≢ NoMemory → wrong ≡ wrongs.Other (place + length operator_run + length blanks + version_place fault)) → (fault ≡ NoMemory → wrong ≡ wrongs.NoMemory)
      → (wrong ≡ wrongs.NoMemory) ⊎ IsNoConstraint place text (fault_at wrong)
  wrong_constraint placed memory =
      elim cases [
        | inl no_room ↦ inl (memory no_room)
        | inr is ↦
            let lacks : LacksVersion text (length operator_run + length blanks + version_place fault) = record {
              operator_run = operator_run;
              from_blanks = from_blanks;
              blanks = blanks;
              from_version = from_version;
              run = run;
              rest = rest;
              operator = operator;
              fault = fault;
              cut_operator = cut_operator;
              is_operator = is_operator;
              cut_blanks = cut_blanks;
              cut_version = cut_version;
              no_version = is;
              place = refl;
            } in
            let other = placed (λ m. no_memory run (is ∙ ap (λ (f : VersionFault). Some f) m)) in
            let same : place + (length operator_run + length blanks + version_place fault) ≡ place + length operator_run + length blanks + version_place fault = omega arith in
            inr (subst (λ (w : Wrong). IsNoConstraint place text (fault_at w)) (sym other)
            (subst (λ (n : ℕ). IsNoConstraint place text (BadDependency n)) same (no_version place (length operator_run + length blanks + version_place fault) text lacks)))
      ]

  pub wrong_within : (fault ≢ NoMemory → wrong ≡ wrongs.Other (place + length operator_run + length blanks + version_place fault)) → (fault ≡ NoMemory → wrong ≡ wrongs.NoMemory)
      → place_of (fault_at wrong) ≤ place + length text
  wrong_within placed memory =
      elim cases [
        | inl no_room ↦ rw (memory no_room) (omega arith)
        | inr is ↦ let other = placed (λ m. no_memory run (is ∙ ap (λ (f : VersionFault). Some f) m)) in rw other place_within
      ]
