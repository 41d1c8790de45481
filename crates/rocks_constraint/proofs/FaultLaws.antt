-- No dependency has a fault.
use Rattle.std.proofs.Common.{◌≡◌, ℕ, suc, ◌<◌, List, [], length, refl, sym, ap, subst, ◌∙◌, arith}
use Rattle.rocks_text.specs.Texts.{is_name, lowered}
use Rattle.rocks_version.specs.Faults.{fault_of}
use Rattle.rocks_version.specs.Texts.{is_version_byte}
use Rattle.rocks_version.proofs.FaultLemmas.{none_if_version}
use Rattle.rocks_constraint.specs.declared.constraint.Constraint.{Constraint}
use Rattle.rocks_constraint.specs.declared.constraint.TheConstants.{MOST_CONSTRAINTS}
use Rattle.rocks_constraint.specs.declared.fault.DependencyFault.{DependencyFault}
use Rattle.rocks_constraint.specs.Alphabet.{may_part, is_operator_byte, is_blank, operator_of, IsCut}
use Rattle.rocks_constraint.specs.Faults.{IsNoConstraint, no_operator, no_version, IsWrongAt, too_many, no_constraint, HasWrongTail, here, later, IsWrong, no_name, behind_name, HasFault, wrong, too_long}
use Rattle.rocks_constraint.specs.Grammar.{IsConstraintAt, IsDependency, IsRead, IsTail, ended, goes_on}
use Rattle.rocks_constraint.proofs.LawLemmas.{none_left, one_constraint, one_cut}

constraint_clean : {p : ℕ} {other : List ℕ} {fault : DependencyFault} (text : List ℕ) (c : Constraint) (rest : List ℕ) → text ≡ other → IsConstraintAt text c rest → IsNoConstraint p other fault → ⊥
constraint_clean text c rest same one (no_operator p other run behind cut none) =
    let runs = one_cut is_operator_byte text other one.operator_run run one.behind behind same one.cut_operator cut in
    let clash = sym one.operator ∙ ap operator_of runs.0 ∙ none in
    cc clash
constraint_clean text c rest same one (no_version p behind other lacks) =
    let runs = one_cut is_operator_byte text other one.operator_run lacks.operator_run one.behind lacks.from_blanks same one.cut_operator lacks.cut_operator in
    let blanks = one_cut is_blank one.behind lacks.from_blanks one.blanks lacks.blanks one.from_version lacks.from_version runs.1 one.cut_blanks lacks.cut_blanks in
    let versions = one_cut is_version_byte one.from_version lacks.from_version c.version lacks.run rest lacks.rest blanks.1 one.cut_version lacks.cut_version in
    let clash = sym (none_if_version c.version one.version) ∙ ap fault_of versions.0 ∙ lacks.no_version in
    cc clash

pub no_wrong : {n p : ℕ} {other : List ℕ} {fault : DependencyFault} (count : ℕ) (text : List ℕ) (c : Constraint) (rest : List ℕ) → count ≡ n → text ≡ other → count < MOST_CONSTRAINTS
    → IsConstraintAt text c rest → IsWrongAt n p other fault → ⊥
no_wrong count text c rest e same few one (too_many n p other full some) = absurd (omega arith)
no_wrong count text c rest e same few one (no_constraint n p other fault fewer some bad) = constraint_clean text c rest same one bad

empty_clean : {n p : ℕ} {other : List ℕ} {fault : DependencyFault} → [] ≡ other → IsWrongAt n p other fault → ⊥
empty_clean empty (too_many n p other full some) = let none : 0 ≡ length other = ap (λ (l : List ℕ). length l) empty in absurd (omega arith)
empty_clean empty (no_constraint n p other fault fewer some bad) = let none : 0 ≡ length other = ap (λ (l : List ℕ). length l) empty in absurd (omega arith)

tail_clean : {count n place : ℕ} {text other : List ℕ} {cs : List Constraint} {fault : DependencyFault} → count ≡ n → text ≡ other → IsTail count text cs → HasWrongTail n place other fault → ⊥
tail_clean e same (ended count text cut) (here n place other gap behind fault again bad) =
    let there = subst (λ (k : ℕ). IsCut (may_part k) other gap behind) (sym e) again in
    let cuts = one_cut (may_part count) text other text gap [] behind same cut there in
    empty_clean cuts.1 bad
tail_clean e same (ended count text cut) (later n place next other gap behind rest c fault few again one size tail) =
    let there = subst (λ (k : ℕ). IsCut (may_part k) other gap behind) (sym e) again in
    let cuts = one_cut (may_part count) text other text gap [] behind same cut there in
    none_left behind c rest cuts.1 one
tail_clean e same (goes_on count text gap behind rest c cs few cut one tail) (here n place other room from fault again bad) =
    let there = subst (λ (k : ℕ). IsCut (may_part k) other room from) (sym e) again in
    let cuts = one_cut (may_part count) text other gap room behind from same cut there in
    no_wrong count behind c rest e cuts.1 few one bad
tail_clean e same (goes_on count text gap behind rest c cs few cut one tail) (later n place next other room from left d fault fewer again first size end) =
    let there = subst (λ (k : ℕ). IsCut (may_part k) other room from) (sym e) again in
    let cuts = one_cut (may_part count) text other gap room behind from same cut there in
    let firsts = one_constraint behind from c d rest left cuts.1 one first in
    tail_clean (ap suc e) firsts.1 tail end

pub read_clean : {other : List ℕ} {fault : DependencyFault} (text name : List ℕ) (cs : List Constraint) → text ≡ other → IsRead text name cs → IsWrong other fault → ⊥
read_clean text name cs same one (no_name other blanks from_name run behind cut again bad) =
    let fronts = one_cut is_blank text other one.blanks blanks one.from_name from_name same one.cut_blanks cut in
    let runs = one_cut is_version_byte one.from_name from_name one.run run one.behind behind fronts.1 one.cut_name again in
    let clash = sym one.is_one ∙ ap (λ (t : List ℕ). is_name t) (one.lowers ∙ ap (λ (t : List ℕ). lowered t) runs.0) ∙ bad in
    cc clash
read_clean text name cs same one (behind_name place other blanks from_name run behind fault cut again good is_place tail) =
    let fronts = one_cut is_blank text other one.blanks blanks one.from_name from_name same one.cut_blanks cut in
    let runs = one_cut is_version_byte one.from_name from_name one.run run one.behind behind fronts.1 one.cut_name again in
    tail_clean refl runs.1 one.tail tail

clean : {other : List ℕ} {fault : DependencyFault} (text name : List ℕ) (cs : List Constraint) → text ≡ other → IsDependency text name cs → HasFault other fault → ⊥
clean text name cs same one (wrong other fault bad) = read_clean text name cs same one.1 bad
clean text name cs same one (too_long other others ds long read) =
    let short = one.0 in
    let sizes : length text ≡ length other = ap (λ (l : List ℕ). length l) same in
    absurd (omega arith)

pub no_fault : (text name : List ℕ) (constraints : List Constraint) (fault : DependencyFault) → IsDependency text name constraints → HasFault text fault → ⊥
no_fault text name constraints fault one bad = clean text name constraints refl one bad
