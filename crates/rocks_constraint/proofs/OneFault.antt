-- A text has one fault at most.
use Rattle.std.proofs.Common.{◌≡◌, ℕ, suc, ◌+◌, List, length, refl, sym, ap, subst, ◌∙◌, arith, None}
use Rattle.rocks_text.specs.Texts.{is_name, lowered}
use Rattle.rocks_version.specs.Faults.{fault_of}
use Rattle.rocks_version.specs.Texts.{is_version_byte}
use Rattle.rocks_version.specs.declared.fault.VersionFault.{VersionFault}
use Rattle.rocks_constraint.specs.declared.fault.DependencyFault.{DependencyFault}
use Rattle.rocks_constraint.specs.declared.fault.DependencyFault.TheVariants.{BadOperator, BadDependency}
use Rattle.rocks_constraint.specs.Alphabet.{may_part, is_operator_byte, is_blank, operator_of, IsCut}
use Rattle.rocks_constraint.specs.Faults.{version_place, limited, LacksVersion, IsNoConstraint, no_operator, no_version, IsWrongAt, too_many, no_constraint, HasWrongTail, here, later, IsWrong, no_name, behind_name, HasFault, wrong, too_long}
use Rattle.rocks_constraint.proofs.FaultLaws.{no_wrong, read_clean}
use Rattle.rocks_constraint.proofs.LawLemmas.{one_constraint, one_cut}

-- an operator that is read, and one that isn't, of one text
operator_clash : (text other run rest : List ℕ) (behind : ℕ) → text ≡ other → LacksVersion text behind → IsCut is_operator_byte other run rest → operator_of run ≡ None → ⊥
operator_clash text other run rest behind same lacks cut none =
    let runs = one_cut is_operator_byte text other lacks.operator_run run lacks.from_blanks rest same lacks.cut_operator cut in
    let clash = sym lacks.is_operator ∙ ap operator_of runs.0 ∙ none in
    cc clash

one_lack : (text other : List ℕ) (behind after : ℕ) → text ≡ other → LacksVersion text behind → LacksVersion other after → behind ≡ after
one_lack text other behind after same one again =
    let runs = one_cut is_operator_byte text other one.operator_run again.operator_run one.from_blanks again.from_blanks same one.cut_operator again.cut_operator in
    let blanks = one_cut is_blank one.from_blanks again.from_blanks one.blanks again.blanks one.from_version again.from_version runs.1 one.cut_blanks again.cut_blanks in
    let versions = one_cut is_version_byte one.from_version again.from_version one.run again.run one.rest again.rest blanks.1 one.cut_version again.cut_version in
    let somes = sym one.no_version ∙ ap fault_of versions.0 ∙ again.no_version in
    let faults : one.fault ≡ again.fault = cc somes in
    let places = ap (λ (f : VersionFault). version_place f) faults in
    let operators = ap (λ (l : List ℕ). length l) runs.0 in
    let gaps = ap (λ (l : List ℕ). length l) blanks.0 in
    let first = one.place in
    let second = again.place in
    omega arith

constraint_fault : {p q : ℕ} {text other : List ℕ} {f g : DependencyFault} → p ≡ q → text ≡ other → IsNoConstraint p text f → IsNoConstraint q other g → f ≡ g
constraint_fault e same (no_operator p text run rest cut none) (no_operator q other ran left again never) = ap (λ (n : ℕ). BadOperator n) e
constraint_fault e same (no_operator p text run rest cut none) (no_version q after other lacks) = absurd (operator_clash other text run rest after (sym same) lacks cut none)
constraint_fault e same (no_version p behind text lacks) (no_operator q other run rest cut none) = absurd (operator_clash text other run rest behind same lacks cut none)
constraint_fault e same (no_version p behind text one) (no_version q after other again) =
    let behinds = one_lack text other behind after same one again in
    let places : p + behind ≡ q + after = omega arith in
    ap (λ (n : ℕ). BadDependency n) places

at_fault : {count n p q : ℕ} {text other : List ℕ} {f g : DependencyFault} → count ≡ n → p ≡ q → text ≡ other → IsWrongAt count p text f → IsWrongAt n q other g → f ≡ g
at_fault e places same (too_many count p text full some) (too_many n q other all any) = ap (λ (n : ℕ). BadDependency n) places
at_fault e places same (too_many count p text full some) (no_constraint n q other g few any bad) = absurd (omega arith)
at_fault e places same (no_constraint count p text f few some bad) (too_many n q other all any) = absurd (omega arith)
at_fault e places same (no_constraint count p text f few some bad) (no_constraint n q other g fewer any worse) = constraint_fault places same bad worse

tail_fault : {count n p q : ℕ} {text other : List ℕ} {f g : DependencyFault} → count ≡ n → p ≡ q → text ≡ other → HasWrongTail count p text f → HasWrongTail n q other g → f ≡ g
tail_fault e places same (here count p text gap behind f cut bad) (here n q other room from g again worse) =
    let there = subst (λ (k : ℕ). IsCut (may_part k) other room from) (sym e) again in
    let cuts = one_cut (may_part count) text other gap room behind from same cut there in
    let gaps = ap (λ (l : List ℕ). length l) cuts.0 in
    let at : p + length gap ≡ q + length room = omega arith in
    at_fault e at cuts.1 bad worse
tail_fault e places same (here count p text gap behind f cut bad) (later n q next other room from left d g few again one size tail) =
    let there = subst (λ (k : ℕ). IsCut (may_part k) other room from) (sym e) again in
    let cuts = one_cut (may_part count) text other gap room behind from same cut there in
    absurd (no_wrong n from d left (sym e) (sym cuts.1) few one bad)
tail_fault e places same (later count p next text gap behind rest c f few cut one size tail) (here n q other room from g again worse) =
    let there = subst (λ (k : ℕ). IsCut (may_part k) other room from) (sym e) again in
    let cuts = one_cut (may_part count) text other gap room behind from same cut there in
    absurd (no_wrong count behind c rest e cuts.1 few one worse)
tail_fault e places same (later count p next text gap behind rest c f few cut one size tail) (later n q after other room from left d g fewer again first sizes end) =
    let there = subst (λ (k : ℕ). IsCut (may_part k) other room from) (sym e) again in
    let cuts = one_cut (may_part count) text other gap room behind from same cut there in
    let firsts = one_constraint behind from c d rest left cuts.1 one first in
    let texts = ap (λ (l : List ℕ). length l) same in
    let rests = ap (λ (l : List ℕ). length l) firsts.1 in
    let nexts : next ≡ after = omega arith in
    tail_fault (ap suc e) nexts firsts.1 tail end

part_fault : {text other : List ℕ} {f g : DependencyFault} → text ≡ other → IsWrong text f → IsWrong other g → f ≡ g
part_fault same (no_name text blanks from_name run behind cut again bad) (no_name other gaps from ran left blank named worse) =
    let fronts = one_cut is_blank text other blanks gaps from_name from same cut blank in
    ap (λ (l : List ℕ). BadDependency (length l)) fronts.0
part_fault same (no_name text blanks from_name run behind cut again bad) (behind_name q other gaps from ran left g blank named good is_place tail) =
    let fronts = one_cut is_blank text other blanks gaps from_name from same cut blank in
    let runs = one_cut is_version_byte from_name from run ran behind left fronts.1 again named in
    let clash = sym bad ∙ ap (λ (t : List ℕ). is_name (lowered t)) runs.0 ∙ good in
    cc clash
part_fault same (behind_name p text blanks from_name run behind f cut again good is_place tail) (no_name other gaps from ran left blank named worse) =
    let fronts = one_cut is_blank text other blanks gaps from_name from same cut blank in
    let runs = one_cut is_version_byte from_name from run ran behind left fronts.1 again named in
    let clash = sym good ∙ ap (λ (t : List ℕ). is_name (lowered t)) runs.0 ∙ worse in
    cc clash
part_fault same (behind_name p text blanks from_name run behind f cut again good is_place tail) (behind_name q other gaps from ran left g blank named fine its_place end) =
    let fronts = one_cut is_blank text other blanks gaps from_name from same cut blank in
    let runs = one_cut is_version_byte from_name from run ran behind left fronts.1 again named in
    let gap_sizes = ap (λ (l : List ℕ). length l) fronts.0 in
    let run_sizes = ap (λ (l : List ℕ). length l) runs.0 in
    let places : p ≡ q = omega arith in
    tail_fault refl places runs.1 tail end

either : {text other : List ℕ} {f g : DependencyFault} → text ≡ other → HasFault text f → HasFault other g → f ≡ g
either same (wrong text f bad) (wrong other g worse) =
    let sizes = ap (λ (l : List ℕ). length l) same in
    let faults = part_fault same bad worse in
    ap (λ (n : ℕ). limited n f) sizes ∙ ap (λ (h : DependencyFault). limited (length other) h) faults
either same (wrong text f bad) (too_long other name cs long read) = absurd (read_clean other name cs (sym same) read bad)
either same (too_long text name cs long read) (wrong other g worse) = absurd (read_clean text name cs same read worse)
either same (too_long text name cs long read) (too_long other again ds longer one) = refl

pub one_fault : (text : List ℕ) (fault other : DependencyFault) → HasFault text fault → HasFault text other → fault ≡ other
one_fault text fault other first second = either refl first second
