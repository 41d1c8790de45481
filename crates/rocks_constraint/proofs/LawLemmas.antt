-- The laws of constraints and dependencies.
use Rattle.std.proofs.Common.{◌≡◌, ℕ, suc, List, [], ◌∷◌, ◌++◌, length, refl, sym, ap, subst, ◌∙◌, true, false, not, Bool, ◌&&◌, arith, IsTrue}
use Rattle.std.specs.Prelude.{◌||◌}
use Rattle.std.specs.declared.cmp.Ordering.{Ordering}
use Rattle.std.specs.declared.cmp.Ordering.TheVariants.{Less, Equal, Greater}
use Rattle.std.specs.List.{list_all}
use Rattle.std.specs.Ordering.{is_ge, is_gt, is_le, is_lt}
use Rattle.rocks_text.specs.Texts.{lowered}
use Rattle.rocks_version.specs.Components.{components}
use Rattle.rocks_version.specs.Orders.{version_cmp}
use Rattle.rocks_version.specs.Texts.{body, is_version_byte, revision}
use Rattle.rocks_constraint.specs.declared.constraint.Constraint.{Constraint}
use Rattle.rocks_constraint.specs.declared.constraint.Operator.{Operator}
use Rattle.rocks_constraint.specs.declared.constraint.Operator.TheVariants.{Eq, Ne, Lt, Gt, Le, Ge, Near}
use Rattle.rocks_constraint.specs.Alphabet.{may_part, is_operator_byte, is_blank, operator_of, BeginsOtherwise, IsCut}
use Rattle.rocks_constraint.specs.Grammar.{IsConstraintAt, IsDependency, IsRead, IsTail, ended, goes_on}
use Rattle.rocks_constraint.specs.Meets.{holds, meets_all}
use Rattle.rocks_constraint.proofs.Tails.{constraint_shorter}

same_holds : (operator : Operator) (left right given : List ℕ) → components (body left) ≡ components (body right) → revision left ≡ revision right
    → holds operator left given ≡ holds operator right given
unfolding holds version_cmp
same_holds Eq left right given e r = rw (e, r) refl
same_holds Ne left right given e r = rw (e, r) refl
same_holds Lt left right given e r = rw (e, r) refl
same_holds Gt left right given e r = rw (e, r) refl
same_holds Le left right given e r = rw (e, r) refl
same_holds Ge left right given e r = rw (e, r) refl
same_holds Near left right given e r = rw (e, r) refl

pub same_meets : (left right : List ℕ) (cs : List Constraint) → components (body left) ≡ components (body right) → revision left ≡ revision right
    → meets_all left cs ≡ meets_all right cs
same_meets left right [] e r = refl
same_meets left right (c ∷ cs) e r = rw (same_holds c.operator left right c.version e r, same_meets left right cs e r) refl

lt_gt : (o : Ordering) → (is_lt o && is_gt o) ≡ false
lt_gt Less = refl
lt_gt Equal = refl
lt_gt Greater = refl

le_is : (o : Ordering) → is_le o ≡ (is_lt o || not (is_lt o || is_gt o))
le_is Less = refl
le_is Equal = refl
le_is Greater = refl

ge_is : (o : Ordering) → is_ge o ≡ (is_gt o || not (is_lt o || is_gt o))
ge_is Less = refl
ge_is Equal = refl
ge_is Greater = refl

pub exclusive : (version given : List ℕ) → (holds Lt version given && holds Gt version given) ≡ false
unfolding holds
exclusive version given = lt_gt (version_cmp version given)

pub at_most : (version given : List ℕ) → holds Le version given ≡ (holds Lt version given || not (holds Lt version given || holds Gt version given))
unfolding holds
at_most version given = le_is (version_cmp version given)

pub at_least : (version given : List ℕ) → holds Ge version given ≡ (holds Gt version given || not (holds Lt version given || holds Gt version given))
unfolding holds
at_least version given = ge_is (version_cmp version given)

-- ---- a text is cut in one way

and_first : (a b : Bool) → (a && b) ≡ true → a ≡ true
and_first true b h = refl
and_first false b h = cc

and_second : (a b : Bool) → (a && b) ≡ true → b ≡ true
and_second true b h = h
and_second false b h = cc

cut_run : (test : ℕ → Bool) (run other rest left : List ℕ) → run ++ rest ≡ other ++ left → IsTrue (list_all test run) → IsTrue (list_all test other)
    → BeginsOtherwise test rest → BeginsOtherwise test left → (run ≡ other) × (rest ≡ left)
cut_run test [] [] rest left e all every stops ends = (refl, e)
cut_run test [] (b ∷ bs) [] left e all every stops ends = cc
cut_run test [] (b ∷ bs) (r ∷ rest) left e all every stops ends =
    let same : r ≡ b = cc in
    let yes' = and_first (test b) (list_all test bs) every in
    let no' = subst (λ (x : ℕ). test x ≡ false) same stops in
    cc
cut_run test (b ∷ bs) [] rest [] e all every stops ends = cc
cut_run test (b ∷ bs) [] rest (l ∷ left) e all every stops ends =
    let same : l ≡ b = cc in
    let yes' = and_first (test b) (list_all test bs) all in
    let no' = subst (λ (x : ℕ). test x ≡ false) same ends in
    cc
cut_run test (b ∷ bs) (d ∷ ds) rest left e all every stops ends =
    let first : b ≡ d = cc in
    let behind : bs ++ rest ≡ ds ++ left = cc in
    let both = cut_run test bs ds rest left behind (and_second (test b) (list_all test bs) all) (and_second (test d) (list_all test ds) every) stops ends in
    (ap (λ (x : ℕ). x ∷ bs) first ∙ ap (λ (l : List ℕ). d ∷ l) both.0, both.1)

pub one_cut : (test : ℕ → Bool) (text other run one rest left : List ℕ) → text ≡ other → IsCut test text run rest → IsCut test other one left → (run ≡ one) × (rest ≡ left)
one_cut test text other run one rest left same cut again =
    cut_run test run one rest left (sym cut.whole ∙ same ∙ again.whole) cut.passes again.passes cut.longest again.longest

pub one_constraint : (text other : List ℕ) (c d : Constraint) (rest left : List ℕ) → text ≡ other → IsConstraintAt text c rest → IsConstraintAt other d left → (c ≡ d) × (rest ≡ left)
one_constraint text other c d rest left same one again =
    let runs = one_cut is_operator_byte text other one.operator_run again.operator_run one.behind again.behind same one.cut_operator again.cut_operator in
    let blanks = one_cut is_blank one.behind again.behind one.blanks again.blanks one.from_version again.from_version runs.1 one.cut_blanks again.cut_blanks in
    let versions = one_cut is_version_byte one.from_version again.from_version c.version d.version rest left blanks.1 one.cut_version again.cut_version in
    let somes = sym one.operator ∙ ap operator_of runs.0 ∙ again.operator in
    let operators : c.operator ≡ d.operator = cc somes in
    (λ i. record { operator = operators i; version = versions.0 i }, versions.1)

pub none_left : (behind : List ℕ) (c : Constraint) (rest : List ℕ) → [] ≡ behind → IsConstraintAt behind c rest → ⊥
none_left behind c rest empty one =
    let shorter = constraint_shorter behind c rest one in
    let none : 0 ≡ length behind = ap (λ (l : List ℕ). length l) empty in
    absurd (omega arith)

one_tail : {count n : ℕ} {text other : List ℕ} {cs ds : List Constraint} → count ≡ n → text ≡ other → IsTail count text cs → IsTail n other ds → cs ≡ ds
one_tail e same (ended count text cut) (ended n other again) = refl
one_tail e same (ended count text cut) (goes_on n other gap behind rest d ds few again one tail) =
    let there = subst (λ (k : ℕ). IsCut (may_part k) other gap behind) (sym e) again in
    let cuts = one_cut (may_part count) text other text gap [] behind same cut there in
    absurd (none_left behind d rest cuts.1 one)
one_tail e same (goes_on count text gap behind rest c cs few cut one tail) (ended n other again) =
    let there = subst (λ (k : ℕ). IsCut (may_part k) other other []) (sym e) again in
    let cuts = one_cut (may_part count) text other gap other behind [] same cut there in
    absurd (none_left behind c rest (sym cuts.1) one)
one_tail e same (goes_on count text gap behind rest c cs few cut one tail) (goes_on n other room from left d ds fewer again next end) =
    let there = subst (λ (k : ℕ). IsCut (may_part k) other room from) (sym e) again in
    let cuts = one_cut (may_part count) text other gap room behind from same cut there in
    let firsts = one_constraint behind from c d rest left cuts.1 one next in
    let others = one_tail (ap suc e) firsts.1 tail end in
    ap (λ (x : Constraint). x ∷ cs) firsts.0 ∙ ap (λ (l : List Constraint). d ∷ l) others

pub one_reading : (text name other : List ℕ) (constraints others : List Constraint) → IsRead text name constraints → IsRead text other others
    → (name ≡ other) × (constraints ≡ others)
one_reading text name other constraints others one again =
    let blanks = one_cut is_blank text text one.blanks again.blanks one.from_name again.from_name refl one.cut_blanks again.cut_blanks in
    let runs = one_cut is_version_byte one.from_name again.from_name one.run again.run one.behind again.behind blanks.1 one.cut_name again.cut_name in
    (one.lowers ∙ ap (λ (t : List ℕ). lowered t) runs.0 ∙ sym again.lowers, one_tail refl runs.1 one.tail again.tail)

pub one_read : (text name other : List ℕ) (constraints others : List Constraint) → IsDependency text name constraints → IsDependency text other others
    → (name ≡ other) × (constraints ≡ others)
one_read text name other constraints others first second = one_reading text name other constraints others first.1 second.1
