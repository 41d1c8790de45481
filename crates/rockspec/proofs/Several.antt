-- Dependencies that are read one after another.
use Rattle.std.proofs.Common.{◌≡◌, ◌<◌, ◌+◌, ℕ, suc, min, List, [], ◌∷◌, ◌++◌, refl, sym, ap, ◌∙◌, arith, length, map, take, drop, get_or, subst}
use Rattle.std.proofs.lemmas.List.{map-append, take_more, take-append-drop}
use Rattle.std.specs.Borrow.{Bor}
use Rattle.rocks_constraint.specs.declared.fault.DependencyFault.{DependencyFault}
use Rattle.rocks_constraint.specs.declared.fault.DependencyFault.TheVariants as dependency
use Rattle.rocks_constraint.specs.Faults.{HasFault}
use Rattle.rocks_constraint.specs.Wanted.{Wanted}
use Rattle.rockspec.specs.declared.fault.SpecFault.{SpecFault}
use Rattle.rockspec.specs.declared.fault.SpecFault.TheVariants as spec
use Rattle.rockspec.specs.Bad.{told_bad, AreGood, IsBadFrom}
use Rattle.rockspec.specs.Fields.{told, AreRead, IsFirstBad, Reads, here, later}

pub one_more : (texts : List (List ℕ)) (read : List Wanted) (text : List ℕ) (wanted : Wanted)
    → AreRead texts read → Reads text wanted → AreRead (texts ++ text ∷ []) (read ++ wanted ∷ [])
one_more [] [] text wanted are is = (is, tt)
one_more [] (first ∷ read) text wanted are is = absurd are
one_more (one ∷ texts) [] text wanted are is = absurd are
one_more (one ∷ texts) (first ∷ read) text wanted are is = (are.0, one_more texts read text wanted are.1 is)

pub as_many : (texts : List (List ℕ)) (read : List Wanted) → AreRead texts read → length read ≡ length texts
as_many [] [] are = refl
as_many [] (first ∷ read) are = absurd are
as_many (one ∷ texts) [] are = absurd are
as_many (one ∷ texts) (first ∷ read) are = ap suc (as_many texts read are.1)

pub read_good : (texts : List (List ℕ)) (read : List Wanted) → AreRead texts read → AreGood texts
read_good [] [] are = tt
read_good [] (first ∷ read) are = absurd are
read_good (one ∷ texts) [] are = absurd are
read_good (one ∷ texts) (first ∷ read) are =
    (record { name = first.name; constraints = first.constraints; is = are.0 }, read_good texts read are.1)

pub both_good : (front back : List (List ℕ)) → AreGood front → AreGood back → AreGood (front ++ back)
both_good [] back good more = more
both_good (text ∷ front) back good more = (good.0, both_good front back good.1 more)

-- behind good texts the first bad one comes
pub bad_behind : (front : List (List ℕ)) (back : List (List ℕ)) (place : ℕ) (fault : DependencyFault)
    → AreGood front → IsFirstBad back place fault → IsFirstBad (front ++ back) (place + length front) fault
bad_behind [] back place fault good bad = subst (λ n. IsFirstBad back n fault) (omega arith) bad
bad_behind (text ∷ front) back place fault good bad =
    subst (λ n. IsFirstBad (text ∷ (front ++ back)) n fault) (omega arith)
    (later text (front ++ back) (place + length front) fault good.0 (bad_behind front back place fault good.1 bad))

-- what stands behind the first bad one makes no difference
pub bad_before : (front back : List (List ℕ)) (place : ℕ) (fault : DependencyFault)
    → IsFirstBad front place fault → IsFirstBad (front ++ back) place fault
bad_before _ back _ fault (here text texts _ has) = here text (texts ++ back) fault has
bad_before _ back _ fault (later text texts place _ is bad) = later text (texts ++ back) place fault is (bad_before texts back place fault bad)

-- ---- texts behind references

abbrev pub nows : List (Bor (List ℕ)) → List (List ℕ)
nows texts = map (λ (text : Bor (List ℕ)). text.now) texts

pub nows_next : (texts : List (Bor (List ℕ))) (at : ℕ) → at < length texts
    → nows (take (at + 1) texts) ≡ nows (take at texts) ++ (get_or texts at (record { ref_ptr = (0, 0); now = [] })).now ∷ []
nows_next texts at within =
    ap nows (take_more texts at (record { ref_ptr = (0, 0); now = [] }) within)
    ∙ map-append (λ (text : Bor (List ℕ)). text.now) (take at texts) (get_or texts at (record { ref_ptr = (0, 0); now = [] }) ∷ [])

nows_parted : (texts : List (Bor (List ℕ))) (at : ℕ) → nows texts ≡ nows (take at texts) ++ nows (drop at texts)
nows_parted texts at = ap nows (sym (take-append-drop at texts)) ∙ map-append (λ (text : Bor (List ℕ)). text.now) (take at texts) (drop at texts)

-- one more text is read
pub grows : (texts : List (Bor (List ℕ))) (read now : List Wanted) (at : ℕ) (wanted : Wanted)
    → at < length texts → AreRead (nows (take at texts)) read
    → Reads (get_or texts at (record { ref_ptr = (0, 0); now = [] })).now wanted
    → now ≡ read ++ wanted ∷ []
    → AreRead (nows (take (at + 1) texts)) now
grows texts read now at wanted within are reads is =
    let text = (get_or texts at (record { ref_ptr = (0, 0); now = [] })).now in
    subst (λ some. AreRead some now) (sym (nows_next texts at within))
    (subst (λ some. AreRead (nows (take at texts) ++ text ∷ []) some) (sym is) (one_more (nows (take at texts)) read text wanted are reads))

-- ---- faults that are told

told_capped : (number : ℕ) → told (min number 18446744073709551615) ≡ told number
told_capped number = omega arith

pub told_bad_capped : (number : ℕ) (fault : DependencyFault) → told_bad (min number 18446744073709551615) fault ≡ told_bad number fault
told_bad_capped number (dependency.BadOperator place) = ap (λ n. spec.BadDependency n (dependency.BadOperator place)) (told_capped number)
told_bad_capped number (dependency.BadDependency place) = ap (λ n. spec.BadDependency n (dependency.BadDependency place)) (told_capped number)
told_bad_capped number dependency.NoMemory = refl

-- the fault at a place behind texts that were read is that of the first bad one
pub stops : (texts : List (Bor (List ℕ))) (read : List Wanted) (before at : ℕ) (fault : DependencyFault) (result : SpecFault)
    → at < length texts → AreRead (nows (take at texts)) read
    → HasFault (get_or texts at (record { ref_ptr = (0, 0); now = [] })).now fault
    → result ≡ told_bad (min (before + length read) 18446744073709551615) fault
    → IsBadFrom (nows texts) before result
stops texts read before at fault result within are has is =
    let front = nows (take at texts) in
    let text = (get_or texts at (record { ref_ptr = (0, 0); now = [] })).now in
    let parted : nows texts ≡ (front ++ text ∷ []) ++ nows (drop (at + 1) texts)
    = nows_parted texts (at + 1) ∙ ap (λ (some : List (List ℕ)). some ++ nows (drop (at + 1) texts)) (nows_next texts at within) in
    let first : IsFirstBad (front ++ text ∷ []) (0 + length front) fault
    = bad_behind front (text ∷ []) 0 fault (read_good front read are) (here text [] fault has) in
    record {
      place = 0 + length front;
      of_dependency = fault;
      first = subst (λ all. IsFirstBad all (0 + length front) fault) (sym parted)
          (bad_before (front ++ text ∷ []) (nows (drop (at + 1) texts)) (0 + length front) fault first);
      is = is ∙ told_bad_capped (before + length read) fault
          ∙ ap (λ n. told_bad n fault) (omega (arith, as_many front read are));
    }

-- ---- one list behind another

told_bad_same : (number other : ℕ) (fault : DependencyFault) → told number ≡ told other → told_bad number fault ≡ told_bad other fault
told_bad_same number other (dependency.BadOperator place) same = ap (λ n. spec.BadDependency n (dependency.BadOperator place)) same
told_bad_same number other (dependency.BadDependency place) same = ap (λ n. spec.BadDependency n (dependency.BadDependency place)) same
told_bad_same number other dependency.NoMemory same = refl

pub in_front : (front back : List (List ℕ)) (before : ℕ) (fault : SpecFault)
    → IsBadFrom front before fault → IsBadFrom (front ++ back) before fault
in_front front back before fault bad = record {
  place = bad.place;
  of_dependency = bad.of_dependency;
  first = bad_before front back bad.place bad.of_dependency bad.first;
  is = bad.is;
}

pub behind : (front back : List (List ℕ)) (before : ℕ) (fault : SpecFault) → AreGood front
    → ((place : ℕ) → told (before + place) ≡ told (length front + place))
    → IsBadFrom back before fault → IsBadFrom (front ++ back) 0 fault
behind front back before fault good same bad = record {
  place = bad.place + length front;
  of_dependency = bad.of_dependency;
  first = bad_behind front back bad.place bad.of_dependency good bad.first;
  is = bad.is ∙ told_bad_same (before + bad.place) (0 + (bad.place + length front)) bad.of_dependency (same bad.place ∙ ap told (omega arith));
}
