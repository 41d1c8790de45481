-- The first step that fails, behind steps of which none does.
use Rattle.std.proofs.Common.{◌≡◌, ◌<◌, ℕ, zero, suc, List, [], ◌∷◌, ◌++◌, Some, None, length, take, drop, drop-cons, get_or, map, refl, sym, ap, ◌∙◌, subst, arith, slice_get, below_more, length-append}
use Rattle.std.proofs.Math.Seq.{take-append_seam}
use Rattle.std.proofs.lemmas.List.{map-id, take-append-drop, take-append-le}
use Rattle.std.proofs.lemmas.Option.{slice_get_within, same_Some}
use Rattle.rock_files.specs.Gathering.{Found, FailsFirst, NoneFails, fault_at}
use Rattle.rock_files.specs.declared.fault.BuildFault.{BuildFault}

-- ---- a list with one more in it

at_seam : {X : Type 0} (xs ys : List X) (x : X) → slice_get (xs ++ x ∷ ys) (length xs) ≡ Some x
at_seam [] ys x = refl
at_seam (y ∷ xs) ys x = at_seam xs ys x

in_front : {X : Type 0} (xs ys : List X) (i : ℕ) → i < length xs → slice_get (xs ++ ys) i ≡ slice_get xs i
in_front [] ys i within = absurd (omega arith)
in_front (x ∷ xs) ys zero within = refl
in_front (x ∷ xs) ys (suc i) within = in_front xs ys i (omega arith)

-- ---- the steps

module _ (before rest : List Found) (none : NoneFails before) where
  none_earlier : (place : ℕ) → place < length before → (one : Found) → slice_get (before ++ rest) place ≡ Some one → fault_at (take place (before ++ rest)) one ≡ None
  none_earlier place within one is =
      subst (λ (front : List Found). fault_at front one ≡ None) (sym (take-append-le place before rest (omega arith)))
      (none place one (sym (in_front before rest place within) ∙ is))

-- the step behind them fails
pub first_fails : (before rest : List Found) (one : Found) (fault : BuildFault) → NoneFails before → fault_at before one ≡ Some fault → FailsFirst (before ++ one ∷ rest) fault
first_fails before rest one fault none fails = record {
  place = length before;
  one = one;
  is = at_seam before rest one;
  fails = subst (λ (front : List Found). fault_at front one ≡ Some fault) (sym (take-append_seam before (one ∷ rest))) fails;
  first = λ earlier other below is. none_earlier before (one ∷ rest) none earlier below other is;
}

-- it doesn't
pub none_fails_more : (before : List Found) (one : Found) → NoneFails before → fault_at before one ≡ None → NoneFails (before ++ one ∷ [])
none_fails_more before one none passes = λ place other is.
    let all = before ++ one ∷ [] in
    below_more (λ k. (found : Found) → slice_get all k ≡ Some found → fault_at (take k all) found ≡ None) (length before)
    (none_earlier before (one ∷ []) none)
    (λ found here.
    let same = same_Some one found (sym (at_seam before [] one) ∙ here) in
    subst (λ (front : List Found). fault_at front found ≡ None) (sym (take-append_seam before (one ∷ [])))
    (subst (λ (o : Found). fault_at before o ≡ None) same passes))
    place (omega (arith, slice_get_within all place other is, length-append before (one ∷ []))) other is

-- ---- a list that a loop goes over

pub next_item : {X : Type 0} (all front : List X) (x : X) → map (λ (y : X). y) front ≡ take (length front) all → length front < length all → x ≡ get_or all (length front) x
    → all ≡ front ++ x ∷ drop (suc (length front)) all
next_item {X} all front x so_far within here =
    let back : drop (length front) all ≡ x ∷ drop (suc (length front)) all = drop-cons all (length front) x within ∙ ap (λ (y : X). y ∷ drop (suc (length front)) all) (sym here) in
    sym (take-append-drop (length front) all) ∙ (λ i. (sym so_far ∙ map-id front) i ++ back i)
