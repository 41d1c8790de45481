-- Concatenations, operator by operator from the right.
use Rattle.std.proofs.Common.{◌≡◌, ◌⊎◌, inl, inr, ◌≤◌, ◌<◌, ℕ, zero, suc, ◌+◌, ◌-◌, min, List, [], ◌∷◌, ◌++◌, length, take, drop, get_or, map, All, option_map, Option, Some, None, Ok, Err, refl, sym, ap, subst, ◌∙◌, add-one, append-nil, length-drop, arith}
use Rattle.std.specs.Prelude.{unwrap_or, is_some, IsTrue}
use Rattle.std.specs.List.{slice_get}
use Rattle.std.proofs.lemmas.List.{take-map, length-map}
use Rattle.std.proofs.lemmas.Bool.{false≢true, cases_lt}
use Rattle.std.proofs.lemmas.Option.{slice_get-map, slice_get_read, slice_get_within}
use Rattle.lua_value.specs.declared.table.Value.{Value}
use Rattle.lua_value.specs.Ordered.{IsServed}
use Rattle.lua_value.specs.Pairs.{Datum, text_value}
use Rattle.lua_value.specs.View.{datum}
use Rattle.lua_eval.specs.declared.fault.EvalFault.{EvalFault}
use Rattle.lua_eval.specs.Joins.{text_of, and_then, join_texts, join_two, join}
use Rattle.lua_eval.specs.Texts.{has_text, own_text, all_texts, IsJoined}
use Rattle.lua_eval.proofs.Walks.{drop-member}

-- two texts are joined
joined_two : (place : ℕ) (left right : Datum) → IsTrue (has_text left) → IsTrue (has_text right) → join_two place left right ≡ Ok (text_value (own_text left ++ own_text right))
joined_two place left right l r = by_texts (text_of left) (text_of right) l r
  where
    by_texts : (a b : Option (List ℕ)) → IsTrue (is_some a) → IsTrue (is_some b) → join_texts place left right a b ≡ Ok (text_value (unwrap_or a [] ++ unwrap_or b []))
    by_texts None b l r = absurd (false≢true l)
    by_texts (Some a) None l r = absurd (false≢true r)
    by_texts (Some a) (Some b) l r = refl

-- where both sides of an operator can be joined, more is joined
pub joined_more : (left right : Datum) (values : List Datum) (place : ℕ) (places : List ℕ) → length values ≡ length places → IsTrue (has_text left) × IsTrue (has_text right) → IsJoined (right ∷ values) places → IsJoined (left ∷ right ∷ values) (place ∷ places)
joined_more left right [] place [] same texts joined =
    (joined_two place left right texts.0 texts.1 ∙ ap (λ t. Ok (text_value (own_text left ++ t))) (sym (append-nil (own_text right))), texts.0)
joined_more left right (value ∷ values) place [] same texts joined = absurd (omega (arith, same))
joined_more left right values place (next ∷ places) same texts joined =
    (ap (λ r. and_then r (join_two place left)) joined.0 ∙ joined_two place left (text_value (all_texts (right ∷ values))) texts.0 refl, texts.0)

-- where one side can't be joined, that is the fault
pub joined_fault : (left right : Datum) (values : List Datum) (place : ℕ) (places : List ℕ) (fault : EvalFault) → length values ≡ length places → join_two place left right ≡ Err fault → IsJoined (right ∷ values) places → join (left ∷ right ∷ values) (place ∷ places) ≡ Err fault
joined_fault left right [] place [] fault same is joined = is
joined_fault left right (value ∷ values) place [] fault same is joined = absurd (omega (arith, same))
joined_fault left right values place (next ∷ places) fault same is joined =
    ap (λ r. and_then r (join_two place left)) joined.0 ∙ by_texts (text_of left) (text_of right) joined.1 is
  where
    by_texts : (a b : Option (List ℕ)) → IsTrue (is_some b) → join_texts place left right a b ≡ Err fault → join_texts place left (text_value (all_texts (right ∷ values))) a (Some (all_texts (right ∷ values))) ≡ Err fault
    by_texts None b some is = is
    by_texts (Some a) None some is = absurd (false≢true some)
    by_texts (Some a) (Some b) some is = cc

-- a fault behind a place is the fault of the whole
pub fault_behind : (n : ℕ) (values : List Datum) (places : List ℕ) (fault : EvalFault) → n ≤ length places → length values ≡ length places + 1 → join (drop n values) (drop n places) ≡ Err fault → join values places ≡ Err fault
fault_behind zero values places fault low between is = is
fault_behind (suc n) values [] fault low between is = absurd (omega (arith, low))
fault_behind (suc n) [] (place ∷ places) fault low between is = absurd (omega (arith, between))
fault_behind (suc n) (value ∷ []) (place ∷ places) fault low between is = absurd (omega (arith, between))
fault_behind (suc n) (value ∷ other ∷ values) (place ∷ places) fault low between is =
    ap (λ r. and_then r (join_two place value)) (fault_behind n (other ∷ values) places fault (omega (arith, low)) (omega (arith, between)) is)

-- what stands behind the last value that an operator joins doesn't count, nor does an operator with no value behind it
pub join_taken : (n : ℕ) (values : List Datum) (places : List ℕ) → n ≤ length places → n + 1 ≤ length values → (n ≡ length places) ⊎ (n + 1 ≡ length values) → join (take (n + 1) values) (take n places) ≡ join values places
join_taken n values places low within end = rw add-one (by_suc n values places low within end)
  where
    by_suc : (n : ℕ) (values : List Datum) (places : List ℕ) → n ≤ length places → n + 1 ≤ length values → (n ≡ length places) ⊎ (n + 1 ≡ length values) → join (take (suc n) values) (take n places) ≡ join values places
    by_suc n [] places low within end = absurd (omega (arith, within))
    by_suc zero (value ∷ []) places low within end = refl
    by_suc (suc n) (value ∷ []) places low within end = absurd (omega (arith, within))
    by_suc zero (value ∷ other ∷ values) [] low within end = refl
    by_suc (suc n) (value ∷ other ∷ values) [] low within end = absurd (omega (arith, low))
    by_suc zero (value ∷ other ∷ values) (place ∷ places) low within end = absurd (omega (arith, end))
    by_suc (suc n) (value ∷ other ∷ values) (place ∷ places) low within end =
        ap (λ r. and_then r (join_two place value)) (by_suc n (other ∷ values) places (omega (arith, low)) (omega (arith, within)) (shorter end))
      where
        shorter : (suc n ≡ length (place ∷ places)) ⊎ (suc n + 1 ≡ length (value ∷ other ∷ values)) → (n ≡ length places) ⊎ (n + 1 ≡ length (other ∷ values))
        shorter (inl e) = inl (omega (arith, e))
        shorter (inr e) = inr (omega (arith, e))

-- from the place before what is joined, the operator there joins more, or its fault is the fault of the whole
left_at : (values : List Datum) (n : ℕ) (left right : Datum) → slice_get values n ≡ Some left → slice_get values (n + 1) ≡ Some right → drop n values ≡ left ∷ right ∷ drop (n + 1 + 1) values
left_at values n left right at next = drop-member values n left at ∙ ap (λ ds. left ∷ ds) (drop-member values (n + 1) right next)

joined_from : (values : List Datum) (places : List ℕ) (n m : ℕ) (right : Datum) → m ≡ n + 1 → slice_get values (n + 1) ≡ Some right → IsJoined (drop m values) (drop m places) → IsJoined (right ∷ drop (n + 1 + 1) values) (drop (n + 1) places)
joined_from values places n m right e next joined =
    subst (λ ds. IsJoined ds (drop (n + 1) places)) (drop-member values (n + 1) right next) (subst (λ k. IsJoined (drop k values) (drop k places)) e joined)

as_many : (values : List Datum) (places : List ℕ) (n : ℕ) → length values ≡ length places + 1 → length (drop (n + 1 + 1) values) ≡ length (drop (n + 1) places)
as_many values places n between = omega (arith, between, length-drop (n + 1 + 1) values, length-drop (n + 1) places)

pub joined_at : (values : List Datum) (places : List ℕ) (n m : ℕ) (left right : Datum) (place : ℕ) → length values ≡ length places + 1 → m ≡ n + 1 → slice_get values n ≡ Some left → slice_get values (n + 1) ≡ Some right → slice_get places n ≡ Some place → IsTrue (has_text left) × IsTrue (has_text right) → IsJoined (drop m values) (drop m places) → IsJoined (drop n values) (drop n places)
joined_at values places n m left right place between e at next operator texts joined =
    let more = joined_more left right (drop (n + 1 + 1) values) place (drop (n + 1) places) (as_many values places n between) texts (joined_from values places n m right e next joined) in
    subst (λ ds. IsJoined ds (drop n places)) (sym (left_at values n left right at next)) (subst (λ ps. IsJoined (left ∷ right ∷ drop (n + 1 + 1) values) ps) (sym (drop-member places n place operator)) more)

pub fault_at : (values : List Datum) (places : List ℕ) (n m : ℕ) (left right : Datum) (place : ℕ) (fault : EvalFault) → length values ≡ length places + 1 → m ≡ n + 1 → slice_get values n ≡ Some left → slice_get values (n + 1) ≡ Some right → slice_get places n ≡ Some place → join_two place left right ≡ Err fault → IsJoined (drop m values) (drop m places) → join values places ≡ Err fault
fault_at values places n m left right place fault between e at next operator is joined =
    let here = joined_fault left right (drop (n + 1 + 1) values) place (drop (n + 1) places) fault (as_many values places n between) is (joined_from values places n m right e next joined) in
    fault_behind n values places fault (omega (arith, slice_get_within places n place operator)) between
    (ap (λ ds. join ds (drop n places)) (left_at values n left right at next) ∙ ap (λ ps. join (left ∷ right ∷ drop (n + 1 + 1) values) ps) (drop-member places n place operator) ∙ here)

-- a value in a list of values, as it is seen
pub datum_at : (values : List Value) (n : ℕ) (value : Value) → n < length values → value ≡ get_or values n value → slice_get (map datum values) n ≡ Some (datum value)
datum_at values n value within is = slice_get-map datum values n ∙ ap (option_map datum) (slice_get_read values (length values) n value refl within is)

-- as many values are seen as there are
pub length_seen : (values : List Value) → length (map datum values) ≡ length values
length_seen values = length-map values datum

-- the first of values that are all served is served
pub first_served : (values rest : List Value) (value : Value) → values ≡ value ∷ rest → All IsServed (map datum values) → IsServed (datum value)
first_served values rest value e served = let all : All IsServed (map datum (value ∷ rest)) = subst (λ vs. All IsServed (map datum vs)) e served in
    all 0 (datum value) (omega arith)

-- so it is in a list of values
pub join_of_taken : (values seen : List Value) (places : List ℕ) (n : ℕ) → n ≡ min (length places) (length values - 1) → 0 < length values → seen ≡ values → join (map datum (take (n + 1) seen)) (take n places) ≡ join (map datum values) places
join_of_taken values seen places n is some same =
    ap (λ vs. join (map datum (take (n + 1) vs)) (take n places)) same
    ∙ ap (λ ds. join ds (take n places)) (sym (take-map datum (n + 1) values))
    ∙ join_taken n (map datum values) places (omega (arith, is)) (omega (arith, is, some, length_seen values)) (end (cases_lt (length places) (length values - 1)))
  where
    end : (length places < length values - 1) ⊎ (length values - 1 ≤ length places) → (n ≡ length places) ⊎ (n + 1 ≡ length (map datum values))
    end (inl h) = inl (omega (arith, is, h))
    end (inr h) = inr (omega (arith, is, h, some, length_seen values))
