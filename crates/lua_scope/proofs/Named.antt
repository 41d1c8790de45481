-- The latest local of a name, by its place in the list.
use Rattle.std.proofs.Common.{◌≡◌, ℕ, suc, zero, ◌<◌, List, [], ◌∷◌, ◌++◌, length, Bool, true, false, cond, Option, Some, None, IfSome, is_some, option_map, get_or, set, refl, sym, ap, ◌∙◌, subst, arith}
use Rattle.std.proofs.lemmas.List.{map-append, map-set, length-map, get_or-map}
use Rattle.std.proofs.lemmas.List.Elements.{All-push, All-set}
use Rattle.std.proofs.lemmas.Map.Text.{is_eq-slice_cmp}
use Rattle.std.proofs.lemmas.Option.{MatchOption-at_some}
use Rattle.std.specs.List.{All}
use Rattle.std.specs.Option.{option_or}
use Rattle.std.specs.Str.{bytes_eq}
use Rattle.std.specs.Ordering.{nat_cmp}
use Rattle.std.specs.Cmp.Lexicographic.{slice_cmp}
use Rattle.std.specs.BTreeMap.{BTreeMap, get, is_at}
use Rattle.lua_value.specs.declared.table.Value.{Value}
use Rattle.lua_value.specs.Ordered.{IsServed}
use Rattle.lua_value.specs.Pairs.{Datum, nil}
use Rattle.lua_value.specs.View.{datum}
use Rattle.lua_scope.specs.Locals.{latest, reset}
use Rattle.lua_scope.specs.Places.{latest_place, IsIndexed}
use Rattle.lua_scope.specs.Views.{locals_of}

-- ---- a place, and what stands there
latest_place-within : (name : List ℕ) (locals : List (List ℕ × Datum)) → IfSome (latest_place name locals) (λ place. place < length locals)
latest_place-within name [] = tt
latest_place-within name (local ∷ rest) =
    by_place (latest_place name rest) (bytes_eq local.0 name) (length rest) (latest_place-within name rest)
  where
    by_place : (o : Option ℕ) (b : Bool) (n : ℕ) → IfSome o (λ place. place < n) → IfSome (option_or (option_map suc o) (cond b (Some 0) None)) (λ place. place < suc n)
    by_place None true n h = omega arith
    by_place None false n h = tt
    by_place (Some place) b n h = omega arith

latest-by_place : (name : List ℕ) (locals : List (List ℕ × Datum)) (d : List ℕ × Datum) → latest name locals ≡ option_map (λ place. (get_or locals place d).1) (latest_place name locals)
latest-by_place name [] d = refl
latest-by_place name (local ∷ rest) d =
    ap (λ o. option_or o (cond (bytes_eq local.0 name) (Some local.1) None)) (latest-by_place name rest d)
    ∙ by_place (latest_place name rest) (bytes_eq local.0 name)
  where
    by_place : (o : Option ℕ) (b : Bool) → option_or (option_map (λ place. (get_or rest place d).1) o) (cond b (Some local.1) None) ≡ option_map (λ place. (get_or (local ∷ rest) place d).1) (option_or (option_map suc o) (cond b (Some 0) None))
    by_place None true = refl
    by_place None false = refl
    by_place (Some place) b = refl

-- the locals with another value at the place, if there is one
abbrev reset_at : Datum → List (List ℕ × Datum) → (List ℕ × Datum) → Option ℕ → List (List ℕ × Datum)
reset_at value locals d None = locals
reset_at value locals d (Some place) = set locals place ((get_or locals place d).0, value)

reset-by_place : (name : List ℕ) (value : Datum) (locals : List (List ℕ × Datum)) (d : List ℕ × Datum) → reset name value locals ≡ reset_at value locals d (latest_place name locals)
reset-by_place name value [] d = refl
reset-by_place name value (local ∷ rest) d =
    ap (λ o. cond (is_some o) (local ∷ reset name value rest) (cond (bytes_eq local.0 name) ((local.0, value) ∷ rest) (local ∷ rest))) (latest-by_place name rest d)
    ∙ ap (λ (changed : List (List ℕ × Datum)). cond (is_some (option_map (λ place. (get_or rest place d).1) (latest_place name rest))) (local ∷ changed) (cond (bytes_eq local.0 name) ((local.0, value) ∷ rest) (local ∷ rest))) (reset-by_place name value rest d)
    ∙ by_place (latest_place name rest) (bytes_eq local.0 name)
  where
    by_place : (o : Option ℕ) (b : Bool) → cond (is_some (option_map (λ place. (get_or rest place d).1) o)) (local ∷ reset_at value rest d o) (cond b ((local.0, value) ∷ rest) (local ∷ rest)) ≡ reset_at value (local ∷ rest) d (option_or (option_map suc o) (cond b (Some 0) None))
    by_place None true = refl
    by_place None false = refl
    by_place (Some place) b = refl

-- another value at a place leaves the places as they are
latest_place-set : (q : List ℕ) (locals : List (List ℕ × Datum)) (place : ℕ) (d : List ℕ × Datum) (value : Datum) → latest_place q (set locals place ((get_or locals place d).0, value)) ≡ latest_place q locals
latest_place-set q [] place d value = refl
latest_place-set q (local ∷ rest) zero d value = refl
latest_place-set q (local ∷ rest) (suc place) d value =
    ap (λ o. option_or (option_map suc o) (cond (bytes_eq local.0 q) (Some 0) None)) (latest_place-set q rest place d value)

latest_place-push : (q name : List ℕ) (value : Datum) (locals : List (List ℕ × Datum)) → latest_place q (locals ++ (name, value) ∷ []) ≡ cond (bytes_eq name q) (Some (length locals)) (latest_place q locals)
latest_place-push q name value [] = refl
latest_place-push q name value (local ∷ rest) =
    ap (λ o. option_or (option_map suc o) (cond (bytes_eq local.0 q) (Some 0) None)) (latest_place-push q name value rest)
    ∙ by_name (bytes_eq name q) (length rest) (latest_place q rest) (cond (bytes_eq local.0 q) (Some 0) None)
  where
    by_name : (b : Bool) (n : ℕ) (o p : Option ℕ) → option_or (option_map suc (cond b (Some n) o)) p ≡ cond b (Some (suc n)) (option_or (option_map suc o) p)
    by_name true n o p = refl
    by_name false n o p = refl

-- ---- the list of locals
pub locals_of-push : (list : List (List ℕ × Value)) (name : List ℕ) (value : Value) → locals_of (list ++ (name, value) ∷ []) ≡ locals_of list ++ (name, datum value) ∷ []
locals_of-push list name value = map-append _ list ((name, value) ∷ [])

pub place_within : (name : List ℕ) (list : List (List ℕ × Value)) (place : ℕ) → latest_place name (locals_of list) ≡ Some place → place < length list
place_within name list place e =
    let within : place < length (locals_of list) = MatchOption-at_some _ _ place e (latest_place-within name (locals_of list)) in
    let same : length (locals_of list) ≡ length list = length-map list _ in
    omega arith

-- what the list has at a place
seen_at : (list : List (List ℕ × Value)) (place : ℕ) (local : List ℕ × Value) → place < length list → local ≡ get_or list place local → ◌≡◌ {A = List ℕ × Datum} (get_or (locals_of list) place (local.0, datum local.1)) (local.0, datum local.1)
seen_at list place local within e =
    get_or-map (λ (l : List ℕ × Value). let r : List ℕ × Datum = (l.0, datum l.1) in r) list place local (local.0, datum local.1) within
    ∙ ap (λ (l : List ℕ × Value). let r : List ℕ × Datum = (l.0, datum l.1) in r) (sym e)

pub latest-at : (name : List ℕ) (list : List (List ℕ × Value)) (place : ℕ) (local : List ℕ × Value) → latest_place name (locals_of list) ≡ Some place → local ≡ get_or list place local → latest name (locals_of list) ≡ Some (datum local.1)
latest-at name list place local found e =
    let d : List ℕ × Datum = (local.0, datum local.1) in
    latest-by_place name (locals_of list) d
    ∙ ap (option_map (λ at. (get_or (locals_of list) at d).1)) found
    ∙ ap (λ (l : List ℕ × Datum). Some l.1) (seen_at list place local (place_within name list place found) e)

pub latest-nowhere : (name : List ℕ) (list : List (List ℕ × Value)) → latest_place name (locals_of list) ≡ None → latest name (locals_of list) ≡ None
latest-nowhere name list missing =
    latest-by_place name (locals_of list) (name, nil) ∙ ap (option_map _) missing

pub served_at : (list : List (List ℕ × Value)) (index : BTreeMap (List ℕ) ℕ) (place : ℕ) (local : List ℕ × Value) → IsIndexed list index → place < length list → local ≡ get_or list place local → IsServed (datum local.1)
served_at list index place local h within e =
    let same : length (locals_of list) ≡ length list = length-map list _ in
    let inside : place < length (locals_of list) = omega arith in
    let d : List ℕ × Datum = (local.0, datum local.1) in
    subst (λ (l : List ℕ × Datum). IsServed l.1) (seen_at list place local within e) (h.served place d inside)

-- ---- the index
-- the index gets the place of a local that is pushed
pub IsIndexed-push : (list : List (List ℕ × Value)) (index new : BTreeMap (List ℕ) ℕ) (name key : List ℕ) (value : Value) (place : ℕ) → IsIndexed list index → IsServed (datum value) → key ≡ name → place ≡ length list → ((q : List ℕ) → get (slice_cmp nat_cmp) new q ≡ cond (is_at (slice_cmp nat_cmp key) q) (Some place) (get (slice_cmp nat_cmp) index q)) → IsIndexed (list ++ (name, value) ∷ []) new
IsIndexed-push list index new name key value place h served same last updates =
    let pushed = locals_of-push list name value in
    let at : place ≡ length (locals_of list) = last ∙ sym (length-map list _) in
    record {
      served = subst (All (λ (l : List ℕ × Datum). IsServed l.1)) (sym pushed) (All-push (λ (l : List ℕ × Datum). IsServed l.1) (locals_of list) (name, datum value) h.served served);
      places = λ q.
          updates q ∙ ap (λ b. cond b (Some place) (get (slice_cmp nat_cmp) index q)) (is_eq-slice_cmp key q)
          ∙ (λ i. cond (bytes_eq (same i) q) (Some (at i)) (h.places q i))
          ∙ sym (ap (latest_place q) pushed ∙ latest_place-push q name (datum value) (locals_of list));
    }

-- the list after the value at a place is replaced
locals_of-set : (list : List (List ℕ × Value)) (place : ℕ) (local : List ℕ × Value) (value : Value) → place < length list → local ≡ get_or list place local → locals_of (set list place (local.0, value)) ≡ set (locals_of list) place ((get_or (locals_of list) place (local.0, datum local.1)).0, datum value)
locals_of-set list place local value within e =
    map-set _ list place (local.0, value)
    ∙ ap (λ (l : List ℕ × Datum). set (locals_of list) place (l.0, datum value)) (sym (seen_at list place local within e))

pub reset-at : (name : List ℕ) (list : List (List ℕ × Value)) (place : ℕ) (local : List ℕ × Value) (value : Value) → latest_place name (locals_of list) ≡ Some place → local ≡ get_or list place local → locals_of (set list place (local.0, value)) ≡ reset name (datum value) (locals_of list)
reset-at name list place local value found e =
    let d : List ℕ × Datum = (local.0, datum local.1) in
    locals_of-set list place local value (place_within name list place found) e
    ∙ sym (reset-by_place name (datum value) (locals_of list) d ∙ ap (reset_at (datum value) (locals_of list) d) found)

pub IsIndexed-set : (list : List (List ℕ × Value)) (index : BTreeMap (List ℕ) ℕ) (place : ℕ) (local : List ℕ × Value) (value : Value) → IsIndexed list index → place < length list → local ≡ get_or list place local → IsServed (datum value) → IsIndexed (set list place (local.0, value)) index
IsIndexed-set list index place local value h within e served =
    let d : List ℕ × Datum = (local.0, datum local.1) in
    let changed = locals_of-set list place local value within e in
    record {
      served = subst (All (λ (l : List ℕ × Datum). IsServed l.1)) (sym changed) (All-set (λ (l : List ℕ × Datum). IsServed l.1) (locals_of list) place ((get_or (locals_of list) place d).0, datum value) served h.served);
      places = λ q. h.places q ∙ sym (ap (latest_place q) changed ∙ latest_place-set q (locals_of list) place d (datum value));
    }
