-- What one value more does to the tables of a manifest.
use Rattle.std.proofs.Common.{◌≡◌, ℕ, suc, ◌+◌, ◌<◌, List, [], ◌∷◌, ◌++◌, length, refl, sym, ap, subst, ◌∙◌, arith, map, take, get_or, Some, IfSome, Option, ◌≢◌, Result, Ok, Err}
use Rattle.std.specs.Cmp.{nat_cmp_is}
use Rattle.std.specs.Result.{OnOk}
use Rattle.std.specs.Ordering.{nat_cmp}
use Rattle.std.specs.declared.cmp.Ordering.TheVariants.{Less}
use Rattle.std.proofs.lemmas.List.{length-map, length-take, map-append, take_more}
use Rattle.lua_value.specs.declared.key.Key.{Key}
use Rattle.lua_value.specs.declared.key.Key.TheVariants.{Int, Text}
use Rattle.lua_value.specs.Key.{key_cmp}
use Rattle.lua_value.specs.Ordered.{IsOrdered, IsServed}
use Rattle.lua_value.specs.Pairs.{Datum, Pairs, nil, no_pairs, with_pair, put, table_value, value_at}
use Rattle.lua_value.proofs.KeyOrder.{key_cmp-itself}
use Rattle.lua_value.proofs.Puts.{by_order, put-after, put-over, value_at-served}
use Rattle.manifest_text.specs.declared.view.ViewRock.{ViewRock}
use Rattle.manifest_text.specs.Text.{numbered_from, list_of, keys_pairs, put_rock, table_in, with_provided, provided_pairs, with_rocks}
use Rattle.rocks_version.specs.declared.key.RockKey.{RockKey}

less_cmp : (n m : ℕ) → n < m → nat_cmp n m ≡ Less
less_cmp n m h = sym (nat_cmp_is n m Less h)

-- a value behind a list of values
pub put_next : (n m : ℕ) (values : List Datum) (value : Datum) → m ≡ n + length values
    → put (Int m) value (numbered_from n values) ≡ numbered_from n (values ++ value ∷ [])
put_next n m [] value e = let same : m ≡ n = omega arith in ap (λ k. with_pair (Int k) value no_pairs) same
put_next n m (first ∷ values) value e =
    put-after (Int m) value (Int n) first (numbered_from (suc n) values) (less_cmp n m (omega arith))
    ∙ ap (with_pair (Int n) first) (put_next (suc n) m values value (omega arith))

-- the second of two values at a key
pub put_again : (key : Key) (value old : Datum) (ps : Pairs) → put key value (put key old ps) ≡ put key value ps
put_again key value old no_pairs = put-over key value key old no_pairs (key_cmp-itself key)
put_again key value old (with_pair first other rest) =
    by_order (λ ps. put key value ps ≡ put key value (with_pair first other rest)) (key_cmp key first) _ _ _
    (λ less. put-over key value key old (with_pair first other rest) (key_cmp-itself key) ∙ sym (rw less refl))
    (λ same. put-over key value key old rest (key_cmp-itself key) ∙ sym (put-over key value first other rest same))
    (λ greater. rw greater (ap (with_pair first other) (put_again key value old rest)))

pub provided_more : (paths : List (List ℕ × List RockKey)) (path : List ℕ × List RockKey) (ps : Pairs)
    → with_provided (paths ++ path ∷ []) ps
    ≡ put (Text path.0) (table_value (keys_pairs path.1)) (with_provided paths ps)
provided_more [] path ps = refl
provided_more (first ∷ paths) path ps = provided_more paths path _

pub rocks_more : (value : ViewRock → Datum) (rocks : List ViewRock) (rock : ViewRock) (ps : Pairs)
    → with_rocks value (rocks ++ rock ∷ []) ps ≡ put_rock rock.key (value rock) (with_rocks value rocks ps)
rocks_more value [] rock ps = refl
rocks_more value (first ∷ rocks) rock ps = rocks_more value rocks rock _

-- the elements up to one that stands at a place
taken_more : {X : Type 0} (xs : List X) (at : ℕ) (x : X) → at < length xs → x ≡ get_or xs at x
    → take (at + 1) xs ≡ take at xs ++ x ∷ []
taken_more xs at x h is = take_more xs at x h ∙ ap (λ y. take at xs ++ y ∷ []) (sym is)

-- ---- what one turn of each loop does

pub list_step : {X : Type 0} (value : X → Datum) (xs : List X) (at : ℕ) (x : X) (table next : Pairs)
    → at < length xs → x ≡ get_or xs at x → table ≡ list_of (map value (take at xs))
    → next ≡ put (Int (at + 1)) (value x) table → next ≡ list_of (map value (take (at + 1) xs))
list_step value xs at x table next h is before e =
    let size : length (map value (take at xs)) ≡ at = length-map (take at xs) value ∙ length-take at xs ∙ omega arith in
    e ∙ ap (put (Int (at + 1)) (value x)) before
    ∙ put_next 1 (at + 1) (map value (take at xs)) (value x) (omega arith)
    ∙ ap list_of (sym (map-append value (take at xs) (x ∷ [])))
    ∙ ap (λ l. list_of (map value l)) (sym (taken_more xs at x h is))

pub provided_step : (paths : List (List ℕ × List RockKey)) (at : ℕ) (path : List ℕ × List RockKey) (table next : Pairs)
    → at < length paths → path ≡ get_or paths at path → table ≡ provided_pairs (take at paths)
    → next ≡ put (Text path.0) (table_value (keys_pairs path.1)) table → next ≡ provided_pairs (take (at + 1) paths)
provided_step paths at path table next h is before e =
    e ∙ ap (put (Text path.0) (table_value (keys_pairs path.1))) before
    ∙ sym (provided_more (take at paths) path no_pairs) ∙ ap provided_pairs (sym (taken_more paths at path h is))

pub rocks_step : (value : ViewRock → Datum) (rocks : List ViewRock) (at : ℕ) (rock : ViewRock) (table next : Pairs)
    → at < length rocks → rock ≡ get_or rocks at rock → table ≡ with_rocks value (take at rocks) no_pairs
    → next ≡ put_rock rock.key (value rock) table → next ≡ with_rocks value (take (at + 1) rocks) no_pairs
rocks_step value rocks at rock table next h is before e =
    e ∙ ap (put_rock rock.key (value rock)) before
    ∙ sym (rocks_more value (take at rocks) rock no_pairs)
    ∙ ap (λ l. with_rocks value l no_pairs) (sym (taken_more rocks at rock h is))

-- a table that stood in an ordered one is ordered
pub found_ordered : (key : Key) (ps found : Pairs) (old : Option Datum) → IsOrdered ps → old ≡ value_at key ps
    → old ≡ Some (table_value found) → IsOrdered found
found_ordered key ps found old ordered is some =
    let served : IfSome (Some (table_value found)) (λ value. (value ≢ nil) × IsServed value) =
    subst (λ o. IfSome o (λ value. (value ≢ nil) × IsServed value)) (sym is ∙ some) (value_at-served key ps ordered) in
    served.1

-- a table with what was taken out of it, and has one key more, put back
pub put_back : (key : RockKey) (value : Datum) (table left versions now changed : Pairs)
    → left ≡ put (Text key.name) (table_value no_pairs) table
    → versions ≡ table_in (value_at (Text key.name) table)
    → changed ≡ put (Text key.version) value versions → now ≡ put (Text key.name) (table_value changed) left
    → now ≡ put_rock key value table
put_back key value table left versions now changed e f g h =
    h ∙ ap (put (Text key.name) (table_value changed)) e
    ∙ put_again (Text key.name) (table_value changed) (table_value no_pairs) table
    ∙ ap (λ ps. put (Text key.name) (table_value ps) table) (g ∙ ap (put (Text key.version) value) f)

-- what follows of what holds where there is no error
pub on_ok : {A E : Type 0} {P Q : Type 0} (r : Result A E) → OnOk r P → (P → Q) → OnOk r Q
on_ok (Ok a) holds follows = follows holds
on_ok (Err e) holds follows = tt
