-- Positions found on the way through a table are those of the definition.
use Rattle.std.proofs.Common.{◌≡◌, ℕ, zero, suc, ◌+◌, ◌<◌, ◌==◌, Bool, true, false, cond, ◌&&◌, ◌||◌, List, [], ◌∷◌, ◌++◌, refl, sym, ap, ◌∙◌, subst, append_assoc, add-one, arith, ◌⊎◌, inl, inr}
use Rattle.std.specs.declared.cmp.Ordering.{Ordering}
use Rattle.std.specs.declared.cmp.Ordering.TheVariants.{Less, Equal, Greater}
use Rattle.std.specs.Ordering.{is_eq, nat_cmp}
use Rattle.std.proofs.lemmas.Bool.{lt-ltb, eq-eqb, ne_eqb, eqb-true, and_parts, cases_order}
use Rattle.std.proofs.lemmas.Cmp.{ranked}
use Rattle.lua_value.specs.declared.key.Key.{Key}
use Rattle.lua_value.specs.declared.key.Key.TheVariants.{Int, Text, Bool as Truth}
use Rattle.lua_value.specs.Key.{key_cmp}
use Rattle.lua_value.specs.Pairs.{Pairs, no_pairs, with_pair, keys}
use Rattle.lua_value.specs.Ordered.{IsBeforeAll, IsOrdered}
use Rattle.lua_value.proofs.KeyOrder.{key_cmp-itself, key_cmp-trans, less_turned}
use Rattle.lua_value.proofs.Puts.{IsBeforeAll-trans}
use Rattle.lua_print.specs.Printed.{has_key, reaches, is_position, key_text, value_text, entries_text}
use Rattle.lua_print.specs.Steps.{is_number_key, entry_text}

-- the entries from one on before which m positions came
abbrev pub walk_text : List ℕ → ℕ → Pairs → List ℕ
walk_text indent m no_pairs = []
walk_text indent m (with_pair key value rest) =
    entry_text indent (is_number_key key (m + 1)) key value ++ walk_text indent (cond (is_number_key key (m + 1)) (m + 1) m) rest

has_key-append : (fs gs : List Key) (key : Key) → has_key (fs ++ gs) key ≡ has_key fs key || has_key gs key
has_key-append [] gs key = refl
has_key-append (a ∷ fs) gs key = elim (is_eq (key_cmp key a)) as (λ b. b || has_key (fs ++ gs) key ≡ (b || has_key fs key) || has_key gs key) [
  | true ↦ refl
  | false ↦ has_key-append fs gs key
]

has_key-left : (fs gs : List Key) (key : Key) → has_key fs key ≡ true → has_key (fs ++ gs) key ≡ true
has_key-left fs gs key e = has_key-append fs gs key ∙ ap (λ b. b || has_key gs key) e

has_key-none : (fs gs : List Key) (key : Key) → has_key fs key ≡ false → has_key gs key ≡ false → has_key (fs ++ gs) key ≡ false
has_key-none fs gs key e f = has_key-append fs gs key ∙ (λ i. e i || f i)

has_key-before : (key : Key) (ks : List Key) → IsBeforeAll key ks → has_key ks key ≡ false
has_key-before key [] h = refl
has_key-before key (k ∷ ks) h = rw (h.0) (has_key-before key ks h.1)

-- each key comes before the one
abbrev AllBefore : List Key → Key → Type 0
AllBefore [] key = Unit {0}
AllBefore (a ∷ fs) key = (key_cmp a key ≡ Less) × AllBefore fs key

has_key-after : (fs : List Key) (key : Key) → AllBefore fs key → has_key fs key ≡ false
has_key-after [] key h = refl
has_key-after (a ∷ fs) key h = rw (less_turned a key h.0) (has_key-after fs key h.1)

AllBefore-trans : (fs : List Key) (b c : Key) → AllBefore fs b → key_cmp b c ≡ Less → AllBefore fs c
AllBefore-trans [] b c h e = tt
AllBefore-trans (a ∷ fs) b c h e = (key_cmp-trans a b c h.0 e, AllBefore-trans fs b c h.1 e)

AllBefore-push : (fs : List Key) (b c : Key) → AllBefore fs c → key_cmp b c ≡ Less → AllBefore (fs ++ b ∷ []) c
AllBefore-push [] b c h e = (e, tt)
AllBefore-push (a ∷ fs) b c h e = (h.0, AllBefore-push fs b c h.1 e)

reaches-left : (fs gs : List Key) (n : ℕ) → reaches fs n ≡ true → reaches (fs ++ gs) n ≡ true
reaches-left fs gs zero e = refl
reaches-left fs gs (suc n) e =
    let both = and_parts (has_key fs (Int (suc n))) (reaches fs n) e in
    (λ i. has_key-left fs gs (Int (suc n)) both.0 i && reaches-left fs gs n both.1 i)

-- below what the keys reach each number is one of them
reaches-has : (ks : List Key) (n i : ℕ) → reaches ks n ≡ true → i < n → has_key ks (Int (suc i)) ≡ true
reaches-has ks zero i e lt = absurd (omega arith)
reaches-has ks (suc n) i e lt =
    let both = and_parts (has_key ks (Int (suc n))) (reaches ks n) e in
    elim (cases_order i n) [
      | inl same ↦ subst (λ j. has_key ks (Int (suc j)) ≡ true) (sym same) both.0
      | inr (inl below) ↦ reaches-has ks n i both.1 below
      | inr (inr above) ↦ absurd (omega arith)
    ]

-- a number that is no key is not passed
reaches-stops : (ks : List Key) (n i : ℕ) → has_key ks (Int (suc i)) ≡ false → i < n → reaches ks n ≡ false
reaches-stops ks n i e lt = by_cases (reaches ks n) refl
  where
    by_cases : (b : Bool) → reaches ks n ≡ b → b ≡ false
    by_cases true all = let there = reaches-has ks n i all lt in cc
    by_cases false none = refl

number_less : (i j : ℕ) → i < j → key_cmp (Int i) (Int j) ≡ Less
number_less i j lt = rw (lt-ltb i j lt) refl

has_key-here : (fs gs : List Key) (key : Key) → has_key (fs ++ key ∷ gs) key ≡ true
has_key-here [] gs key = rw (key_cmp-itself key) refl
has_key-here (a ∷ fs) gs key = ap (λ b. is_eq (key_cmp key a) || b) (has_key-here fs gs key) ∙ or_true (is_eq (key_cmp key a))
  where
    or_true : (b : Bool) → b || true ≡ true
    or_true true = refl
    or_true false = refl

and_false : (b : Bool) → b && false ≡ false
and_false true = refl
and_false false = refl

-- the key behind those in which m positions stand is a position exactly if it is the number after m
position-is : (fs : List Key) (key : Key) (rest : List Key) (m : ℕ) → AllBefore fs key → IsBeforeAll key rest → reaches fs m ≡ true → has_key fs (Int (suc m)) ≡ false → is_position (fs ++ key ∷ rest) key ≡ is_number_key key (m + 1)
position-is fs (Text bytes) rest m before after reached missing = refl
position-is fs (Truth b) rest m before after reached missing = refl
position-is fs (Int zero) rest m before after reached missing = sym (ne_eqb zero (m + 1) (omega arith))
position-is fs (Int (suc i)) rest m before after reached missing = rw (add-one, lt-ltb zero (suc i) (omega arith)) (by_cases (cases_order i m))
  where
    by_cases : (i ≡ m) ⊎ ((i < m) ⊎ (m < i)) → reaches (fs ++ Int (suc i) ∷ rest) (suc i) ≡ (suc i == suc m)
    by_cases (inl same) =
        let here = has_key-here fs rest (Int (suc i)) in
        let below : reaches (fs ++ Int (suc i) ∷ rest) i ≡ true = reaches-left fs (Int (suc i) ∷ rest) i (subst (λ n. reaches fs n ≡ true) (sym same) reached) in
        (λ j. here j && below j) ∙ sym (eq-eqb (suc i) (suc m) (ap suc same))
    by_cases (inr (inl below)) =
        let there = reaches-has fs m i reached below in
        let none = has_key-after fs (Int (suc i)) before in
        cc
    by_cases (inr (inr above)) =
        let less = number_less (suc m) (suc i) (omega arith) in
        let later : has_key (Int (suc i) ∷ rest) (Int (suc m)) ≡ false = has_key-before (Int (suc m)) (Int (suc i) ∷ rest) (less, IsBeforeAll-trans (Int (suc m)) (Int (suc i)) rest less after) in
        let none = has_key-none fs (Int (suc i) ∷ rest) (Int (suc m)) missing later in
        reaches-stops (fs ++ Int (suc i) ∷ rest) (suc i) m none (omega arith) ∙ sym (ne_eqb (suc i) (suc m) (omega arith))

number_key : (key : Key) (n : ℕ) → is_number_key key n ≡ true → key ≡ Int n
number_key (Int i) n e = ap Int (eqb-true i n e)
number_key (Text bytes) n e = cc
number_key (Truth b) n e = cc

other_key : (key : Key) (n : ℕ) → is_number_key key n ≡ false → has_key (key ∷ []) (Int n) ≡ false
other_key (Int i) n e = by_cases (nat_cmp n i) refl
  where
    by_cases : (o : Ordering) → nat_cmp n i ≡ o → is_eq o || false ≡ false
    by_cases Less less = refl
    by_cases Greater greater = refl
    by_cases Equal equal =
        let same : n ≡ i = ranked n i Equal (sym equal) in
        let is = eq-eqb i n (sym same) in
        cc
other_key (Text bytes) n e = refl
other_key (Truth b) n e = refl

-- what holds of the keys so far, of which m are positions
record Seen (fs : List Key) (m : ℕ) : Type 0 where
  reached : reaches fs m ≡ true
  open_next : has_key fs (Int (suc m)) ≡ false

seen_more : (fs : List Key) (key : Key) (m : ℕ) → AllBefore fs key → Seen fs m → Seen (fs ++ key ∷ []) (cond (is_number_key key (m + 1)) (m + 1) m)
seen_more fs key m before seen = by_cases (is_number_key key (m + 1)) refl
  where
    by_cases : (b : Bool) → is_number_key key (m + 1) ≡ b → Seen (fs ++ key ∷ []) (cond b (m + 1) m)
    by_cases true e =
        let is_next : key ≡ Int (suc m) = number_key key (m + 1) e ∙ ap Int (add-one m) in
        let up = number_less (suc m) (suc (suc m)) (omega arith) in
        let here : has_key (fs ++ key ∷ []) (Int (suc m)) ≡ true = subst (λ k. has_key (fs ++ key ∷ []) k ≡ true) is_next (has_key-here fs [] key) in
        let below = reaches-left fs (key ∷ []) m seen.reached in
        let before_next : AllBefore fs (Int (suc m)) = subst (AllBefore fs) is_next before in
        let left = has_key-after fs (Int (suc (suc m))) (AllBefore-trans fs (Int (suc m)) (Int (suc (suc m))) before_next up) in
        let right : has_key (key ∷ []) (Int (suc (suc m))) ≡ false = subst (λ k. has_key (k ∷ []) (Int (suc (suc m))) ≡ false) (sym is_next) (rw (less_turned (Int (suc m)) (Int (suc (suc m))) up) refl) in
        rw add-one (record { reached = λ j. here j && below j; open_next = has_key-none fs (key ∷ []) (Int (suc (suc m))) left right })
    by_cases false e =
        let other = other_key key (suc m) (rw add-one at e) in
        record { reached = reaches-left fs (key ∷ []) m seen.reached; open_next = has_key-none fs (key ∷ []) (Int (suc m)) seen.open_next other }

-- the first of the pairs comes after the keys
abbrev First : List Key → Pairs → Type 0
First fs no_pairs = Unit {0}
First fs (with_pair key value rest) = AllBefore fs key

first_next : (fs : List Key) (key : Key) (ps : Pairs) → AllBefore fs key → IsBeforeAll key (keys ps) → First (fs ++ key ∷ []) ps
first_next fs key no_pairs before after = tt
first_next fs key (with_pair next value rest) before after = AllBefore-push fs key next (AllBefore-trans fs key next before after.0) after.0

walks : (indent : List ℕ) (ps : Pairs) (fs : List Key) (m : ℕ) → First fs ps → IsOrdered ps → Seen fs m → walk_text indent m ps ≡ entries_text indent (fs ++ keys ps) ps
walks indent no_pairs fs m first h seen = refl
walks indent (with_pair key value rest) fs m first h seen =
    let b = is_number_key key (m + 1) in
    let same = position-is fs key (keys rest) m first h.0 seen.reached seen.open_next in
    let later = walks indent rest (fs ++ key ∷ []) (cond b (m + 1) m) (first_next fs key rest first h.0) h.4 (seen_more fs key m first seen) in
    let all : List Key = fs ++ key ∷ keys rest in
    append_assoc (indent ++ cond b [] (key_text key) ++ value_text indent value) (44 ∷ 10 ∷ []) _
    ∙ ap (λ text. indent ++ cond b [] (key_text key) ++ value_text indent value ++ 44 ∷ 10 ∷ text) (later ∙ ap (λ ks. entries_text indent ks rest) (append_assoc fs (key ∷ []) (keys rest)))
    ∙ ap (λ p. indent ++ cond p [] (key_text key) ++ value_text indent value ++ 44 ∷ 10 ∷ entries_text indent all rest) (sym same)

pub walk_text-all : (indent : List ℕ) (ps : Pairs) → IsOrdered ps → walk_text indent 0 ps ≡ entries_text indent (keys ps) ps
walk_text-all indent ps h = walks indent ps [] 0 (first_of ps) h (record { reached = refl; open_next = refl })
  where
    first_of : (ps : Pairs) → First [] ps
    first_of no_pairs = tt
    first_of (with_pair key value rest) = tt

-- a step that prints a line in front of what is left
pub print_step : (out new line after text all : List ℕ) → new ≡ out ++ line → text ≡ line ++ after → out ++ text ≡ all → new ++ after ≡ all
print_step out new line after text all n t e =
    ap (λ o. o ++ after) n ∙ append_assoc out line after ∙ ap (λ rest. out ++ rest) (sym t) ∙ e
