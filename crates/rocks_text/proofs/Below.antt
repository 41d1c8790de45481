-- Paths below a folder.
use Rattle.std.proofs.Common.{◌≡◌, ℕ, ◌+◌, List, [], ◌∷◌, ◌++◌, length, drop, refl, sym, ap, subst, ◌∙◌, cond, true, false, Bool, ◌≤◌, nat_le, arith, append_assoc, length-append, if◌then◌else◌}
use Rattle.std.specs.Prelude.{Option, Some, None, IsTrue, MatchOption, IfSome, ◌&&◌}
use Rattle.std.specs.Option.{option_map}
use Rattle.std.specs.Bool.{nat_eq}
use Rattle.std.specs.List.{starts_with, onto_first, list_all}
use Rattle.std.specs.Str.Pattern.{LacksTextAt, FindsTextPrefix, StripsPrefix}
use Rattle.std.proofs.lemmas.Bool.{le-leb}
use Rattle.std.proofs.lemmas.Bool.Decides.{Decides-eqb, nat_tests}
use Rattle.std.proofs.lemmas.List.Prefix.{front_rest}
use Rattle.std.proofs.lemmas.Slice.Eq.{starts_is}
use Rattle.rocks_text.specs.Texts.{is_file_path, is_part, parts}
use Rattle.rocks_text.specs.Paths.{below}
use denote.Ref.{Bor}

and_left : (a b : Bool) → (a && b) ≡ true → a ≡ true
and_left true b h = refl
and_left false b h = cc

and_right : (a b : Bool) → (a && b) ≡ true → b ≡ true
and_right true b h = h
and_right false b h = cc

-- a folder with its slash, and what follows
regrouped : (folder rest : List ℕ) → (folder ++ 47 ∷ []) ++ rest ≡ folder ++ 47 ∷ rest
regrouped folder rest = append_assoc folder (47 ∷ []) rest

pub below_is : (folder path rest : List ℕ) → path ≡ folder ++ 47 ∷ rest → below folder path ≡ Some rest
below_is folder path rest e =
    let front = folder ++ 47 ∷ [] in
    let whole : path ≡ front ++ rest = e ∙ sym (regrouped folder rest) in
    let yes = (starts_is Decides-eqb path front (starts_with nat_eq path front) refl).1 rest whole in
    let left : drop (length folder + 1) path ≡ rest = ap (λ n. drop n path) (sym (length-append folder (47 ∷ []))) ∙ front_rest path front rest whole in
    rw (yes, left)

pub below_none : (folder path : List ℕ) → ((rest : List ℕ) → path ≡ folder ++ 47 ∷ rest → ⊥) → below folder path ≡ None
below_none folder path lacks =
    let front = folder ++ 47 ∷ [] in
    elim (starts_with nat_eq path front) as (λ b. starts_with nat_eq path front ≡ b → (if b then Some (drop (length folder + 1) path) else None) ≡ None) [
      | true ↦ λ yes. absurd (lacks _ ((starts_is Decides-eqb path front (starts_with nat_eq path front) refl).0 yes ∙ regrouped folder _))
      | false ↦ λ no. refl
    ] refl

pub below_cases : (folder path : List ℕ) → MatchOption (below folder path) ((rest : List ℕ) → path ≡ folder ++ 47 ∷ rest → ⊥) (λ rest. path ≡ folder ++ 47 ∷ rest)
below_cases folder path =
    let front = folder ++ 47 ∷ [] in
    let starts = starts_is Decides-eqb path front (starts_with nat_eq path front) refl in
    elim (starts_with nat_eq path front) as (λ b. starts_with nat_eq path front ≡ b → MatchOption (if b then Some (drop (length folder + 1) path) else None) ((rest : List ℕ) → path ≡ folder ++ 47 ∷ rest → ⊥) (λ rest. path ≡ folder ++ 47 ∷ rest)) [
      | true ↦ λ yes. starts.0 yes ∙ regrouped folder _ ∙ ap (λ n. folder ++ 47 ∷ drop n path) (length-append folder (47 ∷ []))
      | false ↦ λ no rest e. let yes = starts.1 rest (e ∙ sym (regrouped folder rest)) in cc
    ] refl

some_path : (folder path rest : List ℕ) (o : Option (List ℕ)) → o ≡ Some rest → MatchOption o ((r : List ℕ) → path ≡ folder ++ 47 ∷ r → ⊥) (λ r. path ≡ folder ++ 47 ∷ r) → path ≡ folder ++ 47 ∷ rest
some_path folder path rest None is cases = cc
some_path folder path rest (Some r) is cases = let same : r ≡ rest = cc in cases ∙ ap (λ r. folder ++ 47 ∷ r) same

pub below_some : (folder path rest : List ℕ) → below folder path ≡ Some rest → path ≡ folder ++ 47 ∷ rest
below_some folder path rest is = some_path folder path rest (below folder path) is (below_cases folder path)

-- ---- what `strip_prefix` tells, at the folder and then at the slash

pub none_from_strip : (folder path f p : List ℕ) → f ≡ folder → p ≡ path → LacksTextAt f p 0 → below folder path ≡ None
none_from_strip folder path f p ef ep lacks = below_none folder path (λ rest e. lacks (47 ∷ rest) (ep ∙ e ∙ ap (λ l. l ++ 47 ∷ rest) (sym ef)))

pub strip_front : (folder path f p x : List ℕ) → f ≡ folder → p ≡ path → StripsPrefix (FindsTextPrefix f) p x → path ≡ folder ++ x
strip_front folder path f p x ef ep h = sym ep ∙ h.1.1 ∙ ap (λ r. f ++ r) (sym h.2) ∙ ap (λ l. l ++ x) ef

pub rest_from_strip : (folder path bs : List ℕ) (r : Option (Bor (List ℕ))) → path ≡ folder ++ bs → MatchOption r ((rest : List ℕ) → bs ≡ 47 ∷ rest → ⊥) (λ x. bs ≡ 47 ∷ x.now) → option_map (λ x. x.now) r ≡ below folder path
rest_from_strip folder path bs None whole cases = sym (below_none folder path (λ rest e. cases rest (sym (front_rest path folder bs whole) ∙ front_rest path folder (47 ∷ rest) e)))
rest_from_strip folder path bs (Some x) whole cases = sym (below_is folder path x.now (whole ∙ ap (λ r. folder ++ r) cases))

-- ---- the rest of a path is one

abbrev later : List (List ℕ) → List (List ℕ)
later [] = []
later (part ∷ parts) = parts

later-onto_first : (x : ℕ) (split : List (List ℕ)) → later (onto_first x split) ≡ later split
later-onto_first x [] = refl
later-onto_first x (part ∷ parts) = refl

all_later : (test : List ℕ → Bool) (split : List (List ℕ)) → list_all test split ≡ true → list_all test (later split) ≡ true
all_later test [] h = refl
all_later test (part ∷ parts) h = and_right (test part) _ h

good_rest : (test : List ℕ → Bool) (folder rest : List ℕ) → list_all test (later (parts (folder ++ 47 ∷ rest))) ≡ true → list_all test (parts rest) ≡ true
good_rest test [] rest h = h
good_rest test (x ∷ folder) rest h =
    let split = parts (folder ++ 47 ∷ rest) in
    elim (nat_eq x 47) as (λ b. list_all test (later (cond b ([] ∷ split) (onto_first x split))) ≡ true → list_all test (parts rest) ≡ true) [
      | true ↦ λ all. good_rest test folder rest (all_later test split all)
      | false ↦ λ all. good_rest test folder rest (rw (later-onto_first x split) at all)
    ] h

-- the parts of a whole are those of its folder and then those of its rest
pub rest_is_path : (folder rest : List ℕ) → IsTrue (is_file_path (folder ++ 47 ∷ rest)) → IsTrue (is_file_path rest)
rest_is_path folder rest h =
    let whole = folder ++ 47 ∷ rest in
    let short = and_left (nat_le (length whole) 1024) _ h in
    let good = and_right (nat_le (length whole) 1024) _ h in
    let shorter : length rest ≤ 1024 = grind (arith, nat_tests, length-append, short) in
    rw (le-leb (length rest) 1024 shorter, good_rest (is_part 150) folder rest (all_later (is_part 150) (parts whole) good))

-- what `strip_prefix` leaves of a path behind a folder and its slash
pub rest_is_valid : (folder path bs : List ℕ) (r : Option (Bor (List ℕ))) → path ≡ folder ++ bs → MatchOption r ((rest : List ℕ) → bs ≡ 47 ∷ rest → ⊥) (λ x. bs ≡ 47 ∷ x.now) → IsTrue (is_file_path path) → IfSome r (λ x. IsTrue (is_file_path x.now))
rest_is_valid folder path bs None whole cases valid = tt
rest_is_valid folder path bs (Some x) whole cases valid =
    rest_is_path folder x.now (subst (λ p. IsTrue (is_file_path p)) (whole ∙ ap (λ r. folder ++ r) cases) valid)
