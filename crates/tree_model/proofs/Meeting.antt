-- The first of the rocks that meets a dependency stands among those of its name.
use Rattle.std.proofs.Common.{◌≡◌, ◌≢◌, ℕ, ◌≤◌, ◌<◌, zero, suc, List, [], ◌∷◌, length, get_or, take, drop, refl, sym, ap, subst, ◌∙◌, Bool, true, false, ◌&&◌, Option, Some, None, cond, arith, ltb, inl, inr, ⊎_elim}
use Rattle.std.specs.Prelude.{◌⊎◌, ◌-◌}
use Rattle.std.proofs.lemmas.Bool.Decides.{nat_tests}
use Rattle.std.proofs.lemmas.Cmp.{nat_list_cmp_total, tied_itself}
use Rattle.std.proofs.lemmas.List.{length-map, take-append-drop, take_rest}
use Rattle.std.proofs.lemmas.List.Folds.{find-append}
use Rattle.std.proofs.lemmas.Map.Keys.{Less-from_sorted}
use Rattle.std.proofs.lemmas.Slice.Eq.{bytes_eq-Decides}
use Rattle.std.specs.List.{find, AllWithin}
use Rattle.std.specs.List.Sorted.{IsPartitionedBy}
use Rattle.std.specs.Option.{option_map, option_map_or, option_or}
use Rattle.std.specs.Ordering.{is_lt, ordering_then}
use Rattle.std.specs.Str.{bytes_eq}
use Rattle.std.specs.declared.cmp.Ordering.{Ordering}
use Rattle.std.specs.declared.cmp.Ordering.TheVariants.{Less, Equal, Greater}
use Rattle.rocks_constraint.specs.Meets.{meets_all}
use Rattle.rocks_constraint.specs.Wanted.{Wanted}
use Rattle.rocks_text.specs.Files.{path_cmp}
use Rattle.rocks_version.specs.Keys.{listing_cmp}
use Rattle.rocks_version.specs.declared.key.RockKey.{RockKey}
use Rattle.tree_claims.proofs.PathOrder.{le_lt, lt_less}
use Rattle.tree_sets.specs.Needs.{is_met_by, lua_key, met_by}
use Rattle.tree_sets.specs.Sets.{keys_in, AreListed}
use Rattle.tree_sets.specs.declared.entry.IndexEntry.{IndexEntry}

-- ---- names

then_less : (names versions : Ordering) → ordering_then names versions ≡ Less → names ≢ Greater
then_less Less versions h e = cc
then_less Equal versions h e = cc
then_less Greater versions h e = cc

names_not_above : (left right : RockKey) → listing_cmp left right ≡ Less → path_cmp left.name right.name ≢ Greater
unfolding listing_cmp
names_not_above left right less = then_less (path_cmp left.name right.name) _ less

get_key : (entries : List IndexEntry) (i : ℕ) (d : IndexEntry) → i < length entries → get_or (keys_in entries) i d.key ≡ (get_or entries i d).key
get_key [] i d within = refl
get_key (entry ∷ entries) zero d within = refl
get_key (entry ∷ entries) (suc i) d within = get_key entries i d (omega arith)

not_above_itself : (name : List ℕ) → path_cmp name name ≢ Greater
not_above_itself name above = let tied = tied_itself nat_list_cmp_total name in cc

before_or_same : (i j : ℕ) → i ≤ j → (i < j) ⊎ (i ≡ j)
before_or_same i j below =
    elim (ltb i j) as (λ b. ltb i j ≡ b → (i < j) ⊎ (i ≡ j)) [
      | true ↦ λ e. inl (grind (arith, nat_tests))
      | false ↦ λ e. inr (grind (arith, nat_tests))
    ] refl

names_up : (entries : List IndexEntry) (i j : ℕ) (d : IndexEntry) → AreListed (keys_in entries) → i ≤ j → j < length entries → path_cmp (get_or entries i d).key.name (get_or entries j d).key.name ≢ Greater
names_up entries i j d up below within =
    ⊎_elim (λ before.
    let long : j < length (keys_in entries) = omega (arith, length-map entries (λ (e : IndexEntry). e.key)) in
    let less = Less-from_sorted listing_cmp (keys_in entries) i j d.key up before long in
    names_not_above (get_or entries i d).key (get_or entries j d).key (rw (get_key entries i d (omega arith), get_key entries j d within) at less))
    (λ same. subst (λ (k : ℕ). path_cmp (get_or entries i d).key.name (get_or entries k d).key.name ≢ Greater) same (not_above_itself (get_or entries i d).key.name))
    (before_or_same i j below)

pub names_part : (entries : List IndexEntry) (name : List ℕ) → AreListed (keys_in entries) → IsPartitionedBy (λ entry. is_lt (path_cmp entry.key.name name)) entries
names_part entries name up i j d below within less =
    ap is_lt (le_lt nat_list_cmp_total (get_or entries i d).key.name (get_or entries j d).key.name name (names_up entries i j d up below within) (lt_less (path_cmp (get_or entries j d).key.name name) less))

-- ---- the first that meets it

find_key : (wanted : Wanted) (entries : List IndexEntry) → find (is_met_by wanted) (keys_in entries) ≡ option_map (λ (entry : IndexEntry). entry.key) (find (λ entry. is_met_by wanted entry.key) entries)
find_key wanted [] = refl
find_key wanted (entry ∷ entries) =
    elim (is_met_by wanted entry.key) as (λ b. cond b (Some entry.key) (find (is_met_by wanted) (keys_in entries)) ≡ option_map (λ (e : IndexEntry). e.key) (cond b (Some entry) (find (λ e. is_met_by wanted e.key) entries))) [
      | true ↦ refl
      | false ↦ find_key wanted entries
    ]

other_name : (wanted : Wanted) (key : RockKey) → path_cmp key.name wanted.name ≡ Less → is_met_by wanted key ≡ false
other_name wanted key less = by (bytes_eq wanted.name key.name) refl
  where
    by : (b : Bool) → bytes_eq wanted.name key.name ≡ b → (b && meets_all key.version wanted.constraints) ≡ false
    by true same =
        let name = (bytes_eq-Decides wanted.name key.name).0 same in
        let tied = ap (path_cmp key.name) name ∙ tied_itself nat_list_cmp_total key.name in
        let clash = sym less ∙ tied in
        cc
    by false same = refl

none_below : (wanted : Wanted) (entries : List IndexEntry) (start : ℕ) → AllWithin (λ entry. path_cmp entry.key.name wanted.name ≡ Less) entries 0 start → start ≤ length entries → find (λ entry. is_met_by wanted entry.key) (take start entries) ≡ None
none_below wanted entries zero below within = refl
none_below wanted [] (suc start) below within = absurd (omega arith)
none_below wanted (entry ∷ entries) (suc start) below within =
    let other : is_met_by wanted entry.key ≡ false = other_name wanted entry.key (below 0 entry (omega arith) (omega arith)) in
    ap (λ b. cond b (Some entry) (find (λ (e : IndexEntry). is_met_by wanted e.key) (take start entries))) other
    ∙ none_below wanted entries start (λ k d low high. below (suc k) d (omega arith) (omega arith)) (omega arith)

found_from : (wanted : Wanted) (entries : List IndexEntry) (start : ℕ) → AllWithin (λ entry. path_cmp entry.key.name wanted.name ≡ Less) entries 0 start → start ≤ length entries
    → find (λ entry. is_met_by wanted entry.key) (take (length entries - start) (drop start entries)) ≡ find (λ entry. is_met_by wanted entry.key) entries
found_from wanted entries start below within =
    let test = λ (entry : IndexEntry). is_met_by wanted entry.key in
    ap (find test) (take_rest entries start)
    ∙ ap (λ (o : Option IndexEntry). option_or o (find test (drop start entries))) (sym (none_below wanted entries start below within))
    ∙ sym (find-append test (take start entries) (drop start entries))
    ∙ ap (find test) (take-append-drop start entries)

-- what is found among those that have no name below the dependency's is what meets it
pub met_one : (wanted : Wanted) (lua : RockKey) (entries : List IndexEntry) (start : ℕ) (name : List ℕ) (found : Option IndexEntry) → lua ≡ lua_key → false ≡ is_met_by wanted lua → name ≡ wanted.name
    → AllWithin (λ entry. path_cmp entry.key.name name ≡ Less) entries 0 start → start ≤ length entries → found ≡ find (λ entry. is_met_by wanted entry.key) (take (length entries - start) (drop start entries))
    → option_map_or (λ (entry : IndexEntry). entry.key) found lua_key ≡ met_by (keys_in entries) wanted
met_one wanted lua entries start name found is_lua not_lua same below within is =
    let test = λ (entry : IndexEntry). is_met_by wanted entry.key in
    let there = subst (λ (n : List ℕ). AllWithin (λ entry. path_cmp entry.key.name n ≡ Less) entries 0 start) same below in
    let first = is ∙ found_from wanted entries start there within in
    let other : is_met_by wanted lua_key ≡ false = sym (ap (is_met_by wanted) is_lua) ∙ sym not_lua in
    ap (λ (o : Option IndexEntry). option_map_or (λ (e : IndexEntry). e.key) o lua_key) first
    ∙ by_key (find test entries)
    ∙ ap (λ (o : Option RockKey). option_map_or (λ key. key) o lua_key) (sym (find_key wanted entries))
    ∙ ap (λ (b : Bool). option_map_or (λ key. key) (cond b (Some lua_key) (find (is_met_by wanted) (keys_in entries))) lua_key) (sym other)
  where
    by_key : (o : Option IndexEntry) → option_map_or (λ (e : IndexEntry). e.key) o lua_key ≡ option_map_or (λ key. key) (option_map (λ (e : IndexEntry). e.key) o) lua_key
    by_key None = refl
    by_key (Some entry) = refl
