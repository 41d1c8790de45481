-- Entries more and less.
use Rattle.std.proofs.Common.{◌≡◌, ◌↔◌, ℕ, ◌+◌, ◌≤◌, ◌<◌, List, [], ◌∷◌, ◌++◌, length, get_or, take, refl, sym, ap, subst, ◌∙◌, Bool, true, false, not, cond, ◌||◌, if◌then◌else◌, IsTrue, ⊎_elim, arith}
use Rattle.std.specs.Prelude.{insert}
use Rattle.std.specs.List.{Contains, list_any, position_or_len, prefix_len}
use Rattle.std.proofs.Math.Numerals.{one-add}
use Rattle.std.proofs.lemmas.List.{map-append, take_more}
use Rattle.std.proofs.lemmas.List.Sums.{prefix_len-le-length}
use Rattle.rocks_version.specs.Keys.{is_before}
use Rattle.rocks_version.specs.declared.key.RockKey.{RockKey}
use Rattle.rock_record.specs.declared.rock.Rock.{Rock}
use Rattle.tree_claims.specs.Rocks.{is_same_rock}
use Rattle.tree_claims.proofs.Members.{cons_behind, cons_cases, cons_here, nil_none}
use Rattle.tree_claims.proofs.RockSets.{is_same, same_rock}
use Rattle.tree_sets.specs.Sets.{entries_of, entry_of, keys_in}
use Rattle.tree_sets.specs.declared.entry.IndexEntry.{IndexEntry}
use Rattle.tree_model.specs.Held.{changed, with_entries, with_entry}

-- ---- whether a rock is there

abbrev pub has_key : RockKey → List IndexEntry → Bool
has_key key entries = list_any (λ entry. is_same_rock entry.key key) entries

has_key_if : (key : RockKey) (entries : List IndexEntry) → has_key key entries ≡ true → Contains (keys_in entries) key
has_key_if key [] h = cc
has_key_if key (entry ∷ entries) h =
    elim (is_same_rock entry.key key) as (λ b. is_same_rock entry.key key ≡ b → (b || has_key key entries) ≡ true → Contains (keys_in (entry ∷ entries)) key) [
      | true ↦ λ same _. subst (λ (k : RockKey). Contains (keys_in (entry ∷ entries)) k) (same_rock entry.key key same) (cons_here entry.key (keys_in entries))
      | false ↦ λ _ more. cons_behind entry.key (keys_in entries) key (has_key_if key entries more)
    ] refl h

or_right : (a b : Bool) → b ≡ true → (a || b) ≡ true
or_right true b h = refl
or_right false b h = h

any_key_if : (key : RockKey) (entries : List IndexEntry) → Contains (keys_in entries) key → has_key key entries ≡ true
any_key_if key [] h = absurd (nil_none key h)
any_key_if key (entry ∷ entries) h =
    ⊎_elim (λ e. ap (λ (b : Bool). b || has_key key entries) (is_same entry.key key e))
    (λ more. or_right (is_same_rock entry.key key) (has_key key entries) (any_key_if key entries more))
    (cons_cases entry.key (keys_in entries) key h)

pub tells_key : (key : RockKey) (held entries : List IndexEntry) (answer : Bool) → held ≡ entries → answer ≡ has_key key held → IsTrue answer ↔ Contains (keys_in entries) key
tells_key key held entries answer same tells = (
  λ is. subst (λ (l : List IndexEntry). Contains (keys_in l) key) same (has_key_if key held (sym tells ∙ is)),
  λ has. tells ∙ any_key_if key held (subst (λ (l : List IndexEntry). Contains (keys_in l) key) (sym same) has),
)

-- ---- where a rock goes

with_is_insert : (added : IndexEntry) (entries : List IndexEntry) → with_entry added entries ≡ insert entries (position_or_len (λ entry. is_before added.key entry.key) entries) added
with_is_insert added [] = refl
with_is_insert added (entry ∷ entries) =
    let n = prefix_len (λ (e : IndexEntry). not (is_before added.key e.key)) entries in
    elim (is_before added.key entry.key) as (λ b. (if b then added ∷ entry ∷ entries else entry ∷ with_entry added entries) ≡ insert (entry ∷ entries) (cond (not b) (1 + n) 0) added) [
      | true ↦ refl
      | false ↦ rw (one-add n) (ap (λ (l : List IndexEntry). entry ∷ l) (with_is_insert added entries))
    ]

place_within : (key : RockKey) (entries : List IndexEntry) → position_or_len (λ entry. is_before key entry.key) entries ≤ length entries
place_within key entries = prefix_len-le-length (λ (e : IndexEntry). not (is_before key e.key)) entries

-- as it is read where it is put
pub put_there : (added : IndexEntry) (held seen new : List IndexEntry) (at : ℕ) → new ≡ insert held at added → at ≡ position_or_len (λ entry. is_before added.key entry.key) seen → seen ≡ held → new ≡ with_entry added held
put_there added held seen new at put place same =
    put ∙ ap (λ (n : ℕ). insert held n added) (place ∙ ap (position_or_len (λ (e : IndexEntry). is_before added.key e.key)) same) ∙ sym (with_is_insert added held)

pub put_within : (key : RockKey) (held seen : List IndexEntry) (at size : ℕ) → at ≡ position_or_len (λ entry. is_before key entry.key) seen → seen ≡ held → size ≡ length held → at ≤ size
put_within key held seen at size place same long =
    let within = place_within key held in
    let where_it_goes = place ∙ ap (position_or_len (λ (e : IndexEntry). is_before key e.key)) same in
    omega arith

-- ---- one rock after the other

with_more : (added : List IndexEntry) (last : IndexEntry) (entries : List IndexEntry) → with_entries (added ++ last ∷ []) entries ≡ with_entry last (with_entries added entries)
with_more [] last entries = refl
with_more (entry ∷ added) last entries = with_more added last (with_entry entry entries)

pub changed_more : (added : List Rock) (i : ℕ) (rock : Rock) (last : IndexEntry) (removed : List RockKey) (entries made new : List IndexEntry) → i < length added → rock ≡ get_or added i rock → last ≡ entry_of rock
    → made ≡ changed (entries_of (take i added)) removed entries → new ≡ with_entry last made → new ≡ changed (entries_of (take (i + 1) added)) removed entries
changed_more added i rock last removed entries made new within is entry so_far put =
    let longer = take_more added i rock within ∙ ap (λ (r : Rock). take i added ++ r ∷ []) (sym is) in
    let more = ap entries_of longer ∙ map-append entry_of (take i added) (rock ∷ []) in
    put ∙ (λ j. with_entry (entry j) (so_far j)) ∙ sym (ap (λ (l : List IndexEntry). changed l removed entries) more ∙ with_more (entries_of (take i added)) (entry_of rock) _)
