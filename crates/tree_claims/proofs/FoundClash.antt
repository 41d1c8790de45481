-- What is found in the index of a set tells why a rock can't be added, or that it can.
use Rattle.std.proofs.Common.{◌≡◌, ◌≢◌, ℕ, ◌<◌, ◌≤◌, List, [], ◌∷◌, length, get_or, take, refl, sym, ap, subst, ◌∙◌, Bool, true, false, cond, Option, Some, None, IsTrue, inl, inr, ⊎_elim, arith}
use Rattle.std.specs.Prelude.{◌⊎◌, ◌↔◌}
use Rattle.std.specs.List.{All, Any, Contains, HoldsAt}
use Rattle.std.specs.Ordering.{is_le}
use Rattle.std.specs.declared.cmp.Ordering.{Ordering}
use Rattle.std.specs.declared.cmp.Ordering.TheVariants.{Less, Equal, Greater}
use Rattle.std.proofs.lemmas.Bool.{cases_lt}
use Rattle.std.proofs.lemmas.List.{get_or-take, get_or_read, length-take-le}
use Rattle.std.proofs.lemmas.List.Elements.{All-contains, Contains-append_cases, Contains-append_left, Contains-append_right}
use Rattle.rocks_text.specs.Files.{path_cmp}
use Rattle.rocks_text.specs.declared.item.Item.{Item}
use Rattle.rocks_version.specs.Keys.{is_before}
use Rattle.rocks_version.specs.declared.key.RockKey.{RockKey}
use Rattle.rocks_version.proofs.OrderLaws.{listing_irreflexive}
use Rattle.tree_claims.specs.Claims.{Claim, IsPlain, IsVersioned, claim_path, claims_for, claims_of, claims_of_rock, IsClean}
use Rattle.tree_claims.specs.Clashes.{Clashes, IsBetween, IsClash}
use Rattle.tree_claims.specs.Index.{entry_of, first_of, AreOfPath, Hits, IsFirstHit, IsFree, IsHeld, IsHitBy, IsIndex, IsLeastHit}
use Rattle.tree_claims.specs.declared.clash.Clash.{Clash}
use Rattle.tree_claims.specs.declared.entry.Entry.{Entry}
use Rattle.tree_claims.proofs.Found.{not_after}
use Rattle.tree_claims.proofs.Least.{still_not}
use Rattle.tree_claims.proofs.Members.{any_from, any_some, cons_cases, flat_from, nil_none}
use Rattle.tree_claims.proofs.Stands.{clash_if, conflict_back, hits_if, share_back, shares}

-- all that a test goes by: the set's index, and the entries of the rock that is added
pub record AreIndexed (rocks : List (RockKey × List Item)) (key : RockKey) (items : List Item) (index own : List Entry) : Type 0 where
  pub clean : IsClean rocks
  pub indexed : IsIndex (claims_of rocks) index
  pub mine : IsIndex (claims_of_rock key items) own

pub are_indexed : (held rocks : List (RockKey × List Item)) (key : RockKey) (items : List Item) (index own : List Entry) → held ≡ rocks → IsHeld held index → IsIndex (claims_of_rock key items) own
    → AreIndexed rocks key items index own
are_indexed held rocks key items index own same h mine =
    subst (λ (l : List (RockKey × List Item)). AreIndexed l key items index own) same (record { clean = h.clean; indexed = h.indexed; mine = mine })

-- the entry of a claim of the whole set
among_entry : (rocks : List (RockKey × List Item)) (key : RockKey) (items : List Item) (index own : List Entry) (claim : Claim) → AreIndexed rocks key items index own
    → Contains (claims_of ((key, items) ∷ rocks)) claim → Contains own (entry_of claim) ⊎ Contains index (entry_of claim)
among_entry rocks key items index own claim a has =
    ⊎_elim (λ here. inl (a.mine.whole claim here)) (λ old. inr (a.indexed.whole claim old)) (Contains-append_cases (claims_of_rock key items) (claims_of rocks) claim has)

-- the claim of an entry of the index, or of the rock's own
index_claim : (rocks : List (RockKey × List Item)) (key : RockKey) (items : List Item) (index own : List Entry) (entry : Entry) → AreIndexed rocks key items index own
    → Contains index entry → (claim : Claim) × Contains (claims_of ((key, items) ∷ rocks)) claim × (entry ≡ entry_of claim)
index_claim rocks key items index own entry a has =
    let found = a.indexed.sound entry has in (found.0, Contains-append_right (claims_of_rock key items) (claims_of rocks) found.0 found.1, found.2)

own_claim : (rocks : List (RockKey × List Item)) (key : RockKey) (items : List Item) (index own : List Entry) (entry : Entry) → AreIndexed rocks key items index own
    → Contains own entry → (claim : Claim) × Contains (claims_of ((key, items) ∷ rocks)) claim × (entry ≡ entry_of claim)
own_claim rocks key items index own entry a has =
    let found = a.mine.sound entry has in (found.0, Contains-append_left (claims_of_rock key items) (claims_of rocks) found.0 found.1, found.2)

-- ---- nothing is in the way

free_share : (rocks : List (RockKey × List Item)) (key : RockKey) (items : List Item) (index own : List Entry) → AreIndexed rocks key items index own → All (IsFree index own) own
    → (mine other : Claim) → Contains (claims_of_rock key items) mine → Contains (claims_of ((key, items) ∷ rocks)) other
    → (Hits (entry_of mine) (entry_of other) → ⊥)
free_share rocks key items index own a free mine other added among hits =
    let alone = All-contains (IsFree index own) own (entry_of mine) free (a.mine.whole mine added) in
    ⊎_elim (λ here. alone.of_own (any_from (Hits (entry_of mine)) own (entry_of other) here hits))
    (λ there. alone.of_others (any_from (Hits (entry_of mine)) index (entry_of other) there hits)) (among_entry rocks key items index own other a among)

pub clean_if_free : (rocks : List (RockKey × List Item)) (key : RockKey) (items : List Item) (index own : List Entry) → AreIndexed rocks key items index own → All (IsFree index own) own → IsClean ((key, items) ∷ rocks)
clean_if_free rocks key items index own a free = record {
  share = λ left right has_left has_right met.
      ⊎_elim (λ mine. shares left right met (free_share rocks key items index own a free left right mine has_right))
      (λ old. ⊎_elim
      (λ mine. share_back right left (shares right left (conflict_back (claim_path left) (claim_path right) met) (free_share rocks key items index own a free right left mine has_left)))
      (λ older. a.clean.share left right old older met)
      (Contains-append_cases (claims_of_rock key items) (claims_of rocks) right has_right))
      (Contains-append_cases (claims_of_rock key items) (claims_of rocks) left has_left);
}

-- ---- something is

-- the first own entry that is not free, and those of its path
pub record IsFirst (index own : List Entry) (first : ℕ) (path : List ℕ) (group : List Entry) : Type 0 where
  pub within : first < length own
  pub before : All (IsFree index own) (take first own)
  pub hit : HoldsAt (λ mine. Any (Hits mine) index ⊎ Any (Hits mine) own) own first
  pub at : (d : Entry) → path ≡ (get_or own first d).path
  pub row : AreOfPath own first group

-- an own entry that hits one stands there or behind
not_before : (index own : List Entry) (first : ℕ) (path : List ℕ) (group : List Entry) → IsFirst index own first path group
    → (k : ℕ) (mine other : Entry) → k < length own → get_or own k mine ≡ mine → Contains own other ⊎ Contains index other → Hits mine other → first ≤ k
not_before index own first path group f k mine other within is among hits =
    ⊎_elim (λ (below : k < first).
    let most = f.within in
    let size = length-take-le first own (omega arith) in
    let here = get_or-take first own k mine below in
    let free = subst (λ (e : Entry). IsFree index own e) (here ∙ is) (f.before k mine (omega arith)) in
    absurd (⊎_elim (λ own_has. free.of_own (any_from (Hits mine) own other own_has hits)) (λ has. free.of_others (any_from (Hits mine) index other has hits)) among))
    (λ (h : first ≤ k). h) (cases_lt k first)

not_gt_le : (o : Ordering) → o ≢ Greater → is_le o ≡ true
not_gt_le Less h = refl
not_gt_le Equal h = refl
not_gt_le Greater h = absurd (h refl)

least_path : (rocks : List (RockKey × List Item)) (key : RockKey) (items : List Item) (index own : List Entry) (first : ℕ) (path : List ℕ) (group : List Entry)
    → AreIndexed rocks key items index own → IsFirst index own first path group
    → (mine other : Claim) → Clashes rocks key items mine other → IsTrue (is_le (path_cmp path (claim_path mine)))
least_path rocks key items index own first path group a f mine other clash =
    let has = a.mine.whole mine clash.added in
    let hits = hits_if rocks key items mine other clash in
    let from = not_before index own first path group f has.0 (entry_of mine) (entry_of other) has.1 has.2 (among_entry rocks key items index own other a clash.among) hits in
    let order = not_after own a.mine.in_order first has.0 (entry_of mine) from has.1 in
    let there = ap (λ (e : Entry). e.path) has.2 in
    not_gt_le (path_cmp path (claim_path mine))
    (λ g. order (ap (λ (p : List ℕ). path_cmp p (get_or own has.0 (entry_of mine)).path) (sym (f.at (entry_of mine))) ∙ ap (path_cmp path) there ∙ g))

-- a rock with an entry that one of the group hits
abbrev IsRival : (index own group : List Entry) → RockKey → Type 0
IsRival index own group rock = Any (λ other. IsHitBy group other × (other.key ≡ rock)) index ⊎ Any (λ other. IsHitBy group other × (other.key ≡ rock)) own

rival_if : (rocks : List (RockKey × List Item)) (key : RockKey) (items : List Item) (index own : List Entry) (first : ℕ) (path : List ℕ) (group : List Entry)
    → AreIndexed rocks key items index own → IsFirst index own first path group → (rock : RockKey) → IsBetween rocks key items path rock → IsRival index own group rock
rival_if rocks key items index own first path group a f rock b =
    let has = a.mine.whole b.mine b.clashes.added in
    let hits = hits_if rocks key items b.mine b.other b.clashes in
    let among = among_entry rocks key items index own b.other a b.clashes.among in
    let from = not_before index own first path group f has.0 (entry_of b.mine) (entry_of b.other) has.1 has.2 among hits in
    let at_first = ap (λ (e : Entry). e.path) has.2 ∙ b.at ∙ f.at (entry_of b.mine) in
    let member = subst (λ (e : Entry). Contains group e) has.2 (f.row.whole has.0 (entry_of b.mine) from has.1 at_first) in
    let hit = any_from (λ (e : Entry). Hits e (entry_of b.other)) group (entry_of b.mine) member hits in
    ⊎_elim (λ here. inr (any_from (λ (other : Entry). IsHitBy group other × (other.key ≡ rock)) own (entry_of b.other) here (hit, b.of)))
    (λ there. inl (any_from (λ (other : Entry). IsHitBy group other × (other.key ≡ rock)) index (entry_of b.other) there (hit, b.of))) among

between_if : (rocks : List (RockKey × List Item)) (key : RockKey) (items : List Item) (index own : List Entry) (first : ℕ) (path : List ℕ) (group : List Entry)
    → AreIndexed rocks key items index own → IsFirst index own first path group → (rock : RockKey) (other : Entry)
    → ((claim : Claim) × Contains (claims_of ((key, items) ∷ rocks)) claim × (other ≡ entry_of claim)) → IsHitBy group other → other.key ≡ rock → IsBetween rocks key items path rock
between_if rocks key items index own first path group a f rock other claim hit of_rock =
    let found = any_some (λ (e : Entry). Hits e other) group hit in
    let mine = a.mine.sound found.0 (f.row.members found.0 found.1) in
    let hits = subst (λ (e : Entry). Hits e (entry_of claim.0)) mine.2 (subst (λ (e : Entry). Hits found.0 e) claim.2 found.2) in
    record {
      mine = mine.0;
      other = claim.0;
      clashes = clash_if rocks key items mine.0 claim.0 mine.1 claim.1 hits;
      at = ap (λ (e : Entry). e.path) (sym mine.2) ∙ f.row.of_path found.0 found.0 found.1 ∙ sym (f.at found.0);
      of = ap (λ (e : Entry). e.key) (sym claim.2) ∙ of_rock;
    }

rival_between : (rocks : List (RockKey × List Item)) (key : RockKey) (items : List Item) (index own : List Entry) (first : ℕ) (path : List ℕ) (group : List Entry)
    → AreIndexed rocks key items index own → IsFirst index own first path group → (rock : RockKey) → IsRival index own group rock → IsBetween rocks key items path rock
rival_between rocks key items index own first path group a f rock rival =
    ⊎_elim (λ any. let found = any_some (λ (other : Entry). IsHitBy group other × (other.key ≡ rock)) index any in
    between_if rocks key items index own first path group a f rock found.0 (index_claim rocks key items index own found.0 a found.1) found.2.0 found.2.1)
    (λ any. let found = any_some (λ (other : Entry). IsHitBy group other × (other.key ≡ rock)) own any in
    between_if rocks key items index own first path group a f rock found.0 (own_claim rocks key items index own found.0 a found.1) found.2.0 found.2.1) rival

-- the rock's own entries are all of it
pub rock_claims_key : (key : RockKey) (items : List Item) (claim : Claim) → Contains (claims_of_rock key items) claim → claim.key ≡ key
rock_claims_key key items claim has =
    let found = flat_from (claims_for key) items claim has in
    let plain : Claim = record { key = key; item = found.0; form = IsPlain } in
    let versioned : Claim = record { key = key; item = found.0; form = IsVersioned } in
    ⊎_elim (λ e. ap (λ (c : Claim). c.key) (sym e))
    (λ more. ⊎_elim (λ e. ap (λ (c : Claim). c.key) (sym e)) (λ none. absurd (nil_none claim none)) (cons_cases versioned [] claim more)) (cons_cases plain (versioned ∷ []) claim found.2)

own_key : (rocks : List (RockKey × List Item)) (key : RockKey) (items : List Item) (index own : List Entry) → AreIndexed rocks key items index own → (entry : Entry) → Contains own entry → entry.key ≡ key
own_key rocks key items index own a entry has = let found = a.mine.sound entry has in ap (λ (e : Entry). e.key) found.2 ∙ rock_claims_key key items found.0 found.1

-- ---- the first of the rivals

own_rival : (rocks : List (RockKey × List Item)) (key : RockKey) (items : List Item) (index own group : List Entry) → AreIndexed rocks key items index own
    → Any (IsHitBy group) own → IsRival index own group key
own_rival rocks key items index own group a any =
    let found = any_some (IsHitBy group) own any in
    inr (any_from (λ (other : Entry). IsHitBy group other × (other.key ≡ key)) own found.0 found.1 (found.2, own_key rocks key items index own a found.0 found.1))

some_entry : (entries : List Entry) (n : ℕ) → n < length entries → Entry
some_entry [] n within = absurd (omega arith)
some_entry (entry ∷ entries) n within = entry

-- what the first entry hits, the group does
group_hits : (index own : List Entry) (first : ℕ) (path : List ℕ) (group : List Entry) → IsFirst index own first path group → Any (IsHitBy group) index ⊎ Any (IsHitBy group) own
group_hits index own first path group f =
    let d = some_entry own first f.within in
    let member = f.row.whole first d (omega arith) f.within refl in
    let reach = λ (entries : List Entry) (any : Any (Hits (get_or own first d)) entries).
    let found = any_some (Hits (get_or own first d)) entries any in
    any_from (IsHitBy group) entries found.0 found.1 (any_from (λ (e : Entry). Hits e found.0) group (get_or own first d) member found.2) in
    ⊎_elim (λ any. inl (reach index any)) (λ any. inr (reach own any)) (f.hit d)

none_in : (index group : List Entry) (rock : RockKey) → All (λ other. IsHitBy group other → ⊥) index → Any (λ other. IsHitBy group other × (other.key ≡ rock)) index → ⊥
none_in index group rock none any =
    let found = any_some (λ (other : Entry). IsHitBy group other × (other.key ≡ rock)) index any in All-contains (λ (other : Entry). IsHitBy group other → ⊥) index found.0 none found.1 found.2.0

not_before_least : (index group : List Entry) (rock least : RockKey) → All (λ other. IsHitBy group other → is_before other.key least ≡ false) index
    → Any (λ other. IsHitBy group other × (other.key ≡ rock)) index → is_before rock least ≡ false
not_before_least index group rock least none any =
    let found = any_some (λ (other : Entry). IsHitBy group other × (other.key ≡ rock)) index any in
    subst (λ (k : RockKey). is_before k least ≡ false) found.2.1 (All-contains (λ (other : Entry). IsHitBy group other → is_before other.key least ≡ false) index found.0 none found.1 found.2.0)

hit_alone : (entries group : List Entry) (rock : RockKey) → Any (λ other. IsHitBy group other × (other.key ≡ rock)) entries → Any (IsHitBy group) entries
hit_alone entries group rock any = let found = any_some (λ (other : Entry). IsHitBy group other × (other.key ≡ rock)) entries any in any_from (IsHitBy group) entries found.0 found.1 found.2.0

own_rock : (rocks : List (RockKey × List Item)) (key : RockKey) (items : List Item) (index own group : List Entry) → AreIndexed rocks key items index own → (rock : RockKey)
    → Any (λ other. IsHitBy group other × (other.key ≡ rock)) own → rock ≡ key
own_rock rocks key items index own group a rock any =
    let found = any_some (λ (other : Entry). IsHitBy group other × (other.key ≡ rock)) own any in sym found.2.1 ∙ own_key rocks key items index own a found.0 found.1

before_same : (rock key last : RockKey) → rock ≡ key → is_before key last ≡ false → is_before rock last ≡ false
before_same rock key last e h = ap (λ (k : RockKey). is_before k last) e ∙ h

first_rival : (rocks : List (RockKey × List Item)) (key : RockKey) (items : List Item) (index own : List Entry) (first : ℕ) (path : List ℕ) (group : List Entry)
    → AreIndexed rocks key items index own → IsFirst index own first path group → (itself : Bool) (least : Option RockKey) → IsTrue itself ↔ Any (IsHitBy group) own → IsLeastHit index group least
    → IsRival index own group (first_of key itself least) × ((rock : RockKey) → IsRival index own group rock → is_before rock (first_of key itself least) ≡ false)
first_rival rocks key items index own first path group a f itself None tells is_least = (
  ⊎_elim (λ any. let found = any_some (IsHitBy group) index any in absurd (All-contains (λ (other : Entry). IsHitBy group other → ⊥) index found.0 is_least found.1 found.2))
      (own_rival rocks key items index own group a) (group_hits index own first path group f),
  λ rock. ⊎_elim (λ any. absurd (none_in index group rock is_least any)) (λ any. before_same rock key key (own_rock rocks key items index own group a rock any) (listing_irreflexive key)),
)
first_rival rocks key items index own first path group a f false (Some least) tells is_least = (
  inl is_least.0,
  λ rock. ⊎_elim (not_before_least index group rock least is_least.1) (λ any. let never = tells.1 (hit_alone own group rock any) in absurd cc),
)
first_rival rocks key items index own first path group a f true (Some least) tells is_least =
    elim (is_before key least) as (λ b. is_before key least ≡ b → IsRival index own group (cond b key least) × ((rock : RockKey) → IsRival index own group rock → is_before rock (cond b key least) ≡ false)) [
      | true ↦ λ goes. (
        own_rival rocks key items index own group a (tells.0 refl),
        λ rock. ⊎_elim (λ any. still_not rock least key goes (not_before_least index group rock least is_least.1 any))
            (λ any. before_same rock key key (own_rock rocks key items index own group a rock any) (listing_irreflexive key)),
      )
      | false ↦ λ stays. (
        inl is_least.0,
        λ rock. ⊎_elim (not_before_least index group rock least is_least.1)
            (λ any. before_same rock key least (own_rock rocks key items index own group a rock any) stays),
      )
    ] refl

pub is_clash : (rocks : List (RockKey × List Item)) (key : RockKey) (items : List Item) (index own : List Entry) (first : ℕ) (group : List Entry) (itself : Bool) (least : Option RockKey) (clash : Clash)
    → AreIndexed rocks key items index own → IsFirst index own first clash.path group → IsTrue itself ↔ Any (IsHitBy group) own → IsLeastHit index group least
    → clash.by ≡ key → clash.other ≡ first_of key itself least → IsClash rocks key items clash
is_clash rocks key items index own first group itself least clash a f tells is_least by' other =
    let chosen = first_rival rocks key items index own first clash.path group a f itself least tells is_least in
    record {
      by = by';
      between = rival_between rocks key items index own first clash.path group a f clash.other (subst (IsRival index own group) (sym other) chosen.0);
      least = least_path rocks key items index own first clash.path group a f;
      first = λ rock b. ap (is_before rock) other ∙ chosen.1 rock (rival_if rocks key items index own first clash.path group a f rock b);
    }

-- ---- as a test finds it, in lists that are those of the index and of the rock

over_both : {A B : Type 0} (P : A → B → Type 0) (a c : A) (b d : B) → a ≡ c → b ≡ d → P a b → P c d
over_both P a c b d e f h = subst (λ x. P x d) e (subst (P a) f h)

pub none_found : (rocks : List (RockKey × List Item)) (key : RockKey) (items : List Item) (index own others mine : List Entry) (found : Option ℕ) → AreIndexed rocks key items index own
    → others ≡ index → mine ≡ own → found ≡ None → IsFirstHit others mine found → IsClean ((key, items) ∷ rocks)
none_found rocks key items index own others mine found a e f is h =
    clean_if_free rocks key items index own a (over_both (λ o m. IsFirstHit o m None) others index mine own e f (subst (IsFirstHit others mine) is h))

pub first_found : (index own others mine : List Entry) (first : ℕ) (found : Option ℕ) → others ≡ index → mine ≡ own → found ≡ Some first → IsFirstHit others mine found → IsFirstHit index own (Some first)
first_found index own others mine first found e f is h = over_both (λ o m. IsFirstHit o m (Some first)) others index mine own e f (subst (IsFirstHit others mine) is h)

-- the entry at the place, read there
pub there_path : (own : List Entry) (first : ℕ) (there : Entry) (path : List ℕ) → first < length own → there ≡ get_or own first there → path ≡ there.path → (d : Entry) → path ≡ (get_or own first d).path
there_path own first there path within is same d = same ∙ ap (λ (e : Entry). e.path) (get_or_read own first there within is d)

pub told_clash : (rocks : List (RockKey × List Item)) (key : RockKey) (items : List Item) (index own first_own second_own last_index : List Entry) (first : ℕ) (group : List Entry)
    (itself : Bool) (least : Option RockKey) (path : List ℕ) (by' other : RockKey)
    → AreIndexed rocks key items index own → IsFirstHit index own (Some first) → ((d : Entry) → path ≡ (get_or own first d).path)
    → first_own ≡ own → AreOfPath first_own first group
    → second_own ≡ own → IsTrue itself ↔ Any (IsHitBy group) second_own
    → last_index ≡ index → IsLeastHit last_index group least
    → by' ≡ key → other ≡ first_of key itself least → IsClash rocks key items (record { path = path; by = by'; other = other })
told_clash rocks key items index own first_own second_own last_index first group itself least path by' other a h at e row f tells g is_least same chosen =
    is_clash rocks key items index own first group itself least (record { path = path; by = by'; other = other }) a
    (record { within = h.0; before = h.1; hit = h.2; at = at; row = subst (λ (l : List Entry). AreOfPath l first group) e row })
    (subst (λ (l : List Entry). IsTrue itself ↔ Any (IsHitBy group) l) f tells) (subst (λ (l : List Entry). IsLeastHit l group least) g is_least) same chosen
