-- What one rock more does to a table of rocks.
use Rattle.std.proofs.Common.{◌≡◌, ◌≢◌, ℕ, List, [], ◌∷◌, ◌++◌, refl, sym, ap, ◌∙◌, subst, map, Option, Some, Ordering}
use Rattle.std.specs.List.{All}
use Rattle.std.specs.List.Sorted.{IsPermutation}
use Rattle.std.specs.declared.cmp.Ordering.TheVariants.{Less, Equal, Greater}
use Rattle.std.proofs.lemmas.List.Elements.{All-head, All-tail}
use Rattle.std.proofs.lemmas.List.Sorted.{IsPermutation-append_left, IsPermutation-append_right, IsPermutation-cons, IsPermutation-map, IsPermutation-middle, IsPermutation-refl, IsPermutation-sym, IsPermutation-trans}
use Rattle.lua_value.specs.declared.key.Key.{Key}
use Rattle.lua_value.specs.declared.key.Key.TheVariants.{Text}
use Rattle.lua_value.specs.Key.{key_cmp}
use Rattle.lua_value.specs.Ordered.{IsBeforeAll}
use Rattle.lua_value.specs.Pairs.{Datum, Pairs, table_value, no_pairs, with_pair, keys, put, value_at}
use Rattle.lua_value.proofs.KeyOrder.{greater_turned, key_cmp-equal}
use Rattle.lua_value.proofs.Puts.{by_order, keys-put, put-after, put-over, value_at-before, IsBeforeAll-equal, IsBeforeAll-trans}
use Rattle.manifest_text.specs.declared.view.ViewRock.{ViewRock}
use Rattle.manifest_text.specs.Text.{put_rock, table_in}
use Rattle.rocks_version.specs.declared.key.RockKey.{RockKey}
use Rattle.tree_manifest.proofs.Grouped.{group_pairs, rock_at, rocks_of, version_pairs, AreSome, Groups, Needs, Versions}

-- ---- what lacks a rock

abbrev pub Lacks : RockKey → List ViewRock → Type 0
Lacks key rocks = All (λ rock. rock.key ≢ key) rocks

-- no version is this one
abbrev LackVersion : List ℕ → Versions → Type 0
LackVersion version [] = Unit {0}
LackVersion version (other ∷ versions) = (version ≢ other.0) × LackVersion version versions

lacks_version : (key : RockKey) (versions : Versions) (rocks : List ViewRock)
    → Lacks key (map (rock_at key.name) versions ++ rocks) → LackVersion key.version versions
lacks_version key [] rocks lacks = tt
lacks_version key (version ∷ versions) rocks lacks =
    let more = map (rock_at key.name) versions ++ rocks in (
      λ same. All-head (λ rock. rock.key ≢ key) (rock_at key.name version) more lacks
          (λ i. record { name = key.name; version = sym same i }),
      lacks_version key versions rocks (All-tail (λ rock. rock.key ≢ key) (rock_at key.name version) more lacks),
    )

lacks_rest : (key : RockKey) (front back : List ViewRock) → Lacks key (front ++ back) → Lacks key back
lacks_rest key [] back lacks = lacks
lacks_rest key (rock ∷ front) back lacks =
    lacks_rest key front back (All-tail (λ rock. rock.key ≢ key) rock (front ++ back) lacks)

-- ---- what stands at a key, and what is put there

-- each key comes before all later ones
abbrev pub KeysRise : Pairs → Type 0
KeysRise no_pairs = Unit {0}
KeysRise (with_pair key value rest) = IsBeforeAll key (keys rest) × KeysRise rest

pub rises_with : (key : Key) (value : Datum) (ps : Pairs) → KeysRise ps → KeysRise (put key value ps)
rises_with key value no_pairs rise = (tt, tt)
rises_with key value (with_pair first old rest) rise =
    by_order KeysRise (key_cmp key first) _ _ _
    (λ less. ((less, IsBeforeAll-trans key first (keys rest) less rise.0), rise))
    (λ same. (IsBeforeAll-equal key first (keys rest) same rise.0, rise.1))
    (λ greater. (keys-put first key value rest (greater_turned key first greater) rise.0, rises_with key value rest rise.1))

put_first : (key : Key) (value : Datum) (first : Key) (old : Datum) (rest : Pairs) → key_cmp key first ≡ Less
    → put key value (with_pair first old rest) ≡ with_pair key value (with_pair first old rest)
put_first key value first old rest less = rw less

found_here : (key first : Key) (old : Datum) (rest : Pairs) → key_cmp key first ≡ Equal
    → value_at key (with_pair first old rest) ≡ Some old
found_here key first old rest equal = rw equal refl

found_later : (key first : Key) (old : Datum) (rest : Pairs) → key_cmp key first ≡ Greater
    → value_at key (with_pair first old rest) ≡ value_at key rest
found_later key first old rest greater = rw greater refl

swapped : {X : Type 0} (x y : X) (xs ys : List X) → IsPermutation (x ∷ xs) ys → IsPermutation (x ∷ y ∷ xs) (y ∷ ys)
swapped x y xs ys moved =
    IsPermutation-trans (x ∷ y ∷ xs) (y ∷ x ∷ xs) (y ∷ ys)
    (IsPermutation-sym (y ∷ x ∷ xs) (x ∷ y ∷ xs) (IsPermutation-middle (y ∷ []) x xs))
    (IsPermutation-cons y (x ∷ xs) ys moved)

module _ (value : Needs → Datum) where
  -- ---- one version more

  record OneMore (version : List ℕ) (needs : Needs) (versions : Versions) : Type 0 where
    after : Versions
    pairs : put (Text version) (value needs) (version_pairs value versions) ≡ version_pairs value after
    same : IsPermutation ((version, needs) ∷ versions) after
    some : after ≢ []

  version_cases : (version : List ℕ) (needs : Needs) (first : List ℕ × Needs) (versions : Versions) (o : Ordering)
      → key_cmp (Text version) (Text first.0) ≡ o → version ≢ first.0 → OneMore version needs versions
      → OneMore version needs (first ∷ versions)
  version_cases version needs first versions Less less other more = record {
    after = (version, needs) ∷ first ∷ versions;
    pairs = put_first (Text version) (value needs) (Text first.0) (value first.1) (version_pairs value versions) less;
    same = IsPermutation-refl ((version, needs) ∷ first ∷ versions);
    some = λ e. cc e;
  }
  version_cases version needs first versions Equal equal other more =
      let e = key_cmp-equal (Text version) (Text first.0) equal in
      let same : version ≡ first.0 = cc in
      absurd (other same)
  version_cases version needs first versions Greater greater other more = record {
    after = first ∷ more.after;
    pairs =
        put-after (Text version) (value needs) (Text first.0) (value first.1) (version_pairs value versions)
        (greater_turned (Text version) (Text first.0) greater)
        ∙ ap (with_pair (Text first.0) (value first.1)) more.pairs;
    same = swapped (version, needs) first versions more.after more.same;
    some = λ e. cc e;
  }

  one_more : (version : List ℕ) (needs : Needs) (versions : Versions) → LackVersion version versions
      → OneMore version needs versions
  one_more version needs [] lacks = record {
    after = (version, needs) ∷ [];
    pairs = refl;
    same = IsPermutation-refl ((version, needs) ∷ []);
    some = λ e. cc e;
  }
  one_more version needs (first ∷ versions) lacks =
      version_cases version needs first versions (key_cmp (Text version) (Text first.0)) refl lacks.0
      (one_more version needs versions lacks.1)

  -- ---- one rock more

  pub record RockMore (rock : ViewRock) (groups : Groups) : Type 0 where
    pub after : Groups
    pub pairs : put_rock rock.key (value rock.dependencies) (group_pairs value groups) ≡ group_pairs value after
    pub same : IsPermutation (rock ∷ rocks_of groups) (rocks_of after)
    pub some : AreSome groups → AreSome after

  -- what stands at the name
  abbrev pub found_at : RockKey → Pairs → Pairs
  found_at key pairs = table_in (value_at (Text key.name) pairs)

  -- what is put there
  abbrev pub grown : ViewRock → Pairs → Datum
  grown rock found = table_value (put (Text rock.key.version) (value rock.dependencies) found)

  first_name : (rock : ViewRock) (groups : Groups)
      → put_rock rock.key (value rock.dependencies) (group_pairs value groups)
      ≡ with_pair (Text rock.key.name) (grown rock no_pairs) (group_pairs value groups) → RockMore rock groups
  first_name rock groups e = record {
    after = (rock.key.name, (rock.key.version, rock.dependencies) ∷ []) ∷ groups;
    pairs = e;
    same = IsPermutation-refl (rock ∷ rocks_of groups);
    some = λ all. (λ e. cc e, all);
  }

  earlier_name : (rock : ViewRock) (group : List ℕ × Versions) (groups : Groups)
      → key_cmp (Text rock.key.name) (Text group.0) ≡ Less → KeysRise (group_pairs value (group ∷ groups))
      → RockMore rock (group ∷ groups)
  earlier_name rock group groups less rise =
      let name = Text rock.key.name in
      let pairs = group_pairs value (group ∷ groups) in
      let rest = group_pairs value groups in
      let none = value_at-before name pairs (less, IsBeforeAll-trans name (Text group.0) (keys rest) less rise.0) in
      first_name rock (group ∷ groups) (
      ap (λ (o : Option Datum). put name (grown rock (table_in o)) pairs) none
      ∙ put_first name (grown rock no_pairs) (Text group.0) (table_value (version_pairs value group.1)) rest less)

  same_name : (rock : ViewRock) (versions : Versions) (groups : Groups) (name : List ℕ) → rock.key.name ≡ name
      → key_cmp (Text rock.key.name) (Text name) ≡ Equal
      → Lacks rock.key (rocks_of ((name, versions) ∷ groups)) → RockMore rock ((name, versions) ∷ groups)
  same_name rock versions groups name same = subst
      (λ (n : List ℕ). key_cmp (Text rock.key.name) (Text n) ≡ Equal → Lacks rock.key (rocks_of ((n, versions) ∷ groups))
      → RockMore rock ((n, versions) ∷ groups)) same (λ equal lacks.
      let key = Text rock.key.name in
      let table = table_value (version_pairs value versions) in
      let rest = group_pairs value groups in
      let version : List ℕ × Needs = (rock.key.version, rock.dependencies) in
      let more = one_more rock.key.version rock.dependencies versions
      (lacks_version rock.key versions (rocks_of groups) lacks) in record {
        after = (rock.key.name, more.after) ∷ groups;
        pairs =
            ap (λ (o : Option Datum). put key (grown rock (table_in o)) (with_pair key table rest))
            (found_here key key table rest equal)
            ∙ put-over key (grown rock (version_pairs value versions)) key table rest equal
            ∙ ap (λ (ps : Pairs). with_pair key (table_value ps) rest) more.pairs;
        same =
            IsPermutation-append_left (rocks_of groups) (map (rock_at rock.key.name) (version ∷ versions))
            (map (rock_at rock.key.name) more.after)
            (IsPermutation-map (rock_at rock.key.name) (version ∷ versions) more.after more.same);
        some = λ all. (more.some, all.1);
      })

  later_name : (rock : ViewRock) (group : List ℕ × Versions) (groups : Groups)
      → key_cmp (Text rock.key.name) (Text group.0) ≡ Greater → RockMore rock groups → RockMore rock (group ∷ groups)
  later_name rock group groups greater more =
      let key = Text rock.key.name in
      let first = Text group.0 in
      let table = table_value (version_pairs value group.1) in
      let rest = group_pairs value groups in
      let front = map (rock_at group.0) group.1 in record {
        after = group ∷ more.after;
        pairs =
            ap (λ (o : Option Datum). put key (grown rock (table_in o)) (with_pair first table rest))
            (found_later key first table rest greater)
            ∙ put-after key (grown rock (found_at rock.key rest)) first table rest (greater_turned key first greater)
            ∙ ap (with_pair first table) more.pairs;
        same =
            IsPermutation-trans (rock ∷ (front ++ rocks_of groups)) (front ++ rock ∷ rocks_of groups)
            (front ++ rocks_of more.after)
            (IsPermutation-sym (front ++ rock ∷ rocks_of groups) (rock ∷ (front ++ rocks_of groups))
            (IsPermutation-middle front rock (rocks_of groups)))
            (IsPermutation-append_right front (rock ∷ rocks_of groups) (rocks_of more.after) more.same);
        some = λ all. (all.0, more.some all.1);
      }

  rock_cases : (rock : ViewRock) (group : List ℕ × Versions) (groups : Groups) (o : Ordering)
      → key_cmp (Text rock.key.name) (Text group.0) ≡ o → KeysRise (group_pairs value (group ∷ groups))
      → Lacks rock.key (rocks_of (group ∷ groups)) → RockMore rock groups → RockMore rock (group ∷ groups)
  rock_cases rock group groups Less less rise lacks more = earlier_name rock group groups less rise
  rock_cases rock group groups Equal equal rise lacks more =
      let e = key_cmp-equal (Text rock.key.name) (Text group.0) equal in
      let same : rock.key.name ≡ group.0 = cc in
      same_name rock group.1 groups group.0 same equal lacks
  rock_cases rock group groups Greater greater rise lacks more = later_name rock group groups greater more

  pub rock_more : (rock : ViewRock) (groups : Groups) → KeysRise (group_pairs value groups)
      → Lacks rock.key (rocks_of groups) → RockMore rock groups
  rock_more rock [] rise lacks = first_name rock [] refl
  rock_more rock (group ∷ groups) rise lacks =
      rock_cases rock group groups (key_cmp (Text rock.key.name) (Text group.0)) refl rise lacks
      (rock_more rock groups rise.1
      (lacks_rest rock.key (map (rock_at group.0) group.1) (rocks_of groups) lacks))
