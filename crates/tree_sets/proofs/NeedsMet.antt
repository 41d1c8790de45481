-- What meets a dependency that is met.
use Rattle.std.proofs.Common.{◌≡◌, ◌||◌, Bool, true, false, cond, List, [], ◌∷◌, Option, Some, None, refl, sym, ap, ◌∙◌, inl, inr, ⊎_elim, IsTrue}
use Rattle.std.specs.Prelude.{◌⊎◌}
use Rattle.std.specs.List.{find, list_any, Contains}
use Rattle.std.specs.Option.{option_map_or}
use Rattle.rocks_constraint.specs.Wanted.{Wanted}
use Rattle.rocks_version.specs.declared.key.RockKey.{RockKey}
use Rattle.tree_claims.proofs.Members.{cons_cases}
use Rattle.tree_sets.proofs.Newest.{find_contains}
use Rattle.tree_sets.specs.Needs.{is_met, is_met_by, lua_key, met_by}

-- where one passes, one is found
found : (p : RockKey → Bool) (keys : List RockKey) → list_any p keys ≡ true → (key : RockKey) × (find p keys ≡ Some key)
found p [] any = absurd cc
found p (first ∷ keys) any =
    elim (p first) as (λ b. (b || list_any p keys) ≡ true → (key : RockKey) × (cond b (Some first) (find p keys) ≡ Some key)) [
      | true ↦ λ _. (first, refl)
      | false ↦ λ more. found p keys more
    ] any

module _ (keys : List RockKey) (wanted : Wanted) where
  answer_is : (answer : Option RockKey) (key : RockKey) → answer ≡ Some key → option_map_or (λ key. key) answer lua_key ≡ key
  answer_is answer key is = ap (λ (o : Option RockKey). option_map_or (λ k. k) o lua_key) is

  pub meets : IsTrue (is_met keys wanted) → is_met_by wanted (met_by keys wanted) ≡ true
  meets met =
      let one = found (is_met_by wanted) (lua_key ∷ keys) met in
      ap (is_met_by wanted) (answer_is (find (is_met_by wanted) (lua_key ∷ keys)) one.0 one.1)
      ∙ (find_contains (is_met_by wanted) (lua_key ∷ keys) one.0 one.1).1

  answer_among : (answer : Option RockKey) → find (is_met_by wanted) (lua_key ∷ keys) ≡ answer
      → (option_map_or (λ key. key) answer lua_key ≡ lua_key) ⊎ Contains keys (option_map_or (λ key. key) answer lua_key)
  answer_among None is = inl refl
  answer_among (Some key) is =
      ⊎_elim (λ e. inl (sym e)) inr (cons_cases lua_key keys key (find_contains (is_met_by wanted) (lua_key ∷ keys) key is).0)

  pub among : (met_by keys wanted ≡ lua_key) ⊎ Contains keys (met_by keys wanted)
  among = answer_among (find (is_met_by wanted) (lua_key ∷ keys)) refl
