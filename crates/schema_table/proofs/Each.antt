-- What holds of each key or each value of a table, found on the way through it.
use Rattle.std.proofs.Common.{◌≡◌, ℕ, ◌+◌, ◌≤◌, Some, sym, subst}
use Rattle.std.specs.List.{slice_get}
use Rattle.lua_value.specs.declared.key.Key.{Key}
use Rattle.lua_value.specs.Pairs.{Datum, Pairs, count, listed}
use Rattle.lua_value.proofs.Left.{left, left-entry, left-end}
use Rattle.schema_table.specs.Shapes.{EachValue, EachKey}

module _ (P : Datum → Type 0) (ps : Pairs) (i : ℕ) where
  pub EachValue-opened : (x : Key × Datum) → slice_get (listed ps) i ≡ Some x → EachValue P (left i ps) → P x.1
      × EachValue P (left (i + 1) ps)
  EachValue-opened x at h = subst (EachValue P) (left-entry ps i x at) h

  pub EachValue-closed : (x : Key × Datum) → slice_get (listed ps) i ≡ Some x → P x.1 → EachValue P (left (i + 1) ps) →
      EachValue P (left i ps)
  EachValue-closed x at p h = subst (EachValue P) (sym (left-entry ps i x at)) (p, h)

  pub EachValue-end : count ps ≤ i → EachValue P (left i ps)
  EachValue-end beyond = subst (EachValue P) (sym (left-end ps i beyond)) tt

module _ (P : Key → Type 0) (ps : Pairs) (i : ℕ) where
  pub EachKey-opened : (x : Key × Datum) → slice_get (listed ps) i ≡ Some x → EachKey P (left i ps) → P x.0
      × EachKey P (left (i + 1) ps)
  EachKey-opened x at h = subst (EachKey P) (left-entry ps i x at) h

  pub EachKey-closed : (x : Key × Datum) → slice_get (listed ps) i ≡ Some x → P x.0 → EachKey P (left (i + 1) ps) →
      EachKey P (left i ps)
  EachKey-closed x at p h = subst (EachKey P) (sym (left-entry ps i x at)) (p, h)

  pub EachKey-end : count ps ≤ i → EachKey P (left i ps)
  EachKey-end beyond = subst (EachKey P) (sym (left-end ps i beyond)) tt
