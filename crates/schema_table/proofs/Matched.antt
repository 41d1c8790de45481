-- Parts and keys, one after another.
use Rattle.std.proofs.Common.{◌≡◌, ℕ, Bool, not, List, [], ◌∷◌, ◌++◌, drop, sym, ◌∙◌, subst, IsTrue}
use Rattle.std.specs.Borrow.{Bor}
use Rattle.std.specs.List.{list_all}
use Rattle.lua_value.specs.declared.key.Key.{Key}
use Rattle.schema_table.specs.declared.row.Row.{Row}
use Rattle.schema_table.specs.Paths.{referents}
use Rattle.schema_table.specs.Rows.{is_star, matches, IsDeeper}
use Rattle.schema_table.proofs.Lists.{last_same, referents-last}

-- the parts and the keys from a place on
abbrev pub matches_from : List (Bor (List ℕ)) → List (Bor Key) → ℕ → Bool
matches_from parts path i = matches (referents (drop i parts)) (referents (drop i path))

-- no part from a place on is `*`
abbrev pub is_exact_from : List (Bor (List ℕ)) → ℕ → Bool
is_exact_from parts i = list_all (λ part. not (is_star part)) (referents (drop i parts))

pub deeper : (path : List Key) (row : Row) (front : List (Bor (List ℕ))) (last : Bor (List ℕ)) →
    row.path.now ≡ front ++ last ∷ [] → IsTrue (matches (referents front) path) → IsDeeper path row
deeper path row front last are leads = record {
  front = referents front;
  last = last.now;
  are =
      referents-last row.path.now front last are;
  leads = leads;
}

pub deeper_leads : (path : List Key) (row : Row) (front : List (Bor (List ℕ))) (last : Bor (List ℕ)) →
    row.path.now ≡ front ++ last ∷ [] → IsDeeper path row → IsTrue (matches (referents front) path)
deeper_leads path row front last are d =
    let same = last_same (referents front) d.front last.now d.last (sym (referents-last row.path.now front last are)
    ∙ d.are) in
    subst (λ parts. IsTrue (matches parts path)) (sym same.0) d.leads
