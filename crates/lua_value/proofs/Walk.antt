-- The merge of two lists from their fronts: what each step adds, and what is left at the end.
use Rattle.std.proofs.Common.{◌≡◌, ℕ, zero, suc, ◌+◌, ◌≤◌, [], ◌∷◌, ◌++◌, length, drop, Some, refl, sym, ap, ◌∙◌, subst}
use Rattle.std.proofs.lemmas.List.{drop_all, append-nil}
use Rattle.std.specs.List.{slice_get}
use Rattle.std.specs.declared.cmp.Ordering.TheVariants.{Less, Equal, Greater}
use Rattle.lua_value.specs.declared.key.Key.{Key}
use Rattle.lua_value.specs.declared.table.Value.{Value}
use Rattle.lua_value.specs.Key.{key_cmp}
use Rattle.lua_value.specs.Pairs.{Datum, Pairs, no_pairs, with_pair, keys}
use Rattle.lua_value.specs.Ordered.{IsOrdered}
use Rattle.lua_value.specs.Merge.{merged_value, merged_pairs}
use Rattle.lua_value.specs.View.{datum, pairs_of}
use Rattle.lua_value.proofs.KeyOrder.{greater_turned}
use Rattle.lua_value.proofs.Puts.{IsBeforeAll-trans}
use Rattle.lua_value.proofs.Merges.{merged_pairs-nothing, merged_pairs-lower_first, merged_pairs-upper_first, merged_pairs-both_first}
use Rattle.lua_value.proofs.View.{Entries, drop-entry}

-- one list of pairs behind another
abbrev pub joined : Pairs → Pairs → Pairs
joined no_pairs qs = qs
joined (with_pair key value ps) qs = with_pair key value (joined ps qs)

joined-none : (ps : Pairs) → joined ps no_pairs ≡ ps
joined-none no_pairs = refl
joined-none (with_pair key value ps) = ap (with_pair key value) (joined-none ps)

joined-assoc : (ps qs rs : Pairs) → joined (joined ps qs) rs ≡ joined ps (joined qs rs)
joined-assoc no_pairs qs rs = refl
joined-assoc (with_pair key value ps) qs rs = ap (with_pair key value) (joined-assoc ps qs rs)

pub pairs_of-append : (xs ys : Entries) → pairs_of (xs ++ ys) ≡ joined (pairs_of xs) (pairs_of ys)
pairs_of-append [] ys = refl
pairs_of-append (x ∷ xs) ys = ap (with_pair x.0 (datum x.1)) (pairs_of-append xs ys)

IsOrdered-drop : (i : ℕ) (es : Entries) → IsOrdered (pairs_of es) → IsOrdered (pairs_of (drop i es))
IsOrdered-drop zero es h = h
IsOrdered-drop (suc i) [] h = h
IsOrdered-drop (suc i) (e ∷ es) h = IsOrdered-drop i es h.4

-- a step that adds an item in front of what is left
pub step : (entries new : Entries) (item : Key × Value) (key : Key) (value : Datum) (before after all : Pairs) → new ≡ entries ++ item ∷ [] → item.0 ≡ key → datum item.1 ≡ value → before ≡ with_pair key value after → joined (pairs_of entries) before ≡ all → joined (pairs_of new) after ≡ all
step entries new item key value before after all n k v b e =
    ap (λ es. joined (pairs_of es) after) n ∙ ap (λ ps. joined ps after) (pairs_of-append entries (item ∷ []))
    ∙ joined-assoc (pairs_of entries) (pairs_of (item ∷ [])) after
    ∙ (λ i. joined (pairs_of entries) (with_pair (k i) (v i) after))
    ∙ ap (joined (pairs_of entries)) (sym b) ∙ e

module _ (lower upper : Entries) (l : IsOrdered (pairs_of lower)) (u : IsOrdered (pairs_of upper)) (i j : ℕ) (x y : Key × Value) (at_x : slice_get lower i ≡ Some x) (at_y : slice_get upper j ≡ Some y) where
  abbrev left : Pairs
  left = merged_pairs (pairs_of (drop i lower)) (pairs_of (drop j upper))

  lower_opened : pairs_of (drop i lower) ≡ with_pair x.0 (datum x.1) (pairs_of (drop (i + 1) lower))
  lower_opened = ap pairs_of (drop-entry lower i x at_x)

  upper_opened : pairs_of (drop j upper) ≡ with_pair y.0 (datum y.1) (pairs_of (drop (j + 1) upper))
  upper_opened = ap pairs_of (drop-entry upper j y at_y)

  lower_ordered : IsOrdered (with_pair x.0 (datum x.1) (pairs_of (drop (i + 1) lower)))
  lower_ordered = subst IsOrdered lower_opened (IsOrdered-drop i lower l)

  upper_ordered : IsOrdered (with_pair y.0 (datum y.1) (pairs_of (drop (j + 1) upper)))
  upper_ordered = subst IsOrdered upper_opened (IsOrdered-drop j upper u)

  opened_both : left ≡ merged_pairs (with_pair x.0 (datum x.1) (pairs_of (drop (i + 1) lower))) (with_pair y.0 (datum y.1) (pairs_of (drop (j + 1) upper)))
  opened_both = λ k. merged_pairs (lower_opened k) (upper_opened k)

  pub left-less : key_cmp x.0 y.0 ≡ Less → left ≡ with_pair x.0 (datum x.1) (merged_pairs (pairs_of (drop (i + 1) lower)) (pairs_of (drop j upper)))
  left-less less =
      opened_both ∙ merged_pairs-lower_first x.0 (datum x.1) (pairs_of (drop (i + 1) lower)) (with_pair y.0 (datum y.1) (pairs_of (drop (j + 1) upper))) (less, IsBeforeAll-trans x.0 y.0 (keys (pairs_of (drop (j + 1) upper))) less upper_ordered.0)
      ∙ ap (λ ps. with_pair x.0 (datum x.1) (merged_pairs (pairs_of (drop (i + 1) lower)) ps)) (sym upper_opened)

  pub left-greater : key_cmp x.0 y.0 ≡ Greater → left ≡ with_pair y.0 (datum y.1) (merged_pairs (pairs_of (drop i lower)) (pairs_of (drop (j + 1) upper)))
  left-greater greater =
      let less = greater_turned x.0 y.0 greater in
      opened_both ∙ merged_pairs-upper_first y.0 (datum y.1) (with_pair x.0 (datum x.1) (pairs_of (drop (i + 1) lower))) (pairs_of (drop (j + 1) upper)) (less, IsBeforeAll-trans y.0 x.0 (keys (pairs_of (drop (i + 1) lower))) less lower_ordered.0) upper_ordered.0
      ∙ ap (λ ps. with_pair y.0 (datum y.1) (merged_pairs ps (pairs_of (drop (j + 1) upper)))) (sym lower_opened)

  pub left-equal : key_cmp x.0 y.0 ≡ Equal → left ≡ with_pair y.0 (merged_value (Some (datum x.1)) (datum y.1)) (merged_pairs (pairs_of (drop (i + 1) lower)) (pairs_of (drop (j + 1) upper)))
  left-equal equal = opened_both ∙ merged_pairs-both_first x.0 y.0 (datum x.1) (datum y.1) _ _ equal upper_ordered.0

module _ (entries lower upper : Entries) (all : Pairs) (i j : ℕ) where
  abbrev rest : Entries
  rest = (entries ++ drop i lower) ++ drop j upper

  -- at the end of the lower list
  pub end_of_lower : IsOrdered (pairs_of upper) → length lower ≤ i → joined (pairs_of entries) (merged_pairs (pairs_of (drop i lower)) (pairs_of (drop j upper))) ≡ all → pairs_of rest ≡ all
  end_of_lower u out e =
      let nothing = drop_all i lower out in
      ap (λ es. pairs_of ((entries ++ es) ++ drop j upper)) nothing ∙ ap (λ es. pairs_of (es ++ drop j upper)) (append-nil entries)
      ∙ pairs_of-append entries (drop j upper)
      ∙ ap (joined (pairs_of entries)) (sym (ap (λ es. merged_pairs (pairs_of es) (pairs_of (drop j upper))) nothing ∙ merged_pairs-nothing _ (IsOrdered-drop j upper u)))
      ∙ e

  -- at the end of the upper list
  pub end_of_upper : length upper ≤ j → joined (pairs_of entries) (merged_pairs (pairs_of (drop i lower)) (pairs_of (drop j upper))) ≡ all → pairs_of rest ≡ all
  end_of_upper out e =
      let nothing = drop_all j upper out in
      ap (λ es. pairs_of ((entries ++ drop i lower) ++ es)) nothing ∙ ap pairs_of (append-nil (entries ++ drop i lower))
      ∙ pairs_of-append entries (drop i lower)
      ∙ ap (λ es. joined (pairs_of entries) (merged_pairs (pairs_of (drop i lower)) (pairs_of es))) (sym nothing)
      ∙ e
