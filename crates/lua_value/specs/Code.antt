-- Pairs as trees of numbers, which tell them apart: what a model asks of its values.
use Rattle.std.specs.Prelude.{◌≡◌, ℕ, Bool, List, refl}
use Rattle.std.proofs.Common.{ap, ◌⊎◌, inl, inr}
use Rattle.std.specs.Coded.{Coded, code_by, coded_list, coded_ℕ, coded_bool, coded⊎}
use base.Stored.{Gv, gnil, gnum, gcons}
use Rattle.lua_value.specs.declared.key.Key.{Key}
use Rattle.lua_value.specs.declared.key.Key.TheVariants.{Int, Text, Bool as Truth}
use Rattle.lua_value.specs.Pairs.{Datum, Pairs, nil, truth_value, int_value, text_value, table_value, no_pairs, with_pair}

abbrev key_parts : Key → ℕ ⊎ (List ℕ ⊎ Bool)
key_parts (Int n) = inl n
key_parts (Text bytes) = inr (inl bytes)
key_parts (Truth b) = inr (inr b)

abbrev key_of : ℕ ⊎ (List ℕ ⊎ Bool) → Key
key_of (inl n) = Int n
key_of (inr (inl bytes)) = Text bytes
key_of (inr (inr b)) = Truth b

pub key_of-parts : (key : Key) → key_of (key_parts key) ≡ key
key_of-parts (Int n) = refl
key_of-parts (Text bytes) = refl
key_of-parts (Truth b) = refl

abbrev coded_key : Coded Key
coded_key = code_by (ℕ ⊎ (List ℕ ⊎ Bool)) (coded⊎ coded_ℕ (coded⊎ (coded_list coded_ℕ) coded_bool)) key_parts key_of key_of-parts

abbrev mutual
  code_of : Datum → Gv
  code_of nil = gnil
  code_of (truth_value b) = gcons (gnum 0) (coded_bool.code b)
  code_of (int_value n) = gcons (gnum 1) (gnum n)
  code_of (text_value bytes) = gcons (gnum 2) ((coded_list coded_ℕ).code bytes)
  code_of (table_value ps) = gcons (gnum 3) (code_of_pairs ps)

  code_of_pairs : Pairs → Gv
  code_of_pairs no_pairs = gnil
  code_of_pairs (with_pair key value rest) = gcons (coded_key.code key) (gcons (code_of value) (code_of_pairs rest))

abbrev first : Gv → Gv
first gnil = gnil
first (gnum n) = gnil
first (gcons a b) = a

abbrev second : Gv → Gv
second gnil = gnil
second (gnum n) = gnil
second (gcons a b) = b

mutual
  pub told_apart : (x y : Datum) → code_of x ≡ code_of y → x ≡ y
  told_apart nil nil e = refl
  told_apart (truth_value a) (truth_value b) e = ap truth_value (coded_bool.inj a b (ap second e))
  told_apart (int_value a) (int_value b) e = ap int_value (coded_ℕ.inj a b (ap second e))
  told_apart (text_value a) (text_value b) e = ap text_value ((coded_list coded_ℕ).inj a b (ap second e))
  told_apart (table_value ps) (table_value qs) e = ap table_value (pairs_told_apart ps qs (ap second e))
  told_apart x y e = cc

  pub pairs_told_apart : (ps qs : Pairs) → code_of_pairs ps ≡ code_of_pairs qs → ps ≡ qs
  pairs_told_apart no_pairs no_pairs e = refl
  pairs_told_apart no_pairs (with_pair key value rest) e = cc
  pairs_told_apart (with_pair key value rest) no_pairs e = cc
  pairs_told_apart (with_pair k v ps) (with_pair l w qs) e =
      let same_key : k ≡ l = coded_key.inj k l (ap first e) in
      let same_value : v ≡ w = told_apart v w (ap (λ g. first (second g)) e) in
      let same_rest : ps ≡ qs = pairs_told_apart ps qs (ap (λ g. second (second g)) e) in
      λ i. with_pair (same_key i) (same_value i) (same_rest i)

abbrev pub coded_pairs : Coded Pairs
coded_pairs = record { code = code_of_pairs; inj = pairs_told_apart }
