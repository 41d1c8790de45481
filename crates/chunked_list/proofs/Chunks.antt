-- How many items chunks have.
use Rattle.std.proofs.Common.{◌≡◌, ℕ, zero, suc, List, [], ◌∷◌, length, take, refl, arith, length-append}
use Rattle.std.proofs.lemmas.List.Sums.{sum_by-cons}
use Rattle.std.specs.List.{sum_by}
use Rattle.std.specs.Vec.{vec_len}
use Rattle.std.specs.declared.vec.Vec.{Vec}
use Rattle.std.specs.declared.alloc.Global.{Global}
use Rattle.chunked_list.specs.Items.{chunk_items}
use Rattle.chunked_list.specs.Parts.{joined, before}

module _ {T : Type 0} where
  abbrev pub len_of : Vec T Global → ℕ
  len_of chunk = vec_len chunk

  pub sum_by-chunks : (cs : List (Vec T Global)) → sum_by len_of cs ≡ length (joined chunk_items cs)
  sum_by-chunks [] = refl
  sum_by-chunks (c ∷ cs) = omega (arith, sum_by-cons len_of c cs, sum_by-chunks cs, c.ok.0, length-append c.items (joined chunk_items cs))

  pub before-take : (cs : List (Vec T Global)) (k : ℕ) → length (joined chunk_items (take k cs)) ≡ before chunk_items cs k
  before-take cs zero = refl
  before-take [] (suc k) = refl
  before-take (c ∷ cs) (suc k) = omega (arith, length-append c.items (joined chunk_items (take k cs)), before-take cs k)
