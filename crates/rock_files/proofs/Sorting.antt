-- The files of a rock, each kind in order.
use Rattle.std.proofs.Common.{◌≡◌, ℕ, List, sym, subst}
use Rattle.std.specs.Cmp.{IsTotalOrder, IsStrictWeakOrder}
use Rattle.std.specs.List.Sorted.{IsPermutation, IsSortedByKey}
use Rattle.std.specs.Ordering.{is_lt}
use Rattle.std.proofs.lemmas.Cmp.{nat_cmp_total, nat_list_cmp_total, on_total, then_total}
use Rattle.std.proofs.lemmas.List.Sorted.{ranks_by}
use Rattle.rocks_text.specs.Files.{path_cmp}
use Rattle.rocks_text.specs.Items.{item_cmp, rank_of}
use Rattle.rocks_text.specs.declared.item.Item.{Item}
use Rattle.rock_files.specs.Taking.{Sorts}

item_total : IsTotalOrder item_cmp
item_total = then_total (on_total (λ item. item.kind) (on_total rank_of nat_cmp_total)) (on_total (λ item. item.path) nat_list_cmp_total)

pub item_order : IsStrictWeakOrder (λ (x : Item × List ℕ) (y : Item × List ℕ). is_lt (item_cmp x.0 y.0))
item_order = ranks_by item_total (λ (file : Item × List ℕ). file.0)

pub own_order : IsStrictWeakOrder (λ (x : List ℕ × List ℕ) (y : List ℕ × List ℕ). is_lt (path_cmp x.0 y.0))
own_order = ranks_by nat_list_cmp_total (λ (file : List ℕ × List ℕ). file.0)

pub sorts : (items sorted files : List (Item × List ℕ)) (own sorted_own own_files : List (List ℕ × List ℕ)) → files ≡ sorted → own_files ≡ sorted_own → IsPermutation items sorted
    → IsSortedByKey (λ file. file.0) item_cmp sorted → IsPermutation own sorted_own → IsSortedByKey (λ file. file.0) path_cmp sorted_own
    → Sorts items own (record { items = files; own = own_files })
sorts items sorted files own sorted_own own_files same also moved up moved_own up_own = record {
  items = subst (λ (l : List (Item × List ℕ)). IsPermutation items l) (sym same) moved;
  items_in_order = subst (λ (l : List (Item × List ℕ)). IsSortedByKey (λ (file : Item × List ℕ). file.0) item_cmp l) (sym same) up;
  own = subst (λ (l : List (List ℕ × List ℕ)). IsPermutation own l) (sym also) moved_own;
  own_in_order = subst (λ (l : List (List ℕ × List ℕ)). IsSortedByKey (λ (file : List ℕ × List ℕ). file.0) path_cmp l) (sym also) up_own;
}
