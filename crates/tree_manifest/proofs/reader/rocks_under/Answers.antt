use Rattle.std.proofs.Common.{rules, subst, sym}
use Rattle.std.specs.Ordering.{is_lt}
use Rattle.std.proofs.lemmas.List.Sorted.{answers_always}
use Rattle.manifest_text.specs.declared.view.ViewRock.{ViewRock}
use Rattle.rocks_version.specs.Keys.{listing_cmp}
use Rattle.tree_manifest.specs.Found.{AreListed}
use Rattle.tree_manifest.proofs.OneOrder.{listed_order}
use Rattle.tree_manifest.proofs.Turns.{moved_rocks}
use Rattle.tree_manifest.proofs.reader.rocks_under.Goals as goal

pub returns-clause-valid : goal.returns-clause-valid
returns-clause-valid c =
    moved_rocks c.in_ok-found.found.items c.sort_by.new.self.items c.from_vec.result
    c.in_ok-sort_by.ensures.permutation c.from_vec.ensures c.in_ok-found.ensures.valid

pub returns-clause-listed : goal.returns-clause-listed
returns-clause-listed c =
    subst AreListed (sym c.from_vec.ensures)
    (c.in_ok-sort_by.ensures.sorted (λ (x : ViewRock) (y : ViewRock). is_lt (listing_cmp x.key y.key)) listed_order
    (answers_always _ _ _ (λ f a r q k. search rules)))
