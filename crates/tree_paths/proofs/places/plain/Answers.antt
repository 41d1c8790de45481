use Rattle.std.proofs.Common.{IsTrue, List, ℕ, ◌++◌, sym, ap, subst, ◌∙◌}
use Rattle.rocks_text.specs.Texts.{is_tree_path}
use Rattle.tree_paths.proofs.PlacePaths.{placed}
use Rattle.tree_paths.proofs.places.plain.Goals as goal

pub known-requires : goal.known-requires
known-requires c =
    let is = placed c.args.item.now.kind c.as_str-path.result.now (rw c.as_str-path.ensures.value c.as_str-path.ensures.valid) in
    subst (λ text. IsTrue (is_tree_path text)) (sym (c.deref.ensures ∙ c.in_ok-text.ensures.ok ∙ ap (λ (place : List ℕ). place ++ c.as_str-path.result.now) c.place_of-place.ensures)) is
