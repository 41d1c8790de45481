use Rattle.std.proofs.Common.{IsTrue, List, ℕ, ◌++◌, codes, sym, subst, ◌∙◌}
use Rattle.rocks_text.specs.Texts.{is_tree_path}
use Rattle.tree_paths.proofs.PlacePaths.{versioned_is}
use Rattle.tree_paths.proofs.places.versioned.Goals as goal

pub known-requires : goal.known-requires
known-requires c =
    let is = versioned_is c.args.item.now c.args.key.now c.as_str-path.ensures.valid c.flat_name.ensures.named c.flat_name.ensures.of_version in
    let places = c.place_of-place.ensures in
    let stems = c.in_ok-stem.ensures.value in
    let paths = c.as_str-path.ensures.value in
    subst (λ (text : List ℕ). IsTrue (is_tree_path text)) (sym (c.deref.ensures ∙ c.in_ok-text.ensures.ok ∙ (λ i. places i ++ (stems i ++ (codes "-" ++ paths i))))) is
