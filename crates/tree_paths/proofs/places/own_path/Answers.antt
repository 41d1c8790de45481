use Rattle.std.proofs.Common.{IsTrue, List, ℕ, ◌++◌, sym, subst, ◌∙◌}
use Rattle.rocks_text.specs.Texts.{is_tree_path}
use Rattle.tree_paths.specs.Places.{rock_folder}
use Rattle.tree_paths.proofs.PlacePaths.{own_is}
use Rattle.tree_paths.proofs.places.own_path.Goals as goal

pub known-requires : goal.known-requires
known-requires c =
    let is = own_is c.args.key.now c.args.path.now c.as_str-path.ensures.valid c.as_str.ensures.valid c.as_str-2.ensures.valid in
    let names = c.as_str.ensures.value in
    let versions = c.as_str-2.ensures.value in
    let paths = c.as_str-path.ensures.value in
    let folders = c.in_ok-folder.ensures ∙ (λ i. rock_folder (names i) (versions i)) in
    subst (λ (text : List ℕ). IsTrue (is_tree_path text)) (sym (c.deref.ensures ∙ c.in_ok-text.ensures.ok ∙ (λ i. folders i ++ paths i))) is
