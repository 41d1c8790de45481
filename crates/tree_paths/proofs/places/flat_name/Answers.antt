use Rattle.std.proofs.Common.{IsTrue, List, ℕ, ◌++◌, codes, sym, subst, ◌∙◌}
use Rattle.std.specs.List.{list_all}
use Rattle.rocks_version.specs.Texts.{is_version_byte}
use Rattle.tree_paths.proofs.PlacePaths.{whole_bytes}
use Rattle.tree_paths.proofs.places.flat_name.Goals as goal

pub flattened-requires : goal.flattened-requires
flattened-requires c =
    let bytes = whole_bytes c.args.key.now c.as_str-name.ensures.valid c.as_str-version.ensures.valid in
    let names = c.as_str-name.ensures.value in
    let versions = c.as_str-version.ensures.value in
    subst (λ (text : List ℕ). IsTrue (list_all is_version_byte text))
    (sym (c.as_bytes.ensures.value ∙ c.in_ok-whole.ensures.ok ∙ (λ i. names i ++ (codes "_" ++ versions i)))) bytes
