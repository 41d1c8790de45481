use Rattle.std.proofs.Common.{◌≡◌, ℕ, List, Bool, true, cond, Some, None, sym, ap, subst, ◌∙◌}
use Rattle.std.specs.List.{list_any}
use Rattle.std.specs.Str.{bytes_eq}
use Rattle.std.proofs.lemmas.Bool.{and_right, cond-false, not_from_true}
use Rattle.build_targets.specs.Folders.{first_part, is_folder, kept_parts}
use Rattle.build_targets.specs.Meanings.{is_source, source}
use Rattle.build_targets.proofs.folders.folder.Goals as goal

none_of_kept : (rockspec named folder first : List ℕ) (kept : Bool) → folder ≡ source named → first ≡ first_part folder
    → kept ≡ list_any (bytes_eq first) (kept_parts rockspec) → kept ≡ true
    → None ≡ cond (is_folder rockspec named) (Some (source named)) None
none_of_kept rockspec named folder first kept of part is test =
    let found = subst (λ f. list_any (bytes_eq f) (kept_parts rockspec) ≡ true) (part ∙ ap first_part of) (sym is ∙ test) in
    sym (cond-false (is_folder rockspec named) (Some (source named)) None (and_right (is_source named) _ (not_from_true _ found)))

pub returns-then-is_kept : goal.returns-then-is_kept
returns-then-is_kept c =
    none_of_kept c.args.rockspec.now c.args.named.now c.source-folder.result.now c.first_part.result.now c.is_kept.result
    c.source-folder.ensures c.first_part.ensures c.is_kept.ensures c.if-is_kept.true
