use Rattle.std.proofs.Common.{◌≡◌, true, sym, ◌∙◌, inl, inr}
use Rattle.tree_paths.proofs.Meeting.{tied, untied_conflict}
use Rattle.tree_paths.proofs.conflicting.conflict.Goals as goal
use Rattle.tree_paths.proofs.conflicting.conflict.Goals.{then-eq, else-eq}

pub returns-then-is_folder_of : goal.returns-then-is_folder_of
returns-then-is_folder_of c = (
  λ _. elim c.if-eq.branch [
    | then-eq w ↦ inl (tied c.args.left.now c.args.right.now (sym c.eq.ensures ∙ w.if-eq.true))
    | else-eq w ↦ inr (inl (w.is_folder_of.ensures.0 (sym w.value-is ∙ c.if-is_folder_of.true)))
  ],
  λ _. c.if-is_folder_of.true,
)

pub returns-else-is_folder_of : goal.returns-else-is_folder_of
returns-else-is_folder_of c = elim c.if-eq.branch [
  | then-eq w ↦ let clash = sym w.if-eq.true ∙ sym w.value-is ∙ c.if-is_folder_of.false in absurd cc
  | else-eq w ↦ untied_conflict c.args.left.now c.args.right.now c.is_folder_of-else-is_folder_of.result (sym c.eq.ensures ∙ w.if-eq.false)
      (λ below. let clash = sym (w.is_folder_of.ensures.1 below) ∙ sym w.value-is ∙ c.if-is_folder_of.false in cc) c.is_folder_of-else-is_folder_of.ensures
]
