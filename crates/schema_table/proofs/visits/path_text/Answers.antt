use Rattle.std.proofs.Common.{◌≡◌, ℕ, List, ◌++◌, ◌∷◌, [], sym, ap, ◌∙◌}
use Rattle.schema_table.specs.Paths.{key_text}
use Rattle.schema_table.proofs.PathTexts.{text_first, text_more}
use Rattle.schema_table.proofs.visits.path_text.Goals as goal
use Rattle.schema_table.proofs.visits.path_text.Goals.{then-at-gt0+in_ok-push, else-at-gt0}

pub loop-at-preserved : goal.loop-at-preserved
loop-at-preserved c =
    let key = c.index-path-at.result in
    let path = c.args.path.now in
    let line : c.append_key.new.out.items ≡ c.if-at-gt0.out.items ++ key_text key.now = c.in_ok-append_key.ensures in
    let with_key = λ (text : List ℕ). text ++ key_text key.now in
    elim c.if-at-gt0.branch [
      | then-at-gt0+in_ok-push w ↦
          line ∙ ap with_key (ap (λ v. v.items) w.out-is ∙ w.in_ok-push.ensures.items
          ∙ ap (λ text. text ++ 46 ∷ []) c.loop-at.invariant)
          ∙ sym (text_more path c.loop-at.at key w.if-at-gt0.true c.loop-at-test.true c.index-path-at.is)
      | else-at-gt0 w ↦
          line ∙ ap with_key (ap (λ v. v.items) w.out-is ∙ c.loop-at.invariant)
          ∙ sym (text_first path c.loop-at.at key w.if-at-gt0.false c.loop-at-test.true c.index-path-at.is)
    ]
