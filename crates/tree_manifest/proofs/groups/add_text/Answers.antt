use Rattle.std.proofs.Common.{◌≡◌, ℕ, List, [], ◌∷◌, ◌++◌, ap, sym, ◌∙◌, rules}
use Rattle.tree_manifest.specs.Reading.{with_text}
use Rattle.tree_manifest.proofs.Steps.{group, text_behind}
use Rattle.tree_manifest.proofs.groups.add_text.Goals as goal

pub returns-in_ok-push-2 : goal.returns-in_ok-push-2
returns-in_ok-push-2 c =
    let g = c.in-Some.group in
    let text = c.args.text.now in
    let grown : c.push.new.self ≡ g.texts ++ text ∷ [] = search rules in
    c.in_ok-push-2.ensures.ok
    ∙ ap (λ (ts : List (List ℕ)). c.pop.new.self ++ group g.outer g.head ts ∷ []) grown
    ∙ sym (ap (with_text text) c.in-Some.ensures ∙ text_behind text c.pop.new.self g)
