use Rattle.std.proofs.Common.{◌≡◌, ◌∙◌, List, ℕ, sym, subst, true, false}
use Rattle.std.specs.Result.{IfOk}
use Rattle.tree_claims.specs.Rocks.{is_same_rock}
use Rattle.tree_claims.proofs.Entries.{same_rock_is}
use Rattle.tree_model.proofs.Provided.{nowhere_there, plain_there, versioned_there}
use Rattle.tree_model.proofs.index.Index.place.Goals.{in_default-via-in-Some+else-eq, in_default-via-in_default}
use Rattle.tree_model.proofs.index.Index.place.Goals as goal

pub returns-in-Some : goal.returns-in-Some
returns-in-Some c =
    let mine : is_same_rock c.in-Some.first.now c.args.key.now ≡ true = same_rock_is c.in-Some.first.now c.args.key.now ∙ sym c.if-eq.ensures in
    let place = plain_there c.self.inside.entries.items c.args.self.now c.self.inside.providers c.args.key.now c.args.item.now c.self.view_is c.self.invariant c.in-Some.first.now c.in-Some.ensures mine in
    subst (λ (p : List ℕ). IfOk c.plain.result (λ path. path ≡ p)) (sym place) c.plain.ensures

pub returns-in_default : goal.returns-in_default
returns-in_default c = elim c.in_default.branch [
  | in_default-via-in-Some+else-eq w ↦
      let other : is_same_rock w.in-Some.first.now c.args.key.now ≡ false = same_rock_is w.in-Some.first.now c.args.key.now ∙ sym w.if-eq.ensures in
      let place = versioned_there c.self.inside.entries.items c.args.self.now c.self.inside.providers c.args.key.now c.args.item.now c.self.view_is c.self.invariant w.in-Some.first.now w.in-Some.ensures other in
      subst (λ (p : List ℕ). IfOk c.versioned.result (λ path. path ≡ p)) (sym place) c.versioned.ensures
  | in_default-via-in_default w ↦
      let place = nowhere_there c.self.inside.entries.items c.args.self.now c.self.inside.providers c.args.key.now c.args.item.now c.self.view_is c.self.invariant (rw w.in_default.is at c.first.ensures) in
      subst (λ (p : List ℕ). IfOk c.versioned.result (λ path. path ≡ p)) (sym place) c.versioned.ensures
]
