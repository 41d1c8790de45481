-- A view is told by its text.
use Rattle.std.proofs.Common.{◌≡◌, ℕ, List, sym, ◌∙◌, subst}
use Rattle.std.specs.List.Sorted.{IsPermutation}
use Rattle.std.proofs.lemmas.List.Sorted.{IsPermutation-sym, IsPermutation-trans}
use Rattle.manifest_text.specs.Text.{manifest_text}
use Rattle.manifest_text.specs.Views.{AreProvided, IsView}
use Rattle.manifest_text.specs.declared.view.ManifestView.{ManifestView}
use Rattle.manifest_text.specs.declared.view.ViewRock.{ViewRock}
use Rattle.rocks_version.specs.declared.key.RockKey.{RockKey}
use Rattle.tree_manifest.specs.Found.{ArePaths, IsMade}
use Rattle.tree_manifest.specs.Orders.{AreInOrder, IsInOrder}
use Rattle.tree_manifest.proofs.Decoded.{one_gathered, one_provided}
use Rattle.tree_manifest.proofs.OneOrder.{one_order}
use Rattle.tree_manifest.proofs.Wholes.{gathered_of, IsGathered}

pub are_paths : (paths : List (List ℕ × List RockKey)) → AreProvided paths → ArePaths paths
are_paths paths is = record { are_paths = is.are_paths; are_keys = is.are_keys }

provided : (paths : List (List ℕ × List RockKey)) → ArePaths paths → AreInOrder paths → AreProvided paths
provided paths are order = record {
  in_order = order.0;
  some = order.1;
  are_paths = are.are_paths;
  are_keys = are.are_keys;
}

pub one_text : (left right : ManifestView) → IsView left → IsView right → manifest_text left ≡ manifest_text right
    → left ≡ right
one_text left right is are same =
    let l = gathered_of left is in
    let moved : IsGathered left (manifest_text right) = subst (IsGathered left) same l in
    let r = gathered_of right are in
    let paths = λ (a b : List (List ℕ × List RockKey)) (p : AreProvided a) (q : AreProvided b).
    one_provided a b (are_paths a p) (are_paths b q) in
    let commands = paths left.commands right.commands is.commands are.commands (sym moved.commands ∙ r.commands) in
    let libs = paths left.libs right.libs is.libs are.libs (sym moved.libs ∙ r.libs) in
    let modules = paths left.modules right.modules is.modules are.modules (sym moved.modules ∙ r.modules) in
    let found = one_gathered moved.rocks r.rocks moved.good r.good (sym moved.dependencies ∙ r.dependencies) in
    let rocks = one_order left.rocks right.rocks is.rocks are.rocks
    (IsPermutation-trans left.rocks r.rocks right.rocks
    (subst (λ (l : List ViewRock). IsPermutation left.rocks l) found moved.same)
    (IsPermutation-sym right.rocks r.rocks r.same)) in
    λ i. record { commands = commands i; libs = libs i; modules = modules i; rocks = rocks i }

-- what is read is a view where it is in order
pub is_view : (found : ManifestView) → IsMade found → IsInOrder found → IsView found
is_view found made order = record {
  commands = provided found.commands made.commands order.0;
  libs = provided found.libs made.libs order.1;
  modules = provided found.modules made.modules order.2;
  rocks = order.3;
  are_keys = made.rocks.are_keys;
  are_wanted = made.rocks.are_wanted;
}

-- what is read of the text of a view is in order, and has that text
pub right_text : (bytes : List ℕ) (found whole : ManifestView) → found ≡ whole → IsView whole
    → bytes ≡ manifest_text whole → IsInOrder found × (bytes ≡ manifest_text found)
right_text bytes found whole same is text =
    subst (λ (v : ManifestView). IsInOrder v × (bytes ≡ manifest_text v)) (sym same) (
      (
        (is.commands.in_order, is.commands.some),
        (is.libs.in_order, is.libs.some),
        (is.modules.in_order, is.modules.some),
        is.rocks,
      ),
      text,
    )
