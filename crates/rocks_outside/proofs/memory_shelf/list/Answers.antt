use Rattle.std.proofs.Common.{◌≡◌, [], ◌∷◌, ◌++◌, sym, subst, rules}
use Rattle.std.specs.Prelude.{IsTrue, Some}
use Rattle.std.specs.BTreeMap.{keys}
use Rattle.std.specs.List.{filter_map}
use Rattle.rocks_text.specs.Texts.{is_file_path}
use Rattle.rocks_text.specs.Paths.{below}
use Rattle.rocks_outside.proofs.Held.{keys-files_of}
use Rattle.rocks_text.proofs.Below.{below_some}
use Rattle.rocks_outside.proofs.Listings.{listed_more, all_push, folder_listing}
use Rattle.rocks_outside.proofs.memory_shelf.list.Goals as goal

pub loop-path-preserved-in_ok-push : goal.loop-path-preserved-in_ok-push
loop-path-preserved-in_ok-push c =
    let folder = c.args.folder.now in
    let rest = c.in-Some-below.rest.now in
    let is : below folder c.in-Some.path.now ≡ Some rest = sym c.in-Some-below.ensures.rest in
    let whole : c.in-Some.path.now ≡ folder ++ 47 ∷ rest = below_some folder c.in-Some.path.now rest is in
    let added : c.push.new.self.items ≡ c.loop-path.paths.items ++ rest ∷ [] = search rules in
    record {
      listed = listed_more folder c.in-Some.path.now rest _ c.next.new.self _ _ _ c.in-Some.ensures.steps is added c.loop-path.invariant.listed;
      are_paths = rw added (all_push (λ r. IsTrue (is_file_path (folder ++ 47 ∷ r))) _ rest c.loop-path.invariant.are_paths (subst (λ p. IsTrue (is_file_path p)) whole c.in-Some-below.ensures.whole));
    }

pub returns-clause-listed : goal.returns-clause-listed
returns-clause-listed c =
    let all : c.loop-path.paths.items ≡ filter_map (below c.args.folder.now) (keys c.args.files.now) = search rules in
    rw (keys-files_of c.args.files.now c.keys-path-items.ensures.ordered) all

pub returns-clause-form : goal.returns-clause-form
returns-clause-form c =
    let all : c.loop-path.paths.items ≡ filter_map (below c.args.folder.now) (keys c.args.files.now) = search rules in
    folder_listing c.args.files.now c.args.folder.now _ all c.keys-path-items.ensures.ordered c.keys-path-items.ensures.found c.requires c.loop-path.invariant.are_paths
