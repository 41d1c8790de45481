use Rattle.std.proofs.Common.{◌≡◌, false, refl, string_bytes, subst, sym}
use Rattle.std.specs.Bool.{nat_eq}
use Rattle.std.specs.List.{starts_with}
use Rattle.rocks_text.specs.Paths.{IsFolderOf}
use Rattle.disk_paths.proofs.Apart.{none_from, sorted_behind}
use Rattle.disk_paths.proofs.Names.{behind_first}
use Rattle.disk_paths.proofs.listing.none_below.Goals as goal

pub returns-then-not-begins : goal.returns-then-not-begins
returns-then-not-begins c =
    let none = none_from string_bytes c.loop-rest.rest.now c.first-item.result c.args.folder.now c.in-len1-up.len_at_least c.first-item.is c.loop-rest.invariant.sorted
    (subst (λ text. starts_with nat_eq text c.args.folder.now ≡ false) c.as_str.ensures.value (sym c.if-not-begins.ensures)) in
    (λ _. c.loop-rest.invariant.question.0 none, λ _. refl)

pub loop-rest-preserved : goal.loop-rest-preserved
loop-rest-preserved c = record {
  question = behind_first (λ other. IsFolderOf c.args.folder.now other → ⊥) string_bytes c.loop-rest.rest.now c.first-item.result _ c.in-len1-up.len_at_least c.first-item.is
      (λ below. let never = c.if-is_folder_of.ensures.1 (subst (IsFolderOf c.args.folder.now) (sym c.as_str-in-len1-up.ensures.value) below) in cc) c.loop-rest.invariant.question;
  sorted = sorted_behind string_bytes c.loop-rest.rest.now c.args.folder.now c.in-len1-up.len_at_least c.loop-rest.invariant.sorted;
}
