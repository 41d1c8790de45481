use Rattle.std.proofs.Common.{◌≡◌, rules, arith, IsTrue, map, string_bytes, take, refl, subst, sym}
use Rattle.std.proofs.lemmas.List.{take_all}
use Rattle.std.specs.Bool.{nat_eq}
use Rattle.std.specs.List.{filter, starts_with}
use Rattle.rocks_text.specs.Texts.{is_tree_path}
use Rattle.rocks_outside.proofs.Held.{sorted_from_ascending, form_of_filter}
use Rattle.disk_paths.proofs.Names.{at_place}
use Rattle.disk_paths.proofs.listing.paths_from.Goals as goal

pub returns-in_err-path-clause-cause : goal.returns-in_err-path-clause-cause
returns-in_err-path-clause-cause c = λ failed good. c.in_err-path.ensures.cause (search rules)
    (subst (λ name. IsTrue (is_tree_path name)) (sym c.as_str.ensures.value) (at_place (λ name. IsTrue (is_tree_path name)) string_bytes c.args.names.now c.loop-name.name-index c.name-item.result c.loop-name-test.true c.name-item.is good.1))

pub returns-clause-form : goal.returns-clause-form
returns-clause-form c =
    let whole : take c.loop-name.name-index c.args.names.now ≡ c.args.names.now = take_all c.loop-name.name-index c.args.names.now (omega arith) in
    form_of_filter c.args.prefix.now (map string_bytes c.args.names.now) c.loop-name.paths.items
    (subst (λ names. c.loop-name.paths.items ≡ filter (λ name. starts_with nat_eq name c.args.prefix.now) (map string_bytes names)) whole c.loop-name.invariant)
    (sorted_from_ascending (map string_bytes c.args.names.now) (c.if-not-is_ascending.ensures.0 refl))
