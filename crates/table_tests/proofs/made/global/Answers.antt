use Rattle.std.proofs.Common.{◌≡◌, [], ◌∷◌, sym, ◌∙◌, subst, rules}
use Rattle.lua_names.specs.Keywords.{keyword_of}
use Rattle.lua_value.specs.declared.key.Key.TheVariants.{Text}
use Rattle.lua_value.specs.Pairs.{Datum, no_pairs, with_pair, put}
use Rattle.lua_value.specs.View.{datum}
use Rattle.lua_print.specs.Printed.{HasNames}
use Rattle.table_tests.proofs.made.global.Goals as goal

-- `t` is a name
named_t : (value : Datum) → HasNames (with_pair (Text (116 ∷ [])) value no_pairs)
unfolding keyword_of
named_t value = (search rules, tt)

pub returns-clause-named : goal.returns-clause-named
returns-clause-named c =
    let value = datum c.args.value in
    let is : c.insert.new.self ≡ with_pair (Text (116 ∷ [])) value no_pairs =
    c.in_ok-insert.ensures.ok ∙ (λ i. put (Text (c.in_ok-text.ensures i)) value (c.new-made.ensures i)) in
    subst HasNames (sym is) (named_t value)
