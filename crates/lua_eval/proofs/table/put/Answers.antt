use Rattle.std.proofs.Common.{◌≡◌, ◌≢◌, refl, sym, ◌∙◌}
use Rattle.lua_value.specs.declared.table.Value.{Value}
use Rattle.lua_value.specs.declared.table.Value.TheVariants as values
use Rattle.lua_value.specs.declared.key.Key.{Key}
use Rattle.lua_value.specs.Pairs.{Pairs, put}
use Rattle.lua_value.specs.View.{datum}
use Rattle.lua_eval.specs.Values.{with_value}
use Rattle.lua_eval.proofs.Filling.{given-made, given-without}
use Rattle.lua_eval.proofs.table.put.Goals as goal

-- a value that is no nil is put in
kept : (key : Key) (value : Value) (made : Pairs) → value ≢ values.Nil → with_value key (datum value) made ≡ put key (datum value) made
kept key values.Nil made some = absurd (some refl)
kept key (values.Bool b) made some = refl
kept key (values.Int n) made some = refl
kept key (values.Text bytes) made some = refl
kept key (values.Table ps) made some = refl

pub returns-in_ok-insert-in-Nil-clause-given : goal.returns-in_ok-insert-in-Nil-clause-given
returns-in_ok-insert-in-Nil-clause-given c = λ before are. rw (c.in_ok-insert-in-Nil.ensures.ok) (given-without c.args.key _ before c.args.making.now.made c.args.making.now.without_value are)

pub returns-in_ok-insert-in_default : goal.returns-in_ok-insert-in_default
returns-in_ok-insert-in_default c =
    let making = c.args.making.now in
    let is : c.insert-in_default.new.self ≡ put c.args.key (datum c.args.value) making.made = c.in_ok-insert-in_default.ensures.ok in
    let some : c.args.value ≢ values.Nil = c.in_default.not-Nil in
    record {
      made = is ∙ sym (kept c.args.key c.args.value making.made some);
      given = λ before are. rw (is) (given-made c.args.key (datum c.args.value) before making.made making.without_value are);
      ordered = (c.in_ok-insert-in_default.ensures.ordered, c.requires.without_value);
    }
