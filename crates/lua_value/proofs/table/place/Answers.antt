use Rattle.std.proofs.Common.{rules}
use Rattle.std.proofs.lemmas.Fn.{always_returns_same}
use Rattle.chunked_list.specs.Items.{items}
use Rattle.lua_value.specs.declared.key.Key.{Key}
use Rattle.lua_value.specs.declared.table.Value.{Value}
use Rattle.lua_value.specs.Key.{key_cmp}
use Rattle.lua_value.proofs.View.{searched}
use Rattle.lua_value.proofs.table.place.Goals as goal

pub returns : goal.returns
returns c =
    let key : Key = c.args.key.now in
    let facts = c.binary_search_by.ensures in
    let by_key = facts.position (λ (e : Key × Value). key_cmp e.0 key) (always_returns_same _ _ _ (λ a r f called. (search rules, search rules))) in
    searched key (items c.args.entries.now) c.binary_search_by.result c.requires.ordered facts.bound by_key
