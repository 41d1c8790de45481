use Rattle.std.proofs.Common.{ap, ◌∙◌}
use Rattle.lua_value.specs.declared.key.Key.TheVariants.{Text}
use Rattle.lua_value.specs.Pairs.{no_pairs, put, table_value, value_at}
use Rattle.manifest_text.specs.Text.{table_in}
use Rattle.manifest_text.proofs.Appended.{on_ok, put_back}
use Rattle.manifest_text.proofs.tables.set_rock.Goals as goal

pub returns-clause-ok : goal.returns-clause-ok
returns-clause-ok c =
    let name = c.as_bytes-name.ensures.value ∙ c.as_str.ensures.value in
    let version = c.as_bytes.ensures.value ∙ c.as_str-2.ensures.value in
    on_ok c.set-2.result c.set-2.ensures.ok (λ last.
    put_back c.args.key.now (table_value c.args.value) c.args.table.now c.taken.new.table c.in_ok-versions.versions
    c.set-2.new.table c.set.new.table
    (c.in_ok-versions.ensures.left ∙ ap (λ key. put (Text key) (table_value no_pairs) c.args.table.now) name)
    (c.in_ok-versions.ensures.value ∙ ap (λ key. table_in (value_at (Text key) c.args.table.now)) name)
    (c.in_ok-set.ensures.ok ∙ ap (λ key. put (Text key) (table_value c.args.value) c.in_ok-versions.versions) version)
    (last ∙ ap (λ key. put (Text key) (table_value c.set.new.table) c.taken.new.table) name))
