use Rattle.std.proofs.Common.{ap, ◌∙◌, Some}
use Rattle.std.specs.Prelude.{option_map}
use Rattle.lua_value.specs.View.{datum}
use Rattle.manifest_text.proofs.Appended.{found_ordered}
use Rattle.manifest_text.proofs.tables.taken.Goals as goal

pub returns-in-Some-Table-clause-taken_ordered : goal.returns-in-Some-Table-clause-taken_ordered
returns-in-Some-Table-clause-taken_ordered c =
    found_ordered _ c.args.table.now c.in-Some-Table.old _ c.requires c.in_ok-old.ensures.old
    (ap (option_map datum) c.in-Some-Table.is ∙ ap (λ v. Some (datum v)) c.in-Some-Table.field-0-is)
