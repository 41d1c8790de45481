use Rattle.std.proofs.Common.{◌∙◌, ap}
use Rattle.rock_manifest.specs.Lines.{files_text}
use Rattle.rock_manifest.proofs.Spelling.{record_printed}
use Rattle.rock_manifest.proofs.printed.record_text.Goals as goal

pub returns : goal.returns
returns c = c.from.ensures ∙
    record_printed c.args.whole.now _ _ _ _ _ _ _ c.as_slice-items.ensures (c.deref.ensures.value
    ∙ c.in_ok-own.ensures ∙ ap files_text c.as_slice.ensures) c.new-text.ensures.items
    c.in_ok-print_items.ensures c.in_ok-print_items-2.ensures c.in_ok-print_items-3.ensures c.in_ok-print_table.ensures
