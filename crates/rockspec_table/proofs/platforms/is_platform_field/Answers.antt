use Rattle.std.proofs.Common.{ap, ◌∙◌}
use Rattle.std.specs.List.{list_any}
use Rattle.std.specs.Str.{bytes_eq}
use Rattle.rockspec_table.specs.Platforms.{platform_fields}
use Rattle.rockspec_table.proofs.BadFields.{any_referent}
use Rattle.rockspec_table.proofs.platforms.is_platform_field.Goals as goal

pub returns-in-Text : goal.returns-in-Text
returns-in-Text c =
    let name = c.as_slice.result.now in
    rw c.in-Text.is (c.is_among.ensures ∙ any_referent (bytes_eq name) c.platform_fields.result.now
    ∙ ap (list_any (bytes_eq name)) c.platform_fields.ensures
    ∙ ap (λ n. list_any (bytes_eq n) platform_fields) c.as_slice.ensures)
