use Rattle.std.proofs.Common.{ap, ◌∙◌}
use Rattle.rocks_text.specs.Texts.{is_file_path}
use Rattle.rock_record.proofs.RockspecNames.{rockspec_is_path}
use Rattle.rock_record.proofs.rock.rockspec_path.Goals as goal

pub known-requires : goal.known-requires
known-requires c =
    ap is_file_path (c.as_str.ensures.value ∙ c.in_ok-text.ensures)
    ∙ (rockspec_is_path c.args.key.now.name c.args.key.now.version c.as_str-name.ensures.valid c.as_str-version.ensures.valid).0
