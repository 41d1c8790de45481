use Rattle.std.proofs.Common.{rules, sym, subst, ◌≡◌, true}
use Rattle.std.specs.Str.{IsUtf8}
use Rattle.rocks_text.specs.Modules.{is_module_name, module_path}
use Rattle.rocks_text.proofs.Modules.{path_is_utf8}
use Rattle.rocks_text.proofs.module.module_path.Goals as goal

pub unreachable-requires : goal.unreachable-requires
unreachable-requires c =
    let named : is_module_name c.args.name.now ≡ true = search rules in
    let path : c.deref.result.now ≡ module_path c.args.name.now c.args.file.now = search rules in
    absurd (c.in-Err.ensures.cases.0 (subst IsUtf8 (sym path) (path_is_utf8 c.args.name.now c.args.file.now named)))
