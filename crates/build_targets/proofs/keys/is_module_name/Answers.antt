use Rattle.std.proofs.Common.{sym}
use Rattle.std.proofs.lemmas.Bool.{false_from_ne_true}
use Rattle.std.proofs.lemmas.Str.{IsUtf8-from_is_utf8}
use Rattle.rocks_text.specs.Modules.{is_module_name}
use Rattle.build_targets.proofs.ModuleNames.{name_is_utf8}
use Rattle.build_targets.proofs.keys.is_module_name.Goals as goal

pub returns-in-Err : goal.returns-in-Err
returns-in-Err c =
    let name = c.args.key.now in
    sym (false_from_ne_true (is_module_name name)
    (λ yes. c.in-Err.ensures.cases.0 (IsUtf8-from_is_utf8 name (name_is_utf8 name yes))))
