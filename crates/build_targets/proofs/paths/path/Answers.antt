use Rattle.std.proofs.Common.{◌≡◌, ℕ, List, ◌&&◌, true, cond, Some, None, sym, ap, ◌∙◌}
use Rattle.std.specs.Str.{is_utf8}
use Rattle.std.proofs.lemmas.Bool.{and_from, and_left, cond-false, cond-true, false_from_ne_true, true_from_ne_false}
use Rattle.std.proofs.lemmas.Str.{IsUtf8-from_is_utf8, is_utf8-from_IsUtf8}
use Rattle.rocks_text.specs.Texts.{is_file_path}
use Rattle.build_targets.proofs.paths.path.Goals as goal

taken : (bytes text path : List ℕ) → text ≡ bytes → path ≡ text → is_utf8 bytes ≡ true → is_file_path bytes ≡ true
    → Some path ≡ cond (is_utf8 bytes && is_file_path bytes) (Some bytes) None
taken bytes text path same is utf8 valid = ap Some (is ∙ same)
    ∙ sym (cond-true (is_utf8 bytes && is_file_path bytes) (Some bytes) None (and_from _ _ utf8 valid))

pub returns-in_default : goal.returns-in_default
returns-in_default c =
    let bytes = c.args.bytes.now in
    let no = false_from_ne_true (is_utf8 bytes) (λ yes. c.in_default.ensures.cases.0 (IsUtf8-from_is_utf8 bytes yes)) in
    sym (cond-false (is_utf8 bytes && is_file_path bytes) (Some bytes) None
    (and_left (is_utf8 bytes) (is_file_path bytes) no))

pub returns-in-Ok-from_text : goal.returns-in-Ok-from_text
returns-in-Ok-from_text c =
    let bytes = c.args.bytes.now in
    let read = c.in-Ok.ensures.cases in
    let valid = true_from_ne_false (is_file_path c.in-Ok.text.now)
    (λ bad. let e = c.from_text.ensures.bad.1 bad in let is = c.in-Ok-from_text.is in cc) in
    taken bytes c.in-Ok.text.now c.in-Ok-from_text.path read.0 c.in-Ok-from_text.ensures.value
    (is_utf8-from_IsUtf8 bytes read.1) (ap is_file_path (sym read.0) ∙ valid)
