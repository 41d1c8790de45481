use Rattle.std.proofs.Common.{IsTrue, sym, subst, ◌∙◌}
use Rattle.rocks_text.specs.Texts.{is_file_path}
use Rattle.rock_build.proofs.PathTexts.{name_word, version_word, source_path}
use Rattle.rock_build.proofs.folders.source_folder.Goals as goal

pub known-requires : goal.known-requires
known-requires c =
    let is = source_path (record { name = c.as_str-name.result.now; version = c.as_str-version.result.now }) (name_word _ (rw c.as_str-name.ensures.value c.as_str-name.ensures.valid)) (version_word _ (rw c.as_str-version.ensures.value c.as_str-version.ensures.valid)) in
    subst (λ text. IsTrue (is_file_path text)) (sym (c.deref.ensures ∙ c.in_ok-text.ensures.ok)) is
