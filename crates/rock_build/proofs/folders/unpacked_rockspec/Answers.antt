use Rattle.std.proofs.Common.{IsTrue, List, ℕ, ◌≡◌, ◌++◌, refl, sym, ap, subst, ◌∙◌, codes, append_assoc}
use Rattle.std.proofs.lemmas.Result.{IfOk-weaker}
use Rattle.rocks_text.specs.Texts.{is_file_path}
use Rattle.rocks_version.specs.Keys.{rockspec_name}
use Rattle.rock_build.specs.Contents.{unpacked_rockspec}
use Rattle.rock_build.proofs.PathTexts.{name_word, version_word, rockspec_in_folder}
use Rattle.rock_build.proofs.folders.unpacked_rockspec.Goals as goal

regrouped : (name version : List ℕ) → name ++ (codes "-" ++ (version ++ (codes ".rock/" ++ rockspec_name name version))) ≡ unpacked_rockspec (record { name = name; version = version })
regrouped name version = sym (append_assoc name _ _ ∙ ap (λ (l : List ℕ). name ++ (codes "-" ++ l)) (append_assoc version _ _))

pub known-requires : goal.known-requires
known-requires c =
    let is = rockspec_in_folder (record { name = c.as_str-name.result.now; version = c.as_str-version.result.now }) (name_word _ (rw c.as_str-name.ensures.value c.as_str-name.ensures.valid)) (version_word _ (rw c.as_str-version.ensures.value c.as_str-version.ensures.valid)) in
    subst (λ text. IsTrue (is_file_path text)) (sym (c.deref.ensures ∙ c.in_ok-text.ensures.ok ∙ regrouped c.as_str-name.result.now c.as_str-version.result.now)) is

pub returns : goal.returns
returns c =
    IfOk-weaker c.known.result _ _ (λ path h. h ∙ (c.deref.ensures ∙ c.in_ok-text.ensures.ok ∙ regrouped c.as_str-name.result.now c.as_str-version.result.now) ∙ rw (c.as_str-name.ensures.value, c.as_str-version.ensures.value) refl) c.known.ensures
