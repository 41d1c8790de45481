use Rattle.std.proofs.Common.{◌≡◌, ℕ, Bool, true, false, List, refl, sym, ap, ◌∙◌, inr}
use Rattle.std.specs.Str.{IsUtf8}
use Rattle.rocks_version.specs.Texts.{is_rock_version}
use Rattle.rockspec.proofs.Texts.{rock_version_is, version_is_utf8}
use Rattle.rockspec.proofs.identity.version.Goals as goal

-- what isn't UTF-8 is no version
no_version : (text : List ℕ) → (IsUtf8 text → ⊥) → (b : Bool) → is_rock_version text ≡ b → is_rock_version text ≡ false
no_version text no_utf8 true is = absurd (no_utf8 (version_is_utf8 text (rock_version_is text is)))
no_version text no_utf8 false is = is

pub returns-in_default-clause-fault : goal.returns-in_default-clause-fault
returns-in_default-clause-fault c =
    inr (refl, ap is_rock_version (sym c.in_ok-text.ensures) ∙ no_version c.in_ok-text.text.now c.in_default.ensures.cases.0 _ refl)
