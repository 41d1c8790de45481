use Rattle.std.proofs.Common.{◌≡◌, ℕ, Bool, true, false, List, refl, sym, ap, ◌∙◌, inr}
use Rattle.std.specs.Str.{IsUtf8}
use Rattle.rocks_text.specs.Texts.{is_name, lowered}
use Rattle.rockspec.proofs.Texts.{name_is_utf8}
use Rattle.rockspec.proofs.identity.name.Goals as goal

-- what isn't UTF-8 lowers to no name
no_name : (text : List ℕ) → (IsUtf8 text → ⊥) → (b : Bool) → is_name (lowered text) ≡ b → is_name (lowered text) ≡ false
no_name text no_utf8 true is = absurd (no_utf8 (name_is_utf8 text is))
no_name text no_utf8 false is = is

pub returns-in_default-clause-fault : goal.returns-in_default-clause-fault
returns-in_default-clause-fault c =
    inr (refl, ap (λ text. is_name (lowered text)) (sym c.in_ok-package.ensures) ∙ no_name c.in_ok-package.package.now c.in_default.ensures.cases.0 _ refl)
