use Rattle.std.proofs.Common.{ap, ◌∙◌, map, List, ℕ}
use Rattle.std.specs.Borrow.{Bor}
use Rattle.rockspec.specs.Fields.{are_supported}
use Rattle.rockspec.proofs.Texts.{supported_now}
use Rattle.rockspec.proofs.supported.is_supported.Goals as goal

pub returns : goal.returns
returns c =
    c.are_supported.ensures ∙ supported_now c.deref.result.now
    ∙ ap (λ (entries : List (Bor (List ℕ))). are_supported (map (λ (entry : Bor (List ℕ)). entry.now) entries)) c.deref.ensures.value
    ∙ ap are_supported c.in_ok-entries.ensures
