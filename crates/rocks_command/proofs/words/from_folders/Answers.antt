use Rattle.std.proofs.Common.{◌++◌, List, ℕ, string_bytes, sym, ◌∙◌, ap}
use Rattle.std.proofs.lemmas.List.{append-nil}
use Rattle.rocks_command.proofs.FromWords.{few_from}
use Rattle.rocks_command.proofs.words.from_folders.Goals as goal

pub returns : goal.returns
returns c =
    sym (append-nil (c.loop-rest.folders))
    ∙ sym (ap (λ (rest : List (List ℕ)). c.loop-rest.folders ++ rest) (few_from string_bytes c.loop-rest.rest.now c.in_default.len_below))
    ∙ c.loop-rest.invariant
