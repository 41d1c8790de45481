-- The run that a text begins with.
use Rattle.std.proofs.Common.{◌≡◌, ℕ, ◌+◌, List, [], ◌∷◌, drop, take, refl, sym, true, false, Bool, cond}
use Rattle.std.specs.List.{prefix_len}
use Rattle.std.proofs.Math.Numerals.{one-add}
use Rattle.std.proofs.lemmas.List.{take-append-drop}
use Rattle.rocks_version.proofs.Numbers.{front_passes}
use Rattle.rocks_constraint.specs.Alphabet.{BeginsOtherwise, IsCut}

begins_otherwise : (test : ℕ → Bool) (text : List ℕ) → BeginsOtherwise test (drop (prefix_len test text) text)
begins_otherwise test [] = tt
begins_otherwise test (b ∷ bs) =
    elim (test b) as (λ t. test b ≡ t → BeginsOtherwise test (drop (cond t (1 + prefix_len test bs) 0) (b ∷ bs))) [
      | true ↦ λ _. rw (one-add (prefix_len test bs)) (begins_otherwise test bs)
      | false ↦ λ fails. fails
    ] refl

-- the longest run of bytes that pass a test, and what follows it
pub cut_is : (test : ℕ → Bool) (text : List ℕ) → IsCut test text (take (prefix_len test text) text) (drop (prefix_len test text) text)
cut_is test text = record {
  whole = sym (take-append-drop (prefix_len test text) text);
  passes = front_passes test text;
  longest = begins_otherwise test text;
}
