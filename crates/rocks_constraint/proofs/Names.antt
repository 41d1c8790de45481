-- The run that stands for a name, and what follows it.
use Rattle.std.proofs.Common.{◌≡◌, ℕ, ◌+◌, List, length, refl, sym, ap, subst, ◌∙◌, true, false, Bool, arith, inl, inr}
use Rattle.std.specs.Prelude.{◌⊎◌}
use Rattle.rocks_text.specs.Texts.{is_name, lowered}
use Rattle.rocks_version.specs.Texts.{is_version_byte}
use Rattle.rocks_constraint.specs.declared.constraint.Constraint.{Constraint}
use Rattle.rocks_constraint.specs.declared.fault.DependencyFault.TheVariants.{BadDependency}
use Rattle.rocks_constraint.specs.declared.reader.Wrong.{Wrong}
use Rattle.rocks_constraint.specs.declared.reader.Wrong.TheVariants as wrongs
use Rattle.rocks_constraint.specs.Alphabet.{is_blank, IsCut}
use Rattle.rocks_constraint.specs.Faults.{fault_at, HasWrongTail, IsWrong, no_name, behind_name}
use Rattle.rocks_constraint.specs.Grammar.{IsRead, IsTail}
use Rattle.rocks_constraint.proofs.Tails.{cut_length}

not_false : (b : Bool) → (b ≡ false → ⊥) → b ≡ true
not_false true h = refl
not_false false h = absurd (h refl)

module _ (text blanks from_name run behind given : List ℕ) (cut_blanks : IsCut is_blank text blanks from_name) (cut_name : IsCut is_version_byte from_name run behind) (is_given : given ≡ run) where
  pub parts_length : length text ≡ length blanks + length run + length behind
  parts_length =
      let one = cut_length is_blank text blanks from_name cut_blanks in
      let two = cut_length is_version_byte from_name run behind cut_name in
      omega arith

  pub name_wrong : is_name (lowered given) ≡ false → IsWrong text (BadDependency (length blanks))
  name_wrong bad = no_name text blanks from_name run behind cut_blanks cut_name (subst (λ (t : List ℕ). is_name (lowered t) ≡ false) is_given bad)

  is_one : (is_name (lowered given) ≡ false → ⊥) → is_name (lowered run) ≡ true
  is_one good = not_false (is_name (lowered run)) (λ bad. good (subst (λ (t : List ℕ). is_name (lowered t) ≡ false) (sym is_given) bad))

  pub name_read : (name : List ℕ) (constraints : List Constraint) → name ≡ lowered given → (is_name (lowered given) ≡ false → ⊥) → IsTail 0 behind constraints → IsRead text name constraints
  name_read name constraints value good tail =
      let lowers : name ≡ lowered run = value ∙ ap (λ (t : List ℕ). lowered t) is_given in
      record {
        blanks = blanks;
        from_name = from_name;
        run = run;
        behind = behind;
        cut_blanks = cut_blanks;
        cut_name = cut_name;
        lowers = lowers;
        is_one = ap (λ (t : List ℕ). is_name t) lowers ∙ is_one good;
        tail = tail;
      }

  pub behind_wrong : (wrong : Wrong) → (is_name (lowered given) ≡ false → ⊥) → (wrong ≡ wrongs.NoMemory) ⊎ HasWrongTail 0 (length blanks + length run) behind (fault_at wrong)
      → (wrong ≡ wrongs.NoMemory) ⊎ IsWrong text (fault_at wrong)
  behind_wrong wrong good cases =
      elim cases [
        | inl memory ↦ inl memory
        | inr bad ↦ inr (behind_name (length blanks + length run) text blanks from_name run behind (fault_at wrong) cut_blanks cut_name (is_one good) refl bad)
      ]
