-- Paths that conflict.
use Rattle.std.proofs.Common.{◌≡◌, ℕ, Bool, true, false, List, refl, sym, ◌∙◌, inl, inr, ⊎_elim, IsTrue}
use Rattle.std.proofs.lemmas.Map.Text.{is_eq-slice_cmp}
use Rattle.std.proofs.lemmas.Slice.Eq.{bytes_eq-Decides}
use Rattle.std.specs.Prelude.{◌↔◌, ◌⊎◌}
use Rattle.std.specs.Cmp.Lexicographic.{slice_cmp}
use Rattle.std.specs.Ordering.{eq_by_cmp, nat_cmp}
use Rattle.rocks_text.specs.Paths.{IsFolderOf}
use Rattle.tree_paths.specs.Conflicts.{Conflicts}

pub tied : (p q : List ℕ) → eq_by_cmp (slice_cmp nat_cmp) p q ≡ true → p ≡ q
tied p q e = (bytes_eq-Decides p q).0 (sym (is_eq-slice_cmp p q) ∙ e)

pub ties : (p q : List ℕ) → p ≡ q → eq_by_cmp (slice_cmp nat_cmp) p q ≡ true
ties p q e = is_eq-slice_cmp p q ∙ (bytes_eq-Decides p q).1 e

-- what is left where the paths differ and the left one is no folder
pub untied_conflict : (p q : List ℕ) (above : Bool) → eq_by_cmp (slice_cmp nat_cmp) p q ≡ false → (IsFolderOf p q → ⊥) → IsTrue above ↔ IsFolderOf q p → IsTrue above ↔ Conflicts p q
untied_conflict p q above other not_below is =
    (λ is_above. inr (inr (is.0 is_above)), ⊎_elim (λ same. let clash = sym other ∙ ties p q same in absurd cc) (⊎_elim (λ below. absurd (not_below below)) is.1))
