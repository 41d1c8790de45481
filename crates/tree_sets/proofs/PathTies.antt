-- The order of paths tells two of them apart exactly where they differ.
use Rattle.std.proofs.Common.{◌≡◌, ◌≢◌, ℕ, Bool, true, false, List, refl, sym, ◌∙◌}
use Rattle.std.proofs.lemmas.Map.Text.{is_eq-slice_cmp}
use Rattle.std.proofs.lemmas.Slice.Eq.{bytes_eq-Decides}
use Rattle.std.specs.Ordering.{eq_by_cmp}
use Rattle.rocks_text.specs.Files.{path_cmp}

pub by_bool : {P : Type 0} (b : Bool) → (b ≡ true → P) → (b ≡ false → P) → P
by_bool true here there = here refl
by_bool false here there = there refl

pub tied : (p q : List ℕ) → eq_by_cmp path_cmp p q ≡ true → p ≡ q
tied p q e = (bytes_eq-Decides p q).0 (sym (is_eq-slice_cmp p q) ∙ e)

pub ties : (p q : List ℕ) → p ≡ q → eq_by_cmp path_cmp p q ≡ true
ties p q e = is_eq-slice_cmp p q ∙ (bytes_eq-Decides p q).1 e

pub untied : (p q : List ℕ) → p ≢ q → eq_by_cmp path_cmp p q ≡ false
untied p q other = by_bool (eq_by_cmp path_cmp p q) (λ e. absurd (other (tied p q e))) (λ e. e)
