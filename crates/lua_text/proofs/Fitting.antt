-- What holds of each member of a list that is two lists.
use Rattle.std.proofs.Common.{List, [], ◌∷◌, ◌++◌}
use Rattle.std.specs.List.{AllByRecursion}
use Rattle.lua_lexer.specs.declared.token.Token.{Token}
use Rattle.lua_lexer.specs.TokenLists.{FitsToken}

-- each token's integer or name is in range
abbrev pub Fit : List Token → Type 0
Fit tokens = AllByRecursion FitsToken tokens

pub fit_front : (a b : List Token) → Fit (a ++ b) → Fit a
fit_front [] b fit = tt
fit_front (token ∷ a) b fit = (fit.0, fit_front a b fit.1)

pub fit_back : (a b : List Token) → Fit (a ++ b) → Fit b
fit_back [] b fit = fit
fit_back (token ∷ a) b fit = fit_back a b fit.1

pub all_append : {A : Type 0} (P : A → Type 0) (a b : List A) → AllByRecursion P a → AllByRecursion P b → AllByRecursion P (a ++ b)
all_append P [] b front back = back
all_append P (one ∷ a) b front back = (front.0, all_append P a b front.1 back)
