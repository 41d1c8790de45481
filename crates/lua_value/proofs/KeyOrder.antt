-- The order of keys is total, and keys that compare as equal are equal.
use Rattle.std.proofs.Common.{◌≡◌, ℕ, Bool, true, false, List, [], ◌∷◌, refl, sym, ap, ◌∙◌, subst}
use Rattle.std.specs.declared.cmp.Ordering.{Ordering}
use Rattle.std.specs.declared.cmp.Ordering.TheVariants.{Less, Equal, Greater}
use Rattle.std.specs.Ordering.{nat_cmp, bool_cmp, ordering_then, ordering_reverse}
use Rattle.std.specs.Cmp.{IsTotalOrder}
use Rattle.std.specs.Cmp.Lexicographic.{slice_cmp}
use Rattle.std.proofs.lemmas.Cmp.{ranked, tied_itself}
use Rattle.lua_value.specs.declared.key.Key.{Key}
use Rattle.lua_value.specs.declared.key.Key.TheVariants.{Int, Text, Bool as Truth}
use Rattle.lua_value.specs.contracts.key.KeyOrd.TheImpl.{ghosts}
use Rattle.lua_value.specs.contracts.key.KeyOrd.TheImpl.Laws.{total-law}
use Rattle.lua_value.specs.Key.{key_cmp}

-- the order that `cmp` of keys goes by
pub key_cmp-derived : (a b : Key) → ghosts.cmp a b ≡ key_cmp a b
key_cmp-derived (Int a) (Int b) = refl
key_cmp-derived (Int a) (Text b) = refl
key_cmp-derived (Int a) (Truth b) = refl
key_cmp-derived (Text a) (Int b) = refl
key_cmp-derived (Text a) (Text b) = refl
key_cmp-derived (Text a) (Truth b) = refl
key_cmp-derived (Truth a) (Int b) = refl
key_cmp-derived (Truth a) (Text b) = refl
key_cmp-derived (Truth a) (Truth b) = refl

pub key_cmp_total : IsTotalOrder key_cmp
key_cmp_total = subst IsTotalOrder (λ i a b. key_cmp-derived a b i) total-law

nat_cmp-equal : (a b : ℕ) → nat_cmp a b ≡ Equal → a ≡ b
nat_cmp-equal a b e = ranked a b Equal (sym e)

bool_cmp-equal : (a b : Bool) → bool_cmp a b ≡ Equal → a ≡ b
bool_cmp-equal false false e = refl
bool_cmp-equal false true e = cc
bool_cmp-equal true false e = cc
bool_cmp-equal true true e = refl

then-equal : (o p : Ordering) → ordering_then o p ≡ Equal → (o ≡ Equal) × (p ≡ Equal)
then-equal Less p e = cc
then-equal Equal p e = (refl, e)
then-equal Greater p e = cc

slice_cmp-equal : (xs ys : List ℕ) → slice_cmp nat_cmp xs ys ≡ Equal → xs ≡ ys
slice_cmp-equal [] [] e = refl
slice_cmp-equal [] (y ∷ ys) e = cc
slice_cmp-equal (x ∷ xs) [] e = cc
slice_cmp-equal (x ∷ xs) (y ∷ ys) e =
    let both = then-equal (nat_cmp x y) (slice_cmp nat_cmp xs ys) e in
    let first = nat_cmp-equal x y both.0 in
    let rest = slice_cmp-equal xs ys both.1 in
    cc

pub key_cmp-equal : (a b : Key) → key_cmp a b ≡ Equal → a ≡ b
key_cmp-equal (Int a) (Int b) e = ap Int (nat_cmp-equal a b e)
key_cmp-equal (Int a) (Text b) e = cc
key_cmp-equal (Int a) (Truth b) e = cc
key_cmp-equal (Text a) (Int b) e = cc
key_cmp-equal (Text a) (Text b) e = ap Text (slice_cmp-equal a b e)
key_cmp-equal (Text a) (Truth b) e = cc
key_cmp-equal (Truth a) (Int b) e = cc
key_cmp-equal (Truth a) (Text b) e = cc
key_cmp-equal (Truth a) (Truth b) e = ap Truth (bool_cmp-equal a b e)

pub key_cmp-itself : (a : Key) → key_cmp a a ≡ Equal
key_cmp-itself a = tied_itself key_cmp_total a

pub key_cmp-trans : (a b c : Key) → key_cmp a b ≡ Less → key_cmp b c ≡ Less → key_cmp a c ≡ Less
key_cmp-trans = key_cmp_total.trans

pub less_turned : (a b : Key) → key_cmp a b ≡ Less → key_cmp b a ≡ Greater
less_turned a b e = key_cmp_total.antisymm b a ∙ ap ordering_reverse e

pub greater_turned : (a b : Key) → key_cmp a b ≡ Greater → key_cmp b a ≡ Less
greater_turned a b e = key_cmp_total.antisymm b a ∙ ap ordering_reverse e

pub equal_turned : (a b : Key) → key_cmp a b ≡ Equal → key_cmp b a ≡ Equal
equal_turned a b e = key_cmp_total.antisymm b a ∙ ap ordering_reverse e
