-- Items of which no two have one path.
use Rattle.std.proofs.Common.{◌≡◌, ℕ, List, ◌∷◌, ◌++◌, refl, sym, ◌∙◌, arith, codes}
use Rattle.std.proofs.lemmas.List.Prefix.{front_rest}
use Rattle.rocks_text.specs.declared.item.Item.{Item}
use Rattle.rocks_text.specs.declared.item.Kind.{Kind}
use Rattle.rocks_text.specs.declared.item.Kind.TheVariants.{Lua, Lib, Bin}
use Rattle.rocks_version.specs.declared.key.RockKey.{RockKey}
use Rattle.tree_paths.specs.Places.{place_of, flat_name, plain_path, versioned_path}

first_differs : (x y : ℕ) (xs ys : List ℕ) → x ∷ xs ≡ y ∷ ys → (x ≡ y → ⊥) → ⊥
first_differs x y xs ys e other = other cc

placed_apart : (kind other : Kind) (path rest : List ℕ) → place_of kind ++ path ≡ place_of other ++ rest → (kind ≡ other) × (path ≡ rest)
placed_apart Lua Lua path rest e = (refl, cc)
placed_apart Lua Lib path rest e = absurd (first_differs 115 108 _ _ e (omega arith))
placed_apart Lua Bin path rest e = absurd (first_differs 115 98 _ _ e (omega arith))
placed_apart Lib Lua path rest e = absurd (first_differs 108 115 _ _ e (omega arith))
placed_apart Lib Lib path rest e = (refl, cc)
placed_apart Lib Bin path rest e = absurd (first_differs 108 98 _ _ e (omega arith))
placed_apart Bin Lua path rest e = absurd (first_differs 98 115 _ _ e (omega arith))
placed_apart Bin Lib path rest e = absurd (first_differs 98 108 _ _ e (omega arith))
placed_apart Bin Bin path rest e = (refl, cc)

cut_front : (front rest other : List ℕ) → front ++ rest ≡ front ++ other → rest ≡ other
cut_front front rest other e = sym (front_rest (front ++ rest) front rest refl) ∙ front_rest (front ++ rest) front other e

pub plain_apart : (left right : Item) → plain_path left ≡ plain_path right → left ≡ right
plain_apart left right e =
    let same = placed_apart left.kind right.kind left.path right.path e in
    λ i. record { kind = same.0 i; path = same.1 i }

pub versioned_apart : (key : RockKey) (left right : Item) → versioned_path left key ≡ versioned_path right key → left ≡ right
versioned_apart key left right e =
    let same = placed_apart left.kind right.kind (flat_name key ++ (codes "-" ++ left.path)) (flat_name key ++ (codes "-" ++ right.path)) e in
    let paths = cut_front (codes "-") left.path right.path (cut_front (flat_name key) (codes "-" ++ left.path) (codes "-" ++ right.path) same.1) in
    λ i. record { kind = same.0 i; path = paths i }
