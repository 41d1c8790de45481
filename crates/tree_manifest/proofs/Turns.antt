-- Loops over what is made of elements, each of which is found again.
use Rattle.std.proofs.Common.{◌≡◌, ℕ, ◌+◌, ◌*◌, ◌<◌, ◌≤◌, List, [], ◌∷◌, ◌++◌, length, drop, get_or, take, sym, ap, ◌∙◌, subst, map, Option, Some, None, IfSome}
use Rattle.std.specs.List.{All, flat_map}
use Rattle.std.specs.Prelude.{option_map}
use Rattle.std.specs.List.Sorted.{IsPermutation}
use Rattle.std.specs.Option.{option_to_list}
use Rattle.std.proofs.lemmas.List.Sorted.{All-permutation}
use Rattle.std.proofs.lemmas.List.{at_drop_more}
use Rattle.tree_manifest.specs.declared.groups.Depths.{Depths}
use Rattle.tree_manifest.specs.declared.groups.Gathered.{Gathered}
use Rattle.tree_manifest.specs.Reading.{with_line, with_lines}
use Rattle.std.proofs.lemmas.List.Elements.{All-append, All-cons, All-nil}
use Rattle.manifest_text.specs.declared.view.ViewRock.{ViewRock}
use Rattle.manifest_text.specs.Views.{IsPath, IsRockKey}
use Rattle.rocks_version.specs.declared.key.RockKey.{RockKey}
use Rattle.tree_manifest.specs.Forms.{need_texts}
use Rattle.tree_manifest.specs.Found.{ArePaths, AreRocks}
use Rattle.tree_manifest.proofs.Decoded.{IsNeed}
use Rattle.tree_manifest.proofs.Nth.{need_at, needs_all, nth, taken_all, Need}

-- What was found of the first texts is right: it is what they are made of, if they are made of anything.
pub record AreFound {X Y : Type 0} (f : X → Y) (P : X → Type 0) (ys : List Y) (at : ℕ) (found : List X) : Type 0 where
  pub valid : All P found
  pub known : (xs : List X) → All P xs → ys ≡ map f xs → found ≡ take at xs

grown_valid : {X : Type 0} (P : X → Type 0) (found : List X) (o : Option X) → All P found → IfSome o P
    → All P (found ++ option_to_list o)
grown_valid P found None all is = All-append P found [] all (All-nil P)
grown_valid P found (Some x) all is = All-append P found (x ∷ []) all (All-cons P x [] is (All-nil P))

module _ {X Y : Type 0} (f : X → Y) (P : X → Type 0) where
  pub turn : (ys : List Y) (at : ℕ) (y : Y) (found grown : List X) (o : Option X) → AreFound f P ys at found
      → at < length ys → y ≡ get_or ys at y → IfSome o P → ((x : X) → P x → y ≡ f x → o ≡ Some x)
      → grown ≡ found ++ option_to_list o → AreFound f P ys (at + 1) grown
  turn ys at y found grown o before within is valid finds e = record {
    valid = subst (All P) (sym e) (grown_valid P found o before.valid valid);
    known = λ xs all same.
        let n = nth f P xs ys at y same within is all in
        e ∙ ap (λ p. found ++ option_to_list p) (finds n.item n.good n.is)
        ∙ ap (λ l. l ++ n.item ∷ []) (before.known xs all same) ∙ sym n.more;
  }

  pub at_end : (ys : List Y) (at : ℕ) (found : List X) → AreFound f P ys at found → length ys ≤ at
      → (xs : List X) → All P xs → ys ≡ map f xs → found ≡ xs
  at_end ys at found before past xs all same = before.known xs all same ∙ taken_all f xs ys at same past

-- ---- pairs of texts

pub record AreNeeds (texts : List (List ℕ)) (at : ℕ) (found : List Need) : Type 0 where
  pub valid : All IsNeed found
  pub known : (needs : List Need) → All IsNeed needs → texts ≡ flat_map need_texts needs → found ≡ take at needs

pub needs_turn : (texts : List (List ℕ)) (at : ℕ) (met wanted : List ℕ) (found grown : List Need) (o : Option Need)
    → AreNeeds texts at found → 2 * at + 1 < length texts
    → met ≡ get_or texts (2 * at) met → wanted ≡ get_or texts (2 * at + 1) wanted
    → IfSome o IsNeed → ((need : Need) → IsNeed need → met ∷ wanted ∷ [] ≡ need_texts need → o ≡ Some need)
    → grown ≡ found ++ option_to_list o → AreNeeds texts (at + 1) grown
needs_turn texts at met wanted found grown o before within is are valid finds e = record {
  valid = subst (All IsNeed) (sym e) (grown_valid IsNeed found o before.valid valid);
  known = λ needs all same.
      let n = need_at IsNeed needs texts at met wanted same within is are all in
      e ∙ ap (λ p. found ++ option_to_list p) (finds n.item n.good n.is)
      ∙ ap (λ l. l ++ n.item ∷ []) (before.known needs all same) ∙ sym n.more;
}

pub needs_end : (texts : List (List ℕ)) (at : ℕ) (found : List Need) → AreNeeds texts at found
    → length texts ≤ 2 * at + 1 → (needs : List Need) → All IsNeed needs → texts ≡ flat_map need_texts needs
    → found ≡ needs
needs_end texts at found before past needs all same =
    before.known needs all same ∙ needs_all needs texts at same past

-- ---- what holds of paths and rocks

pub both_all : {X : Type 0} (P Q : X → Type 0) (xs : List X) → All P xs → All Q xs → All (λ x. P x × Q x) xs
both_all P Q xs all other k d within = (all k d within, other k d within)

abbrev pub IsProvided : List ℕ × List RockKey → Type 0
IsProvided path = IsPath path.0 × All IsRockKey path.1

pub all_provided : (paths : List (List ℕ × List RockKey)) → ArePaths paths → All IsProvided paths
all_provided paths is = both_all (λ p. IsPath p.0) (λ p. All IsRockKey p.1) paths is.are_paths is.are_keys

pub provided_all : (paths : List (List ℕ × List RockKey)) → All IsProvided paths → ArePaths paths
provided_all paths all = record {
  are_paths = λ k d within. (all k d within).0;
  are_keys = λ k d within. (all k d within).1;
}

abbrev pub IsRockView : ViewRock → Type 0
IsRockView rock = IsRockKey rock.key × All IsNeed rock.dependencies

pub all_rocks : (rocks : List ViewRock) → AreRocks rocks → All IsRockView rocks
all_rocks rocks is =
    both_all (λ r. IsRockKey r.key) (λ r. All IsNeed r.dependencies) rocks is.are_keys is.are_wanted

pub rocks_all : (rocks : List ViewRock) → All IsRockView rocks → AreRocks rocks
rocks_all rocks all = record {
  are_keys = λ k d within. (all k d within).0;
  are_wanted = λ k d within. (all k d within).1;
}

-- ---- lines

pub one_line_more : (name : List ℕ) (depths : Depths) (ls : List (List ℕ)) (n m : ℕ) (line : List ℕ)
    (before after total : Gathered) → m ≡ n + 1 → (n < length ls) × (line ≡ get_or ls n line)
    → with_lines name depths before (drop n ls) ≡ total → after ≡ with_line name depths before line
    → with_lines name depths after (drop m ls) ≡ total
one_line_more name depths ls n m line before after total e at so is =
    ap (λ (k : ℕ). with_lines name depths after (drop k ls)) e
    ∙ ap (λ (g : Gathered). with_lines name depths g (drop (n + 1) ls)) is
    ∙ sym (at_drop_more (with_lines name depths before) ls n line at.0
    ∙ ap (λ (l : List ℕ). with_lines name depths before (l ∷ drop (n + 1) ls)) (sym at.1))
    ∙ so

-- ---- parts that are found together

-- a path with rocks, where there is a path
abbrev pub with_keys : List RockKey → Option (List ℕ) → Option (List ℕ × List RockKey)
with_keys rocks o = option_map (λ path. (path, rocks)) o

pub provided_valid : (o : Option (List ℕ)) (rocks : List RockKey) → IfSome o IsPath → All IsRockKey rocks
    → IfSome (with_keys rocks o) IsProvided
provided_valid None rocks is all = tt
provided_valid (Some path) rocks is all = (is, all)

-- a rock with what it needs, where there is a rock
abbrev pub with_needs : List Need → Option RockKey → Option ViewRock
with_needs needs o = option_map (λ key. record { key = key; dependencies = needs }) o

pub rock_valid : (o : Option RockKey) (needs : List Need) → IfSome o IsRockKey → All IsNeed needs
    → IfSome (with_needs needs o) IsRockView
rock_valid None needs is all = tt
rock_valid (Some key) needs is all = (is, all)

-- rocks in another order
pub moved_rocks : (rocks moved others : List ViewRock) → IsPermutation rocks moved → others ≡ moved → AreRocks rocks
    → AreRocks others
moved_rocks rocks moved others same is are = subst AreRocks (sym is) (record {
  are_keys = All-permutation (λ r. IsRockKey r.key) rocks moved same are.are_keys;
  are_wanted = All-permutation (λ r. All IsNeed r.dependencies) rocks moved same are.are_wanted;
})
