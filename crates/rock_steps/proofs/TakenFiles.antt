-- The files that the steps of an unpacked rock make stand beside each other, and beside the rock's record and rockspec.
use Rattle.std.proofs.Common.{◌≡◌, ◌≢◌, ◌⊎◌, inl, inr, ⊎_elim, ℕ, List, [], ◌∷◌, ◌++◌, codes, drop, length, Bool, true, false, not, cond, Option, Some, None, refl, sym, ap, subst, ◌∙◌, if◌then◌else◌, append_assoc}
use Rattle.std.specs.Prelude.{Contains}
use Rattle.std.specs.List.{All, AllPairs, filter, filter_map, find}
use Rattle.std.specs.Str.{bytes_eq}
use Rattle.std.proofs.lemmas.Bool.{not_from_true, or_parts, false_from_ne_true}
use Rattle.std.proofs.lemmas.Bool.Decides.{Decides-eqb}
use Rattle.std.proofs.lemmas.List.Elements.{All-cons, All-contains, All-nil}
use Rattle.std.proofs.lemmas.List.Kept.{AllPairs-filter}
use Rattle.std.proofs.lemmas.Slice.Eq.{bytes_eq-Decides, starts_is}
use Rattle.rocks_text.specs.Paths.{joined}
use Rattle.rocks_text.specs.declared.item.Item.{Item}
use Rattle.rocks_text.specs.declared.item.Kind.{Kind}
use Rattle.rocks_text.specs.declared.item.Kind.TheVariants.{Lua, Lib, Bin}
use Rattle.rocks_outside.specs.Shelf.{IsFolderListing}
use Rattle.rock_parts.specs.Parts.{item_in, own_in}
use Rattle.rock_parts.specs.declared.parts.Part.{Part}
use Rattle.rock_parts.specs.declared.parts.Part.TheVariants as parts
use Rattle.rock_record.specs.Made.{AreBesideBoth, AreItemsApart, ArePathsApart, IsBeside}
use Rattle.rock_steps.specs.Steps.{is_bad, is_in, is_passed, taken_part}
use Rattle.rock_steps.proofs.InFolders.{in_from_folder}
use Rattle.rock_steps.proofs.Made.{ascending_differ, made_of, of_filter, pairs_made}

-- ---- what a path becomes

-- an item's path in the folder
abbrev front : Kind → List ℕ
front Lua = codes "lua/"
front Lib = codes "lib/"
front Bin = codes "bin/"

abbrev whole : Item → List ℕ
whole item = front item.kind ++ item.path

chosen : (b : Bool) (first : Item) (rest : Part) (item : Item) → item_in (if b then parts.Item first else rest) ≡ Some item
    → ((b ≡ true) × (first ≡ item)) ⊎ (item_in rest ≡ Some item)
chosen true first rest item is = let same : first ≡ item = cc in inl (refl, same)
chosen false first rest item is = inr is

passed_over : (b : Bool) (first : Item) (rest : Part) (own : List ℕ) → own_in (if b then parts.Item first else rest) ≡ Some own → own_in rest ≡ Some own
passed_over true first rest own is = absurd cc
passed_over false first rest own is = is

module _ (path : List ℕ) where
  begins : (folder : List ℕ) → is_in folder path ≡ true → path ≡ (folder ++ 47 ∷ []) ++ drop (length (folder ++ 47 ∷ [])) path
  begins folder inside = (starts_is Decides-eqb path (folder ++ 47 ∷ []) (is_in folder path) refl).0 inside

  pub taken_item : (item : Item) → item_in (taken_part path) ≡ Some item → path ≡ front item.kind ++ item.path
  taken_item item is =
      ⊎_elim (λ h. begins (codes "lua") h.0 ∙ ap whole h.1)
      (λ other. ⊎_elim (λ h. begins (codes "lib") h.0 ∙ ap whole h.1)
      (λ other. ⊎_elim (λ h. begins (codes "bin") h.0 ∙ ap whole h.1)
      (λ own. absurd cc)
      (chosen (is_in (codes "bin") path) (record { kind = Bin; path = drop 4 path }) (parts.Own path) item other))
      (chosen (is_in (codes "lib") path) (record { kind = Lib; path = drop 4 path }) _ item other))
      (chosen (is_in (codes "lua") path) (record { kind = Lua; path = drop 4 path }) _ item is)

  pub taken_own : (own : List ℕ) → own_in (taken_part path) ≡ Some own → path ≡ own
  taken_own own is =
      let last = passed_over (is_in (codes "bin") path) (record { kind = Bin; path = drop 4 path }) (parts.Own path) own
      (passed_over (is_in (codes "lib") path) (record { kind = Lib; path = drop 4 path }) _ own
      (passed_over (is_in (codes "lua") path) (record { kind = Lua; path = drop 4 path }) _ own is)) in
      cc last

all_fail : {X : Type 0} (test : X → Bool) (xs : List X) → find test xs ≡ None → All (λ x. test x ≡ false) xs
all_fail test [] none = All-nil (λ x. test x ≡ false)
all_fail test (x ∷ xs) none =
    elim (test x) as (λ b. test x ≡ b → cond b (Some x) (find test xs) ≡ None → All (λ y. test y ≡ false) (x ∷ xs)) [
      | true ↦ λ _ e. absurd cc
      | false ↦ λ no' e. All-cons (λ y. test y ≡ false) x xs no' (all_fail test xs e)
    ] refl none

-- ---- the whole folder

abbrev pub files : (rockspec : List ℕ) → (listing : List (List ℕ)) → List (List ℕ)
files rockspec listing = filter (λ path. not (is_passed rockspec path)) listing

abbrev pub item_of : List ℕ → Option Item
item_of path = item_in (taken_part path)

abbrev pub own_of : List ℕ → Option (List ℕ)
own_of path = own_in (taken_part path)

module _ (rockspec source : List ℕ) (listing : List (List ℕ)) (form : IsFolderListing source listing) where
  listed : (path : List ℕ) → Contains (files rockspec listing) path → Contains listing path
  listed path has = (of_filter (λ path. not (is_passed rockspec path)) listing path has).0

  files_differ : AllPairs (λ path other. path ≢ other) (files rockspec listing)
  files_differ =
      AllPairs-filter (λ path other. path ≢ other) (λ path. not (is_passed rockspec path)) listing (ascending_differ listing form.ascending)

  pub items_differ : AllPairs (λ item other. item ≢ other) (filter_map item_of (files rockspec listing))
  items_differ =
      pairs_made item_of (λ path other. path ≢ other) (λ item other. item ≢ other)
      (λ path again item other is is_other differ same.
      differ (taken_item path item is ∙ ap whole same ∙ sym (taken_item again other is_other)))
      (files rockspec listing) files_differ

  pub own_differ : AllPairs (λ path other. path ≢ other) (filter_map own_of (files rockspec listing))
  own_differ =
      pairs_made own_of (λ path other. path ≢ other) (λ path other. path ≢ other)
      (λ path again own other is is_other differ same. differ (taken_own path own is ∙ same ∙ sym (taken_own again other is_other)))
      (files rockspec listing) files_differ

  pub items_apart : AreItemsApart (filter_map item_of (files rockspec listing))
  items_apart item other has has_too kinds within =
      let upper = made_of item_of (files rockspec listing) item has in
      let lower = made_of item_of (files rockspec listing) other has_too in
      let is_upper = taken_item upper.0 item upper.2 in
      let is_lower = taken_item lower.0 other lower.2 in
      form.apart upper.0 lower.0 (listed upper.0 upper.1) (listed lower.0 lower.1) (
        within.0,
        is_lower ∙ ap (λ (kind : Kind). front kind ++ other.path) (sym kinds) ∙ ap (λ (l : List ℕ). front item.kind ++ l) within.1
            ∙ sym (append_assoc (front item.kind) item.path (47 ∷ within.0)) ∙ ap (λ (l : List ℕ). joined l within.0) (sym is_upper),
      )

  record IsOwn (path : List ℕ) : Type 0 where
    among : Contains listing path
    not_passed : is_passed rockspec path ≡ false

  is_own : (path : List ℕ) → Contains (filter_map own_of (files rockspec listing)) path → IsOwn path
  is_own path has =
      let from = made_of own_of (files rockspec listing) path has in
      let same = taken_own from.0 path from.2 in
      let found = of_filter (λ path. not (is_passed rockspec path)) listing from.0 from.1 in
      let kept = false_from_ne_true (is_passed rockspec from.0) (λ yes'. let clash = sym found.1 ∙ not_from_true (is_passed rockspec from.0) yes' in cc clash) in
      record { among = subst (Contains listing) same found.0; not_passed = ap (is_passed rockspec) (sym same) ∙ kept }

  pub own_apart : ArePathsApart (filter_map own_of (files rockspec listing))
  own_apart path other has has_too = form.apart path other (is_own path has).among (is_own other has_too).among

  module _ (none_bad : find (is_bad rockspec) listing ≡ None) where
    -- a path that isn't this file's, and not in it
    is_beside : (file path : List ℕ) → bytes_eq path file ≡ false → is_in file path ≡ false → IsBeside file path
    is_beside file path other out = (
      λ same. let clash = sym other ∙ (bytes_eq-Decides path file).1 same in cc clash,
      λ within. let clash = sym out ∙ in_from_folder file path within in cc clash,
    )

    pub own_beside : AreBesideBoth rockspec (filter_map own_of (files rockspec listing))
    own_beside path has =
        let own = is_own path has in
        let others = or_parts (bytes_eq path rockspec) (bytes_eq path (codes "rock_manifest")) own.not_passed in
        let good = All-contains (λ path. is_bad rockspec path ≡ false) listing path (all_fail (is_bad rockspec) listing none_bad) own.among in
        let outside = or_parts (is_in (codes "rock_manifest") path) (is_in rockspec path) good in
        (is_beside (codes "rock_manifest") path others.1 outside.0, is_beside rockspec path others.0 outside.1)
