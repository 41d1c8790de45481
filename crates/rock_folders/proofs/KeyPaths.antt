-- Which rock a path of a record names.
use Rattle.std.proofs.Common.{◌≡◌, ◌≢◌, ◌<◌, ℕ, zero, suc, Bool, true, false, not, ◌==◌, List, [], ◌∷◌, ◌++◌, length, get_or, codes, refl, sym, ap, subst, ◌∙◌, Some, None, Option, ⊎_elim, arith, lit<}
use Rattle.std.specs.Prelude.{◌&&◌, if◌then◌else◌}
use Rattle.std.specs.Str.{bytes_eq}
use Rattle.std.specs.Str.Pattern.{FindsTextPrefix, LacksTextAt, StripsPrefix}
use Rattle.std.proofs.lemmas.Bool.{and_parts, cases_Bool}
use Rattle.std.proofs.lemmas.Bool.Decides.{nat_tests}
use Rattle.std.proofs.lemmas.List.{append_cancel_left}
use Rattle.std.proofs.lemmas.Slice.Eq.{bytes_eq-Decides}
use Rattle.std.proofs.lemmas.Str.Pattern.{split_after, split_parts, IsSplitOnceResult}
use Rattle.rocks_text.proofs.Below.{strip_front}
use Rattle.rocks_text.specs.Texts.{is_name}
use Rattle.rocks_version.specs.Texts.{is_rock_version, is_version}
use Rattle.rocks_version.specs.declared.key.RockKey.{RockKey}
use Rattle.tree_sets.proofs.Folders.{has_no_slash, inner, name_slashless, own_path_is, version_slashless}
use Rattle.tree_sets.specs.Trees.{record_path}
use Rattle.rock_folders.specs.Found.{IsKeyAt, IsRecordAt, IsRockName}
use denote.Ref.{Bor}

abbrev pub record_name : List ℕ
record_name = codes "rock_manifest"

abbrev pub rocks_folder : List ℕ
rocks_folder = codes "lib/luarocks/rocks-5.4/"

-- ---- names and versions have no slash

pub a_version : (version : List ℕ) → is_rock_version version ≡ true → is_version version ≡ true
unfolding is_rock_version
a_version version is = (and_parts _ _ (and_parts _ _ is).0).0

differs : (b : ℕ) → not (b == 47) ≡ true → b ≢ 47
differs b other is = grind (arith, nat_tests)

no_slash_at : (text : List ℕ) → has_no_slash text ≡ true → (i : ℕ) → i < length text → get_or text i 0 ≢ 47
no_slash_at [] none i h = absurd (omega arith)
no_slash_at (b ∷ text) none zero h = differs b (and_parts (not (b == 47)) (has_no_slash text) none).0
no_slash_at (b ∷ text) none (suc i) h = no_slash_at text (and_parts (not (b == 47)) (has_no_slash text) none).1 i (omega arith)

pub name_uncut : (key : RockKey) → IsRockName key → (i : ℕ) → i < length key.name → get_or key.name i 0 ≢ 47
name_uncut key is = no_slash_at key.name (name_slashless key.name is.0)

pub version_uncut : (key : RockKey) → IsRockName key → (i : ℕ) → i < length key.version → get_or key.version i 0 ≢ 47
version_uncut key is = no_slash_at key.version (version_slashless key.version (a_version key.version is.1))

-- ---- the path of a record, from its front on

pub record_path_is : (key : RockKey) → record_path key ≡ rocks_folder ++ inner key record_name
record_path_is key = own_path_is key record_name

pub outside : (path text : List ℕ) → text ≡ path → LacksTextAt rocks_folder text 0 → (key : RockKey) → ¬ (IsRecordAt path key)
outside path text is lacks key at = lacks (inner key record_name) (is ∙ at.0 ∙ record_path_is key)

pub below_is : (path text below : List ℕ) → text ≡ path → StripsPrefix (FindsTextPrefix rocks_folder) text below → path ≡ rocks_folder ++ below
below_is path text below is strips = strip_front rocks_folder path rocks_folder text below refl is strips

pub inner_is : (path below : List ℕ) → path ≡ rocks_folder ++ below → (key : RockKey) → IsRecordAt path key → below ≡ inner key record_name
inner_is path below is key at = append_cancel_left rocks_folder below (inner key record_name) (sym is ∙ at.0 ∙ record_path_is key)

module _ (path below : List ℕ) (is : path ≡ rocks_folder ++ below) where
  -- no slash behind the folder
  pub unnamed : IsSplitOnceResult 47 below None → (key : RockKey) → ¬ (IsRecordAt path key)
  unnamed none key at =
      split_after 47 below key.name (key.version ++ 47 ∷ record_name) None none (lit< tt) (inner_is path below is key at) (name_uncut key at.1)

  module _ (name behind : Bor (List ℕ)) (cut : IsSplitOnceResult 47 below (Some (name, behind))) where
    pub named : (key : RockKey) → IsRecordAt path key → (name.now ≡ key.name) × (behind.now ≡ key.version ++ 47 ∷ record_name)
    named key at =
        split_after 47 below key.name (key.version ++ 47 ∷ record_name) (Some (name, behind)) cut (lit< tt) (inner_is path below is key at) (name_uncut key at.1)

    -- no second slash
    pub unversioned : IsSplitOnceResult 47 behind.now None → (key : RockKey) → ¬ (IsRecordAt path key)
    unversioned none key at =
        split_after 47 behind.now key.version record_name None none (lit< tt) (named key at).1 (version_uncut key at.1)

    module _ (version file : Bor (List ℕ)) (again : IsSplitOnceResult 47 behind.now (Some (version, file))) where
      pub versioned : (key : RockKey) → IsRecordAt path key → (version.now ≡ key.version) × (file.now ≡ record_name)
      versioned key at =
          split_after 47 behind.now key.version record_name (Some (version, file)) again (lit< tt) (named key at).1 (version_uncut key at.1)

      -- another file than a record
      pub other_file : bytes_eq file.now record_name ≡ false → (key : RockKey) → ¬ (IsRecordAt path key)
      other_file other key at = let same = (bytes_eq-Decides file.now record_name).1 (versioned key at).1 in cc

      whole : bytes_eq file.now record_name ≡ true → path ≡ record_path (record { name = name.now; version = version.now })
      whole same =
          let parts = split_parts 47 below (Some (name, behind)) cut (lit< tt) in
          let more = split_parts 47 behind.now (Some (version, file)) again (lit< tt) in
          let record_is = (bytes_eq-Decides file.now record_name).0 same in
          is ∙ ap (λ (l : List ℕ). rocks_folder ++ l)
          (parts.0 ∙ ap (λ (l : List ℕ). name.now ++ 47 ∷ l) (more.0 ∙ ap (λ (l : List ℕ). version.now ++ 47 ∷ l) record_is))
          ∙ sym (record_path_is (record { name = name.now; version = version.now }))

      -- the rock that the path names, if such names can be
      pub key_at : bytes_eq file.now record_name ≡ true → (found : Option RockKey)
          → found ≡ (if is_name name.now && is_rock_version version.now then Some (record { name = name.now; version = version.now }) else None)
          → IsKeyAt path found
      key_at same found is_found =
          ⊎_elim
          (λ yes. let names = and_parts (is_name name.now) (is_rock_version version.now) yes in
          let e : found ≡ Some (record { name = name.now; version = version.now }) = is_found ∙ ap (λ (b : Bool). if b then Some (record { name = name.now; version = version.now }) else None) yes in
          subst (IsKeyAt path) (sym e) (whole same, names))
          (λ lacks. let e : found ≡ None = is_found ∙ ap (λ (b : Bool). if b then Some (record { name = name.now; version = version.now }) else None) lacks in
          subst (IsKeyAt path) (sym e) (λ key at. clash key at lacks))
          (cases_Bool (is_name name.now && is_rock_version version.now))
        where
          clash : (key : RockKey) → IsRecordAt path key → (is_name name.now && is_rock_version version.now) ≡ false → ⊥
          clash key at lacks =
              let e = named key at in
              let f = versioned key at in
              let has : (is_name name.now && is_rock_version version.now) ≡ true = rw (e.0, f.0, at.1.0, at.1.1) refl in
              cc
