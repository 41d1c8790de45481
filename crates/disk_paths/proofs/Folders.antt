-- The folders that a path names, part by part.
use Rattle.std.proofs.Common.{◌≡◌, ◌<◌, ◌==◌, ℕ, List, [], ◌∷◌, ◌++◌, length, map, get_or, refl, sym, ap, ◌∙◌, arith, true, false, Bool, append_assoc, suc}
use Rattle.std.proofs.lemmas.List.{append-nil}
use Rattle.std.proofs.lemmas.Simd.{map-map}
use Rattle.disk_paths.specs.Places.{folders_of}

-- the bytes have no slash
abbrev pub HasNoSlash : (bytes : List ℕ) → Type 0
HasNoSlash bytes = (i : ℕ) → i < length bytes → get_or bytes i 0 ≡ 47 → ⊥

no_slash_first : (byte : ℕ) (bytes : List ℕ) → HasNoSlash (byte ∷ bytes) → (byte == 47) ≡ false
no_slash_first byte bytes none = by (byte == 47) refl
  where
    by : (b : Bool) → (byte == 47) ≡ b → (byte == 47) ≡ false
    by true e = absurd (none 0 (omega arith) (grind (arith, e)))
    by false e = e

no_slash_rest : (byte : ℕ) (bytes : List ℕ) → HasNoSlash (byte ∷ bytes) → HasNoSlash bytes
no_slash_rest byte bytes none = λ i within is. none (suc i) (omega arith) is

-- a part names no folder
pub folders-part : (part : List ℕ) → HasNoSlash part → folders_of part ≡ []
folders-part [] none = refl
folders-part (byte ∷ part) none = rw (no_slash_first byte part none, folders-part part (no_slash_rest byte part none)) refl

-- a part and a slash name a folder, and those behind have it in front
pub folders-joined : (part behind : List ℕ) → HasNoSlash part → folders_of (part ++ 47 ∷ behind) ≡ part ∷ map (λ folder. part ++ 47 ∷ folder) (folders_of behind)
folders-joined [] behind none = refl
folders-joined (byte ∷ part) behind none =
    rw (no_slash_first byte part none, folders-joined part behind (no_slash_rest byte part none))
    (ap (λ folders. (byte ∷ part) ∷ folders) (map-map (λ folder. byte ∷ folder) (λ folder. part ++ 47 ∷ folder) (folders_of behind)))

with_nothing : (folders : List (List ℕ)) → map (λ folder. [] ++ folder) folders ≡ folders
with_nothing [] = refl
with_nothing (folder ∷ folders) = ap (λ more. folder ∷ more) (with_nothing folders)

-- before the first part, all folders are those of the whole path
pub at_start : (found : List (List ℕ)) (at path : List ℕ) → found ≡ [] → at ≡ [] → found ++ map (λ folder. at ++ folder) (folders_of path) ≡ folders_of path
at_start found at path none start = rw (none, start) (with_nothing (folders_of path))

-- behind a part and its slash, which name one more folder
pub at_next : (found now all : List (List ℕ)) (at next rest part behind : List ℕ) → found ++ map (λ folder. at ++ folder) (folders_of rest) ≡ all → rest ≡ part ++ 47 ∷ behind → HasNoSlash part
    → now ≡ found ++ (at ++ part) ∷ [] → next ≡ (at ++ part) ++ 47 ∷ [] → now ++ map (λ folder. next ++ folder) (folders_of behind) ≡ all
at_next found now all at next rest part behind before is none more longer =
    let opened : map (λ folder. at ++ folder) (folders_of rest) ≡ (at ++ part) ∷ map (λ folder. next ++ folder) (folders_of behind) =
    rw (is, folders-joined part behind none, longer)
    (ap (λ folders. (at ++ part) ∷ folders) (map-map (λ folder. at ++ folder) (λ folder. part ++ 47 ∷ folder) (folders_of behind)
    ∙ regrouped (folders_of behind))) in
    rw more (append_assoc found ((at ++ part) ∷ []) (map (λ folder. next ++ folder) (folders_of behind)) ∙ ap (λ folders. found ++ folders) (sym opened) ∙ before)
  where
    regrouped : (folders : List (List ℕ)) → map (λ folder. at ++ (part ++ 47 ∷ folder)) folders ≡ map (λ folder. ((at ++ part) ++ 47 ∷ []) ++ folder) folders
    regrouped [] = refl
    regrouped (folder ∷ folders) = rw (regrouped folders) (ap (λ first. first ∷ map (λ folder. ((at ++ part) ++ 47 ∷ []) ++ folder) folders)
        (sym (append_assoc at part (47 ∷ folder)) ∙ sym (append_assoc (at ++ part) (47 ∷ []) folder)))

-- behind the last slash no folder is left
pub at_end : (found all : List (List ℕ)) (at rest : List ℕ) → found ++ map (λ folder. at ++ folder) (folders_of rest) ≡ all → HasNoSlash rest → found ≡ all
at_end found all at rest before none =
    sym (append-nil found) ∙ ap (λ folders. found ++ map (λ folder. at ++ folder) folders) (sym (folders-part rest none)) ∙ before
