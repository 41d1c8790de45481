-- Which texts are names and versions as they stand.
use Rattle.std.proofs.Common.{◌≡◌, ℕ, Bool, true, false, not, ◌&&◌, List, [], ◌∷◌, length, codes, refl, sym, ap, ◌∙◌, Some, None, ⊎_elim, arith}
use Rattle.std.specs.Prelude.{nat_le, slice_index}
use Rattle.std.specs.List.{list_all}
use Rattle.std.specs.Char.{is_ascii_alphanumeric, to_ascii_lowercase}
use Rattle.std.specs.Str.{bytes_eq}
use Rattle.std.proofs.lemmas.Bool.{cases_Bool}
use Rattle.std.proofs.lemmas.Bool.Decides.{nat_tests}
use Rattle.std.proofs.lemmas.Slice.Eq.{bytes_eq-Decides}
use Rattle.rocks_text.specs.Texts.{is_name, is_name_byte, lowered}
use Rattle.rocks_version.specs.Faults.{fault_of}
use Rattle.rocks_version.specs.Texts.{is_rock_version, is_version}
use Rattle.rocks_version.specs.declared.fault.VersionFault.{VersionFault}
use Rattle.rocks_version.proofs.FaultLemmas.{none_if_version, version_if_none}

-- ---- names

left : (a b : Bool) → (a && b) ≡ true → a ≡ true
left true b h = refl
left false b h = cc

right : (a b : Bool) → (a && b) ≡ true → b ≡ true
right true b h = h
right false b h = cc

low_byte : (b : ℕ) → is_name_byte b ≡ true → to_ascii_lowercase b ≡ b
low_byte b h = grind (arith, nat_tests)

low_bytes : (name : List ℕ) → list_all is_name_byte name ≡ true → lowered name ≡ name
low_bytes [] all = refl
low_bytes (b ∷ bs) all =
    ap (λ (x : ℕ). x ∷ lowered bs) (low_byte b (left (is_name_byte b) (list_all is_name_byte bs) all))
    ∙ ap (λ (l : List ℕ). b ∷ l) (low_bytes bs (right (is_name_byte b) (list_all is_name_byte bs) all))

-- a name is in lower case
pub low_name : (name : List ℕ) → is_name name ≡ true → lowered name ≡ name
low_name name named =
    let front = left (nat_le 1 (length name) && nat_le (length name) 60 && is_ascii_alphanumeric (slice_index name 0) && list_all is_name_byte name) (not (bytes_eq name (codes "manifest"))) named in
    low_bytes name (right (nat_le 1 (length name) && nat_le (length name) 60 && is_ascii_alphanumeric (slice_index name 0)) (list_all is_name_byte name) front)

pub no_name_lowered : (text : List ℕ) → is_name (lowered text) ≡ false → is_name text ≡ false
no_name_lowered text none =
    ⊎_elim (λ yes. let clash = sym yes ∙ ap (λ (t : List ℕ). is_name t) (sym (low_name text yes)) ∙ none in cc) (λ otherwise. otherwise) (cases_Bool (is_name text))

pub no_name_apart : (text name : List ℕ) → name ≡ lowered text → bytes_eq name text ≡ false → is_name text ≡ false
no_name_apart text name lowers apart =
    ⊎_elim (λ yes. let clash = sym apart ∙ (bytes_eq-Decides name text).1 (lowers ∙ low_name text yes) in cc) (λ otherwise. otherwise) (cases_Bool (is_name text))

-- ---- versions

pub some_version : (text : List ℕ) → fault_of text ≡ None → is_version text ≡ true
some_version text none = version_if_none text none

pub no_version : (text : List ℕ) (fault : VersionFault) → fault_of text ≡ Some fault → is_version text ≡ false
no_version text fault some = ⊎_elim (λ yes. let two : None ≡ Some fault = sym (none_if_version text yes) ∙ some in cc) (λ otherwise. otherwise) (cases_Bool (is_version text))

pub no_rock_version : (text : List ℕ) → is_version text ≡ false → is_rock_version text ≡ false
unfolding is_rock_version
no_rock_version text other = rw other refl
