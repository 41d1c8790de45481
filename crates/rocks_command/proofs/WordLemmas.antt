-- Which words are versions.
use Rattle.std.proofs.Common.{◌≡◌, ℕ, List, true, false, ◌∙◌, sym, refl, Some, None, ⊎_elim}
use Rattle.std.proofs.lemmas.Bool.{cases_Bool}
use Rattle.rocks_version.specs.Faults.{fault_of}
use Rattle.rocks_version.specs.Texts.{is_rock_version, is_version}
use Rattle.rocks_version.specs.declared.fault.VersionFault.{VersionFault}
use Rattle.rocks_version.proofs.FaultLemmas.{none_if_version, version_if_none}

pub some_version : (text : List ℕ) → fault_of text ≡ None → is_version text ≡ true
some_version text none = version_if_none text none

pub no_version : (text : List ℕ) (fault : VersionFault) → fault_of text ≡ Some fault → is_version text ≡ false
no_version text fault some = ⊎_elim (λ yes. let two : None ≡ Some fault = sym (none_if_version text yes) ∙ some in cc) (λ not. not) (cases_Bool (is_version text))

pub no_rock_version : (text : List ℕ) → is_version text ≡ false → is_rock_version text ≡ false
unfolding is_rock_version
no_rock_version text other = rw other refl
