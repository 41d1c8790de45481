-- The version of Lua is one.
use Rattle.std.proofs.Common.{◌≡◌, None, true, refl, codes}
use Rattle.rocks_version.specs.Faults.{fault_of}
use Rattle.rocks_version.specs.Texts.{body, has_form, has_revision, is_version}
use Rattle.rocks_version.proofs.FaultLemmas.{none_if_version}

is_one : is_version (codes "5.4-1") ≡ true
unfolding has_form body has_revision is_version
is_one = refl

pub no_fault : fault_of (codes "5.4-1") ≡ None
no_fault = none_if_version (codes "5.4-1") is_one
