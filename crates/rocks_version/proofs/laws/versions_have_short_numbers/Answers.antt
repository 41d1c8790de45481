use Rattle.rocks_version.proofs.FaultLemmas.{none_if_version, version_if_none}
use Rattle.rocks_version.proofs.Numbers.{few_in_a_row}
use Rattle.rocks_version.proofs.Parts.{version_short}
use Rattle.rocks_version.proofs.laws.versions_have_short_numbers.Goals as goal

pub returns-clause-no_fault : goal.returns-clause-no_fault
returns-clause-no_fault c = λ text. (version_if_none text, none_if_version text)

pub returns-clause-short : goal.returns-clause-short
returns-clause-short c = λ before digits after version all. few_in_a_row before digits after (version_short _ version) all
