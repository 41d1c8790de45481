use Rattle.rockspec.proofs.One.{has_name, has_version}
use Rattle.rockspec.proofs.laws.names_and_versions.Goals as goal

pub returns-clause-name : goal.returns-clause-name
returns-clause-name c = has_name

pub returns-clause-version : goal.returns-clause-version
returns-clause-version c = has_version
