use Rattle.rock_manifest.proofs.Again.{one_text}
use Rattle.rock_manifest.proofs.laws.one_record.Goals as goal

pub returns : goal.returns
returns c = one_text
