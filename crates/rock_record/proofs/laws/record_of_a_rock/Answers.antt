use Rattle.rock_record.proofs.RockRecords.{record_of_rock}
use Rattle.rock_record.proofs.laws.record_of_a_rock.Goals as goal

pub returns : goal.returns
returns c = record_of_rock
