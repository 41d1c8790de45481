use Rattle.rocks_version.proofs.RevisionLaws.{body_read, revision_read, text_spelled, numeral_spelled, body_some}
use Rattle.rocks_version.proofs.laws.revisions_end_texts.Goals as goal

pub returns-clause-read : goal.returns-clause-read
returns-clause-read c = λ before digits some numeral. (body_read before digits some numeral, revision_read before digits some numeral)

pub returns-clause-spelled : goal.returns-clause-spelled
returns-clause-spelled c = λ text has. (_, text_spelled text has, numeral_spelled text has, body_some text has)
