use Rattle.schema_table.proofs.Answered.{fits_later}
use Rattle.schema_table.proofs.laws.later_formats.Goals as goal

pub returns : goal.returns
returns c = fits_later c.args.rows.now c.args.table.now c.args.format c.args.later c.requires.older c.requires.fits
