use Rattle.rock_record.proofs.Places.{placed_at}
use Rattle.rock_record.proofs.rock.own_files.Goals as goal

pub returns : goal.returns
returns c =
    placed_at (c.args.rockspec, c.args.rockspec_digest) c.args.own.now _ _ _ _ _ _ _ c.count_below.ensures.value
    c.split_at.ensures.front c.split_at.ensures.back
    c.new-made.ensures c.in_ok-add_digested.ensures c.in_ok-push.ensures.ok c.in_ok-add_digested-2.ensures
