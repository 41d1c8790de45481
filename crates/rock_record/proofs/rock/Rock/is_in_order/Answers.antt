use Rattle.rock_record.proofs.RockRecords.{rock_tests}
use Rattle.rock_record.proofs.rock.Rock.is_in_order.Goals as goal

pub returns : goal.returns
returns c =
    rock_tests c.args.self.now _ _ _ _ c.is_apart.result c.as_slice.ensures c.as_slice-2.ensures c.as_slice-3.ensures
    c.in_ok-rockspec.ensures
    (c.are_items_in_order.ensures.0 c.if-not-are_items_in_order.false)
    (c.are_files_in_order.ensures.0 c.if-not-are_files_in_order.false) c.is_apart.ensures
