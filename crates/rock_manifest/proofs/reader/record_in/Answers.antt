use Rattle.rock_manifest.proofs.Again.{read_of}
use Rattle.rock_manifest.proofs.reader.record_in.Goals as goal

pub returns : goal.returns
returns c =
    read_of c.args.bytes.now _ _ _ _ _ _ _ _ _ c.in_ok-lua.ensures c.in_ok-lib.ensures c.in_ok-bin.ensures
    c.in_ok-own.ensures
    c.new-items.ensures c.in_ok-add_items.ensures c.in_ok-add_items-2.ensures c.in_ok-add_items-3.ensures
    c.from_vec.ensures
