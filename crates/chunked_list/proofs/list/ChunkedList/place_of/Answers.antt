use Rattle.std.proofs.Common.{◌≡◌, ◌-◌, ◌+◌, length, arith, subst}
use Rattle.chunked_list.specs.Items.{block_items, IsBlock}
use Rattle.chunked_list.specs.Parts.{before}
use Rattle.chunked_list.proofs.Parts.{is_part, part_is, size_is, place_next, place_here}
use Rattle.chunked_list.proofs.list.ChunkedList.place_of.Goals as goal

pub index-requires : goal.index-requires
index-requires g c =
    let l = c.loop-left in
    let inside = is_part block_items c.args.self.now.blocks.items l.block l.left c.args.at l.invariant c.requires.within in
    omega (arith, c.args.self.now.blocks.ok.0)

pub index-requires-in-loop-left : goal.index-requires-in-loop-left
index-requires-in-loop-left g c =
    let l = c.loop-left in
    let inside = is_part block_items c.args.self.now.blocks.items l.block l.left c.args.at l.invariant c.requires.within in
    omega (arith, c.args.self.now.blocks.ok.0)

pub len-requires : goal.len-requires
len-requires g c =
    let l = c.loop-left in
    let inside = is_part block_items c.args.self.now.blocks.items l.block l.left c.args.at l.invariant c.requires.within in
    part_is block_items IsBlock _ _ l.block _ inside c.index.ensures c.requires.whole

pub len-left-requires : goal.len-left-requires
len-left-requires g c =
    let l = c.loop-left in
    let inside = is_part block_items c.args.self.now.blocks.items l.block l.left c.args.at l.invariant c.requires.within in
    part_is block_items IsBlock _ _ l.block _ inside c.index-in-loop-left.ensures c.requires.whole

pub overflow_sub-left : goal.overflow_sub-left
overflow_sub-left g c =
    let bs = c.args.self.now.blocks.items in
    let l = c.loop-left in
    let inside = is_part block_items bs l.block l.left c.args.at l.invariant c.requires.within in
    omega (arith, size_is block_items bs l.block c.index.result.now inside c.index.ensures, size_is block_items bs l.block c.index-in-loop-left.result.now inside c.index-in-loop-left.ensures)

pub overflow_add-block : goal.overflow_add-block
overflow_add-block g c =
    let l = c.loop-left in
    let inside = is_part block_items c.args.self.now.blocks.items l.block l.left c.args.at l.invariant c.requires.within in
    omega (arith, c.args.self.now.blocks.ok.0)

pub loop-left-smaller : goal.loop-left-smaller
loop-left-smaller g c =
    let l = c.loop-left in
    let inside = is_part block_items c.args.self.now.blocks.items l.block l.left c.args.at l.invariant c.requires.within in
    omega arith

pub loop-left-preserved : goal.loop-left-preserved
loop-left-preserved g c =
    let bs = c.args.self.now.blocks.items in
    let l = c.loop-left in
    let w = c.index-in-loop-left.result.now in
    let inside = is_part block_items bs l.block l.left c.args.at l.invariant c.requires.within in
    subst (λ n. before block_items bs (l.block + 1) + (l.left - n) ≡ c.args.at) {x = length (block_items w)} {y = c.len-left.result} (omega arith)
    (place_next block_items bs l.block w inside c.index-in-loop-left.ensures c.args.at l.left l.invariant (omega (arith, overflow_sub-left g c)))

pub returns : goal.returns
returns g c =
    let bs = c.args.self.now.blocks.items in
    let l = c.loop-left in
    let inside = is_part block_items bs l.block l.left c.args.at l.invariant c.requires.within in
    place_here block_items bs l.block c.index.result.now inside c.index.ensures c.args.at l.left l.invariant (omega arith)
