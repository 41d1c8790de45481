use Rattle.std.proofs.Common.{◌≡◌, ◌-◌, ◌+◌, length, arith, subst}
use Rattle.chunked_list.specs.Items.{chunk_items}
use Rattle.chunked_list.specs.Parts.{before}
use Rattle.chunked_list.proofs.Parts.{is_part, size_is, place_next, place_here}
use Rattle.chunked_list.proofs.block.Block.place_of.Goals as goal

pub index-requires : goal.index-requires
index-requires g c =
    let l = c.loop-left in
    let inside = is_part chunk_items c.args.self.now.chunks.items l.chunk l.left c.args.at l.invariant c.requires in
    omega (arith, c.args.self.now.chunks.ok.0)

pub index-requires-in-loop-left : goal.index-requires-in-loop-left
index-requires-in-loop-left g c =
    let l = c.loop-left in
    let inside = is_part chunk_items c.args.self.now.chunks.items l.chunk l.left c.args.at l.invariant c.requires in
    omega (arith, c.args.self.now.chunks.ok.0)

pub overflow_sub-left : goal.overflow_sub-left
overflow_sub-left g c =
    let cs = c.args.self.now.chunks.items in
    let l = c.loop-left in
    let v = c.index.result.now in
    let w = c.index-in-loop-left.result.now in
    let inside = is_part chunk_items cs l.chunk l.left c.args.at l.invariant c.requires in
    omega (arith, size_is chunk_items cs l.chunk v inside c.index.ensures, size_is chunk_items cs l.chunk w inside c.index-in-loop-left.ensures, v.ok.0, w.ok.0)

pub overflow_add-chunk : goal.overflow_add-chunk
overflow_add-chunk g c =
    let l = c.loop-left in
    let inside = is_part chunk_items c.args.self.now.chunks.items l.chunk l.left c.args.at l.invariant c.requires in
    omega (arith, c.args.self.now.chunks.ok.0)

pub loop-left-smaller : goal.loop-left-smaller
loop-left-smaller g c =
    let l = c.loop-left in
    let inside = is_part chunk_items c.args.self.now.chunks.items l.chunk l.left c.args.at l.invariant c.requires in
    omega arith

pub loop-left-preserved : goal.loop-left-preserved
loop-left-preserved g c =
    let cs = c.args.self.now.chunks.items in
    let l = c.loop-left in
    let w = c.index-in-loop-left.result.now in
    let inside = is_part chunk_items cs l.chunk l.left c.args.at l.invariant c.requires in
    let len : c.len-left.result ≡ length w.items = omega (arith, w.ok.0) in
    subst (λ n. before chunk_items cs (l.chunk + 1) + (l.left - n) ≡ c.args.at) {x = length w.items} {y = c.len-left.result} (omega arith)
    (place_next chunk_items cs l.chunk w inside c.index-in-loop-left.ensures c.args.at l.left l.invariant (omega (arith, overflow_sub-left g c)))

pub returns : goal.returns
returns g c =
    let cs = c.args.self.now.chunks.items in
    let l = c.loop-left in
    let v = c.index.result.now in
    let inside = is_part chunk_items cs l.chunk l.left c.args.at l.invariant c.requires in
    place_here chunk_items cs l.chunk v inside c.index.ensures c.args.at l.left l.invariant (omega (arith, v.ok.0))
