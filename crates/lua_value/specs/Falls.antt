-- Each table within a table is less deep than that one.
use Rattle.std.specs.Prelude.{◌≡◌, ◌≤◌, max, List, [], ◌∷◌, ◌++◌}
use Rattle.std.specs.declared.vec.Vec.{Vec}
use Rattle.std.specs.declared.alloc.Global.{Global}
use Rattle.chunked_list.specs.Items.{chunk_items, block_items}
use Rattle.chunked_list.specs.Parts.{joined}
use Rattle.chunked_list.specs.declared.block.Block.{Block}
use Rattle.std.proofs.Common.{arith}
use denote.Param.Weighed.{most}
use Rattle.lua_value.specs.declared.key.Key.{Key}
use Rattle.lua_value.specs.declared.table.Value.{Value}
use Rattle.lua_value.specs.declared.table.Value.TheVariants.{Nil, Bool, Int, Text, Table, the_data}
use Rattle.lua_value.specs.declared.table.Table.TheShapes.{weighed-Table-entries-at-3, weighed-Table-entries-at-4, weighed-Table-entries-at-7}
use Rattle.lua_value.specs.declared.table.Table.TheDeep.{deep-Value}
use Rattle.lua_value.specs.Depth.{value_depth, depth}
use Rattle.lua_value.specs.View.{datum, pairs_of}

deep_le-depth : (value : Value) → deep-Value value ≤ value_depth (datum value)
deep_le-depth Nil = omega arith
deep_le-depth (Bool b) = omega arith
deep_le-depth (Int n) = omega arith
deep_le-depth (Text bytes) = omega arith
deep_le-depth (Table ps) = omega arith

entries_le-depth : (es : List (Key × Value)) → most (λ (e : Key × Value). (weighed-Table-entries-at-3).weight the_data deep-Value e) es ≤ depth (pairs_of es)
entries_le-depth [] = omega arith
entries_le-depth (e ∷ es) = omega (arith, deep_le-depth e.1, entries_le-depth es)

depth-append : (xs ys : List (Key × Value)) → depth (pairs_of (xs ++ ys)) ≡ max (depth (pairs_of xs)) (depth (pairs_of ys))
depth-append [] ys = omega arith
depth-append (x ∷ xs) ys = omega (arith, depth-append xs ys)

chunk_le-depth : (chunk : Vec (Key × Value) Global) → (weighed-Table-entries-at-4).weight the_data deep-Value chunk ≤ depth (pairs_of chunk.items)
chunk_le-depth chunk = omega (arith, entries_le-depth chunk.items)

chunks_le-depth : (chunks : List (Vec (Key × Value) Global)) → most (λ (chunk : Vec (Key × Value) Global). (weighed-Table-entries-at-4).weight the_data deep-Value chunk) chunks ≤ depth (pairs_of (joined chunk_items chunks))
chunks_le-depth [] = omega arith
chunks_le-depth (chunk ∷ chunks) = omega (arith, chunk_le-depth chunk, chunks_le-depth chunks, depth-append chunk.items (joined chunk_items chunks))

block_le-depth : (block : Block (Key × Value)) → (weighed-Table-entries-at-7).weight the_data deep-Value block ≤ depth (pairs_of (block_items block))
block_le-depth block = omega (arith, chunks_le-depth block.chunks.items)

pub most_le-depth : (blocks : List (Block (Key × Value))) → most (λ (block : Block (Key × Value)). (weighed-Table-entries-at-7).weight the_data deep-Value block) blocks ≤ depth (pairs_of (joined block_items blocks))
most_le-depth [] = omega arith
most_le-depth (block ∷ blocks) = omega (arith, block_le-depth block, most_le-depth blocks, depth-append (block_items block) (joined block_items blocks))
