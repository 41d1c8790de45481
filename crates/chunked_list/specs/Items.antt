-- A list in blocks of chunks as the list of its items.
use Rattle.std.specs.Prelude.{◌<◌, List, length}
use Rattle.std.specs.declared.vec.Vec.{Vec}
use Rattle.std.specs.declared.alloc.Global.{Global}
use Rattle.chunked_list.specs.Parts.{joined, AreParts}
use Rattle.chunked_list.specs.declared.block.Block.{Block}
use Rattle.chunked_list.specs.declared.list.ChunkedList.{ChunkedList}

abbrev pub chunk_items : {T : Type 0} → Vec T Global → List T
chunk_items chunk = chunk.items

abbrev pub block_items : {T : Type 0} → Block T → List T
block_items block = joined chunk_items block.chunks.items

abbrev pub items : {T : Type 0} → ChunkedList T → List T
items list = joined block_items list.blocks.items

abbrev pub HasItems : {T : Type 0} → Vec T Global → Type 0
HasItems chunk = 0 < length (chunk_items chunk)

-- a block has items, none of its chunks is empty, and it knows how many items it has
pub record IsBlock {T : Type 0} (block : Block T) : Type 0 where
  pub some : 0 < block.len
  pub chunks : AreParts chunk_items HasItems block.chunks.items block.len

-- what each call asks of a list that it takes, and gives of one that it answers
abbrev pub IsChunked : {T : Type 0} → ChunkedList T → Type 0
IsChunked list = AreParts block_items IsBlock list.blocks.items list.len
