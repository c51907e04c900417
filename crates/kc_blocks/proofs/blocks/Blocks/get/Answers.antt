-- The entry is the block's, as far behind the block's start as its place is.
use Rattle.std.proofs.Common.{◌<◌, ◌+◌, length, arith, ◌∙◌, sym}
use Rattle.std.proofs.lemmas.List.{get_or_read}
use Rattle.kc_blocks.proofs.Placed.{IsFound, found, as-many, entry-at, some-block}
use Rattle.kc_blocks.proofs.blocks.Blocks.get.Goals.{After-row_known-1}
use Rattle.kc_blocks.proofs.blocks.Blocks.get.Goals as goal

-- the block, found
found-here : (c : After-row_known-1) → IsFound c.args.self.now.blocks.items c.block_of-block.result c.args.place c.index-2.result.now c.index.result.now
found-here c = found c.args.self.now _ _ _ _ c.requires.placed c.block_of-block.ensures c.index-2.ensures c.index.ensures

pub block_of-block-requires-clause-some : goal.block_of-block-requires-clause-some
block_of-block-requires-clause-some c = some-block c.args.self.now.blocks.items (omega arith)

pub index-requires-3 : goal.index-requires-3
index-requires-3 c =
    let f = found-here c in
    let l : c.args.place < c.index-2.result.now + length c.index.result.now.items = f.within c.requires.within in
    omega (arith, l, f.begun, c.index.result.now.ok.0)

pub returns : goal.returns
returns c =
    let f = found-here (goal.at.returns c).After-row_known-1 in
    let l : c.args.place < c.index-2.result.now + length c.index.result.now.items = f.within c.requires.within in
    get_or_read c.index.result.now.items _ _ (omega (arith, l, f.begun)) c.index-3.ensures 0
    ∙ sym (entry-at c.args.self.now.blocks.items _ _ _ _ c.args.place _ f.cut (omega (arith, f.begins, f.begun)) (omega (arith, l, f.begun)))

pub index-requires-2 : goal.index-requires-2
index-requires-2 c = omega (arith, c.block_of-block.ensures.there, as-many c.args.self.now c.requires.placed, c.args.self.now.starts.ok.0)

pub overflow_sub-place : goal.overflow_sub-place
overflow_sub-place c = (found-here c).begun
