-- Each part ends in the block.
use Rattle.kc_flat.proofs.Cutting.{ends-within}
use Rattle.kc_flat.proofs.parts.part_of.Goals as goal

pub cut-requires-clause-within : goal.cut-requires-clause-within
cut-requires-clause-within c = ends-within c.args.ends.now c.args.block.now c.requires.fills c.args.v c.requires.v_in
