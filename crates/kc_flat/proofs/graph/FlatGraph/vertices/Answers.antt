-- The graph has a vertex for each of its parts.
use Rattle.std.proofs.Common.{arith}
use Rattle.kc_graph.proofs.RowsLemmas.{size-view}
use Rattle.kc_flat.specs.Parts.{parts_from}
use Rattle.kc_flat.proofs.Cutting.{length-parts}
use Rattle.kc_flat.proofs.graph.FlatGraph.vertices.Goals as goal

pub returns : goal.returns
returns c =
    omega (
      arith,
      c.len.ensures,
      c.self.inside.ends.ok.0,
      length-parts 0 c.self.inside.ends.items c.self.inside.block.items,
      size-view (parts_from 0 c.self.inside.ends.items c.self.inside.block.items) c.args.self.now c.self.view_is,
    )
