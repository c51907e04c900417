-- Counts of numbers are counts of vertices and of edges.
use Rattle.std.proofs.Common.{◌≡◌, ◌+◌, ◌∙◌, ap, arith, eqb, leb, length}
use Rattle.kc_graph.specs.Core.{greatest}
use Rattle.kc_answers.proofs.Levels.{below-next}
use Rattle.kc_cores.proofs.Sizing.{count-edges, count-vertices}
use Rattle.kc_cores.proofs.sizes.sizes_of.Goals as goal

pub edges_at_least-requires-clause-within : goal.edges_at_least-requires-clause-within
edges_at_least-requires-clause-within c = below-next c.args.core.now (c.greatest.result + 1) (omega (arith, c.greatest.ensures))

pub counts_of-requires : goal.counts_of-requires
counts_of-requires c = below-next c.args.core.now (c.greatest.result + 1) (omega (arith, c.greatest.ensures))

pub returns : goal.returns
returns c =
    let levels : c.greatest.result + 1 ≡ greatest c.args.core.now + 1 = omega (arith, c.greatest.ensures) in
    record {
      shell_levels = c.in_ok-shells.ensures.count ∙ levels;
      vertex_levels = c.in_ok-vertices.ensures.count ∙ ap length c.deref.ensures.value ∙ c.in_ok-shells.ensures.count ∙ levels;
      edge_levels = c.in_ok-edges.ensures.count ∙ levels;
      shells = λ k l. c.in_ok-shells.ensures.each k (omega arith) ∙ count-vertices (eqb k) c.args.core.now c.args.graph.now.size c.requires;
      vertices = λ k l.
          c.in_ok-vertices.ensures.each k (omega (arith, ap length c.deref.ensures.value, c.in_ok-shells.ensures.count))
          ∙ count-vertices (leb k) c.args.core.now c.args.graph.now.size c.requires;
      edges = λ k l. c.in_ok-edges.ensures.each k (omega arith) ∙ count-edges c.args.graph.now c.args.core.now k;
    }
