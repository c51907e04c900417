-- Rows without a fault are rows, and their edges have vertices alone.
use Rattle.std.proofs.Common.{sym, ◌∙◌, arith, subst, List}
use Rattle.std.specs.Prelude.{◌≡◌, true, All}
use Rattle.kc_graph.specs.Bulk.{is_within}
use Rattle.kc_graph.specs.declared.bulk.Edge.{Edge}
use Rattle.kc_c.proofs.CsrRows.{faultless-rows, rows-within}
use Rattle.kc_c.proofs.rows.graph_of_rows.Goals as goal

pub edges_of_rows-requires : goal.edges_of_rows-requires
edges_of_rows-requires c = faultless-rows c.args.vertices c.args.offsets.now c.args.neighbours.now (sym c.csr_fault.ensures ∙ c.in_default.is)

pub from_edges-requires : goal.from_edges-requires
from_edges-requires c =
    let right = faultless-rows c.args.vertices c.args.offsets.now c.args.neighbours.now (sym c.csr_fault.ensures ∙ c.in_default.is) in
    subst (λ (edges : List Edge). All (λ e. is_within c.args.vertices e ≡ true) edges) (sym (c.deref.ensures.value ∙ c.in-Ok.ensures))
    (rows-within c.args.vertices c.args.offsets.now c.args.neighbours.now right.within c.args.vertices (omega arith))
