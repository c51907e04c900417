-- Each row ends within the entries, and the rows go on by one.
use Rattle.std.proofs.Common.{◌++◌, sym, ◌∙◌, ap₂, ℕ, List}
use Rattle.kc_graph.specs.declared.bulk.Edge.{Edge}
use Rattle.kc_c.specs.Csr.{row_edges}
use Rattle.kc_c.proofs.CsrRows.{ends-within, rows-next}
use Rattle.kc_c.proofs.rows.edges_of_rows.Goals as goal

pub row_of-requires-clause-ends : goal.row_of-requires-clause-ends
row_of-requires-clause-ends c = ends-within c.args.vertices c.args.offsets.now c.args.neighbours.now c.requires c.loop-v.v c.loop-v-test.true

pub loop-v-preserved : goal.loop-v-preserved
loop-v-preserved c =
    c.in_ok-push_row.ensures
    ∙ (ap₂ (λ (edges : List Edge) (entries : List ℕ). edges ++ row_edges c.loop-v.v entries) c.loop-v.invariant c.row_of.ensures
    ∙ sym (rows-next c.args.offsets.now c.args.neighbours.now c.loop-v.v))
