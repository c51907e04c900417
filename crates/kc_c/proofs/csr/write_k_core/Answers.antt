-- The vertices whose core number is no less than k are the k-core, and there are as many numbers as vertices.
use Rattle.std.proofs.Common.{ℕ, List, length, leb, arith, sym, ap, subst, ◌∙◌}
use Rattle.kc_graph.specs.Core.{AreCoreNumbers}
use Rattle.kc_graph.specs.SimpleGraph.{SimpleGraph}
use Rattle.kc_keeper.specs.Members.{places_where}
use Rattle.kc_keeper.proofs.MembersOfCores.{are_core_members}
use Rattle.kc_c.specs.Csr.{graph_of_rows}
use Rattle.kc_c.proofs.CsrRows.{rows-size}
use Rattle.kc_c.proofs.csr.write_k_core.Goals as goal

pub write_at_least-requires-clause-one_each : goal.write_at_least-requires-clause-one_each
write_at_least-requires-clause-one_each c =
    c.if-members-vertices.false
    ∙ sym (ap (λ (xs : List ℕ). length xs) c.deref.ensures.value
    ∙ (c.in-Ok.ensures.one_each ∙ rows-size c.args.vertices c.args.offsets.now c.args.neighbours.now _ c.in_ok-graph.ensures.graph))

pub write_at_least-requires-clause-few : goal.write_at_least-requires-clause-few
write_at_least-requires-clause-few c = omega (
  arith,
  ap (λ (xs : List ℕ). length xs) c.deref.ensures.value
      ∙ (c.in-Ok.ensures.one_each ∙ rows-size c.args.vertices c.args.offsets.now c.args.neighbours.now _ c.in_ok-graph.ensures.graph),
  c.ranges.vertices.fits,
)

pub returns-in-Ok-clause-done : goal.returns-in-Ok-clause-done
returns-in-Ok-clause-done c _ =
    are_core_members (graph_of_rows c.args.vertices c.args.offsets.now c.args.neighbours.now) c.in-Ok.core.items c.args.k _
    (subst (λ (g : SimpleGraph). AreCoreNumbers g c.in-Ok.core.items) c.in_ok-graph.ensures.graph c.in-Ok.ensures)
    (c.write_at_least.ensures.written ∙ ap (λ (core : List ℕ). places_where (leb c.args.k) core (length core)) c.deref.ensures.value)
