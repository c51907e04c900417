-- Of each vertex the list of neighbours counts what the definition counts.
use Rattle.std.proofs.Common.{get_or, ap, arith, inl, inr}
use Rattle.std.proofs.lemmas.Bool.{false≢true, cases_eq}
use Rattle.kc_cert.proofs.Counts.{high_count}
use Rattle.kc_cert.proofs.conditions.has_enough_as_high.Goals as goal
use Rattle.kc_graph.specs.Certificate.{degree_as_high}
use Rattle.kc_graph.proofs.NeighbourLists.{row_within}
use Rattle.kc_lists.specs.Lists.{below}

pub at_least-requires : goal.at_least-requires
at_least-requires c = λ k d l. omega (arith, row_within c.args.graph.now c.loop-v.v c.neighbours.result.now c.neighbours.ensures k d l, c.requires)

pub returns-then-at_least-number : goal.returns-then-at_least-number
returns-then-at_least-number c = (
  λ h. absurd (false≢true h),
  λ enough.
      absurd
      (omega (
        arith,
        enough c.loop-v.v (omega arith),
        high_count c.args.graph.now c.loop-v.v c.args.core.now c.neighbours.result.now c.neighbours.ensures,
      )),
)

pub loop-v-preserved : goal.loop-v-preserved
loop-v-preserved c = λ u l. elim (cases_eq u c.loop-v.v) [
  | inl e ↦ omega (
    arith,
    high_count c.args.graph.now c.loop-v.v c.args.core.now c.neighbours.result.now c.neighbours.ensures,
    ap (λ x. get_or c.args.core.now x 0) e,
    ap (degree_as_high c.args.graph.now c.args.core.now (below c.args.graph.now.size)) e,
  )
  | inr ne ↦ c.loop-v.invariant u (omega arith)
]
