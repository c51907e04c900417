-- The pairs are of vertices that are used, and those behind them are spare.
use Rattle.std.proofs.Common.{◌<◌, ℕ, List, length, ap, arith, ◌∙◌, subst, sym}
use Rattle.std.proofs.lemmas.Result.{IfOk-weaker}
use Rattle.std.specs.Prelude.{All}
use Rattle.std.specs.FinSet as set
use Rattle.kc_graph.specs.Growing.{with_vertices}
use Rattle.kc_graph.specs.SimpleGraph.{SimpleGraph}
use Rattle.kc_watch.proofs.start.graph_of.Goals as goal

pub from_pairs-requires : goal.from_pairs-requires
from_pairs-requires c =
    subst (λ (ps : List (ℕ × ℕ)). All (λ p. (p.0 < p.1) × (p.1 < c.with_spare-vertices.result)) ps) (sym c.edges.ensures)
    (λ i d low.
    let (less, below) = c.requires i d low in
    (less, omega (arith, below, c.with_spare-vertices.ensures.more, c.count.ensures.count, ap length c.ids.ensures)))

pub returns-clause-fits : goal.returns-clause-fits
returns-clause-fits c =
    IfOk-weaker c.decompose_owned.result _ _
    (λ lawful same.
    omega (
      arith,
      ap (λ (h : SimpleGraph). h.size) (same ∙ c.in_ok-graph.ensures),
      c.with_spare-vertices.ensures.more,
      c.count.ensures.count,
      ap length c.ids.ensures,
    ))
    c.decompose_owned.ensures.same

pub returns-clause-few : goal.returns-clause-few
returns-clause-few c =
    IfOk-weaker c.decompose_owned.result _ _
    (λ lawful same. omega (arith, ap (λ (h : SimpleGraph). h.size) (same ∙ c.in_ok-graph.ensures), c.with_spare-vertices.ensures.few))
    c.decompose_owned.ensures.same

pub returns-clause-graph : goal.returns-clause-graph
returns-clause-graph c =
    let n : ℕ = length c.args.gathered.now.ids in
    IfOk-weaker c.decompose_owned.result _ _
    (λ lawful same.
    ap (with_vertices n) (same ∙ c.in_ok-graph.ensures)
    ∙ ap (λ (ps : List (ℕ × ℕ)). let g : SimpleGraph = record { size = n; edges = set.from_list ps } in g) c.edges.ensures)
    c.decompose_owned.ensures.same
