-- The line tells of the graph that was gathered, which is what is kept but for spare vertices.
use Rattle.std.proofs.Common.{◌≡◌, ◌++◌, ℕ, length, ap, subst, sym, ◌∙◌, arith}
use Rattle.std.specs.FinSet as set
use Rattle.kc_graph.specs.Growing.{with_vertices}
use Rattle.kc_graph.specs.SimpleGraph.{SimpleGraph}
use Rattle.kc_report.specs.declared.Line.TheVariants as run
use Rattle.kc_reply.specs.Facts as fact
use Rattle.kc_reply.specs.Texts.{fact_text}
use Rattle.kc_watch.specs.Accounts.{top_of}
use Rattle.kc_watch.specs.Room.{AreEdgesBelow}
use Rattle.kc_watch.specs.Watching.{graph_gathered}
use Rattle.kc_watch.proofs.Spare.{edges-listed}
use Rattle.kc_watch.proofs.start.end_start.Goals as goal

pub open-requires-clause-fits : goal.open-requires-clause-fits
open-requires-clause-fits c = omega (arith, c.in_ok-lawful.ensures.fits, c.count-vertices.ensures.count, ap length c.ids.ensures)

pub open-requires-clause-edges : goal.open-requires-clause-edges
open-requires-clause-edges c =
    let g : SimpleGraph = graph_gathered c.args.gathered.now in
    let vertices : c.count-vertices.result ≡ g.size = c.count-vertices.ensures.count ∙ ap length c.ids.ensures in
    subst (λ (n : ℕ). AreEdgesBelow n c.in_ok-lawful.lawful.graph.edges) (sym vertices)
    (subst (λ (h : SimpleGraph). AreEdgesBelow g.size h.edges) (sym c.in_ok-lawful.ensures.graph)
    (edges-listed g.size c.args.gathered.now.edges.items c.requires))

pub returns-clause-kept : goal.returns-clause-kept
returns-clause-kept c =
    c.in_ok-keeper.ensures
    ∙ (ap (λ (n : ℕ). with_vertices n c.in_ok-lawful.lawful.graph) (c.count-vertices.ensures.count ∙ ap length c.ids.ensures)
    ∙ c.in_ok-lawful.ensures.graph)

pub returns-clause-put : goal.returns-clause-put
returns-clause-put c =
    let g : SimpleGraph = graph_gathered c.args.gathered.now in
    let kept : c.in_ok-keeper.keeper.graph ≡ g =
    c.in_ok-keeper.ensures
    ∙ (ap (λ (n : ℕ). with_vertices n c.in_ok-lawful.lawful.graph) (c.count-vertices.ensures.count ∙ ap length c.ids.ensures)
    ∙ c.in_ok-lawful.ensures.graph) in
    let vertices : c.count-vertices.result ≡ g.size = c.count-vertices.ensures.count ∙ ap length c.ids.ensures in
    let edges : c.edges.result ≡ set.len g.edges = c.edges.ensures ∙ ap (λ (h : SimpleGraph). set.len h.edges) kept in
    let top : c.top.result ≡ top_of g = c.top.ensures ∙ ap top_of kept in
    c.in_ok-put_reply_line.ensures.ok
    ∙ (λ i. c.args.out.now.items ++ fact_text c.args.format (fact.Summary (run.Graph (vertices i) (edges i) (top i))))
