-- The listed edges are all that the graph has.
use Rattle.std.proofs.Common.{◌≡◌, ◌∙◌, List, ℕ, ap}
use Rattle.std.specs.FinSet as set
use Rattle.std.proofs.lemmas.Result.{IfOk-weaker}
use Rattle.kc_graph.specs.Growing.{with_vertices}
use Rattle.kc_graph.specs.SimpleGraph.{SimpleGraph, pair_cmp}
use Rattle.kc_watch.proofs.FirstEdges.{lists-all}
use Rattle.kc_watch.proofs.first_graph.without_spare.Goals as goal

pub returns : goal.returns
returns c =
    let n : ℕ = c.args.vertices in
    let g : SimpleGraph = c.args.graph.now in
    let made : set.FinSet pair_cmp → SimpleGraph = λ (es : set.FinSet pair_cmp). record { size = n; edges = es } in
    let listed : made (set.from_list c.deref.result.now) ≡ with_vertices n g =
    ap (λ (l : List (ℕ × ℕ)). made (set.from_list l)) c.deref.ensures.value
    ∙ ap made (lists-all g n c.requires.edges c.in_ok-edges.edges.items c.in_ok-edges.ensures) in
    IfOk-weaker c.from_pairs.result (λ first. first ≡ made (set.from_list c.deref.result.now)) (λ first. first ≡ with_vertices n g)
    (λ first is. is ∙ listed) c.from_pairs.ensures
