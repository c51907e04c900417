-- A record stays true of a longer log, and its list is one of its vertex.
use Rattle.std.proofs.Common.{◌≡◌, ◌-◌, ℕ, List, take, sym, ◌∙◌, subst}
use Rattle.std.proofs.lemmas.Bool.{false_from_ne_true, true≢false}
use mathlib.Core.List.{IsPrefix}
use Rattle.kc_lists.specs.Lists.{member}
use Rattle.kc_graph.specs.SimpleGraph.{SimpleGraph}
use Rattle.kc_graph.specs.Neighbours.{AreNeighbours}
use Rattle.kc_graph.specs.declared.used.UsedEdges.{UsedEdges}
use Rattle.kc_graph.proofs.Law.{adjacent-self}
use Rattle.kc_table.specs.declared.view.Event.{Event}
use Rattle.kc_table.specs.Edges.{edges_after}
use Rattle.kc_table.specs.TableState.{state_of}
use Rattle.kc_view.specs.Lists.{IsListOf}
use Rattle.kc_agree.specs.Reads.{WasList}
use Rattle.kc_agree.proofs.Growing.{list_stays}
use Rattle.kc_agree.proofs.Neighbouring.{size-after_all}
use Rattle.kc_stripes.specs.Records.{IsRecord}
use Rattle.kc_table.specs.Log.{Opened}

-- the neighbours of a vertex are a list of it
pub neighbours_list : (g : SimpleGraph) (v : ℕ) (ws : List ℕ) → AreNeighbours g v ws → IsListOf g.size v ws
neighbours_list g v ws h = record {
  ascends = h.ascending;
  within = h.within;
  others = false_from_ne_true (member v ws) (λ m. true≢false (sym m ∙ (h.exact v ∙ adjacent-self g v)));
}

-- what a record has is a list of its vertex, where the table opened with a graph of its vertices
pub was_list : (o : Opened) (log : List Event) (e : UsedEdges) → o.edges.size ≡ o.table.shape.fixed → WasList o.table o.edges log e
    → IsListOf o.table.shape.fixed e.vertex e.neighbours
was_list o log e size was =
    let g : SimpleGraph = edges_after o.edges o.table.shape o.table.opening log e.at in
    let entries = (state_of o.table.shape o.table.opening log).entries in
    let same : g.size ≡ o.table.shape.fixed = size-after_all o.edges (take (e.at - o.table.shape.base) entries) ∙ size in
    subst (λ (n : ℕ). IsListOf n e.vertex e.neighbours) same (neighbours_list g e.vertex e.neighbours was.list)

-- a record stays true of a longer log
pub record_stays : (o : Opened) (before log : List Event) (v : ℕ) (r : UsedEdges) → IsRecord o before v r → IsPrefix before log → IsRecord o log v r
record_stays o before log v r is pre = record {
  vertex = is.vertex;
  was = list_stays o.table o.edges before log r pre is.was;
  newer = is.newer;
}
