-- A number is in the row of a vertex just where it is its neighbour.
use Rattle.std.proofs.Common.{◌∙◌}
use Rattle.kc_graph.proofs.RowsLemmas.{place-found}
use Rattle.kc_graph.proofs.shared.SharedGraph.has.Goals as goal

pub returns : goal.returns
returns c =
    c.is_ok.ensures.value ∙ place-found c.neighbours.result.now c.args.v c.place_in.result c.place_in.ensures ∙ c.neighbours.ensures.exact c.args.v
