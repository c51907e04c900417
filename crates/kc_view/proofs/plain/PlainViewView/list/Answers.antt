-- What is kept agrees with the state, so the list that was told is the row of the vertex in the graph.
use Rattle.kc_view.proofs.AtRest.{list_told}
use Rattle.kc_view.proofs.plain.PlainViewView.list.Goals as goal

pub returns : goal.returns
returns c = list_told c.self.invariant c.self.view_is c.args.w _ c.graph.ensures.graph c.neighbours.ensures c.requires.read
