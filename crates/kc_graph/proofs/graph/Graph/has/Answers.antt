-- A number is in the row of a vertex just where it is its neighbour.
use Rattle.std.proofs.Common.{ap, sym, subst, ◌∙◌, arith}
use Rattle.std.specs.List.Sorted.{IsStrictlyIncreasing}
use Rattle.kc_lists.specs.Lists.{member}
use Rattle.kc_graph.proofs.RowsLemmas.{size-view, adjacent-view, place-found}
use Rattle.kc_graph.proofs.graph.Graph.has.Goals as goal

pub get-requires : goal.get-requires
get-requires c = omega (arith, size-view c.self.inside.rows c.args.self.now c.self.view_is)

pub place_in-requires : goal.place_in-requires
place_in-requires c = subst IsStrictlyIncreasing (sym c.get.ensures) (c.self.invariant.adjacency.ascends c.args.u)

pub returns : goal.returns
returns c =
    c.is_ok.ensures.value ∙ place-found c.get.result.now c.args.v c.place_in.result c.place_in.ensures
    ∙ ap (member c.args.v) c.get.ensures ∙ adjacent-view c.self.inside.rows c.args.self.now c.self.view_is c.self.invariant.adjacency c.args.u c.args.v
