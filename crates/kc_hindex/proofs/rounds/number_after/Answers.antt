-- The row of the vertex is its list of neighbours, and the h-index of their numbers is at most the number that the vertex has.
use Rattle.std.proofs.Common.{◌∙◌, get_or, arith}
use Rattle.kc_graph.proofs.NeighbourLists.{row_within}
use Rattle.kc_hindex.proofs.Rows.{row_few, row_round}
use Rattle.kc_hindex.proofs.rounds.number_after.Goals as goal

pub h_index_of-requires-clause-within : goal.h_index_of-requires-clause-within
h_index_of-requires-clause-within c =
    λ k d l.
    omega (arith, row_within c.args.graph.now c.args.v c.neighbours.result.now c.neighbours.ensures k d l, c.requires.ready.one_each)

pub h_index_of-requires-clause-few : goal.h_index_of-requires-clause-few
h_index_of-requires-clause-few c =
    omega
    (arith, row_few c.args.graph.now c.args.v c.neighbours.result.now c.requires.within c.neighbours.ensures, c.vertices-vertices.ensures)

pub h_index_of-requires-clause-most : goal.h_index_of-requires-clause-most
h_index_of-requires-clause-most c =
    omega (
      arith,
      c.requires.ready.falls c.args.v c.requires.within,
      row_round c.args.graph.now (λ w. get_or c.args.numbers.now w 0) c.args.v c.neighbours.result.now c.neighbours.ensures,
    )

pub returns-clause-number : goal.returns-clause-number
returns-clause-number c =
    c.h_index_of.ensures
    ∙ row_round c.args.graph.now (λ w. get_or c.args.numbers.now w 0) c.args.v c.neighbours.result.now c.neighbours.ensures
