-- By the certificate of one vertex more, and the numbers one after the other.
use Rattle.kc_graph.proofs.Grown.{certified-more, graph-with_more, new-with_more, old-with_more}
use Rattle.kc_graph.proofs.grown_states_are_certified.Goals as goal

pub returns-clause-certified : goal.returns-clause-certified
returns-clause-certified c count s ends h = (certified-more count s ends h).0

pub returns-clause-graph : goal.returns-clause-graph
returns-clause-graph c count s = graph-with_more count s

pub returns-clause-old_numbers : goal.returns-clause-old_numbers
returns-clause-old_numbers c count s v low = old-with_more count s v low

pub returns-clause-new_numbers : goal.returns-clause-new_numbers
returns-clause-new_numbers c count s v high low = new-with_more count s v high low
