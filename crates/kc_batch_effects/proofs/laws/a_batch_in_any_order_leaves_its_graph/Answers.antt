-- In turn they are a batch, which has just the updates.
use Rattle.kc_batch_effects.proofs.InAnyOrder.{leaves-its-graph, leaves-its-graph_behind}
use Rattle.kc_batch_effects.proofs.laws.a_batch_in_any_order_leaves_its_graph.Goals as goal

pub returns-clause-alone : goal.returns-clause-alone
returns-clause-alone c = λ g vertices first batch made is_batch order. leaves-its-graph first vertices batch is_batch g made order

pub returns-clause-in_a_run : goal.returns-clause-in_a_run
returns-clause-in_a_run c = leaves-its-graph_behind
