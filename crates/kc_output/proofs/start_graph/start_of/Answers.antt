-- Without its edges the input is as sound as it was.
use Rattle.std.proofs.Common.{ap, arith, length}
use Rattle.kc_output.proofs.start_graph.start_of.Goals as goal

pub returns-clause-sound : goal.returns-clause-sound
returns-clause-sound c = record {
  few_ids = c.requires.few_ids;
  edges = λ i d l. absurd (omega (arith, l, ap length c.new-start.ensures.items));
  few_batches = c.requires.few_batches;
  short_batches = c.requires.short_batches;
  few_updates = c.requires.few_updates;
  batches = c.requires.batches;
}
