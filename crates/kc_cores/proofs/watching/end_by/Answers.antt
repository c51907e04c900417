-- The end is that of the case, whatever file stands in front and however many batches were refused.
use Rattle.std.specs.Prelude.{option_map}
use Rattle.kc_cores.proofs.watching.end_by.Goals as goal

pub returns-in-None : goal.returns-in-None
returns-in-None c = rw c.in-None.is (c.done_by.ensures (option_map (λ t. t.now) c.args.front.file) c.args.front.lines)

pub returns-in-Some : goal.returns-in-Some
returns-in-Some c = rw c.in-Some.is (c.refused_by.ensures c.args.refused_batches)
