-- Each half has fewer threads.
use Rattle.std.proofs.Common.{◌+◌, ◌*◌}
use Rattle.kc_text.proofs.part.+fn-read_parts_in-join+arg2+fn-read_parts_in-join+arg3+read_parts_in.Given as goal

abbrev pub decreases-join+arg2 : goal.decreases-join+arg2
decreases-join+arg2 g l = 2 * l.half + 2

abbrev pub decreases-join+arg3 : goal.decreases-join+arg3
decreases-join+arg3 g l = 2 * l.others + 2

abbrev pub decreases-read_parts_in : goal.decreases-read_parts_in
decreases-read_parts_in g l = 2 * l.threads + 1
