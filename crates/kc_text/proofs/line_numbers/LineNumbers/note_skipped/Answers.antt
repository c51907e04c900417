-- A step more notes it.
use Rattle.std.proofs.Common.{refl, arith}
use Rattle.kc_text.proofs.Numbered.{step-noted}
use Rattle.kc_text.proofs.line_numbers.LineNumbers.note_skipped.Goals as goal

pub returns : goal.returns
returns c = step-noted c.args.self.now _ refl refl (omega arith) c.in_ok-push.ensures.items
