-- Where there is no memory nothing was put.
use Rattle.std.proofs.Common.{[], sym, ◌∙◌, append-nil}
use Rattle.kc_base_tests.proofs.Stops.{begun-at_end}
use Rattle.kc_base_tests.proofs.echo.EchoReplier.end.Goals as goal

pub returns-in-Err-clause-put : goal.returns-in-Err-clause-put
returns-in-Err-clause-put c = (
  [],
  c.in-Err.ensures.items ∙ sym (append-nil c.args.out.now.items),
  λ fed h. (tt, begun-at_end fed (sym h ∙ c.if-self.false)),
)
