-- A write that fails took as much of the text as was kept.
use Rattle.std.proofs.Common.{◌++◌, ◌∙◌, ap, take}
use Rattle.kc_wire.specs.Events.{wrote}
use Rattle.kc_wire.specs.State.{WireState}
use Rattle.kc_wire.proofs.mem_wire.MemWireWire.write_all.Goals as goal

pub returns-in-Err-outcome-clause-history : goal.returns-in-Err-outcome-clause-history
returns-in-Err-outcome-clause-history c = (
  c.outcome-taken.result.0,
  c.outcome-taken.ensures.within.0,
  c.in-Ok.ensures.kept ∙ ap (λ (s : WireState). s.history ++ wrote (take c.outcome-taken.result.0 c.args.text.now)) c.self.view_is,
  tt,
)
