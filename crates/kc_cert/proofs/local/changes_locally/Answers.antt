-- Moves that fit shift no vertex twice, so they have an arrangement.
use Rattle.kc_cert.proofs.Asking.{shifts_fit}
use Rattle.kc_cert.proofs.local.changes_locally.Goals as goal

pub of_moves-requires-clause-once : goal.of_moves-requires-clause-once
of_moves-requires-clause-once g c = (shifts_fit (g.S.State.state c.args.state.now) c.args.moves.now (c.in_ok-moves_fit.ensures.0 c.if-not-branch.false)).once
