-- Vertices that fall are told by `can_fall` as the moves' conditions tell them.
use Rattle.std.proofs.Common.{ℕ, List, sym, ◌∙◌}
use Rattle.kc_lists.specs.Lists.{Distinct}
use Rattle.kc_graph.specs.Lawful.{Ranked}
use Rattle.kc_graph.specs.declared.plan.Moves.{Moves}
use Rattle.kc_cert.proofs.FittingMoves.{fall_to, fall_from}
use Rattle.kc_cert.proofs.fitting.moves_fit.Goals as goal

pub returns : goal.returns
returns g c =
    let s : Ranked = g.S.State.state c.args.state.now in
    let moves : Moves = c.args.moves.now in
    let moved : List ℕ = c.args.moved.now in
    let once : Distinct moved = c.in_ok-places.ensures.once.0 (sym c.once.ensures ∙ c.if-not-once.false) in (
      λ t. fall_to s moves c.in-Fall.level c.in-Fall.fall moved c.in-Fall.is c.requires once (c.can_fall.ensures.0 t),
      λ h. c.can_fall.ensures.1 (fall_from s moves c.in-Fall.level c.in-Fall.fall moved c.in-Fall.is c.requires h),
    )
