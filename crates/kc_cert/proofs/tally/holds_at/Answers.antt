-- The later and the high ones that were tallied are those that the certificate counts, so the two comparisons are its conditions.
use Rattle.std.proofs.Common.{arith}
use Rattle.std.proofs.lemmas.Bool.{leb-true, le-leb}
use Rattle.kc_graph.specs.Lawful.{Ranked}
use Rattle.kc_cert.proofs.Asking.{asked-counted, holds_from_counts, few_later_counted, high_counted}
use Rattle.kc_cert.proofs.tally.holds_at.Goals as goal

pub returns-then-tally-number : goal.returns-then-tally-number
returns-then-tally-number g c =
    let s : Ranked = g.S.State.state c.args.state.now in
    let moves = c.args.arrangement.now.moves.now in
    let k = asked-counted s c.args.update moves c.args.z c.requires.certified c.requires.fit c.requires.vertex in (
      λ t.
          holds_from_counts s c.args.update moves c.args.z c.core-number.result c.tally_of-tally.result.later c.tally_of-tally.result.high k
          c.core-number.ensures c.tally_of-tally.ensures.later c.tally_of-tally.ensures.high c.if-tally-number.true
          (leb-true c.core-number.result c.tally_of-tally.result.high t),
      λ h.
          le-leb c.core-number.result c.tally_of-tally.result.high
          (high_counted s c.args.update moves c.args.z c.core-number.result c.tally_of-tally.result.high k c.core-number.ensures
          c.tally_of-tally.ensures.high h),
    )

pub returns-else-tally-number : goal.returns-else-tally-number
returns-else-tally-number g c =
    let s : Ranked = g.S.State.state c.args.state.now in
    let moves = c.args.arrangement.now.moves.now in
    let k = asked-counted s c.args.update moves c.args.z c.requires.certified c.requires.fit c.requires.vertex in (
      λ t. absurd (omega (arith, c.if-tally-number.false, leb-true c.tally_of-tally.result.later c.core-number.result t)),
      λ h.
          le-leb c.tally_of-tally.result.later c.core-number.result
          (few_later_counted s c.args.update moves c.args.z c.core-number.result c.tally_of-tally.result.later k c.core-number.ensures
          c.tally_of-tally.ensures.later h),
    )
