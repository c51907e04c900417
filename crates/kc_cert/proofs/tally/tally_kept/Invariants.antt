-- The tally counts, of the first `i` neighbours, those that are kept and stand later, and those that are kept and are as high.
use Rattle.std.proofs.Common.{◌≡◌, ◌&&◌, take, nat_le, get_or}
use Rattle.std.specs.Prelude.{count_by}
use Rattle.kc_graph.specs.Neighbours.{neighbours_of}
use Rattle.kc_graph.specs.Plans.{moved_by}
use Rattle.kc_cert.specs.Stands.{stands_after, keeps}
use Rattle.kc_cert.proofs.tally.tally_kept.Given as goal

abbrev pub invariant-loop-i : goal.invariant-loop-i
invariant-loop-i g l = record {
  later : l.tally.later ≡ count_by
      (λ y. keeps l.update l.z.vertex y && stands_after l.arrangement.moves.now (g.S.State.state l.state) l.z.vertex y)
      (take l.i (neighbours_of (g.S.State.state l.state).graph l.z.vertex));
  high : l.tally.high ≡ count_by
      (λ y. keeps l.update l.z.vertex y && nat_le l.z.number (get_or (moved_by l.arrangement.moves.now (g.S.State.state l.state)).core y 0))
      (take l.i (neighbours_of (g.S.State.state l.state).graph l.z.vertex));
}
