-- The shifts that are left make of the line and anchors so far what all shifts make of none, and may be made on them.
use Rattle.std.proofs.Common.{◌≡◌, [], drop, nat_eq}
use Rattle.std.specs.HashMap.{get}
use Rattle.kc_cert.specs.Shifting.{line_after, home_after, no_home}
use Rattle.kc_cert.proofs.Chaining.{Linked}
use Rattle.kc_cert.proofs.chains.line_of.Given as goal

abbrev pub invariant-loop-x : goal.invariant-loop-x
invariant-loop-x l = record {
  linked : Linked l.line.vertices.items (get nat_eq l.line.anchors) (drop l.x-index l.shifts);
  vertices : line_after l.line.vertices.items (drop l.x-index l.shifts) ≡ line_after [] l.shifts;
  anchors : home_after (get nat_eq l.line.anchors) (drop l.x-index l.shifts) ≡ home_after no_home l.shifts;
}
