-- A turn makes the first of the shifts that were left, so what all of them come to is the same.
use Rattle.std.proofs.Common.{◌∙◌, nat_eq}
use Rattle.std.specs.HashMap.{get}
use Rattle.kc_cert.proofs.Chaining.{linked_next}
use Rattle.kc_cert.proofs.chains.line_of.Goals as goal

pub loop-x-preserved : goal.loop-x-preserved
loop-x-preserved c =
    let h =
    linked_next c.args.shifts.now c.loop-x.x-index c.loop-x.line.vertices.items c.shift.new.self.vertices.items
    (get nat_eq c.loop-x.line.anchors) (get nat_eq c.shift.new.self.anchors) c.loop-x-test.true
    c.loop-x.invariant.linked c.in_ok-shift.ensures.vertices c.in_ok-shift.ensures.anchors in
    record {
      linked = h.0;
      vertices = h.1 ∙ c.loop-x.invariant.vertices;
      anchors = h.2 ∙ c.loop-x.invariant.anchors;
    }
