-- The steps of the places before the next are written, with what is still to come the whole schedule.
use Rattle.std.proofs.Common.{◌<◌, length, arith}
use Rattle.kc_relabel.proofs.Rising.{downs-no, downs-room, downs-step, downs-done}
use Rattle.kc_relabel.proofs.scheduling.list_shrinking.Goals as goal
use Rattle.kc_relabel.proofs.scheduling.list_shrinking.Goals.{then-new-place, else-new-place}

pub bounds-out-count : goal.bounds-out-count
bounds-out-count c =
    let room : c.loop-place.count < length c.args.old.now =
    downs-room c.args.old.now c.args.new.now c.loop-place.out c.loop-place.count c.loop-place.place (omega arith) (omega arith) c.if-new-place.true
    (omega arith) c.loop-place.invariant.1 in
    omega arith

pub loop-place-preserved : goal.loop-place-preserved
loop-place-preserved c =
    elim c.if-new-place.branch [
      | then-new-place w ↦
          let room : c.loop-place.count < length c.args.old.now =
          downs-room c.args.old.now c.args.new.now c.loop-place.out c.loop-place.count c.loop-place.place (omega arith) (omega arith) w.if-new-place.true
          (omega arith) c.loop-place.invariant.1 in
          rw (w.count-is, w.out-is) (
            omega arith,
            downs-step c.args.old.now c.args.new.now c.loop-place.out c.loop-place.count c.loop-place.place
                (omega arith) (omega arith) w.if-new-place.true (omega arith) c.loop-place.invariant.1,
          )
      | else-new-place w ↦
          rw (w.count-is, w.out-is) (
            omega arith,
            rw (← downs-no c.args.old.now c.args.new.now c.loop-place.place (omega arith) (omega arith) (omega (arith, w.if-new-place.false)))
                c.loop-place.invariant.1,
          )
    ]

pub returns-clause-front : goal.returns-clause-front
returns-clause-front c = downs-done c.args.old.now c.args.new.now c.loop-place.out c.loop-place.count c.loop-place.place (omega arith) c.loop-place.invariant.1
