-- Each turn lets one leave the queue, which never has more than all vertices, and keeps what holds between two turns.
use Rattle.std.proofs.Common.{◌≤◌, ◌<◌, length, arith}
use Rattle.kc_view.proofs.Keeping.{GoesOn-trans, answers-agreed}
use Rattle.kc_insert.proofs.Tidy.{queue-fits}
use Rattle.kc_insert.proofs.rising.Rising.take_turns.Goals as goal

pub loop-self-smaller : goal.loop-self-smaller
loop-self-smaller g c =
    let i = c.loop-self.invariant in
    let fits : length c.loop-self.self.queue.items ≤ (g.V.View.shown c.loop-self.view).size =
    queue-fits c.args.search.update (g.V.View.shown c.loop-self.view) c.loop-self.self i.tidy in
    let l : c.loop-self.self.turn < length c.loop-self.self.queue.items =
    omega (arith, c.len.ensures, c.loop-self-test.true) in
    omega (arith, fits, l, i.goes_on.lasts.same_size, c.in_ok-take_turn.ensures.turn)

pub loop-self-preserved : goal.loop-self-preserved
loop-self-preserved g c =
    let i = c.loop-self.invariant in
    let o = c.in_ok-take_turn.ensures in
    let e = c.take_turn.ensures.goes_on in
    record {
      goes_on = GoesOn-trans _ _ _ i.goes_on e;
      tidy = o.tidy;
      turns = λ s root lv a w b. o.turns s root lv a w (i.turns s root lv (answers-agreed _ _ s e.further a) w b);
    }
