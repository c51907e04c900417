-- What the entry moved was noted.
use Rattle.kc_published.proofs.Showing.{shows-entered}
use Rattle.kc_published.proofs.shown.Published.enter.Goals as goal

pub invariant_of-self-2 : goal.invariant_of-self-2
invariant_of-self-2 g c =
    shows-entered c.self.inside.journal c.enter.new.self c.self.inside.publisher c.self.inside.moved c.note.new.self c.args.index
    c.args.plan.now c.in_ok-entered.entered
    c.self.invariant
    c.in_ok-entered.ensures.entered
    c.note.ensures
