-- One turn more: its change is written where it is a new one.
use Rattle.std.proofs.Common.{arith, ap, ◌∙◌}
use Rattle.kc_report.specs.declared.sizes.TheConstants.{TURNS}
use Rattle.kc_report.proofs.Turns.{changes-end, changes-turn, turns_state-end, turns_state-turn}
use Rattle.kc_report.proofs.Written.{has-new, has-old, with_turn-new, with_turn-old}
use Rattle.kc_report.proofs.drawing.draw_batch.Goals as goal
use Rattle.kc_report.proofs.drawing.draw_batch.Goals.{then-branch+in_ok-push, else-branch}

pub loop-preserved : goal.loop-preserved
loop-preserved c = record {
  changes = changes-turn c.args.edges.now TURNS c.loop.counter _ _ c.loop.changes.items c.if-branch.changes.items _ _ (omega arith)
      c.draw_change-change.ensures.change c.draw_change-change.ensures.state (elim c.if-branch.branch [
        | then-branch+in_ok-push w ↦ with_turn-new c.loop.pairs c.loop.changes.items _ _ _ c.loop.invariant.pairs c.in_ok-is_new.ensures.new w.if-branch.true
            (ap (λ v. v.items) w.changes-is ∙ w.in_ok-push.ensures.items)
        | else-branch w ↦ with_turn-old c.loop.pairs c.loop.changes.items _ _ _ c.loop.invariant.pairs c.in_ok-is_new.ensures.new w.if-branch.false
            (ap (λ v. v.items) w.changes-is)
      ]) c.loop.invariant.changes;
  state = turns_state-turn TURNS c.loop.counter _ _ _ (omega arith) c.draw_change-change.ensures.state c.loop.invariant.state;
  pairs = elim c.if-branch.branch [
    | then-branch+in_ok-push w ↦ has-new c.loop.pairs c.is_new.new.pairs c.loop.changes.items _ _ _ c.loop.invariant.pairs c.in_ok-is_new.ensures.pairs
        w.if-branch.true
        (ap (λ v. v.items) w.changes-is ∙ w.in_ok-push.ensures.items)
    | else-branch w ↦ has-old c.loop.pairs c.is_new.new.pairs c.loop.changes.items _ c.draw_change-change.result _ c.loop.invariant.pairs
        c.in_ok-is_new.ensures.pairs w.if-branch.false
        (ap (λ v. v.items) w.changes-is)
  ];
}

pub returns-clause-changes : goal.returns-clause-changes
returns-clause-changes c = changes-end c.args.edges.now TURNS c.loop.counter _ _ _ (omega arith) c.loop.invariant.changes

pub returns-clause-state : goal.returns-clause-state
returns-clause-state c = turns_state-end TURNS c.loop.counter _ _ (omega arith) c.loop.invariant.state
