-- Each turn is two steps more of the same work.
use Rattle.std.proofs.Common.{◌∙◌, length}
use Rattle.kc_table.proofs.Prefixes.{prefix_trans}
use Rattle.kc_batch.proofs.Working.{keeps-nothing, picks-kept, works-trans}
use Rattle.kc_batch.proofs.seat.Seat.work.Goals as goal

pub loop-init : goal.loop-init
loop-init g c = record { works = picks-kept _ _ _ _ _ _ c.requires.ready.legal; ready = c.requires.ready; queue = c.requires.queue }

pub returns-in_default-clause-works : goal.returns-in_default-clause-works
returns-in_default-clause-works g c =
    works-trans _ _ _ _ _ c.args.self.now c.loop.self c.pick.new.self c.requires.ready.told c.loop.invariant.works c.pick.ensures.works

pub returns-then-not-enter-clause-works : goal.returns-then-not-enter-clause-works
returns-then-not-enter-clause-works g c =
    works-trans _ _ _ _ _ c.args.self.now c.loop.self c.enter.new.self c.requires.ready.told c.loop.invariant.works
    (works-trans _ _ _ _ _ c.loop.self c.pick.new.self c.enter.new.self c.loop.invariant.ready.told c.pick.ensures.works c.enter.ensures.works)

pub returns-then-ends_round-clause-works : goal.returns-then-ends_round-clause-works
returns-then-ends_round-clause-works g c =
    works-trans _ _ _ _ _ c.args.self.now c.loop.self c.enter.new.self c.requires.ready.told c.loop.invariant.works
    (works-trans _ _ _ _ _ c.loop.self c.pick.new.self c.enter.new.self c.loop.invariant.ready.told c.pick.ensures.works c.enter.ensures.works)

pub loop-preserved : goal.loop-preserved
loop-preserved g c =
    let w = works-trans _ _ _ _ _ c.loop.self c.pick.new.self c.enter.new.self c.loop.invariant.ready.told c.pick.ensures.works c.enter.ensures.works in
    record {
      works = works-trans _ _ _ _ _ c.args.self.now c.loop.self c.enter.new.self c.requires.ready.told c.loop.invariant.works w;
      ready = record {
        told = prefix_trans g.K.Name.log c.loop.self.seen.log c.enter.new.self.seen.log c.loop.invariant.ready.told w.longer;
        legal = w.legal;
        keeps = keeps-nothing (length c.args.turns.now.batch.updates.now) c.enter.new.self.work.left (c.enter.ensures.goes_on c.if-not-enter.false);
      };
      queue = w.queue ∙ c.loop.invariant.queue;
    }
