-- What is kept is entered in a fresh table, and what is left of the queue is given to the first.
use Rattle.std.proofs.Common.{◌∙◌, ap, subst, sym}
use Rattle.kc_queue.specs.Shares.{Consuming, IsShare, AreAllBelow}
use Rattle.kc_batch.specs.Desks.{at_turns}
use Rattle.kc_batch.proofs.Closing.{HasGiven, all-free, state-given, state-keeps, state-left, state-renewed, state-same, state-spent, given-keeps}
use Rattle.kc_batch.proofs.state.BatchState.go_on.Goals.{After-give}
use Rattle.kc_batch.proofs.state.BatchState.go_on.Given.{Over}
use Rattle.kc_batch.proofs.state.BatchState.go_on.Goals as goal

pub renew-requires-clause-spent : goal.renew-requires-clause-spent
renew-requires-clause-spent g c =
    let r = c.requires.1 in
    state-spent r.0 r.1.1.1.1.0.count r.1.1.0 r.1.1.1.0 r.1.0 c.in-Keeping.ensures.1

pub returns-in_err-renew-in-Keeping-clause-state : goal.returns-in_err-renew-in-Keeping-clause-state
returns-in_err-renew-in-Keeping-clause-state g c =
    let r = c.in_err-renew-in-Keeping.ensures in
    state-same r.same.0 r.same.1 r.same.2 r.consumer c.requires.1.0

pub returns-in_default-clause-whole : goal.returns-in_default-clause-whole
returns-in_default-clause-whole g c = λ e. (
  subst (λ (z : Consuming). AreAllBelow c.args.turns.now.queue.count (at_turns c.args.turns.now.order.items z.taken)) (sym c.in_default.ensures.none)
      (c.in_default.ensures.all c.requires.1.0.parts),
  all-free c.args.self.now.desks.items c.in-Free.ensures,
)

pub give-requires-clause-free : goal.give-requires-clause-free
give-requires-clause-free g c = all-free c.args.self.now.desks.items c.in-Free.ensures

pub returns-in_ok-renew-in-Keeping-clause-state : goal.returns-in_ok-renew-in-Keeping-clause-state
returns-in_ok-renew-in-Keeping-clause-state g c =
    let r = c.in_ok-renew-in-Keeping.ensures in
    state-renewed c.requires.1.0 r.renewed.2 r.renewed.1 (state-left c.requires.1.0 c.requires.1.1.1.1.1.0.count c.in-Keeping.ensures.1)
    r.of_words r.told r.works r.consumer

pub returns-in_ok-renew-in-Keeping-clause-keeps : goal.returns-in_ok-renew-in-Keeping-clause-keeps
returns-in_ok-renew-in-Keeping-clause-keeps g c = λ again.
    state-keeps (returns-in_ok-renew-in-Keeping-clause-state g c) (sym c.in_ok-renew-in-Keeping.ensures.works) c.in-Keeping.ensures.0

-- what the first worker was given
first_worker-given : (g : Over) (c : After-give g)
    → HasGiven c.args.turns.now c.in-Some.place c.args.self.now.desks.items c.give.new.self.desks.items c.args.self.now.consumer c.give.new.self.consumer
first_worker-given g c =
    let took = c.give.ensures.parts.1 in
    record {
      free = c.in-Free.ensures;
      gives = c.give.ensures.given;
      took = record {
        queue = ap (λ (z : Consuming). z.queue) took ∙ c.in-Some.ensures.same.0;
        parts = ap (λ (z : Consuming). z.parts) took ∙ c.in-Some.ensures.same.1;
        taken = ap (λ (z : Consuming). at_turns c.args.turns.now.order.items z.taken) took ∙ c.in-Some.ensures.taken;
        share = subst (λ (z : Consuming). IsShare c.args.turns.now.queue.count z.taken) (sym took) c.in-Some.ensures.share;
      };
      below = c.in-Some.ensures.below;
    }

pub returns-in-Some-clause-state : goal.returns-in-Some-clause-state
returns-in-Some-clause-state g c =
    state-given c.give.ensures.parts.0 c.requires.1.0 (first_worker-given g c)

pub returns-in-Some-clause-keeps : goal.returns-in-Some-clause-keeps
returns-in-Some-clause-keeps g c = λ again. given-keeps (first_worker-given g c)
