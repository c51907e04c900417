-- The place of the turn that was taken comes next.
use Rattle.std.proofs.Common.{◌≡◌, ◌∙◌, ◌<◌, ◌++◌, ◌∷◌, ℕ, [], IfNone, Option, ap, get_or, subst, sym, arith}
use Rattle.std.proofs.lemmas.List.{get_or_default}
use Rattle.kc_queue.specs.declared.consumer.TheConstants.{PARTS}
use Rattle.kc_queue.specs.Shares.{Consuming, AreAllBelow}
use Rattle.kc_batch.specs.Desks.{at_turns}
use Rattle.kc_batch.proofs.Turning.{turn-below, turned-append, whole-length, whole-turned}
use Rattle.kc_batch.proofs.turns.TurnQueue.take.Given.{Over}
use Rattle.kc_batch.proofs.turns.TurnQueue.take.Goals.{After-index}
use Rattle.kc_batch.proofs.turns.TurnQueue.take.Goals as goal

pub returns-in_err-turn-clause-all : goal.returns-in_err-turn-clause-all
returns-in_err-turn-clause-all g c =
    let turns = c.args.self.now in
    let had = c.args.consumer.now in
    subst (λ (r : Option ℕ). IfNone r (had.parts ≡ PARTS → AreAllBelow turns.queue.count (at_turns turns.order.items had.taken)))
    (sym c.from_residual.ensures) (λ parts. whole-turned c.requires.order had.taken (c.in_err-turn.ensures.all parts))

pub index-requires : goal.index-requires
index-requires g c =
    let turns = c.args.self.now in
    omega (arith, c.in_ok-turn.ensures.below, whole-length turns.queue.count turns.order.items c.requires.order, turns.order.ok.0)

-- the place that was read is that of the turn
place-is : (g : Over) (c : After-index g) → c.index.result.now ≡ get_or c.args.self.now.order.items c.in_ok-turn.turn 0
place-is g c =
    let turns = c.args.self.now in
    let long = whole-length turns.queue.count turns.order.items c.requires.order in
    c.index.ensures
    ∙ get_or_default turns.order.items c.in_ok-turn.turn c.index.result.now 0 (omega (arith, c.in_ok-turn.ensures.below, long))

pub returns-clause-taken : goal.returns-clause-taken
returns-clause-taken g c =
    let order = c.args.self.now.order.items in
    let had = c.args.consumer.now.taken in
    let turn = c.in_ok-turn.turn in
    ap (λ (k : Consuming). at_turns order k.taken) c.in_ok-turn.ensures.taken
    ∙ (turned-append order had (turn ∷ [])
    ∙ ap (λ (place : ℕ). at_turns order had ++ place ∷ []) (sym (place-is g (goal.at.returns-clause-taken g c).After-index)))

pub returns-clause-below : goal.returns-clause-below
returns-clause-below g c =
    let turns = c.args.self.now in
    subst (λ (place : ℕ). place < turns.queue.count) (sym (place-is g (goal.at.returns-clause-below g c).After-index))
    (turn-below c.requires.order c.in_ok-turn.turn c.in_ok-turn.ensures.below)
