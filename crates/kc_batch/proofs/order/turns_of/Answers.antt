-- Each update is within the graph that was peeled.
use Rattle.std.proofs.Common.{◌<◌, ℕ, sym, subst}
use Rattle.std.proofs.lemmas.Option.{IfSome_then}
use Rattle.kc_graph.specs.declared.update.Update.{Update}
use Rattle.kc_batch.proofs.order.turns_of.Goals as goal

pub turn_of-requires : goal.turn_of-requires
turn_of-requires c =
    let update = c.update-item.result in
    let low : update.v < c.args.vertices = subst (λ (u : Update). u.v < c.args.vertices) (sym c.update-item.is)
    (c.requires.within c.loop-update.update-index update c.loop-update-test.true) in
    record { within = IfSome_then _ c.loop-update.invariant (λ p size. subst (λ (n : ℕ). update.v < n) (sym size) low) }
