-- The text is that of the batch between the accounts before it and behind it.
use Rattle.std.proofs.Common.{◌≡◌, ◌++◌, ℕ, List, length, ap, ◌∙◌, arith}
use Rattle.std.proofs.lemmas.Result.{on_ok_weaker}
use Rattle.kc_graph.specs.SimpleGraph.{SimpleGraph}
use Rattle.kc_text.specs.Deciding.{last_batch}
use Rattle.kc_text.specs.Inputs.{EdgeBatch}
use Rattle.kc_watch.specs.Accounts.{entered}
use Rattle.kc_watch.proofs.Ended.{ended-between, text-is}
use Rattle.kc_watch.proofs.kept.Kept.end_batch.Goals as goal

pub put_end_or_nothing-requires-clause-known : goal.put_end_or_nothing-requires-clause-known
put_end_or_nothing-requires-clause-known g c =
    omega (arith, c.vertices-known.ensures.size, c.requires.more, ap length (c.names.ensures ∙ c.ids.ensures))

pub put_end_or_nothing-requires-clause-size : goal.put_end_or_nothing-requires-clause-size
put_end_or_nothing-requires-clause-size g c =
    let names : length c.names.result.now ≡ length c.args.part.gathered.now.ids = ap length (c.names.ensures ∙ c.ids.ensures) in
    let size : c.enter.new.self.keeper.graph.size ≡ length c.args.part.gathered.now.ids = ap (λ (g : SimpleGraph). g.size) c.in_ok-effects.ensures.graph in
    omega (arith, names, size)

pub returns-clause-put : goal.returns-clause-put
returns-clause-put g c =
    let g : SimpleGraph = c.args.self.now.keeper.graph in
    let ids : List ℕ = c.args.part.gathered.now.ids in
    let batch : EdgeBatch = last_batch c.args.part.gathered.now.updates.items in
    let new : SimpleGraph = c.enter.new.self.keeper.graph in
    on_ok_weaker c.put_end_or_nothing.result
    (λ e before b.
    e before (entered before ids batch) (ended-between before c.args.part.number g ids batch b new c.in_ok-effects.ensures.graph c.vertices-known.result
    c.names.result.now c.enter.new.self.changes.cores.items c.vertices-known.ensures.size (c.names.ensures ∙ c.ids.ensures) c.in_ok-effects.ensures.moves)
    ∙ ap (λ (t : List ℕ). c.args.out.now.items ++ t) (text-is before c.args.part.number g ids batch b new c.in_ok-effects.ensures.graph c.args.options _
    (c.line-line.ensures g batch c.in_ok-effects.ensures.effects)))
    c.put_end_or_nothing.ensures.ok
