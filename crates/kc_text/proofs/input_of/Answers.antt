-- The updates that decide are the changes that decide, and the others are overruled.
use Rattle.std.proofs.Common.{◌<◌, ◌^◌, ℕ, List, length, map, sym, ap, subst, ◌∙◌, Vec, Global}
use Rattle.std.specs.Prelude.{All}
use Rattle.kc_graph.specs.declared.update.Update.{Update}
use Rattle.kc_text.specs.declared.change.ChangeLine.{ChangeLine}
use Rattle.kc_text.specs.Deciding.{last_batch}
use Rattle.kc_text.specs.Inputs.{numbered_change}
use Rattle.kc_text.proofs.Decided.{AreAllUpdates, all-numbered, all-short}
use Rattle.kc_text.proofs.input_of.Goals as goal
use Rattle.kc_text.proofs.input_of.Goals.{After-deref-4}

-- the updates are all changes of the batches
are-all : (c : After-deref-4) → AreAllUpdates c.args.ids.items c.args.batches.now c.in_ok-updates.updates.items
are-all c = c.in_ok-updates.ensures
    ∙ ap (λ (ids : List ℕ). map (λ (batch : Vec ChangeLine Global). map (numbered_change ids) batch.items) c.args.batches.now) c.deref-3.ensures.value

pub decide_batches-requires : goal.decide_batches-requires
decide_batches-requires c = subst (All (λ (batch : Vec Update Global). length batch.items < 2 ^ 32)) (sym c.deref-4.ensures.value)
    (all-short c.args.ids.items (2 ^ 32) c.args.batches.now c.in_ok-updates.updates.items
    (are-all (goal.at.decide_batches-requires c).After-deref-4) c.requires.short)

pub returns-clause-batches : goal.returns-clause-batches
returns-clause-batches c =
    c.in_ok-batches.ensures ∙ (ap (map (λ (batch : Vec Update Global). last_batch batch.items)) c.deref-4.ensures.value
    ∙ all-numbered c.args.ids.items c.args.batches.now c.in_ok-updates.updates.items (are-all (goal.at.returns-clause-batches c).After-deref-4)
    c.requires.batches)
