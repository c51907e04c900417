-- The pairs so far are ends of updates.
use Rattle.std.proofs.Common.{◌<◌, ℕ, All}
use Rattle.kc_graph.specs.declared.update.Update.{Update}
use Rattle.kc_batch.proofs.order.insertions.Given as goal

abbrev pub invariant-loop-update : goal.invariant-loop-update
invariant-loop-update l = (n : ℕ) → All (λ (u : Update). u.v < n) l.fn.batch → All (λ (p : ℕ × ℕ). (p.0 < p.1) × (p.1 < n)) l.pairs.items
