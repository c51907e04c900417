-- The ends of an insertion are within the graph.
use Rattle.std.proofs.Common.{◌<◌, ℕ, List, All, sym, subst}
use Rattle.kc_batch.proofs.order.peel.Goals as goal

pub from_pairs-requires : goal.from_pairs-requires
from_pairs-requires c =
    subst (λ (pairs : List (ℕ × ℕ)). All (λ (p : ℕ × ℕ). (p.0 < p.1) × (p.1 < c.args.vertices)) pairs) (sym c.deref.ensures.value)
    (c.in_ok-pairs.ensures.within c.args.vertices c.requires.within)
