-- The records so far are those of the stripe's first vertices, each true and as old as its opening stamp, and `vertex` comes next.
use Rattle.std.proofs.Common.{◌-◌, ◌≡◌}
use Rattle.kc_table.specs.Log.{opened_with}
use Rattle.kc_stripes.proofs.Keeping.{Filling}
use Rattle.kc_stripes.proofs.stripe.open_stripe.Given as goal

abbrev pub invariant-loop-vertex : goal.invariant-loop-vertex
invariant-loop-vertex l =
    (l.vertices ≡ l.graph.size) × Filling (opened_with l.words l.graph l.at.items) l.pass.log l.number l.vertex l.records.items

abbrev pub decreases-loop-vertex : goal.decreases-loop-vertex
decreases-loop-vertex l = l.vertices - l.vertex
