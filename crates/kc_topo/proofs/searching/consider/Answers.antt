-- The vertex is one of the list; where it is reached the trail is longer by it.
use Rattle.std.proofs.Common.{ap, arith, rules}
use Rattle.kc_order.specs.Standing.{list_after}
use Rattle.kc_topo.specs.Arcs.{arcs_after}
use Rattle.kc_topo.specs.Searching.{Trail}
use Rattle.kc_topo.proofs.Looking.{listed-low}
use Rattle.kc_topo.proofs.Trails.{trail-grows}
use Rattle.kc_topo.proofs.searching.consider.Goals as goal

pub has-requires : goal.has-requires
has-requires c =
    omega (
      arith,
      c.requires.size,
      listed-low c.args.writer.now.table c.args.writer.now.log c.requires.legal c.args.next
          (c.requires.dag.topological _ c.args.next c.requires.arc).second,
    )

pub push-requires-clause-within : goal.push-requires-clause-within
push-requires-clause-within c =
    omega (
      arith,
      c.requires.size,
      listed-low c.args.writer.now.table c.args.writer.now.log c.requires.legal c.args.next
          (c.requires.dag.topological _ c.args.next c.requires.arc).second,
    )

pub returns-clause-trail : goal.returns-clause-trail
returns-clause-trail c =
    trail-grows (arcs_after c.args.writer.now.table c.args.writer.now.log) (list_after c.args.writer.now.table c.args.writer.now.log) c.args.a c.args.b
    c.args.reached.now c.push.new.self c.args.next c.args.place c.requires.trail c.requires.place c.requires.arc (c.precedes.ensures.0 (search rules))
    (ap (λ (t : Trail). t.vertices) c.in_ok-push.ensures.ok) (ap (λ (t : Trail). t.parents) c.in_ok-push.ensures.ok)
