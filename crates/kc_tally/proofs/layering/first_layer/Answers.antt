-- A vertex that has few neighbours left comes at the end, and another one is passed.
use Rattle.kc_tally.proofs.TakingLayers.{first_more, first_skip}
use Rattle.kc_tally.proofs.layering.first_layer.Goals as goal
use Rattle.kc_tally.proofs.layering.first_layer.Goals.{then-left-v+in_ok-push, else-left-v}

pub loop-v-preserved : goal.loop-v-preserved
loop-v-preserved c = elim c.if-left-v.branch [
  | then-left-v+in_ok-push k ↦
      rw (k.layer-is, k.in_ok-push.ensures.items) (first_more c.args.core.now c.args.left.now _ c.loop-v.v c.loop-v.invariant k.if-left-v.true)
  | else-left-v k ↦ rw k.layer-is (first_skip c.args.core.now c.args.left.now _ c.loop-v.v c.loop-v.invariant k.if-left-v.false)
]
