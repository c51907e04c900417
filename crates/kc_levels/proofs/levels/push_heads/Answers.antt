-- One head after another.
use Rattle.std.proofs.Common.{◌∙◌}
use Rattle.kc_levels.proofs.Opening.{head-more}
use Rattle.kc_levels.proofs.levels.push_heads.Goals as goal

pub loop-level-preserved : goal.loop-level-preserved
loop-level-preserved c = c.in_ok-push.ensures.items
    ∙ head-more c.args.size c.args.from c.loop-level.level c.args.list.now.items c.loop-level.list.items c.loop-level.auto.level c.loop-level.invariant
