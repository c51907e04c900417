-- One number more is listed behind the others.
use Rattle.std.proofs.Common.{◌++◌, List, ap, sym, ◌∙◌}
use Rattle.std.specs.Prelude.{slice_index}
use Rattle.kc_answers.specs.Counted.{counted}
use Rattle.kc_answers.proofs.Levels.{counted-more}
use Rattle.kc_answers.proofs.sizes.list_counts.Goals as goal
use Rattle.kc_reply.specs.declared.level_size.LevelSize.{LevelSize}

pub loop-number-preserved : goal.loop-number-preserved
loop-number-preserved c =
    c.in_ok-list_count.ensures
    ∙ ap (λ (l : List LevelSize). l ++ counted c.loop-number.number (slice_index c.args.counts.now c.loop-number.number)) c.loop-number.invariant
    ∙ sym (counted-more c.args.counts.now c.loop-number.number)
