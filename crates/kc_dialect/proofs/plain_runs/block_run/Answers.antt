-- One plain line more is behind the run.
use Rattle.std.proofs.Common.{List, ℕ, ◌/◌, ◌^◌, ◌∙◌, ap, drop, subst}
use Rattle.std.proofs.lemmas.List.{drop-drop}
use Rattle.kc_dialect.specs.Gaps.{AreGaps}
use Rattle.kc_dialect.proofs.Runs.{run-more, run-none}
use Rattle.kc_dialect.proofs.plain_runs.block_run.Goals as goal

pub loop-more-init : goal.loop-more-init
loop-more-init c = record {
  run = run-none c.args.separator c.args.bytes.now;
  behind = c.gaps_of-gaps.ensures;
}

pub loop-more-preserved : goal.loop-more-preserved
loop-more-preserved c =
    let bytes : List ℕ = c.args.bytes.now in
    let len : ℕ = c.loop-more.len in
    let more : ℕ = c.in-Some.more in
    record {
      run = run-more c.args.separator bytes c.split_at.result.1.now len c.loop-more.lines more c.split_at.ensures.back c.loop-more.invariant.run
          c.in-Some.ensures.plain;
      behind = subst (λ (t : List ℕ). AreGaps t (c.loop-more.gaps / 2 ^ more)) (ap (drop more) c.split_at.ensures.back ∙ drop-drop more len bytes)
          c.in-Some.ensures.behind;
    }
