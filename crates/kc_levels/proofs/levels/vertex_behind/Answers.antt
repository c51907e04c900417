-- Heads are passed, and the first vertex behind is found.
use Rattle.kc_levels.proofs.Walking.{step-found, step-passed, step-none}
use Rattle.kc_levels.proofs.levels.vertex_behind.Goals as goal

pub returns-then-y-size : goal.returns-then-y-size
returns-then-y-size c = (
  step-found c.args.writer.now c.args.size c.args.x c.loop-y.at c.in-Some.y c.requires.legal c.loop-y.invariant.same c.in-Some.ensures.0
      c.in-Some.ensures.1 c.if-y-size.true,
  c.if-y-size.true,
)

pub loop-y-smaller : goal.loop-y-smaller
loop-y-smaller c =
    (step-passed c.args.writer.now c.args.size c.args.x c.loop-y.at c.in-Some.y c.requires.legal c.loop-y.invariant.same c.in-Some.ensures.0
    c.in-Some.ensures.1 c.if-y-size.false).1

pub loop-y-preserved : goal.loop-y-preserved
loop-y-preserved c = record {
  there = c.in-Some.ensures.1;
  same = (step-passed c.args.writer.now c.args.size c.args.x c.loop-y.at c.in-Some.y c.requires.legal c.loop-y.invariant.same c.in-Some.ensures.0
      c.in-Some.ensures.1 c.if-y-size.false).0;
}

pub returns : goal.returns
returns c = step-none c.args.writer.now c.args.size c.args.x c.loop-y.at c.requires.legal c.loop-y.invariant.same c.in_default.ensures
