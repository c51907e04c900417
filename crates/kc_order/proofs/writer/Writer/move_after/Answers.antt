-- One more of the last members has moved at each turn.
use Rattle.std.proofs.Common.{◌∙◌, ap, arith}
use Rattle.kc_table.specs.Log.{TableName}
use Rattle.kc_order.proofs.RunMoves.{moves-begin, moves-end, moves-on, next-differs, next-free, next-listed, next-room, next-within}
use Rattle.kc_order.proofs.writer.Writer.move_after.Goals as goal

pub loop-i-init : goal.loop-i-init
loop-i-init c = record {
  within = omega arith;
  moved = moves-begin c.self.inside.seat c.args.self.now c.args.run.now c.args.p c.self.view_is c.self.invariant.legal c.self.invariant.quiet;
}

pub put_after-requires-clause-table : goal.put_after-requires-clause-table
put_after-requires-clause-table c = c.loop-i.invariant.moved.table ∙ c.requires.table

pub put_after-requires-clause-x_in : goal.put_after-requires-clause-x_in
put_after-requires-clause-x_in c =
    next-within c.args.self.now c.loop-i.self c.args.words.now.shape c.args.run.now c.loop-i.i c.args.p (ap (λ (t : TableName). t.shape) c.requires.table)
    c.requires.run c.requires.p_in c.loop-i-test.true c.loop-i.invariant.within c.loop-i.invariant.moved

pub put_after-requires-clause-p_in : goal.put_after-requires-clause-p_in
put_after-requires-clause-p_in c =
    next-listed c.args.self.now c.loop-i.self c.args.words.now.shape c.args.run.now c.loop-i.i c.args.p (ap (λ (t : TableName). t.shape) c.requires.table)
    c.requires.run c.requires.p_in c.loop-i-test.true c.loop-i.invariant.within c.loop-i.invariant.moved

pub put_after-requires-clause-differ : goal.put_after-requires-clause-differ
put_after-requires-clause-differ c =
    next-differs c.args.self.now c.loop-i.self c.args.words.now.shape c.args.run.now c.loop-i.i c.args.p (ap (λ (t : TableName). t.shape) c.requires.table)
    c.requires.run c.requires.p_in c.loop-i-test.true c.loop-i.invariant.within c.loop-i.invariant.moved

pub put_after-requires-clause-versions : goal.put_after-requires-clause-versions
put_after-requires-clause-versions c =
    next-room c.args.self.now c.loop-i.self c.args.words.now.shape c.args.run.now c.loop-i.i c.args.p (ap (λ (t : TableName). t.shape) c.requires.table)
    c.requires.run c.requires.p_in c.loop-i-test.true c.loop-i.invariant.within c.loop-i.invariant.moved c.requires.versions

pub put_after-requires-clause-section : goal.put_after-requires-clause-section
put_after-requires-clause-section c =
    let free = next-free c.args.self.now c.loop-i.self c.args.words.now.shape c.args.run.now c.loop-i.i c.args.p
    (ap (λ (t : TableName). t.shape) c.requires.table)
    c.requires.run c.requires.p_in c.loop-i-test.true c.loop-i.invariant.within c.loop-i.invariant.moved in
    λ low. absurd (omega (arith, free, low))

pub loop-i-preserved : goal.loop-i-preserved
loop-i-preserved c = record {
  within = omega (arith, c.loop-i.invariant.within);
  moved = moves-on c.args.self.now c.loop-i.self c.args.words.now.shape c.args.run.now c.loop-i.i c.args.p (ap (λ (t : TableName). t.shape) c.requires.table)
      c.requires.run c.requires.p_in c.loop-i-test.true c.loop-i.invariant.within c.loop-i.invariant.moved c.put_after.new.self c.put_after.ensures;
}

pub returns : goal.returns
returns c =
    moves-end c.args.self.now c.loop-i.self c.args.words.now.shape c.args.run.now c.loop-i.i c.args.p (ap (λ (t : TableName). t.shape) c.requires.table)
    c.requires.run c.requires.p_in c.loop-i-test.false c.loop-i.invariant.moved
