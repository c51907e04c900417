-- The next change's line is read behind the others.
use Rattle.std.proofs.Common.{ℕ, List, false, ◌+◌, map, take, arith, ◌∙◌}
use Rattle.kc_text.specs.declared.change.ChangeLine.{ChangeLine}
use Rattle.kc_text.specs.declared.line.TextLine.TheVariants.{Change}
use Rattle.kc_text.proofs.Again.{changes-more}
use Rattle.kc_text.proofs.ReadLines.{reads-then}
use Rattle.kc_text.proofs.reading.LineReader.take_changes.Goals as goal

pub loop-change-preserved : goal.loop-change-preserved
loop-change-preserved c =
    let cs : List ChangeLine = c.args.batch.now in
    let i : ℕ = c.loop-change.change-index in
    record {
      reads = reads-then c.args.limits.now c.args.self.now c.loop-change.self c.take_next.new.self (map (λ c. Change c) (take i cs)) _
          (map (λ c. Change c) (take (i + 1) cs)) (changes-more cs i (record { add = false; a = 0; b = 0 }) c.loop-change-test.true)
          c.loop-change.invariant.reads c.in_ok-take_next.ensures.reads;
      can = c.in_ok-take_next.ensures.can;
      looks = c.in_ok-take_next.ensures.looks ∙ c.loop-change.invariant.looks;
      lines = omega (arith, c.in_ok-take_next.ensures.lines, c.loop-change.invariant.lines);
    }
