-- The next edge's line is read behind the others.
use Rattle.std.proofs.Common.{ℕ, List, ◌+◌, take, arith, ◌∙◌}
use Rattle.kc_text.specs.TellingLines.{edge_lines}
use Rattle.kc_text.proofs.Again.{edges-more}
use Rattle.kc_text.proofs.ReadLines.{reads-then}
use Rattle.kc_text.proofs.reading.LineReader.take_edges.Goals as goal

pub loop-a-preserved : goal.loop-a-preserved
loop-a-preserved c =
    let es : List (ℕ × ℕ) = c.args.edges.now in
    let i : ℕ = c.loop-a.a-index in
    record {
      reads = reads-then c.args.limits.now c.args.self.now c.loop-a.self c.take_next.new.self (edge_lines (take i es)) _ (edge_lines (take (i + 1) es))
          (edges-more es i (0, 0) c.loop-a-test.true) c.loop-a.invariant.reads c.in_ok-take_next.ensures.reads;
      can = c.in_ok-take_next.ensures.can;
      looks = c.in_ok-take_next.ensures.looks ∙ c.loop-a.invariant.looks;
      lines = omega (arith, c.in_ok-take_next.ensures.lines, c.loop-a.invariant.lines);
    }
