-- The lines of the edges come first, and then those of one batch after another.
use Rattle.std.proofs.Common.{◌++◌, ◌∙◌, ap, length, arith}
use Rattle.std.specs.List.{flat_map}
use Rattle.kc_report.specs.declared.sizes.TheConstants.{BATCHES, EDGE_LINES}
use Rattle.kc_report.specs.Generator.{batch_lines, drawn_batch}
use Rattle.kc_report.specs.Lines.{pair_line}
use Rattle.kc_report.proofs.Turns.{batches-end, batches-turn, length-edges, text-start}
use Rattle.kc_report.proofs.generator.generate.Goals as goal

pub loop-init : goal.loop-init
loop-init c = record {
  count = ap length c.in_ok-edges.ensures.edges ∙ length-edges EDGE_LINES c.new-draws.result.state;
  text = text-start c.args.number c.new-draws.result.state c.draw_edges.new.draws.state c.in_ok-edges.edges.items c.put_edges.new.out.items c.new-draws.ensures
      c.in_ok-edges.ensures.edges c.in_ok-edges.ensures.state
      (c.in_ok-put_edges.ensures ∙ ap (λ t. t ++ flat_map pair_line c.deref.result.now) c.new-text.ensures.items
      ∙ ap (flat_map pair_line) c.deref.ensures.value);
}

pub loop-preserved : goal.loop-preserved
loop-preserved c = record {
  count = c.loop.invariant.count;
  text = batches-turn c.in_ok-edges.edges.items BATCHES c.loop.counter _ _ _ _ _ (omega arith) c.in_ok-put_drawn_batch.ensures.state
      (c.in_ok-put_drawn_batch.ensures.text ∙ ap (λ edges. c.loop.text.items ++ batch_lines (drawn_batch edges c.loop.draws.state))
      c.deref-in-loop.ensures.value)
      c.loop.invariant.text;
}

pub returns : goal.returns
returns c = batches-end c.in_ok-edges.edges.items BATCHES c.loop.counter _ _ _ (omega arith) c.loop.invariant.text
