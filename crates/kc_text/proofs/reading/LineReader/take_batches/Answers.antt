-- The next batch's lines are read behind the others.
use Rattle.std.proofs.Common.{◌≡◌, ℕ, List, [], ◌∷◌, ◌++◌, ◌+◌, map, length, ap, ◌∙◌, arith, append_assoc, length-append, refl, Vec, Global}
use Rattle.std.proofs.lemmas.List.{length-map}
use Rattle.kc_text.specs.declared.change.ChangeLine.{ChangeLine}
use Rattle.kc_text.specs.declared.line.TextLine.{TextLine}
use Rattle.kc_text.specs.declared.line.TextLine.TheVariants.{Batch, Change}
use Rattle.kc_text.proofs.Again.{batches-more, front-within, front_lines}
use Rattle.kc_text.proofs.ReadLines.{reads-then}
use Rattle.kc_text.proofs.reading.LineReader.take_batches.Goals as goal

pub take_next-requires-clause-few : goal.take_next-requires-clause-few
take_next-requires-clause-few c = omega (
  arith,
  c.loop-batch.invariant.lines,
  front-within c.args.batches.now c.loop-batch.batch-index c.batch-item.result c.loop-batch-test.true c.batch-item.is,
)

pub take_changes-requires-clause-few : goal.take_changes-requires-clause-few
take_changes-requires-clause-few c = omega (
  arith,
  c.loop-batch.invariant.lines,
  c.in_ok-take_next.ensures.lines,
  ap length c.deref.ensures.value,
  front-within c.args.batches.now c.loop-batch.batch-index c.batch-item.result c.loop-batch-test.true c.batch-item.is,
)

pub loop-batch-preserved : goal.loop-batch-preserved
loop-batch-preserved c =
    let bs : List (Vec ChangeLine Global) = c.args.batches.now in
    let i : ℕ = c.loop-batch.batch-index in
    let batch : Vec ChangeLine Global = c.batch-item.result in
    let front : List TextLine = front_lines bs i in
    let changes : List TextLine = map (λ c. Change c) c.deref.result.now in
    let more : (front ++ Batch ∷ []) ++ changes ≡ front_lines bs (i + 1) = append_assoc front (Batch ∷ []) changes
    ∙ ap (λ (cs : List ChangeLine). front ++ (Batch ∷ map (λ c. Change c) cs)) c.deref.ensures.value
    ∙ batches-more bs i batch c.loop-batch-test.true c.batch-item.is in
    record {
      reads = reads-then c.args.limits.now c.args.self.now c.take_next.new.self c.take_changes.new.self (front ++ Batch ∷ []) changes (front_lines bs (i + 1))
          more (reads-then c.args.limits.now c.args.self.now c.loop-batch.self c.take_next.new.self front (Batch ∷ []) (front ++ Batch ∷ []) refl
          c.loop-batch.invariant.reads c.in_ok-take_next.ensures.reads) c.in_ok-take_changes.ensures.reads;
      can = c.in_ok-take_changes.ensures.can;
      looks = c.in_ok-take_changes.ensures.looks ∙ (c.in_ok-take_next.ensures.looks ∙ c.loop-batch.invariant.looks);
      lines = omega (
        arith,
        c.loop-batch.invariant.lines,
        c.in_ok-take_next.ensures.lines,
        c.in_ok-take_changes.ensures.lines,
        ap length more,
        length-append (front ++ Batch ∷ []) changes,
        length-append front (Batch ∷ []),
        length-map c.deref.result.now (λ (c : ChangeLine). Change c),
      );
    }
