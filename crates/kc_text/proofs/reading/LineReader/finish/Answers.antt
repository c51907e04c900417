-- What the reader was told, its lists and its ids, is what was found.
use Rattle.std.proofs.Common.{refl}
use Rattle.std.proofs.lemmas.Result.{IfOk-weaker}
use Rattle.kc_text.proofs.Settled.{found-by}
use Rattle.kc_text.proofs.reading.LineReader.finish.Goals as goal

pub settled-requires : goal.settled-requires
settled-requires c =
    let (lines, reads) = c.requires in (
      lines,
      found-by c.args.limits.now c.args.self _ _ _ lines c.in_ok-edges.ensures.edges c.in_ok-edges.ensures.batches c.deref.ensures.value
          c.deref-2.ensures.value c.in_ok-ids.ensures refl reads,
    )

pub returns : goal.returns
returns c = IfOk-weaker c.settled.result _ _ (λ found settled lines reads. settled lines
    (found-by c.args.limits.now c.args.self _ _ _ lines c.in_ok-edges.ensures.edges c.in_ok-edges.ensures.batches c.deref.ensures.value
    c.deref-2.ensures.value c.in_ok-ids.ensures refl reads)) c.settled.ensures
