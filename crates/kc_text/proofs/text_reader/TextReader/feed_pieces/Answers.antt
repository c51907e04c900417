-- Behind what was fed comes the next piece.
use Rattle.std.proofs.Common.{◌≡◌, ◌++◌, ◌∙◌, ℕ, List, ap, ap₂, append_assoc, subst}
use Rattle.std.proofs.lemmas.List.{take-append-drop}
use Rattle.kc_text.specs.Feeding.{WasFed}
use Rattle.kc_text.proofs.text_reader.TextReader.feed_pieces.Goals as goal

pub loop-rest-preserved : goal.loop-rest-preserved
loop-rest-preserved g c =
    let (front, is, was) = c.loop-rest.invariant.parts in
    let piece : List ℕ = c.split_at.result.0.now in
    let more : List ℕ = c.split_at.result.1.now in
    let cut : piece ++ more ≡ c.loop-rest.rest.now = ap₂ (λ (a b : List ℕ). a ++ b) c.split_at.ensures.front c.split_at.ensures.back
    ∙ take-append-drop c.min.result c.loop-rest.rest.now in
    record {
      parts = (
        front ++ piece,
        append_assoc front piece more ∙ ap (λ (l : List ℕ). front ++ l) cut ∙ is,
        λ fed w. subst (λ (l : List ℕ). WasFed c.feed_by.new.self l) (append_assoc fed front piece)
            (c.in_ok-feed_by.ensures.fed (fed ++ front) (was fed w)),
      );
      limits = c.in_ok-feed_by.ensures.limits ∙ c.loop-rest.invariant.limits;
    }
