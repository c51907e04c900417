-- A turn takes the next bytes of the text, and was offered all that was left of it.
use Rattle.std.proofs.Common.{◌≡◌, ◌+◌, ◌-◌, ◌++◌, ℕ, List, length, take, drop, sym, ap, subst, ◌∙◌, arith, take-add, take_all, length-drop}
use Rattle.std.specs.Io.KnownBytes.{Appends}
use Rattle.std.proofs.KnownBytes.{Appends-trans}
use Rattle.kc_io.specs.Offers.{IsOffered}
use Rattle.kc_io.proofs.Texts.{KeepsFirst-rest, IsOffered-rest}
use Rattle.kc_io.proofs.sink.write_all.Goals as goal

pub loop-done-preserved : goal.loop-done-preserved
loop-done-preserved g c =
    let text : List ℕ = c.args.text.now in
    let done : ℕ = c.loop-done.done in
    let n : ℕ = c.in_ok-done.field-0 in
    let rest : take (length text - done) (drop done text) ≡ drop done text =
    take_all (length text - done) (drop done text) (omega (arith, length-drop done text)) in
    let joined : take done text ++ take n (take (length text - done) (drop done text)) ≡ take (done + n) text =
    ap (λ (t : List ℕ). take done text ++ take n t) rest ∙ sym (take-add done n text) in
    let size : length (take (length text - done) (drop done text)) ≡ length text - done = ap length rest ∙ length-drop done text in
    record {
      within = omega (arith, c.in_ok-done.ensures.bound.1, ap length rest, length-drop done text);
      put = subst (Appends (g.O.Sink.taken c.args.sink.now) (g.O.Sink.taken c.write.new.self)) joined
          (Appends-trans (g.O.Sink.taken c.args.sink.now) (g.O.Sink.taken c.loop-done.sink) (g.O.Sink.taken c.write.new.self)
          (take done text) (take n (take (length text - done) (drop done text))) c.loop-done.invariant.put c.in_ok-done.ensures.bytes);
      none_yet = λ h. absurd (omega (arith, c.in_ok-done.ensures.bound.0));
      first = λ _. KeepsFirst-rest (g.O.Sink.first c.args.sink.now) (g.O.Sink.first c.loop-done.sink) (g.O.Sink.first c.write.new.self) text done (omega arith)
          (λ h. ap g.O.Sink.first (c.loop-done.invariant.none_yet h)) c.loop-done.invariant.first c.in_ok-done.ensures.first;
      offered = λ _. IsOffered-rest (g.O.Sink.offers c.args.sink.now) (g.O.Sink.offers c.loop-done.sink) (g.O.Sink.offers c.write.new.self) (length text) done n
          (λ h. ap g.O.Sink.offers (c.loop-done.invariant.none_yet h)) c.loop-done.invariant.offered
          (subst (λ (k : ℕ). IsOffered (g.O.Sink.offers c.loop-done.sink) (g.O.Sink.offers c.write.new.self) k n) size c.in_ok-done.ensures.offers);
      faultless = c.in_ok-done.ensures.cause.kept ∙ c.loop-done.invariant.faultless;
    }
