-- A turn adds the bytes that it read behind those that were done.
use Rattle.std.proofs.Common.{◌≡◌, ◌+◌, ◌++◌, ◌∙◌, ℕ, List, ap, drop, subst, sym, take, take-add}
use Rattle.std.specs.Io.KnownBytes.{Consumes}
use Rattle.std.proofs.KnownBytes.{Consumes-trans}
use Rattle.kc_head.proofs.head.fill.Goals as goal

pub loop-done-preserved : goal.loop-done-preserved
loop-done-preserved g c =
    let done : ℕ = c.loop-done.done in
    let n : ℕ = c.in_ok-n.n in
    let now : List ℕ = c.read_behind.new.room in
    let joined : take done c.loop-done.room ++ take n (drop done now) ≡ take (done + n) now =
    ap (λ (t : List ℕ). t ++ take n (drop done now)) (sym c.in_ok-n.ensures.kept) ∙ sym (take-add done n now) in
    record {
      within = c.in_ok-n.ensures.bound;
      consumed = subst (Consumes (g.S.Source.left c.args.source.now) (g.S.Source.left c.read_behind.new.source)) joined
          (Consumes-trans (g.S.Source.left c.args.source.now) (g.S.Source.left c.loop-done.source) (g.S.Source.left c.read_behind.new.source)
          (take done c.loop-done.room) (take n (drop done now)) c.loop-done.invariant.consumed c.in_ok-n.ensures.bytes.0);
      faultless = c.in_ok-n.ensures.cause.kept ∙ c.loop-done.invariant.faultless;
    }
