-- There are as many pieces as were asked for.
use Rattle.std.proofs.Common.{◌≡◌, ◌<◌, ◌+◌, ◌*◌, ℕ, length, subst, sym, arith}
use Rattle.kc_hindex.proofs.piece.pieces_for.Goals as goal

pub returns : goal.returns
returns c =
    let same : length c.loop-p.made.items ≡ c.args.pieces = omega (arith, c.loop-p.invariant.0, c.loop-p.auto.p-end, c.loop-p-test.false) in record {
      some = omega (arith, same, c.requires);
      within = λ p i l m. subst (λ (k : ℕ). p + i * k < c.args.vertices) (sym same) ((c.loop-p.invariant.1 p i l).0 m);
      whole = λ p i l m. (c.loop-p.invariant.1 p i l).1 (subst (λ (k : ℕ). p + i * k < c.args.vertices) same m);
      room = c.loop-p.invariant.2;
    }
