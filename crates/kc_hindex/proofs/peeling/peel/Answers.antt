-- No vertex has more neighbours than there are vertices, so each degree has its mark.
use Rattle.std.proofs.Common.{ℕ, List, ap, arith, length, subst, sym}
use Rattle.kc_hindex.specs.Rounds.{HasRound}
use Rattle.kc_hindex.proofs.Uncrossed.{degrees-bounded}
use Rattle.kc_hindex.proofs.peeling.peel.Goals as goal

pub settle-rounds-requires-clause-marked : goal.settle-rounds-requires-clause-marked
settle-rounds-requires-clause-marked g c κs within = λ v l.
    omega (
      arith,
      degrees-bounded c.args.graph.now c.deref_mut.result.now
          (subst (λ (xs : List ℕ). HasRound c.args.graph.now 0 xs) (sym c.deref_mut.ensures.value) c.in_ok-core.ensures) v l,
      ap length c.deref_mut-2.ensures.value,
      c.in_ok-crossed.ensures.len,
      c.vertices-vertices.ensures,
    )
