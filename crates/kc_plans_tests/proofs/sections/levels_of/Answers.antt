-- The numbers of a certified state are below the number of its vertices.
use Rattle.std.proofs.Common.{◌<◌, ℕ, List, length, get_or, sym, ap, subst, arith}
use Rattle.kc_levels.proofs.Laws.{certified-low}
use Rattle.kc_plans_tests.proofs.sections.levels_of.Goals as goal

pub open-opened-requires-clause-low : goal.open-opened-requires-clause-low
open-opened-requires-clause-low g c =
    let e = c.core-core.ensures in
    let s = c.args.state.now in
    λ v l. subst (λ (core : List ℕ). get_or core v 0 < length core) (sym e.core)
    (omega (arith, certified-low s e.certified v (omega (arith, l, ap length e.core, e.certified.one_each)), e.certified.one_each))
