-- While a round changes a number the sum of the numbers falls; once one changes none, the numbers have settled.
use Rattle.std.proofs.Common.{◌≡◌, ◌<◌, ◌+◌, ◌∙◌, ℕ, suc, List, sym, subst, arith}
use Rattle.std.proofs.lemmas.Bool.{true≢false}
use Rattle.kc_lists.specs.Lists.{total}
use Rattle.kc_graph.specs.SimpleGraph.{SimpleGraph}
use Rattle.kc_hindex.specs.Rounds.{AreRounds, HasRound, after_rounds}
use Rattle.kc_hindex.proofs.Settling.{falls-by-one, later-settled, round-next, round-over, round-unchanged, settled-here, total-fits}
use Rattle.kc_hindex.proofs.Cores.{settled-are_core}
use Rattle.kc_hindex.proofs.Uncrossed.{first-ready, next-ready}
use Rattle.kc_hindex.proofs.peeling.settle.Goals as goal

pub loop-changing-init : goal.loop-changing-init
loop-changing-init g c = (
  c.requires.degrees,
  (λ s _. omega arith),
  omega arith,
  first-ready c.args.graph.now c.args.numbers.now c.args.crossed.now c.requires.degrees c.requires.marked c.requires.all,
  c.requires.dealt,
)

pub overflow_add-changing : goal.overflow_add-changing
overflow_add-changing g c =
    omega (arith, c.loop-changing.invariant.2, total-fits c.args.graph.now (omega (arith, c.vertices-vertices.ensures)))

pub loop-changing-smaller : goal.loop-changing-smaller
loop-changing-smaller g c =
    falls-by-one c.args.graph.now c.loop-changing.changing c.loop-changing.numbers c.round.new.numbers c.loop-changing.invariant.0
    (round-next c.args.graph.now c.loop-changing.changing c.loop-changing.numbers c.round.new.numbers c.loop-changing.invariant.0 c.round.ensures.round)
    (λ same. true≢false (sym c.loop-changing-test.true ∙ c.round.ensures.changed.1 (sym same)))

pub loop-changing-preserved : goal.loop-changing-preserved
loop-changing-preserved g c =
    let graph : SimpleGraph = c.args.graph.now in
    let changing : ℕ = c.loop-changing.changing in
    let next : HasRound graph (suc changing) c.round.new.numbers =
    round-next graph changing c.loop-changing.numbers c.round.new.numbers c.loop-changing.invariant.0 c.round.ensures.round in
    let less : total (after_rounds graph (changing + 1)) graph.size < total (after_rounds graph changing) graph.size =
    falls-by-one graph changing c.loop-changing.numbers c.round.new.numbers c.loop-changing.invariant.0 next
    (λ same. true≢false (sym c.loop-changing-test.true ∙ c.round.ensures.changed.1 (sym same))) in (
      round-over graph changing c.round.new.numbers next,
      (λ s h. later-settled graph changing c.loop-changing.invariant.1 less s h),
      omega (arith, c.loop-changing.invariant.2, less),
      next-ready graph changing c.loop-changing.numbers c.round.new.numbers c.loop-changing.crossed c.round.new.crossed c.loop-changing.invariant.0 next
          c.loop-changing.invariant.3 c.round.ensures.crossed c.round.ensures.marks,
      c.round.ensures.dealt,
    )

pub overflow_add-result : goal.overflow_add-result
overflow_add-result g c =
    omega (arith, c.loop-changing.invariant.2, total-fits c.args.graph.now (omega (arith, c.vertices-vertices.ensures)))

pub returns-clause-core : goal.returns-clause-core
returns-clause-core g c =
    let graph : SimpleGraph = c.args.graph.now in
    let changing : ℕ = c.loop-changing.changing in
    let same : c.round.new.numbers ≡ c.loop-changing.numbers = c.round.ensures.changed.0 c.loop-changing-test.false in
    settled-are_core graph changing c.round.new.numbers
    (round-unchanged graph changing c.loop-changing.numbers c.round.new.numbers c.loop-changing.invariant.0
    (round-next graph changing c.loop-changing.numbers c.round.new.numbers c.loop-changing.invariant.0 c.round.ensures.round) (sym same))
    (subst (λ (xs : List ℕ). HasRound graph changing xs) (sym same) c.loop-changing.invariant.0)

pub returns-clause-rounds : goal.returns-clause-rounds
returns-clause-rounds g c =
    let graph : SimpleGraph = c.args.graph.now in
    let changing : ℕ = c.loop-changing.changing in
    let next : suc changing ≡ changing + 1 = omega arith in
    subst (λ (n : ℕ). AreRounds graph n) next (settled-here graph changing c.loop-changing.invariant.1
    (round-unchanged graph changing c.loop-changing.numbers c.round.new.numbers c.loop-changing.invariant.0
    (round-next graph changing c.loop-changing.numbers c.round.new.numbers c.loop-changing.invariant.0 c.round.ensures.round)
    (sym (c.round.ensures.changed.0 c.loop-changing-test.false))))
