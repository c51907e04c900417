-- A vertex that does not agree is none of a certified order; where all agree the order by keys certifies the numbers.
use Rattle.std.proofs.Common.{ℕ, arith}
use Rattle.kc_tally.specs.Tallies.{AreBetween}
use Rattle.kc_tally.proofs.Certifying.{agreed-core_numbers, certified-agree}
use Rattle.kc_tally.proofs.agreement.verdict.Goals as goal
use Rattle.kc_tally.proofs.agreement.verdict.Goals.{then-later-v-via-then-later-v, then-later-v-via-else-later-v+then-supporters-v}

pub returns-then-later-v-clause-complete : goal.returns-then-later-v-clause-complete
returns-then-later-v-clause-complete c = λ order rank edges short once certified places tally.
    let a = certified-agree c.args.core.now rank edges once order certified places c.args.later.now c.args.supporters.now short tally in
    let v : ℕ = c.loop-v.v in
    elim c.then-later-v.branch [
      | then-later-v-via-then-later-v w ↦ absurd (omega (arith, a.few_later v (omega arith), w.if-later-v.true))
      | then-later-v-via-else-later-v+then-supporters-v w ↦ absurd (omega (arith, a.enough_supporters v (omega arith), w.if-supporters-v.true))
    ]

pub returns-clause-seidman : goal.returns-clause-seidman
returns-clause-seidman c = λ rank edges yes short once tally.
    let a : AreBetween c.args.core.now c.args.later.now c.args.supporters.now = record {
      later_each = tally.later_each;
      supporters_each = tally.supporters_each;
      few_later = λ v l. (c.loop-v.invariant v (omega arith)).0;
      enough_supporters = λ v l. (c.loop-v.invariant v (omega arith)).1;
    } in
    agreed-core_numbers c.args.core.now rank edges once c.args.later.now c.args.supporters.now short tally a
