-- With the vertex itself marked, its neighbours without a mark are those that stand later in the order.
use Rattle.std.proofs.Common.{◌≡◌, ◌≤◌, ◌+◌, ℕ, List, Bool, true, length, get_or, set, drop, sym, ap, arith, subst, inl, inr, length-set}
use Rattle.std.proofs.lemmas.Bool.{false≢true, cases_eq}
use Rattle.kc_graph.specs.SimpleGraph.{SimpleGraph, degree_among}
use Rattle.kc_graph.proofs.NeighbourLists.{row_within}
use Rattle.kc_cert.proofs.Enumerating.{marked_more}
use Rattle.kc_cert.proofs.Counts.{unmarked-counted}
use Rattle.kc_cert.proofs.conditions.has_few_later.Goals as goal

pub unmarked-requires : goal.unmarked-requires
unmarked-requires c = λ k d l.
    let v : ℕ = get_or c.args.order.now c.loop-v.v-index 0 in
    omega (
      arith,
      row_within c.args.graph.now v c.neighbours.result.now c.neighbours.ensures k d l,
      ap (length {A = Bool}) c.deref.ensures.value,
      length-set c.loop-v.passed.items v true,
      c.loop-v.invariant.0.one_each,
    )

pub returns-then-unmarked-core : goal.returns-then-unmarked-core
returns-then-unmarked-core c = (
  λ h. absurd (false≢true h),
  λ few.
      let g : SimpleGraph = c.args.graph.now in
      let order : List ℕ = c.args.order.now in
      let i : ℕ = c.loop-v.v-index in
      let v : ℕ = get_or order i 0 in
      let marked =
      marked_more g.size i order c.loop-v.passed.items c.loop-v.invariant.0 c.loop-v-test.true
      (c.requires.enumerates.below i 0 c.loop-v-test.true) in
      let count : c.unmarked.result ≡ degree_among g (drop (i + 1) order) v =
      unmarked-counted g v (i + 1) c.unmarked.result order c.neighbours.result.now (set c.loop-v.passed.items v true) c.deref.result.now
      c.requires.enumerates c.neighbours.ensures marked c.deref.ensures.value c.unmarked.ensures in
      absurd (omega (arith, count, few i c.loop-v-test.true)),
)

pub loop-v-preserved : goal.loop-v-preserved
loop-v-preserved c =
    let g : SimpleGraph = c.args.graph.now in
    let order : List ℕ = c.args.order.now in
    let core : List ℕ = c.args.core.now in
    let i : ℕ = c.loop-v.v-index in
    let v : ℕ = get_or order i 0 in
    let marked =
    marked_more g.size i order c.loop-v.passed.items c.loop-v.invariant.0 c.loop-v-test.true
    (c.requires.enumerates.below i 0 c.loop-v-test.true) in
    let count : c.unmarked.result ≡ degree_among g (drop (i + 1) order) v =
    unmarked-counted g v (i + 1) c.unmarked.result order c.neighbours.result.now (set c.loop-v.passed.items v true) c.deref.result.now
    c.requires.enumerates c.neighbours.ensures marked c.deref.ensures.value c.unmarked.ensures in
    let here : degree_among g (drop (i + 1) order) v ≤ get_or core v 0 = omega (arith, count) in (
      marked,
      λ k l. elim (cases_eq k i) [
        | inl e ↦ subst (λ (j : ℕ). degree_among g (drop (j + 1) order) (get_or order j 0) ≤ get_or core (get_or order j 0) 0) (sym e) here
        | inr ne ↦ c.loop-v.invariant.1 k (omega arith)
      ],
    )
