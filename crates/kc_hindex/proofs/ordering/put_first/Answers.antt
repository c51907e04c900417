-- A vertex that may be taken at once is put at the end of its row, and another one is passed.
use Rattle.std.proofs.Common.{arith, ap, ◌<◌, ◌++◌, ◌∷◌, [], ℕ, List, length, length-set}
use Rattle.kc_graph.specs.Peeling.{at}
use Rattle.kc_graph.specs.Rows.{lists, row}
use Rattle.kc_graph.proofs.Buckets.{length-lists}
use Rattle.kc_hindex.proofs.Taking.{sorted_more, sorted_none, sorted_pass}
use Rattle.kc_hindex.proofs.ordering.put_first.Goals as goal
use Rattle.kc_hindex.proofs.ordering.put_first.Goals.{then-left-v+in_ok-push_into, else-left-v}

pub loop-v-init : goal.loop-v-init
loop-v-init c = (sorted_none c.args.core.now c.args.left.now (lists c.args.waiting.now) c.requires.empty, omega arith)

pub loop-v-preserved : goal.loop-v-preserved
loop-v-preserved c =
    let b : ℕ = at c.args.core.now c.loop-v.v in
    let old : List (List ℕ) = lists c.loop-v.waiting in
    let room : b < length old = omega (arith, c.requires.levels c.loop-v.v c.loop-v-test.true, length-lists c.loop-v.waiting, c.loop-v.invariant.1) in
    elim c.if-left-v.branch [
      | then-left-v+in_ok-push_into k ↦ (
        rw (k.waiting-is, k.in_ok-push_into.ensures) (sorted_more c.args.core.now c.args.left.now c.loop-v.v old c.loop-v.invariant.0 k.if-left-v.true room),
        omega (
          arith,
          ap length k.waiting-is,
          length-lists k.push_into.new.rows,
          ap (length {A = List ℕ}) k.in_ok-push_into.ensures,
          length-set old b (row old b ++ c.loop-v.v ∷ []),
          length-lists c.loop-v.waiting,
          c.loop-v.invariant.1,
        ),
      )
      | else-left-v k ↦ (
        rw k.waiting-is (sorted_pass c.args.core.now c.args.left.now c.loop-v.v old c.loop-v.invariant.0 k.if-left-v.false),
        omega (arith, ap length k.waiting-is, c.loop-v.invariant.1),
      )
    ]
