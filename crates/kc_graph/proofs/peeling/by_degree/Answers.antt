-- Empty buckets file no vertex, and a turn puts the next vertex into the bucket of its degree, which is below `levels`.
use Rattle.std.proofs.Common.{arith, ap, sym, subst, ◌∙◌, ◌≡◌, ◌<◌, ℕ, ◌+◌, length, ◌++◌, take, drop, List, Vec, Global, []}
use Rattle.std.proofs.Math.Seq.{take-append_seam}
use Rattle.std.proofs.lemmas.List.{length-replicate}
use Rattle.kc_graph.specs.Rows.{lists}
use Rattle.kc_graph.specs.Peeling.{at, Files}
use Rattle.kc_graph.proofs.Buckets.{length-lists}
use Rattle.kc_graph.proofs.Filing.{files_none, files_more}
use Rattle.kc_graph.proofs.peeling.by_degree.Goals as goal

pub loop-v-init : goal.loop-v-init
loop-v-init c = (
  omega (arith, ap (length {A = List ℕ}) c.loop.invariant, length-lists c.loop.buckets.items, length-replicate {A = List ℕ} c.loop.counter []),
  subst (Files c.args.degrees.now 0) (sym c.loop.invariant) (files_none c.args.degrees.now c.loop.counter),
)

pub loop-v-preserved : goal.loop-v-preserved
loop-v-preserved c =
    let old : List (Vec ℕ Global) = c.loop-v.buckets.items in
    let now : List (Vec ℕ Global) = c.push_into.new.buckets in
    let fits : at c.args.degrees.now c.loop-v.v < length (lists old) =
    omega (arith, c.requires.each c.loop-v.v (omega arith), length-lists old, c.loop-v.invariant.0) in
    let h0 = files_more c.args.degrees.now c.loop-v.v (lists old) c.loop-v.invariant.1 fits in
    let h = rw (← c.deref_mut.ensures.value) at h0 in
    let n : c.loop-v.buckets.len ≡ length now = omega arith in
    let e : take c.loop-v.buckets.len (now ++ drop (length now) old) ≡ now = ap (λ k. take k (now ++ drop (length now) old)) n
    ∙ take-append_seam now (drop (length now) old) in (
      ap length e ∙ omega (arith, c.loop-v.invariant.0),
      subst (λ (t : List (Vec ℕ Global)). Files c.args.degrees.now (c.loop-v.v + 1) (lists t)) (sym e)
          (subst (Files c.args.degrees.now (c.loop-v.v + 1)) (sym c.in_ok-push_into.ensures) h),
    )
