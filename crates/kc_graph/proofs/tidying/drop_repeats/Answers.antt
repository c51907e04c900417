-- A number that is greater than the last one kept is kept, and another one is a repeat.
use Rattle.std.proofs.Common.{◌≡◌, ◌<◌, ◌+◌, ◌-◌, ℕ, List, length, get_or, set, sym, subst, arith}
use Rattle.kc_graph.proofs.Repeats.{Dropped, keep_one, pass_one}
use Rattle.kc_graph.proofs.tidying.drop_repeats.Goals as goal
use Rattle.kc_graph.proofs.tidying.drop_repeats.Goals.{then-kept-eq0, then-kept-eq0-via-then-kept-eq0, then-kept-eq0-via-else-kept-eq0+then-part-kept}
use Rattle.kc_graph.proofs.tidying.drop_repeats.Goals.{else-kept-eq0+else-part-kept}

pub loop-i-preserved : goal.loop-i-preserved
loop-i-preserved c =
    let old : List ℕ = c.args.part.now in
    let new : List ℕ = c.loop-i.part in
    let i : ℕ = c.loop-i.i in
    let kept : ℕ = c.loop-i.kept in
    let n : length new ≡ length old = c.loop-i.invariant.0 in
    let l : i < length old = omega (arith, c.loop-i-test.true, n) in (
      omega (arith, c.if-kept-eq0.auto.part, n),
      elim c.if-kept-eq0.branch [
        | then-kept-eq0 w ↦
            let greater : 0 < kept → get_or new (kept - 1) 0 < get_or new i 0 = λ some. elim w.then-kept-eq0.branch [
              | then-kept-eq0-via-then-kept-eq0 w' ↦ absurd (omega (arith, w'.if-kept-eq0.true))
              | then-kept-eq0-via-else-kept-eq0+then-part-kept w' ↦ omega (arith, w'.if-part-kept.true)
            ] in
            subst (λ (t : List ℕ). Dropped old t (i + 1) c.if-kept-eq0.kept) (sym w.part-is)
            (subst (Dropped old (set new kept (get_or new i 0)) (i + 1)) (sym w.kept-is) (keep_one old new i kept n l c.loop-i.invariant.1 greater))
        | else-kept-eq0+else-part-kept w ↦
            subst (λ (t : List ℕ). Dropped old t (i + 1) c.if-kept-eq0.kept) (sym w.part-is)
            (subst (Dropped old new (i + 1)) (sym w.kept-is)
            (pass_one old new i kept n l c.loop-i.invariant.1 c.requires (λ e. absurd (omega (arith, w.if-kept-eq0.false)))
            (λ lt. absurd (omega (arith, w.if-part-kept.false)))))
      ],
    )
