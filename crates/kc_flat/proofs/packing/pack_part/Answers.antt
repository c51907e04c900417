-- A number that is greater than the last one kept is kept, and another one is a repeat.
use Rattle.std.proofs.Common.{◌≡◌, ◌<◌, ◌+◌, ◌-◌, ℕ, List, length, get_or, set, sym, subst, arith}
use Rattle.kc_flat.proofs.Packed.{Packed, keep_next, pass_next}
use Rattle.kc_flat.proofs.packing.pack_part.Goals as goal
use Rattle.kc_flat.proofs.packing.pack_part.Goals.{then-end-start, then-end-start-via-then-end-start, then-end-start-via-else-end-start+then-block-end}
use Rattle.kc_flat.proofs.packing.pack_part.Goals.{else-end-start+else-block-end}

pub loop-i-preserved : goal.loop-i-preserved
loop-i-preserved c =
    let old : List ℕ = c.args.block.now in
    let new : List ℕ = c.loop-i.block in
    let i : ℕ = c.loop-i.i in
    let start : ℕ = c.args.start in
    let end : ℕ = c.loop-i.end in
    let n : length new ≡ length old = c.loop-i.invariant.0 in (
      omega (arith, c.if-end-start.auto.block, n),
      elim c.if-end-start.branch [
        | then-end-start w ↦
            let greater : start < end → get_or new (end - 1) 0 < get_or new i 0 = λ some. elim w.then-end-start.branch [
              | then-end-start-via-then-end-start w' ↦ absurd (omega (arith, w'.if-end-start.true))
              | then-end-start-via-else-end-start+then-block-end w' ↦ omega (arith, w'.if-block-end.true)
            ] in
            subst (λ (t : List ℕ). Packed old t c.args.from (i + 1) start c.if-end-start.end) (sym w.block-is)
            (subst (Packed old (set new end (get_or new i 0)) c.args.from (i + 1) start) (sym w.end-is)
            (keep_next old new c.args.from i c.args.to start end n c.loop-i-test.true c.requires.within c.requires.earlier c.loop-i.invariant.1 greater))
        | else-end-start+else-block-end w ↦
            subst (λ (t : List ℕ). Packed old t c.args.from (i + 1) start c.if-end-start.end) (sym w.block-is)
            (subst (Packed old new c.args.from (i + 1) start) (sym w.end-is)
            (pass_next old new c.args.from i c.args.to start end n c.loop-i-test.true c.requires.within c.requires.earlier c.loop-i.invariant.1
            c.requires.sorted (λ e. absurd (omega (arith, w.if-end-start.false))) (λ lt. absurd (omega (arith, w.if-block-end.false)))))
      ],
    )
