-- The vertex that the next shift moves is pushed behind those of the shifts before.
use Rattle.std.proofs.Common.{ℕ, List, [], ◌∷◌, ◌++◌, get_or, take, sym, ◌∙◌, ap, append_assoc}
use Rattle.kc_cert.specs.Local.{firsts}
use Rattle.kc_cert.proofs.Turns.{firsts-more}
use Rattle.kc_cert.proofs.fitting.risen_and_shifted.Goals as goal

pub loop-x-preserved : goal.loop-x-preserved
loop-x-preserved c =
    let shifts : List (ℕ × ℕ) = c.args.shifts.now in
    let i : ℕ = c.loop-x.x-index in
    let last : List ℕ = (get_or shifts i (0, 0)).0 ∷ [] in
    c.in_ok-push.ensures.items
    ∙ (ap (λ (t : List ℕ). t ++ last) c.loop-x.invariant
    ∙ (append_assoc c.args.rise.now (firsts (take i shifts)) last ∙ ap (λ (t : List ℕ). c.args.rise.now ++ t) (sym (firsts-more shifts i c.loop-x-test.true))))
