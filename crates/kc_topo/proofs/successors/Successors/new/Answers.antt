-- As many empty rows as were counted.
use Rattle.std.proofs.Common.{◌≡◌, ℕ, List, [], replicate, ap, ◌∙◌, arith}
use Rattle.kc_topo.proofs.successors.Successors.new.Goals as goal

pub returns : goal.returns
returns c =
    let n : c.loop.counter ≡ c.args.vertices = omega arith in
    c.loop.invariant ∙ ap (λ (k : ℕ). replicate {A = List ℕ} k []) n
