-- Each list changes by the other end.
use Rattle.std.proofs.Common.{◌≡◌, ℕ, arith}
use Rattle.kc_graph.proofs.SharedLists.{near-first, near-second}
use Rattle.kc_graph.proofs.shared.SharedGraph.lists_after.Goals as goal

pub returns : goal.returns
returns c =
    let u : ℕ = c.args.update.u in
    let v : ℕ = c.args.update.v in
    let differ : u ≡ v → ⊥ = λ e. absurd (omega (arith, e, c.args.update.ordered)) in
    record {
      first =
          near-first c.args.update.add c.args.self.now u v c.neighbours.result.now c.in_ok-first.first differ c.requires.vertices
          c.neighbours.ensures c.in_ok-first.ensures;
      second =
          near-second c.args.update.add c.args.self.now u v c.neighbours-2.result.now c.in_ok-second.second differ
          (omega (arith, c.requires.vertices, c.args.update.ordered)) c.neighbours-2.ensures c.in_ok-second.ensures;
    }
