-- The ranks stand where they were written, and are layers.
use Rattle.std.proofs.Common.{◌≡◌, ◌++◌, ◌∙◌, ap, arith, sym, subst, ℕ, List, drop, length, take}
use Rattle.std.proofs.Math.Seq.{take-append_seam}
use Rattle.kc_tally.specs.Layers.{AreLayers}
use Rattle.kc_tally.proofs.Certifying.{layers-agree}
use Rattle.kc_tally.proofs.layering.layers.Goals as goal

pub first_layer-requires-clause-few : goal.first_layer-requires-clause-few
first_layer-requires-clause-few c = omega arith

pub returns-clause-agree : goal.returns-clause-agree
returns-clause-agree c = λ edges later supporters once same tally.
    let old : List ℕ = c.in_ok-rank.rank.items in
    let now : List ℕ = c.rank_by_layers.new.rank in
    let n : c.in_ok-rank.rank.len ≡ length now = omega arith in
    let e : take c.in_ok-rank.rank.len (now ++ drop (length now) old) ≡ now =
    ap (λ k. take k (now ++ drop (length now) old)) n ∙ take-append_seam now (drop (length now) old) in
    let layers : AreLayers c.args.graph.now c.args.core.now (take c.in_ok-rank.rank.len (now ++ drop (length now) old)) =
    subst (λ (rank : List ℕ). AreLayers c.args.graph.now c.args.core.now rank) (sym e) c.in_ok-rank_by_layers.ensures in
    layers-agree c.args.graph.now c.args.core.now _ edges later supporters (omega arith) once same c.requires layers tally
