-- The whole lines of the piece are taken, and the rest is carried.
use Rattle.std.proofs.Common.{◌≡◌, ◌∙◌, ◌++◌, ℕ, List, ap₂, append_assoc, ap, subst, sym}
use Rattle.std.proofs.lemmas.List.{take-append-drop}
use Rattle.kc_claims.specs.Feeding.{HasFed}
use Rattle.kc_claims.proofs.HandedOn.{HasFed-carry}
use Rattle.kc_claims.proofs.feeding.take_piece.Goals as goal

pub returns : goal.returns
returns g c = record {
  fed = λ start text f.
      let piece : List ℕ = c.args.piece.now in
      let whole : List ℕ = c.split_at.result.0.now in
      let rest : List ℕ = c.split_at.result.1.now in
      let parts : whole ++ rest ≡ piece =
      ap₂ (λ (x y : List ℕ). x ++ y) c.split_at.ensures.front c.split_at.ensures.back ∙ take-append-drop c.ended_len.result piece in
      subst (HasFed g.T.TakesLines.taken start c.take_whole.new.taker c.extend_from_slice.new.self.items)
      (append_assoc text whole rest ∙ ap (λ (t : List ℕ). text ++ t) parts)
      (subst (λ (carry : List ℕ). HasFed g.T.TakesLines.taken start c.take_whole.new.taker carry ((text ++ whole) ++ rest))
      (sym c.in_ok-extend_from_slice.ensures.items)
      (HasFed-carry g.T.TakesLines.taken start c.take_whole.new.taker c.take_whole.new.carry.items (text ++ whole) rest
      (c.in_ok-take_whole.ensures.fed start text f)));
}
