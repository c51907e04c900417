-- The whole lines of the piece are taken, and the rest is kept.
use Rattle.std.proofs.Common.{◌≡◌, ◌-◌, ◌+◌, ◌++◌, ℕ, List, length, ap₂, refl, ◌∙◌, arith}
use Rattle.std.proofs.lemmas.List.{take-append-drop}
use Rattle.kc_text.proofs.Fed.{fed-more, piece-keeps_up}
use Rattle.kc_text.proofs.text_reader.TextReader.feed.Goals as goal

pub take_whole-requires-clause-keeps_up : goal.take_whole-requires-clause-keeps_up
take_whole-requires-clause-keeps_up c =
    let (fed, h) = c.requires in
    let piece : List ℕ = c.args.piece.now in
    let parts : c.split_at.result.0.now ++ c.split_at.result.1.now ≡ piece = ap₂ (λ (x y : List ℕ). x ++ y) c.split_at.ensures.front c.split_at.ensures.back
    ∙ take-append-drop c.whole_len.result piece in (
      (c.in-Some.left - length piece) + length c.split_at.result.1.now,
      fed,
      piece-keeps_up c.args.self.now c.in-Some.left fed piece c.split_at.result.0.now c.split_at.result.1.now c.in-Some.is (omega arith) parts h,
    )

pub returns-clause-fed : goal.returns-clause-fed
returns-clause-fed c = λ fed h.
    let piece : List ℕ = c.args.piece.now in
    let parts : c.split_at.result.0.now ++ c.split_at.result.1.now ≡ piece = ap₂ (λ (x y : List ℕ). x ++ y) c.split_at.ensures.front c.split_at.ensures.back
    ∙ take-append-drop c.whole_len.result piece in
    fed-more c.args.self.now c.take_whole.new.self _ c.in-Some.left fed piece c.split_at.result.0.now c.split_at.result.1.now c.in-Some.is (omega arith) parts
    c.in_ok-take_whole.ensures.keeps_up c.in_ok-take_whole.ensures.left c.in_ok-extend_from_slice.ensures.items refl refl h
