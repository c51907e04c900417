-- What the call at a piece left there is what the round makes of its numbers, and it has as many of them, and as much room, as before.
use Rattle.std.proofs.Common.{◌≡◌, ◌<◌, ◌+◌, ◌*◌, ◌∙◌, ℕ, List, length, get_or, ap, sym, arith}
use Rattle.kc_graph.specs.Rows.{row}
use Rattle.kc_hindex.specs.declared.piece.Piece.{Piece}
use Rattle.kc_hindex.specs.Pieces.{numbers_of}
use Rattle.kc_hindex.specs.Rounds.{h_round}
use Rattle.kc_hindex.proofs.Dealing.{dealt-again, room-at, row-at, some_of}
use Rattle.kc_hindex.proofs.rounds.fill_pieces.Goals as goal

pub for_each_mut-requires-clause-accepts : goal.for_each_mut-requires-clause-accepts
for_each_mut-requires-clause-accepts g c = λ _ _ i p l e. (
  c.requires.ready,
  ap (λ (x : Piece). x.counts.len) e ∙ sym (room-at c.args.pieces.now i p.now l) ∙ c.requires.dealt.room i l,
  λ j m. c.requires.dealt.within i j l
      (omega (arith, m, ap (λ (xs : List ℕ). length xs) (row-at c.args.pieces.now i p.now l), ap (λ (x : Piece). length x.numbers.items) e)),
)

pub returns-clause-made : goal.returns-clause-made
returns-clause-made g c = λ p l i m.
    let old : List Piece = c.args.pieces.now in
    let new : List Piece = c.for_each_mut.new.s in
    let in' : p < length old = omega (arith, l) in
    let d : Piece = some_of old (omega (arith, in')) in
    let k = (c.for_each_mut.ensures p d in').1 in
    let made : row (numbers_of new) p ≡ k.after_call.now.numbers.items = row-at new p d l ∙ ap (λ (x : Piece). x.numbers.items) (sym k.left) in
    let same : length old ≡ length new = omega arith in
    ap (λ (xs : List ℕ). get_or xs i 0) made ∙ k.call.0 i (omega (arith, m, ap (λ (xs : List ℕ). length xs) made))
    ∙ ap (λ (n : ℕ). h_round c.args.graph.now (λ w. get_or c.args.numbers.now w 0) (p + i * n)) same

pub returns-clause-dealt : goal.returns-clause-dealt
returns-clause-dealt g c =
    let old : List Piece = c.args.pieces.now in
    let new : List Piece = c.for_each_mut.new.s in
    dealt-again c.args.graph.now.size (length c.args.crossed.now) old new c.requires.dealt (omega arith) (λ p d l.
    let k = (c.for_each_mut.ensures p d l).1 in (
      ap (λ (x : Piece). length x.numbers.items) (sym k.left) ∙ k.call.1 ∙ ap (λ (x : Piece). length x.numbers.items) k.argument_is,
      ap (λ (x : Piece). x.counts.len) (sym k.left) ∙ k.call.2 ∙ ap (λ (x : Piece). x.counts.len) k.argument_is,
    ))
