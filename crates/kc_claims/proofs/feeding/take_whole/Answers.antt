-- Whole lines are taken behind those that were carried.
use Rattle.std.proofs.Common.{◌≡◌, ◌∙◌, ◌++◌, ap, arith, length, sym, vec_len}
use Rattle.std.proofs.lemmas.Bool.{eqb-false, eqb-true}
use Rattle.kc_claims.proofs.HandedOn.{HasFed-alone, HasFed-whole}
use Rattle.kc_claims.proofs.feeding.take_whole.Goals as goal

pub returns-then-is_empty-2 : goal.returns-then-is_empty-2
returns-then-is_empty-2 g c = record {
  fed = λ start text f.
      let none = eqb-true (vec_len c.args.carry.now) 0 (sym c.if-is_empty-2.ensures) in
      HasFed-alone g.T.TakesLines.taken start c.args.taker.now c.take_lines.new.self c.args.carry.now.items text c.args.whole.now c.requires.ended
      (omega (arith, none, c.args.carry.now.ok.0)) f c.in_ok-take_lines.ensures;
}

pub returns : goal.returns
returns g c = record {
  fed = λ start text f.
      let some = eqb-false (length c.args.whole.now) 0 (sym c.if-is_empty.ensures) in
      let lines : c.deref.result.now ≡ c.args.carry.now.items ++ c.args.whole.now = c.deref.ensures.value ∙ c.in_ok-extend_from_slice.ensures.items in
      HasFed-whole g.T.TakesLines.taken start c.args.taker.now c.take_lines-2.new.self c.args.carry.now.items text c.args.whole.now c.deref.result.now
      c.clear.new.self.items c.requires.ended (omega arith) (ap length c.clear.ensures.items) lines f c.in_ok-take_lines-2.ensures;
}
