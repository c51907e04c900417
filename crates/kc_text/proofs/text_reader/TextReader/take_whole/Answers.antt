-- The whole lines are read behind those before, and where there are no bytes nothing is.
use Rattle.std.proofs.Common.{length, sym, arith}
use Rattle.std.proofs.lemmas.Bool.{eqb-false, eqb-true}
use Rattle.kc_text.proofs.Fed.{keeps_up-fewer, none-read, whole-read}
use Rattle.kc_text.proofs.text_reader.TextReader.take_whole.Goals as goal

pub read_lines-requires-clause-can : goal.read_lines-requires-clause-can
read_lines-requires-clause-can c = let (left, fed, f) = c.requires.keeps_up in f.can

pub read_lines-requires-clause-few : goal.read_lines-requires-clause-few
read_lines-requires-clause-few c = let (left, fed, f) = c.requires.keeps_up in keeps_up-fewer c.args.self.now left (length c.args.whole.now) fed f

pub returns-then-is_empty-clause-keeps_up : goal.returns-then-is_empty-clause-keeps_up
returns-then-is_empty-clause-keeps_up c = λ left fed. none-read c.args.self.now left fed c.args.whole.now
    (eqb-true (length c.args.whole.now) 0 (sym c.if-is_empty.ensures))

pub returns-clause-keeps_up : goal.returns-clause-keeps_up
returns-clause-keeps_up c = λ left fed f.
    let some = eqb-false (length c.args.whole.now) 0 (sym c.if-is_empty.ensures) in
    whole-read c.args.self.now _ left fed c.args.whole.now c.requires.ended (omega arith) f c.in_ok-read_lines.ensures.reads c.in_ok-read_lines.ensures.can
    c.in_ok-read_lines.ensures.carry c.in_ok-read_lines.ensures.lines c.in_ok-read_lines.ensures.limits
