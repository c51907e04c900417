-- What is skipped before the lines is noted, and they have the next numbers.
use Rattle.std.proofs.Common.{refl, sym, ap, ◌+◌}
use Rattle.kc_text.proofs.Numbered.{edges-counted}
use Rattle.kc_text.proofs.line_numbers.LineNumbers.count_edges.Goals as goal

pub returns-clause-numbers : goal.returns-clause-numbers
returns-clause-numbers c = λ before edges long has.
    edges-counted c.args.self.now c.note_skipped.new.self _ before edges has c.in_ok-note_skipped.ensures
    (sym (ap (λ n. c.note_skipped.new.self.lines + n) long)) (sym (ap (λ n. c.note_skipped.new.self.telling + n) long)) refl refl
