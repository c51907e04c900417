-- The text so far is whole lines.
use Rattle.kc_text.specs.Lines.{EndsLine}
use Rattle.kc_text_tests.proofs.parts.long_text.Given as goal

abbrev pub invariant-loop : goal.invariant-loop
invariant-loop l = EndsLine l.text.items
