-- Only an id whose number is below how many first ones there are is one of them.
use Rattle.std.proofs.Common.{sym, ◌∙◌}
use Rattle.kc_answers.proofs.Known.{known-first, known-later, known-none}
use Rattle.kc_answers.proofs.finding.known_number.Goals as goal

pub returns-then-number-known-clause-number : goal.returns-then-number-known-clause-number
returns-then-number-known-clause-number c =
    sym (known-first c.args.ids.now c.args.known c.args.id c.in-Some.number (sym c.number.ensures ∙ c.in-Some.is) c.if-number-known.true)

pub returns-else-number-known-clause-number : goal.returns-else-number-known-clause-number
returns-else-number-known-clause-number c =
    sym (known-later c.args.ids.now c.args.known c.args.id c.in-Some.number (sym c.number.ensures ∙ c.in-Some.is) c.if-number-known.false)

pub returns-in-None-clause-number : goal.returns-in-None-clause-number
returns-in-None-clause-number c = sym (known-none c.args.ids.now c.args.known c.args.id (sym c.number.ensures ∙ c.in-None.is))
