-- All bytes before the one that is no blank are blanks, so they are all that stand at the front; else the whole is blank.
use Rattle.std.proofs.Common.{arith, sym, length}
use Rattle.std.proofs.lemmas.List.Sums.{prefix_len_is}
use Rattle.kc_text.specs.Lines.{is_blank}
use Rattle.kc_dialect.proofs.columns.blanks.Goals as goal

pub returns-then-not-is_blank : goal.returns-then-not-is_blank
returns-then-not-is_blank c = sym (prefix_len_is is_blank c.args.bytes.now c.loop-i.i 0 (omega arith) c.loop-i.invariant (λ _. sym c.if-not-is_blank.ensures))

pub returns : goal.returns
returns c =
    sym
    (prefix_len_is is_blank c.args.bytes.now (length c.args.bytes.now) 0 (omega arith) (λ k l. c.loop-i.invariant k (omega arith))
    (λ l. absurd (omega arith)))
