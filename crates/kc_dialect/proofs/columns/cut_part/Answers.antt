-- The first part ends at the first byte that ends one, or with the line.
use Rattle.std.proofs.Common.{◌+◌, ℕ, List, ◌∷◌, ◌∙◌, ap, false, sym, take}
use Rattle.std.proofs.lemmas.List.{take_rest}
use Rattle.kc_dialect.specs.Columns.{parts}
use Rattle.kc_dialect.proofs.Turns.{cut, onto-nothing, turn, uncut}
use Rattle.kc_dialect.proofs.columns.cut_part.Goals as goal

pub loop-i-init : goal.loop-i-init
loop-i-init c = onto-nothing c.args.separator false c.args.line.now

pub loop-i-preserved : goal.loop-i-preserved
loop-i-preserved c =
    turn c.args.separator c.loop-i.quoted c.quoted_behind-quoted.result c.args.line.now c.loop-i.i (parts c.args.separator false c.args.line.now)
    c.loop-i-test.true (sym c.ends_part.ensures ∙ c.if-ends_part.false) c.quoted_behind-quoted.ensures c.loop-i.invariant

pub returns-then-ends_part-clause-parts : goal.returns-then-ends_part-clause-parts
returns-then-ends_part-clause-parts c =
    cut c.args.separator c.loop-i.quoted c.args.line.now c.loop-i.i (parts c.args.separator false c.args.line.now)
    c.loop-i-test.true (sym c.ends_part.ensures ∙ c.if-ends_part.true) c.loop-i.invariant
    ∙ ap (λ (t : List ℕ). take c.loop-i.i c.args.line.now ∷ parts c.args.separator false t) (sym (take_rest c.args.line.now (c.loop-i.i + 1)))

pub returns-clause-parts : goal.returns-clause-parts
returns-clause-parts c =
    uncut c.args.separator c.loop-i.quoted c.args.line.now c.loop-i.i (parts c.args.separator false c.args.line.now) c.loop-i-test.false c.loop-i.invariant
