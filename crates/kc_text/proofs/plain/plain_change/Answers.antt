-- The sign, the blank and the two numbers are the whole first line.
use Rattle.std.proofs.Common.{List, ℕ, ◌∙◌, ◌∷◌, ap, sym}
use Rattle.kc_text.specs.Plain.{sign_of}
use Rattle.kc_text.proofs.PlainLines.{said-change}
use Rattle.kc_text.proofs.plain.plain_change.Goals as goal

pub returns-clause-said : goal.returns-clause-said
returns-clause-said c =
    said-change c.args.bytes.now c.in_ok-add.add c.in_ok-blank.blank.now c.in_ok-blank.rest.now c.in_ok-a.a c.in_ok-a.b c.in_ok-a.rest.now
    (c.in_ok-sign.ensures.cases.0 ∙ ap (λ (n : ℕ). n ∷ c.in_ok-sign.rest.now) c.in_ok-add.ensures
    ∙ ap (λ (t : List ℕ). sign_of c.in_ok-add.add ∷ t) c.in_ok-blank.ensures.cases.0)
    (sym c.is_blank.ensures ∙ c.if-not-is_blank.false) c.in_ok-a.ensures
