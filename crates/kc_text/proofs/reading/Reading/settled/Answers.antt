-- With few ids all is known, and else the lines that told something are read again.
use Rattle.std.proofs.Common.{◌≡◌, ◌+◌, ◌-◌, ℕ, List, ap, ap₂, sym, ◌∙◌, arith, length}
use Rattle.kc_text.specs.declared.kind.Kind.{Kind}
use Rattle.kc_text.specs.declared.line.TextLine.{TextLine}
use Rattle.kc_text.specs.Meaning.{Refuses}
use Rattle.kc_text.specs.Readers.{outcome, told_by}
use Rattle.kc_text.specs.Readings.{IsFound}
use Rattle.kc_text.specs.TellingLines.{skipped_at}
use Rattle.kc_text.proofs.Few.{few-reading}
use Rattle.kc_text.proofs.Settled.{IsRefusedAt, few-again, found-few, found-lines, refused-at, settled-few}
use Rattle.kc_text.proofs.reading.Reading.settled.Goals as goal
use Rattle.kc_text.proofs.reading.Reading.settled.Goals.{In-Some}

pub returns-then-len-limits : goal.returns-then-len-limits
returns-then-len-limits c = λ lines f. settled-few c.args.limits.now c.args.numbers.now c.args.self lines f
    (few-reading c.args.limits.now (told_by f.reader.reader) c.args.self f.told (omega (arith, c.len.ensures)))

pub refused_again-requires : goal.refused_again-requires
refused_again-requires c =
    let (lines, f) = c.requires in
    omega (
      arith,
      ap length (found-lines c.args.limits.now c.args.numbers.now c.args.self lines _ _ c.deref.ensures.value c.deref-2.ensures.value f),
      found-few c.args.limits.now c.args.numbers.now c.args.self lines f,
    )

pub returns-in_default : goal.returns-in_default
returns-in_default c = λ lines f. settled-few c.args.limits.now c.args.numbers.now c.args.self lines f
    (few-again c.args.limits.now c.args.numbers.now c.args.self lines _ f
    (found-lines c.args.limits.now c.args.numbers.now c.args.self lines _ _ c.deref.ensures.value c.deref-2.ensures.value f)
    (c.in_ok-first.ensures.few c.in_default.is))

-- the line that was refused again is refused in the text at its own number
again-at : (c : In-Some) (lines : List TextLine) → IsFound c.args.limits.now c.args.numbers.now c.args.self lines
    → IsRefusedAt c.args.limits.now c.args.numbers.now lines c.in-Some.first.line c.in-Some.first.kind
again-at c lines f =
    let (told, refused) = c.in_ok-first.ensures.refused in
    refused-at c.args.limits.now c.args.numbers.now c.args.self lines _ c.in-Some.first.line c.in-Some.first.kind f
    (found-lines c.args.limits.now c.args.numbers.now c.args.self lines _ _ c.deref.ensures.value c.deref-2.ensures.value f)
    (refused ∙ ap (outcome told) c.in-Some.is)

pub renumbered-requires-clause-some : goal.renumbered-requires-clause-some
renumbered-requires-clause-some c =
    let (lines, f) = c.requires in
    let r = again-at (goal.at.renumbered-requires-clause-some c).In-Some lines f in
    omega (arith, r.is)

pub renumbered-requires-clause-few : goal.renumbered-requires-clause-few
renumbered-requires-clause-few c =
    let (lines, f) = c.requires in
    let r = again-at (goal.at.renumbered-requires-clause-few c).In-Some lines f in
    let place : c.in-Some.first.line - 1 ≡ r.place = omega (arith, r.is) in
    omega (arith, r.within, ap (skipped_at c.args.numbers.now.steps.items) place)

pub returns : goal.returns
returns c = λ lines f.
    let r = again-at (goal.at.returns c).In-Some lines f in
    let place : c.in-Some.first.line - 1 ≡ r.place = omega (arith, r.is) in
    let line : c.in-Some.first.line + skipped_at c.args.numbers.now.steps.items r.place ≡ c.renumbered.result.line =
    omega (arith, c.renumbered.ensures.line, ap (skipped_at c.args.numbers.now.steps.items) place) in (
      told_by f.reader.reader,
      record { edges = f.told.edges; batches = f.told.batches; ids = f.told.ids },
      r.refused ∙ ap₂ (λ (n : ℕ) (kind : Kind). Refuses n kind) line (sym c.renumbered.ensures.kind),
    )
