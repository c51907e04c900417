-- The text is too long, a bad line has ended the reading, or the plain text tells.
use Rattle.std.proofs.Common.{◌≡◌, ℕ, Option, arith, subst}
use Rattle.kc_dialect.specs.declared.bad_line.BadLine.{BadLine}
use Rattle.kc_dialect_read.specs.Meanings.{IsRefusedAt}
use Rattle.kc_dialect_read.specs.Reading.{WasGivenTill, WasGivenWithin}
use Rattle.kc_dialect_read.specs.declared.fault.PlacedRefusal.{PlacedRefusal}
use Rattle.kc_dialect_read.proofs.Feeds.{fed-first_bad, fed-within}
use Rattle.kc_dialect_read.proofs.Stops.{refused-as, refused-long, too_long}
use Rattle.kc_dialect_read.proofs.reader.DialectReader.finish.Goals as goal

pub returns-in_default-clause-refused : goal.returns-in_default-clause-refused
returns-in_default-clause-refused c = λ r fed e h.
    let same : too_long ≡ r = cc in
    subst (λ (x : PlacedRefusal). IsRefusedAt c.args.self.inner.dialect fed x) same
    (refused-long c.args.self.inner.dialect fed (subst (λ (l : Option ℕ). WasGivenWithin c.args.self l fed) c.in_default.is h))

pub returns-in-Some-bad-clause-refused : goal.returns-in-Some-bad-clause-refused
returns-in-Some-bad-clause-refused c = λ r fed e h.
    let same : c.refused_bad.result ≡ r = cc in
    let (fits, first) = fed-first_bad c.args.self c.in-Some._left fed c.in-Some-bad.bad c.in-Some.is c.in-Some-bad.is h in
    subst (λ (x : PlacedRefusal). IsRefusedAt c.args.self.inner.dialect fed x) same
    (refused-as c.args.self.inner.dialect fed c.in-Some-bad.bad c.refused_bad.result c.refused_bad.ensures.line c.refused_bad.ensures.kind
    c.refused_bad.ensures.column fits first)

pub returns-clause-refused : goal.returns-clause-refused
returns-clause-refused c = λ r fed e h.
    let (room, till) = fed-within c.args.self c.in-Some._left fed c.in-Some.is h in
    c.finish.ensures.refused r fed e (omega (arith, room)) (subst (λ (b : Option BadLine). WasGivenTill c.args.self b fed) c.in_default-bad.is till)
