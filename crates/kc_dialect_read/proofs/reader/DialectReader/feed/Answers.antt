-- The bytes are counted, and rewritten where no bad line has ended the reading.
use Rattle.std.proofs.Common.{◌-◌, ◌∙◌, None, Some, arith, length, refl, sym}
use Rattle.kc_dialect_read.proofs.Feeds.{fed-counted, fed-many, fed-read, fed-rewritten, fed-stopped}
use Rattle.kc_dialect_read.proofs.reader.DialectReader.feed.Goals as goal

pub feed-requires : goal.feed-requires
feed-requires c =
    let (fed, h) = c.requires in
    (fed, (fed-rewritten c.args.self.now c.in-Some.left fed c.in-Some.is (sym c.is_some.ensures ∙ c.if-is_some.false) h).1)

pub returns-then-is_some-clause-fed : goal.returns-then-is_some-clause-fed
returns-then-is_some-clause-fed c = λ fed h.
    fed-counted c.args.self.now _ c.in-Some.left fed c.args.piece.now c.in-Some.is (omega arith) refl refl refl (sym c.is_some.ensures ∙ c.if-is_some.true) h

pub returns-in-Ok-clause-fed : goal.returns-in-Ok-clause-fed
returns-in-Ok-clause-fed c = λ fed h.
    fed-read c.args.self.now _ c.in-Some.left fed c.args.piece.now c.in-Some.is (omega arith) refl refl (sym c.is_some.ensures ∙ c.if-is_some.false)
    c.in-Ok.ensures.rewrites h

pub returns-in-Err-Bad-clause-fed : goal.returns-in-Err-Bad-clause-fed
returns-in-Err-Bad-clause-fed c = λ fed h.
    let first = rw c.in-Err-Bad.field-0-is at c.in-Err-Bad.ensures.bad in
    fed-stopped c.args.self.now (record { inner = c.feed.new.self; left = Some (c.in-Some.left - length c.args.piece.now); bad = Some c.in-Err-Bad.bad })
    c.in-Some.left fed c.args.piece.now c.in-Err-Bad.bad c.in-Some.is (omega arith) refl refl c.in-Err-Bad.ensures.dialect
    (sym c.is_some.ensures ∙ c.if-is_some.false) (λ f rest r. first c.in-Err-Bad.bad f rest refl r) h

pub returns-in-Err-TooLong-clause-fed : goal.returns-in-Err-TooLong-clause-fed
returns-in-Err-TooLong-clause-fed c = λ fed h.
    let many = rw c.in-Err-TooLong.field-0-is at c.in-Err-TooLong.ensures.too_long in
    fed-many c.args.self.now (record { inner = c.feed.new.self; left = None; bad = c.args.self.now.bad }) c.in-Some.left fed
    c.args.piece.now c.in-Some.is (sym c.is_some.ensures ∙ c.if-is_some.false) refl
    (λ f r. many f refl r) h
