-- No line of the piece is wrong, or one names an id of which there is no claim, or else one is told.
use Rattle.std.proofs.Common.{arith, refl}
use Rattle.std.proofs.lemmas.Result.{IfOk-weaker}
use Rattle.kc_io.specs.LineEnds.{with_end}
use Rattle.kc_claims.specs.Pieces.{with_piece}
use Rattle.kc_claims.specs.Streams.{IsFaultOfStream}
use Rattle.kc_claims.specs.declared.fault.ClaimFault.TheVariants as claim_fault
use Rattle.kc_claims.proofs.Pieced.{HasFaultyPiece-found, HasSwept-ended, HasTakenText-more, TellsClaims-kept, ends-ended, missing-found}
use Rattle.kc_claims.proofs.Streamed.{some-weaker}
use Rattle.kc_claims.proofs.ascending.AscendingCheck.take.Goals as goal

pub begin_text-requires-clause-clean : goal.begin_text-requires-clause-clean
begin_text-requires-clause-clean g c =
    let (claims, before, h) = c.requires in
    h.looked.insisted.fresh

pub begin_text-requires-clause-swept : goal.begin_text-requires-clause-swept
begin_text-requires-clause-swept g c =
    let (claims, before, h) = c.requires in
    let insisted = h.looked.insisted in (
      insisted.sweep,
      with_end insisted.fed.text,
      ends-ended insisted.fed.text,
      HasSwept-ended insisted.sweep c.args.self.now.insisting.sweep insisted.fed.text insisted.fed.took,
    )

pub returns-in-Ok-clause-taken : goal.returns-in-Ok-clause-taken
returns-in-Ok-clause-taken g c = λ claims before h.
    let old = c.args.self.now in
    let (less, fed) = c.in-Ok.ensures.fed in
    IfOk-weaker c.told_of.result _ _
    (λ found clean none.
    HasTakenText-more claims before (g.S.Source.left c.args.source.now) old h c.begin_text.new.self c.feed_within.new.taker _ c.in-Ok.left fed
    c.begin_text.ensures.sweep c.begin_text.ensures.last _ refl refl refl (omega (arith, c.if-self-eq0.false)) less (clean none))
    c.told_of.ensures.clean

pub returns-in-Ok-clause-unclaimed : goal.returns-in-Ok-clause-unclaimed
returns-in-Ok-clause-unclaimed g c = λ claims before h.
    let old = c.args.self.now in
    let left = g.S.Source.left c.args.source.now in
    let (less, fed) = c.in-Ok.ensures.fed in
    IfOk-weaker c.told_of.result _ _
    (λ found.
    some-weaker _ (λ id. IsFaultOfStream claims (claim_fault.Missing id) (with_piece before left)) found
    (λ id (line, is).
    missing-found claims before left old h c.begin_text.new.self c.feed_within.new.taker _ c.in-Ok.left fed c.begin_text.ensures.sweep
    c.begin_text.ensures.last line id is))
    c.told_of.ensures.unclaimed

pub returns-in-Ok-clause-line : goal.returns-in-Ok-clause-line
returns-in-Ok-clause-line g c = λ claims before faulty h e.
    let (less, fed) = c.in-Ok.ensures.fed in
    HasFaultyPiece-found claims before (g.S.Source.left c.args.source.now) c.args.self.now h c.begin_text.new.self c.feed_within.new.taker _ c.in-Ok.left
    fed c.begin_text.ensures.sweep c.begin_text.ensures.last faulty (c.told_of.ensures.line faulty e)

pub returns-in-Ok-clause-told : goal.returns-in-Ok-clause-told
returns-in-Ok-clause-told g c = λ claims before h _.
    let (less, fed) = c.in-Ok.ensures.fed in
    let old = c.args.self.now in
    TellsClaims-kept claims before old h c.begin_text.new.self c.feed_within.new.taker
    (record { insisting = c.feed_within.new.taker; lines = old.lines; room = old.room }) fed.text c.begin_text.ensures.sweep fed.took refl refl

pub returns-in-Err-ReadFault-clause-told : goal.returns-in-Err-ReadFault-clause-told
returns-in-Err-ReadFault-clause-told g c = λ claims before h _.
    let so_far = rw c.in-Err-ReadFault.field-0-is at c.in-Err-ReadFault.ensures.so_far in
    let (done, took) = so_far refl in
    let old = c.args.self.now in
    TellsClaims-kept claims before old h c.begin_text.new.self c.feed_within.new.taker
    (record { insisting = c.feed_within.new.taker; lines = old.lines; room = old.room }) done c.begin_text.ensures.sweep took refl refl
