-- Each piece is handed on behind those before, and at the end what is carried.
use Rattle.std.proofs.Common.{◌∙◌, ◌++◌, ℕ, List, [], ap, arith, inl, length-append, refl, subst, sym}
use Rattle.std.proofs.KnownBytes.{Consumes-nil, Consumes-trans}
use Rattle.kc_io.specs.Causes.{Rose}
use Rattle.kc_claims.specs.declared.fault.Unswept.TheVariants as unswept
use Rattle.kc_claims.proofs.HandedOn.{given-whole, HasFed-shorter, passed-err, passed-other}
use Rattle.kc_claims.proofs.feeding.feed_pieces.Goals as goal

pub loop-n-init : goal.loop-n-init
loop-n-init g c = record {
  fed = (
    [],
    Consumes-nil (g.S.Source.left c.args.source.now),
    record { done = []; parts = sym c.requires.none; ended = inl refl; took = c.requires.fresh },
    omega arith,
  );
  room = c.requires.room;
  faultless = refl;
}

pub feed_next-requires-clause-fed : goal.feed_next-requires-clause-fed
feed_next-requires-clause-fed g c = let (text, took, f, room) = c.loop-n.invariant.fed in (c.args.taker.now, text, f)

pub take_last-requires : goal.take_last-requires
take_last-requires g c =
    let (text, took, f, room) = c.loop-n.invariant.fed in
    let (given, more, long, fed) = c.in_ok-n.ensures.given in
    let h = fed c.args.taker.now text f in
    (c.args.taker.now, h.done, h.took)

pub returns-then-n-eq0-clause-fed : goal.returns-then-n-eq0-clause-fed
returns-then-n-eq0-clause-fed g c =
    let (text, took, f, room) = c.loop-n.invariant.fed in
    let (given, more, long, fed) = c.in_ok-n.ensures.given in
    let h = HasFed-shorter g.T.TakesLines.taken c.args.taker.now c.feed_next.new.taker c.feed_next.new.carry.items text given
    (omega (arith, long, c.if-n-eq0.true)) (fed c.args.taker.now text f) in (
      omega (arith, room),
      record {
        text = text;
        read = given-whole (g.S.Source.left c.args.source.now) (g.S.Source.left c.loop-n.source) (g.S.Source.left c.feed_next.new.source) text given
            (omega (arith, long, c.if-n-eq0.true)) took more (c.in_ok-n.ensures.ended c.if-n-eq0.true);
        few = omega (arith, room);
        took = subst (g.T.TakesLines.taken c.args.taker.now c.take_last.new.taker)
            (ap (λ (t : List ℕ). h.done ++ t) c.deref.ensures.value ∙ sym h.parts)
            (c.in_ok-take_last.ensures.taken c.args.taker.now h.done h.ended h.took);
      },
    )

pub loop-n-smaller : goal.loop-n-smaller
loop-n-smaller g c = omega (arith, c.if-left-n.false, c.if-n-eq0.false)

pub loop-n-preserved : goal.loop-n-preserved
loop-n-preserved g c =
    let (text, took, f, room) = c.loop-n.invariant.fed in
    let (given, more, long, fed) = c.in_ok-n.ensures.given in
    record {
      fed = (
        text ++ given,
        Consumes-trans (g.S.Source.left c.args.source.now) (g.S.Source.left c.loop-n.source) (g.S.Source.left c.feed_next.new.source) text given took more,
        fed c.args.taker.now text f,
        omega (arith, room, length-append text given, long, c.if-left-n.false),
      );
      room = omega (arith, c.loop-n.invariant.room, c.feed_next.auto.room);
      faultless = c.in_ok-n.ensures.faultless (λ e. absurd (cc)) ∙ c.loop-n.invariant.faultless;
    }

pub returns-in_err-n-clause-failed : goal.returns-in_err-n-clause-failed
returns-in_err-n-clause-failed g c = λ of.
    subst (λ f. Rose f (g.S.Source.faults c.feed_next.new.source)) c.loop-n.invariant.faultless
    (c.in_err-n.ensures.failed (passed-err c.from_residual.result c.in_err-n.field-0.0 unswept.ReadFault c.from_residual.ensures.1 of))

pub returns-in_err-n-clause-faultless : goal.returns-in_err-n-clause-faultless
returns-in_err-n-clause-faultless g c = λ other.
    c.in_err-n.ensures.faultless (passed-other c.from_residual.result c.in_err-n.field-0.0 unswept.ReadFault c.from_residual.ensures.1 other)
    ∙ c.loop-n.invariant.faultless

pub returns-then-left-n-clause-faultless : goal.returns-then-left-n-clause-faultless
returns-then-left-n-clause-faultless g c = λ _. c.in_ok-n.ensures.faultless (λ e. absurd (cc)) ∙ c.loop-n.invariant.faultless

pub returns-in_err-take_last-clause-faultless : goal.returns-in_err-take_last-clause-faultless
returns-in_err-take_last-clause-faultless g c = λ _. c.in_ok-n.ensures.faultless (λ e. absurd (cc)) ∙ c.loop-n.invariant.faultless

pub returns-then-n-eq0-clause-faultless : goal.returns-then-n-eq0-clause-faultless
returns-then-n-eq0-clause-faultless g c = λ _. c.in_ok-n.ensures.faultless (λ e. absurd (cc)) ∙ c.loop-n.invariant.faultless

pub returns-in_err-n-clause-so_far : goal.returns-in_err-n-clause-so_far
returns-in_err-n-clause-so_far g c = λ of.
    let (text, took, f, room) = c.loop-n.invariant.fed in (
      f.done,
      subst (λ (t : g.row.T.Denot). g.T.TakesLines.taken c.args.taker.now t f.done)
          (sym (c.in_err-n.ensures.untouched (passed-err c.from_residual.result c.in_err-n.field-0.0 unswept.ReadFault c.from_residual.ensures.1 of))) f.took,
    )
