-- Each piece is given behind those before, and the reader is fed with it.
use Rattle.std.proofs.Common.{◌+◌, ◌-◌, ◌++◌, ℕ, inl, inr, length, drop, arith, sym, subst, refl, ◌∙◌, length-append}
use Rattle.std.proofs.KnownBytes.{Consumes-trans}
use Rattle.std.proofs.lemmas.List.{length-take-le}
use Rattle.std.proofs.lemmas.Result.{err_from_is_err_and}
use Rattle.kc_io.specs.Causes.{Rose}
use Rattle.kc_dialect_read.specs.Reading.{HasPassedOn}
use Rattle.kc_dialect_read.proofs.Pieces.{HasPassedOn-more, HasPassedOn-nothing, given_many}
use Rattle.kc_dialect_read.proofs.feed_all.Goals as goal

pub loop-n-init : goal.loop-n-init
loop-n-init g c = record {
  fed = HasPassedOn-nothing c.args.reader.now.inner.dialect (g.S.Source.left c.args.source.now) c.args.reader.now c.requires.none refl;
  room = c.requires.room;
  faultless = refl;
}

pub overflow_sub-room : goal.overflow_sub-room
overflow_sub-room g c = omega arith

pub overflow_add-most : goal.overflow_add-most
overflow_add-most g c = omega arith

pub slice_bounds-feed_next-end : goal.slice_bounds-feed_next-end
slice_bounds-feed_next-end g c = omega arith

pub slice_bounds-feed_next-end-in-loop-n : goal.slice_bounds-feed_next-end-in-loop-n
slice_bounds-feed_next-end-in-loop-n g c = sym (length-take-le (c.min-most.result + 1) c.loop-n.room (omega arith))

pub feed_next-requires-clause-room : goal.feed_next-requires-clause-room
feed_next-requires-clause-room g c = omega (arith, length-take-le (c.min-most.result + 1) c.loop-n.room (omega arith))

pub feed_next-requires-clause-fed : goal.feed_next-requires-clause-fed
feed_next-requires-clause-fed g c = (c.loop-n.invariant.fed.given, c.loop-n.invariant.fed.fed)

pub returns-in_err-n-clause-given : goal.returns-in_err-n-clause-given
returns-in_err-n-clause-given g c = let p = err_from_is_err_and c.from_residual.result c.from_residual.ensures.1 in rw (p.1) tt

pub returns-in_err-n-clause-dialect : goal.returns-in_err-n-clause-dialect
returns-in_err-n-clause-dialect g c = c.in_err-n.ensures.dialect ∙ c.loop-n.invariant.fed.same

pub returns-in_err-n-clause-faultless : goal.returns-in_err-n-clause-faultless
returns-in_err-n-clause-faultless g c =
    let p = err_from_is_err_and c.from_residual.result c.from_residual.ensures.1 in
    rw (p.1, p.2) (λ other. c.in_err-n.ensures.faultless (λ e. other (cc)) ∙ c.loop-n.invariant.faultless)

pub returns-in_err-n-clause-read_fault : goal.returns-in_err-n-clause-read_fault
returns-in_err-n-clause-read_fault g c =
    let p = err_from_is_err_and c.from_residual.result c.from_residual.ensures.1 in
    rw (p.1, p.2) (λ is. subst (λ (f : ℕ). Rose f (g.S.Source.faults c.feed_next.new.source)) c.loop-n.invariant.faultless
    (c.in_err-n.ensures.read_fault (cc)))

pub returns-in_err-n-clause-unjudged : goal.returns-in_err-n-clause-unjudged
returns-in_err-n-clause-unjudged g c =
    let p = err_from_is_err_and c.from_residual.result c.from_residual.ensures.1 in
    rw (p.1, p.2) (λ r e. c.in_err-n.ensures.unjudged r (cc))

pub returns-then-n-eq0-clause-given : goal.returns-then-n-eq0-clause-given
returns-then-n-eq0-clause-given g c =
    let (piece, took, few, (long, more)) = c.in_ok-n.ensures.given in
    let h : HasPassedOn c.args.reader.now.inner.dialect (g.S.Source.left c.args.source.now) (g.S.Source.left c.loop-n.source) c.loop-n.reader c.loop-n.left =
    c.loop-n.invariant.fed in (
      h.given ++ piece,
      Consumes-trans (g.S.Source.left c.args.source.now) (g.S.Source.left c.loop-n.source) (g.S.Source.left c.feed_next.new.source) h.given piece
          h.consumed took,
      more h.given h.fed,
      elim c.then-n-eq0.either [
        | inl none ↦ inl (c.in_ok-n.ensures.ended none)
        | inr many ↦ inr (given_many c.args.reader.now.inner.dialect (g.S.Source.left c.args.source.now) (g.S.Source.left c.loop-n.source)
            c.loop-n.reader c.loop-n.left piece h (omega (arith, long, many.1)))
      ],
    )

pub returns-then-n-eq0-clause-dialect : goal.returns-then-n-eq0-clause-dialect
returns-then-n-eq0-clause-dialect g c = c.in_ok-n.ensures.dialect ∙ c.loop-n.invariant.fed.same

pub returns-then-n-eq0-clause-faultless : goal.returns-then-n-eq0-clause-faultless
returns-then-n-eq0-clause-faultless g c = λ _. c.in_ok-n.ensures.faultless (λ e. absurd (cc)) ∙ c.loop-n.invariant.faultless

pub returns-then-n-eq0-clause-read_fault : goal.returns-then-n-eq0-clause-read_fault
returns-then-n-eq0-clause-read_fault g c = λ is. absurd (cc)

pub returns-then-n-eq0-clause-unjudged : goal.returns-then-n-eq0-clause-unjudged
returns-then-n-eq0-clause-unjudged g c = λ r e. absurd (cc)

pub overflow_sub-left : goal.overflow_sub-left
overflow_sub-left g c = omega (arith, c.if-left-n.false)

pub loop-n-smaller : goal.loop-n-smaller
loop-n-smaller g c = omega (arith, c.if-left-n.false, c.if-n-eq0.false)

pub loop-n-preserved : goal.loop-n-preserved
loop-n-preserved g c =
    let (piece, took, few, (long, more)) = c.in_ok-n.ensures.given in
    let now : HasPassedOn c.args.reader.now.inner.dialect (g.S.Source.left c.args.source.now) (g.S.Source.left c.feed_next.new.source) c.feed_next.new.reader
    (c.loop-n.left - length piece) =
    HasPassedOn-more c.args.reader.now.inner.dialect (g.S.Source.left c.args.source.now) (g.S.Source.left c.loop-n.source)
    (g.S.Source.left c.feed_next.new.source)
    c.loop-n.reader c.feed_next.new.reader c.loop-n.left piece c.loop-n.invariant.fed took (omega (arith, long, c.if-left-n.false)) more
    c.in_ok-n.ensures.dialect in
    record {
      fed = subst (λ (n : ℕ). HasPassedOn c.args.reader.now.inner.dialect (g.S.Source.left c.args.source.now) (g.S.Source.left c.feed_next.new.source)
          c.feed_next.new.reader (c.loop-n.left - n)) long now;
      room = omega (
        arith,
        length-append c.feed_next.new.piece (drop (c.min-most.result + 1) c.loop-n.room),
        c.feed_next.auto.piece,
        length-take-le (c.min-most.result + 1) c.loop-n.room (omega arith),
      );
      faultless = c.in_ok-n.ensures.faultless (λ e. absurd (cc)) ∙ c.loop-n.invariant.faultless;
    }
