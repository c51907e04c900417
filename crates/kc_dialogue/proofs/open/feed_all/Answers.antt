-- Each piece stands behind those before, and so does what it adds to the reply.
use Rattle.std.proofs.Common.{◌≡◌, ◌<◌, ◌++◌, ◌∙◌, ℕ, [], arith, length, length-append, refl, subst, sym}
use Rattle.std.proofs.KnownBytes.{Consumes-nil, Consumes-trans}
use Rattle.std.proofs.lemmas.Result.{err_from_is_err_and}
use Rattle.kc_io.specs.Causes.{Rose}
use Rattle.kc_dialogue.proofs.Behind.{HasOpened-more, is_cut_off-append, is_cut_off-nothing}
use Rattle.kc_dialogue.proofs.open.feed_all.Goals as goal

pub turns-init : goal.turns-init
turns-init g c = record {
  given = ([], Consumes-nil (g.S.Source.left c.args.source.now), refl, c.requires.fed, sym c.requires.silent, omega arith);
  same = refl;
  same_at_end = refl;
  settings = refl;
  faultless = refl;
  room = c.requires.room;
}

pub feed_next-requires-clause-fed : goal.feed_next-requires-clause-fed
feed_next-requires-clause-fed g c = let (given, took, cut, fed, said, many) = c.turns.invariant.given in (given, fed)

pub returns-in_err-next-clause-given : goal.returns-in_err-next-clause-given
returns-in_err-next-clause-given g c =
    let p = err_from_is_err_and c.from_residual.result c.from_residual.ensures.1 in
    let (given, took, cut, fed, said, many) = c.turns.invariant.given in
    let (more, further, none) = c.in_err-next.ensures.given in (
      given ++ more,
      Consumes-trans (g.S.Source.left c.args.source.now) (g.S.Source.left c.turns.source) (g.S.Source.left c.feed_next.new.source) given more took further,
      rw (p.1) tt,
      rw (p.1, p.2) (λ e. absurd (c.in_err-next.ensures.countless (cc))),
    )

pub returns-in_err-next-clause-faultless : goal.returns-in_err-next-clause-faultless
returns-in_err-next-clause-faultless g c =
    let p = err_from_is_err_and c.from_residual.result c.from_residual.ensures.1 in
    rw (p.1, p.2) (λ other. c.in_err-next.ensures.faultless (λ e. other (cc)) ∙ c.turns.invariant.faultless)

pub returns-in_err-next-clause-read_fault : goal.returns-in_err-next-clause-read_fault
returns-in_err-next-clause-read_fault g c =
    let p = err_from_is_err_and c.from_residual.result c.from_residual.ensures.1 in
    rw (p.1, p.2) (λ is. subst (λ (f : ℕ). Rose f (g.S.Source.faults c.feed_next.new.source)) c.turns.invariant.faultless
    (c.in_err-next.ensures.read_fault (cc)))

pub returns-then-next-eq0-clause-given : goal.returns-then-next-eq0-clause-given
returns-then-next-eq0-clause-given g c =
    let (given, took, cut, fed, said, many) = c.turns.invariant.given in
    let (more, further, (count, ends, (put, grown, opens))) = c.in_ok-next.ensures.given in
    let none : length more ≡ 0 = omega (arith, count, c.if-next-eq0.true) in (
      given ++ more,
      Consumes-trans (g.S.Source.left c.args.source.now) (g.S.Source.left c.turns.source) (g.S.Source.left c.feed_next.new.source) given more took further,
      (
        cut ∙ is_cut_off-nothing given more none,
        HasOpened-more (g.R.Replier.reply c.args.replier.now) (g.R.Replier.reply c.turns.replier) (g.R.Replier.reply_at_end c.args.replier.now)
            (g.R.Replier.reply_at_end c.turns.replier) (g.R.Replier.was_fed c.feed_next.new.replier) given more c.turns.out.items c.feed_next.new.out.items
            put c.in_ok-next.next.flow c.turns.invariant.same c.turns.invariant.same_at_end said grown (opens given fed),
      ),
      λ e. absurd (cc),
    )

pub turns-preserved : goal.turns-preserved
turns-preserved g c =
    let (given, took, cut, fed, said, many) = c.turns.invariant.given in
    let (more, further, (count, ends, (put, grown, opens))) = c.in_ok-next.ensures.given in
    let some : 0 < length more = omega (arith, count, c.if-next-eq0.false) in
    let opened = HasOpened-more (g.R.Replier.reply c.args.replier.now) (g.R.Replier.reply c.turns.replier) (g.R.Replier.reply_at_end c.args.replier.now)
    (g.R.Replier.reply_at_end c.turns.replier) (g.R.Replier.was_fed c.feed_next.new.replier) given more c.turns.out.items c.feed_next.new.out.items
    put c.in_ok-next.next.flow c.turns.invariant.same c.turns.invariant.same_at_end said grown (opens given fed) in
    record {
      given = (
        given ++ more,
        Consumes-trans (g.S.Source.left c.args.source.now) (g.S.Source.left c.turns.source) (g.S.Source.left c.feed_next.new.source) given more took further,
        ends ∙ sym (is_cut_off-append given more some),
        opened.fed,
        opened.said,
        omega (arith, many, some, length-append given more),
      );
      same = c.in_ok-next.ensures.same ∙ c.turns.invariant.same;
      same_at_end = c.in_ok-next.ensures.same_at_end ∙ c.turns.invariant.same_at_end;
      settings = c.in_ok-next.ensures.settings ∙ c.turns.invariant.settings;
      faultless = c.in_ok-next.ensures.faultless (λ e. absurd (cc)) ∙ c.turns.invariant.faultless;
      room = omega (arith, c.feed_next.auto.room, c.turns.invariant.room);
    }

pub returns-clause-given : goal.returns-clause-given
returns-clause-given g c =
    let (given, took, cut, fed, said, many) = c.turns.invariant.given in (given, took, tt, λ e. omega (arith, many))
