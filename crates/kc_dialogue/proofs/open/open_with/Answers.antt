-- The replier was fed all, and then a line end where that was wanting.
use Rattle.std.proofs.Common.{List, ℕ, sym}
use Rattle.std.proofs.lemmas.Result.{err_from_is_err_and}
use Rattle.kc_io.specs.LineEnds.{with_end}
use Rattle.kc_dialogue.proofs.Behind.{HasOpened-same}
use Rattle.kc_dialogue.proofs.open.open_with.Goals as goal

pub returns-in_err-fed-clause-given : goal.returns-in_err-fed-clause-given
returns-in_err-fed-clause-given g c =
    let p = err_from_is_err_and c.from_residual-in_err-fed.result c.from_residual-in_err-fed.ensures.1 in
    let (given, took, none, many) = c.in_err-fed.ensures.given in
    (given, took, rw (p.1) tt, rw (p.1, p.2) (λ e. many (cc)))

pub returns-in_err-fed-clause-faultless : goal.returns-in_err-fed-clause-faultless
returns-in_err-fed-clause-faultless g c =
    let p = err_from_is_err_and c.from_residual-in_err-fed.result c.from_residual-in_err-fed.ensures.1 in
    rw (p.1, p.2) (λ other. c.in_err-fed.ensures.faultless (λ e. other (cc)))

pub returns-clause-given : goal.returns-clause-given
returns-clause-given g c =
    let (given, took, (cut, opened), many) = c.in_ok-fed.ensures.given in
    let before : List ℕ → List ℕ = g.R.Replier.reply c.args.replier.now in
    let before_at_end : List ℕ → List ℕ = g.R.Replier.reply_at_end c.args.replier.now in
    let after : List ℕ → List ℕ = g.R.Replier.reply c.feed_all.new.replier in
    let after_at_end : List ℕ → List ℕ = g.R.Replier.reply_at_end c.feed_all.new.replier in (
      given,
      took,
      HasOpened-same before after before_at_end after_at_end (g.R.Replier.was_fed c.end_line.new.replier) (with_end given) c.in_ok-flow.flow
          c.end_line.new.out.items c.in_ok-fed.ensures.same c.in_ok-fed.ensures.same_at_end
          (c.in_ok-flow.ensures.opened given cut (HasOpened-same after before after_at_end before_at_end (g.R.Replier.was_fed c.feed_all.new.replier) given
          c.in_ok-fed.fed.flow c.feed_all.new.out.items (sym c.in_ok-fed.ensures.same) (sym c.in_ok-fed.ensures.same_at_end) opened)),
      λ e. absurd (cc),
    )
