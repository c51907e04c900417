-- The reader begins within the limits, and then it was fed.
use Rattle.std.proofs.Common.{◌≤◌, ◌<◌, ◌+◌, ◌⊎◌, [], length, arith, refl, subst, ◌∙◌}
use Rattle.std.specs.Io.KnownBytes.{IsAtEnd}
use Rattle.std.proofs.KnownBytes.{Consumes-nil}
use Rattle.std.proofs.lemmas.Result.{err_from_is_err_and}
use Rattle.kc_text.specs.declared.limits.Limits.{Limits}
use Rattle.kc_read.proofs.fed_reader.Goals as goal

pub returns-in_err-room : goal.returns-in_err-room
returns-in_err-room g c =
    let p = err_from_is_err_and c.from_residual.result c.from_residual.ensures.1 in
    rw (p.1, p.2) (record {
      given = ([], Consumes-nil (g.S.Source.left c.args.source.now), omega arith, tt);
      limits = tt;
      faultless = λ _. refl;
      later = omega arith;
      read_fault = λ e. absurd (cc);
      unjudged = λ r e. absurd (cc);
    })

pub feed_all-requires-clause-none : goal.feed_all-requires-clause-none
feed_all-requires-clause-none g c = c.new-reader.ensures.fed

pub returns-in_err-feed_all : goal.returns-in_err-feed_all
returns-in_err-feed_all g c =
    let p = err_from_is_err_and c.from_residual-in_err-feed_all.result c.from_residual-in_err-feed_all.ensures.1 in
    let (given, took, few, none) = c.in_err-feed_all.ensures.given in
    rw (p.1, p.2) (record {
      given = (given, took, subst (λ (l : Limits). length given ≤ l.bytes + 1) c.new-reader.ensures.limits few, tt);
      limits = tt;
      faultless = λ other. c.in_err-feed_all.ensures.faultless (λ e. other (cc));
      later = c.in_err-feed_all.ensures.later;
      read_fault = λ e. c.in_err-feed_all.ensures.read_fault (cc);
      unjudged = λ r e. c.in_err-feed_all.ensures.unjudged r (cc);
    })

pub returns : goal.returns
returns g c =
    let (given, took, few, (fed, end)) = c.in_ok-feed_all.ensures.given in
    record {
      given = (
        given,
        took,
        subst (λ (l : Limits). length given ≤ l.bytes + 1) c.new-reader.ensures.limits few,
        (fed, subst (λ (l : Limits). IsAtEnd (g.S.Source.left c.feed_all.new.source) ⊎ (l.bytes < length given)) c.new-reader.ensures.limits end),
      );
      limits = c.in_ok-feed_all.ensures.limits ∙ c.new-reader.ensures.limits;
      faultless = λ _. c.in_ok-feed_all.ensures.faultless (λ e. absurd (cc));
      later = c.in_ok-feed_all.ensures.later;
      read_fault = λ e. absurd (cc);
      unjudged = λ r e. absurd (cc);
    }
