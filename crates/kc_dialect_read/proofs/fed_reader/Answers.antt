-- The reader begins with nothing, and then it was fed.
use Rattle.std.proofs.Common.{refl, ◌∙◌}
use Rattle.std.proofs.lemmas.Result.{err_from_is_err_and}
use Rattle.kc_dialect_read.proofs.fed_reader.Goals as goal

pub feed_all-requires-clause-none : goal.feed_all-requires-clause-none
feed_all-requires-clause-none g c = c.new-reader.ensures.fed

pub returns-in_err-room : goal.returns-in_err-room
returns-in_err-room g c =
    let p = err_from_is_err_and c.from_residual.result c.from_residual.ensures.1 in
    rw (p.1, p.2) (record {
      given = tt;
      dialect = tt;
      faultless = λ _. refl;
      read_fault = λ e. absurd (cc);
      unjudged = λ r e. absurd (cc);
    })

pub returns-in_err-feed_all : goal.returns-in_err-feed_all
returns-in_err-feed_all g c =
    let p = err_from_is_err_and c.from_residual-in_err-feed_all.result c.from_residual-in_err-feed_all.ensures.1 in
    rw (p.1, p.2) (record {
      given = tt;
      dialect = tt;
      faultless = λ other. c.in_err-feed_all.ensures.faultless (λ e. other (cc));
      read_fault = λ e. c.in_err-feed_all.ensures.read_fault (cc);
      unjudged = λ r e. c.in_err-feed_all.ensures.unjudged r (cc);
    })

pub returns : goal.returns
returns g c = record {
  given = c.in_ok-feed_all.ensures.given;
  dialect = c.in_ok-feed_all.ensures.dialect ∙ c.new-reader.ensures.dialect;
  faultless = λ _. c.in_ok-feed_all.ensures.faultless (λ e. absurd (cc));
  read_fault = λ e. absurd (cc);
  unjudged = λ r e. absurd (cc);
}
