-- The line is told of the stop by which the run ended, whose status is settled before.
use Rattle.kc_top.specs.Given.{given}
use Rattle.kc_top.specs.Settings.{asked}
use Rattle.kc_top.proofs.Promised.{ToldEnd-done, ToldEnd-stopped}
use Rattle.kc_top.proofs.run.run.Goals as goal

pub returns-in-Ok-clause-line : goal.returns-in-Ok-clause-line
returns-in-Ok-clause-line g c =
    ToldEnd-done g.E.Sink (given (asked c.args.words.now) (g.S.Source.left c.args.streams.now.source)) c.args.streams.now.err c.work.new.streams.err
    c.work.ensures.err

pub returns-in-Err-clause-ended : goal.returns-in-Err-clause-ended
returns-in-Err-clause-ended g c = rw c.finish.ensures.status c.in-Err.ensures.ended

pub returns-in-Err-clause-line : goal.returns-in-Err-clause-line
returns-in-Err-clause-line g c =
    rw c.finish.ensures.status (
    ToldEnd-stopped g.E.Sink (given (asked c.args.words.now) (g.S.Source.left c.args.streams.now.source)) c.in-Err.stop c.args.streams.now.err
    c.work.new.streams.err c.finish.new.err c.work.ensures.err c.in-Err.ensures.line c.finish.ensures.took c.finish.ensures.offered
    )
