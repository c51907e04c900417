-- Where the words are wrong, or there is no memory to read them, nothing has changed; and right words ask for some workers.
use Rattle.std.proofs.Common.{Option, subst, sym, ◌∙◌}
use Rattle.kc_output.specs.declared.setting.Setting.{Setting}
use Rattle.kc_top.specs.EndedFor.{EndedFor}
use Rattle.kc_top.specs.Settings.{asked}
use Rattle.kc_top.specs.Stops.{ended}
use Rattle.kc_top.specs.declared.ending.Stop.TheVariants as stop
use Rattle.kc_top.proofs.Asking.{has-workers}
use Rattle.kc_top.proofs.Promised.{EndedFor-no_memory, EndedFor-stopped, EndedFor-wrong_words}
use Rattle.kc_top.proofs.run.work.Goals as goal

pub returns-in_err-setting_of-clause-ended : goal.returns-in_err-setting_of-clause-ended
returns-in_err-setting_of-clause-ended g c =
    let s = c.args.streams.now in
    EndedFor-stopped g.S.Source g.O.Sink (asked c.args.words.now) c.from_residual.result stop.NoMemory s.source s.source s.out s.out
    c.args.ran.now c.args.ran.now c.from_residual.ensures.1
    (EndedFor-no_memory g.S.Source g.O.Sink (asked c.args.words.now) s.source s.out c.args.ran.now)

pub returns-in-None-clause-ended : goal.returns-in-None-clause-ended
returns-in-None-clause-ended g c =
    let s = c.args.streams.now in
    EndedFor-wrong_words g.S.Source g.O.Sink (asked c.args.words.now) s.source s.out c.args.ran.now (sym c.in_ok-setting_of.ensures ∙ c.in-None.is)

pub follow-requires-clause-workers : goal.follow-requires-clause-workers
follow-requires-clause-workers g c = λ _ _. has-workers c.args.words.now c.in-Some.setting (sym c.in_ok-setting_of.ensures ∙ c.in-Some.is)

pub returns-in-Some-clause-ended : goal.returns-in-Some-clause-ended
returns-in-Some-clause-ended g c =
    subst (λ (a : Option Setting). EndedFor g.S.Source g.O.Sink a (ended c.follow.result) c.args.streams.now.source c.follow.new.streams.source
    c.args.streams.now.out c.follow.new.streams.out c.args.ran.now c.follow.new.ran)
    (sym c.in-Some.is ∙ c.in_ok-setting_of.ensures) c.follow.ensures.ended
