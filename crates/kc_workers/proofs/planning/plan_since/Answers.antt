-- What the view has seen, the caller's worker has seen too when they have met.
use Rattle.std.proofs.Common.{rules, List, subst}
use Rattle.std.proofs.lemmas.Result.{IfOk-weaker, IfErr-weaker}
use mathlib.Core.List.{IsPrefix}
use Rattle.kc_graph.specs.declared.plan.Plan.{Plan}
use Rattle.kc_table.specs.declared.view.Event.{Event}
use Rattle.kc_view.specs.Answers.{answers_in}
use Rattle.kc_view.specs.Views.{HasPlanCause}
use Rattle.kc_view.specs.declared.fault.PlanFault.{PlanFault}
use Rattle.kc_table.specs.Log.{Opened}
use Rattle.kc_stripes.specs.Reads.{HasLooseCause, Loosely, WereReadSince, shown_loosely}
use Rattle.kc_stripes.proofs.Giving.{fault_grows, since_grows}
use Rattle.kc_workers.proofs.planning.plan_since.Goals as goal

pub returns-clause-continues : goal.returns-clause-continues
returns-clause-continues g c = record { table = search rules; longer = search rules; legal = search rules }

pub returns-clause-read : goal.returns-clause-read
returns-clause-read g c =
    let o : Opened = g.K.Name.opened in
    let v : Loosely = c.plan_over-planned.new.view in
    let log : List Event = c.meet.new.pass.log in
    let told : IsPrefix v.seen log = subst (λ (l : List Event). IsPrefix l log) c.end-own.ensures.log c.meet.ensures.that in
    IfOk-weaker c.plan_over-planned.result (λ (p : Plan). WereReadSince o g.S.Moment.log v.seen (answers_in p.used))
    (λ (p : Plan). WereReadSince o g.S.Moment.log log (answers_in p.used))
    (λ p h. since_grows o g.S.Moment.log v.seen log (answers_in p.used) h told) c.plan_over-planned.ensures.given

pub returns-clause-cause : goal.returns-clause-cause
returns-clause-cause g c =
    let o : Opened = g.K.Name.opened in
    let start : List Event = g.S.Moment.log in
    let v : Loosely = c.plan_over-planned.new.view in
    let w : Loosely = c.new-view.result in
    let log : List Event = c.meet.new.pass.log in
    let told : IsPrefix v.seen log = subst (λ (l : List Event). IsPrefix l log) c.end-own.ensures.log c.meet.ensures.that in
    IfErr-weaker c.plan_over-planned.result (λ (f : PlanFault). HasPlanCause (shown_loosely o start w) (shown_loosely o start v) f)
    (λ (f : PlanFault). HasLooseCause g.K.Name.opened.table start log f)
    (λ f h. fault_grows g.K.Name.opened.table start v.seen log (shown_loosely o start w) (shown_loosely o start v) f (λ again m. m) h told)
    c.plan_over-planned.ensures.cause
