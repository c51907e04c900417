-- The states of the stream are saved where the request says so.
use Rattle.std.proofs.Common.{◌≡◌, ◌∙◌, Option, Some, None, ap, refl, subst, sym}
use Rattle.std.specs.Prelude.{option_map}
use Rattle.kc_wishes.specs.Requests.{plan_of, stream_of_request}
use Rattle.kc_cores.specs.Endings.{line_of}
use Rattle.kc_cores.specs.WatchSaved.{WatchSaved}
use Rattle.kc_wishes.specs.Wishes.{SavingPlan}
use Rattle.kc_wishes.specs.declared.request.SavePlan.{SavePlan}
use Rattle.kc_cores.proofs.answer.answer_stream.Goals as goal

-- one plan is told
Some-one : (plan other : SavingPlan) → Some plan ≡ Some other → plan ≡ other
Some-one plan other e = cc

pub returns-in-None-clause-saved : goal.returns-in-None-clause-saved
returns-in-None-clause-saved g c = λ plan saves.
    let none : None ≡ Some plan = sym (ap (λ (p : Option SavePlan). option_map plan_of p) c.in-None.is) ∙ saves in
    absurd (cc)

pub returns-in-None-clause-told : goal.returns-in-None-clause-told
returns-in-None-clause-told g c = λ _. (c.watch.ensures, refl)

pub returns-in-Some-clause-saved : goal.returns-in-Some-clause-saved
returns-in-Some-clause-saved g c = λ plan saves.
    let same : plan_of c.in-Some.plan ≡ plan =
    Some-one (plan_of c.in-Some.plan) plan (sym (ap (λ (p : Option SavePlan). option_map plan_of p) c.in-Some.is) ∙ saves) in
    subst (λ (x : SavingPlan). WatchSaved g.I.Source g.I.FileInput.behind g.L.Wire g.P.Folder.holds g.P.Folder.failed
    (stream_of_request c.args.request) x c.watch_saving.result.status (line_of c.watch_saving.result) c.args.streams.now.input
    c.watch_saving.new.input c.args.streams.now.wire c.watch_saving.new.wire c.args.folder.now c.watch_saving.new.folder) same c.watch_saving.ensures

pub returns-in-Some-clause-told : goal.returns-in-Some-clause-told
returns-in-Some-clause-told g c = λ unsaved.
    let some : Some (plan_of c.in-Some.plan) ≡ None = sym (ap (λ (p : Option SavePlan). option_map plan_of p) c.in-Some.is) ∙ unsaved in
    absurd (cc)
