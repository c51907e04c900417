-- What is kept is a state of the account, and where nothing is kept there is none.
use Rattle.std.proofs.Common.{List, ℕ, ap, subst, ◌∙◌, take, Option}
use Rattle.kc_watch.specs.Watching.{KeepsAccount}
use Rattle.kc_watch.specs.declared.kept.Kept.{Kept}
use Rattle.kc_watch.proofs.Stated.{no-state, some-state}
use Rattle.kc_watch.proofs.course.Course.state.Goals as goal

pub returns-in_default : goal.returns-in_default
returns-in_default c = λ told named k.
    no-state told c.args.self.now.ended (subst (λ (o : Option Kept). KeepsAccount o c.args.self.now.ended told) c.in_default.is k)

pub returns : goal.returns
returns c = λ told named k.
    let kept : Kept = c.in-Some.kept in
    some-state c.args.self.now.gathered.ids told kept c.args.self.now.ended c.in_ok-state.state named
    (subst (λ (o : Option Kept). KeepsAccount o c.args.self.now.ended told) c.in-Some.is k) c.in_ok-state.ensures.batches
    (c.in_ok-state.ensures.ids ∙ ap (λ (l : List ℕ). take kept.keeper.graph.size l) (c.names.ensures ∙ c.ids.ensures)) c.in_ok-state.ensures.graph
