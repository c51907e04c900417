-- Where no core number of `w` was kept, the one that is drawn is kept, and is the one that is told from now on.
use Rattle.std.proofs.Common.{◌≡◌, List, sym, ◌∙◌, ap, subst}
use Rattle.std.specs.Prelude.{is_some}
use Rattle.kc_graph.specs.declared.used.UsedPlace.{UsedPlace}
use Rattle.kc_view.specs.Answers.{Answers, core_in, with_place}
use Rattle.kc_view.specs.Views.{TellsCore}
use Rattle.kc_plans_tests.specs.Whim.{Whims}
use Rattle.kc_view.proofs.Marking.{TellsNewCore, tells_new_core}
use Rattle.kc_plans_tests.proofs.whim_view.WhimViewView.core.Goals.{In_ok-keep_place}
use Rattle.kc_plans_tests.proofs.whim_view.WhimViewView.core.Goals as goal

-- what was kept before
abbrev kept : In_ok-keep_place → Answers
kept c = record { edges = c.self.inside.edges.items; places = c.self.inside.places.items; orders = c.self.inside.orders.items }

-- the core number is told for the first time
core-tells : (c : In_ok-keep_place) → TellsNewCore (kept c) (record { vertex = c.args.w; stamp = 0; core = c.core-core.result })
core-tells c =
    tells_new_core (kept c) _
    (ap (λ (xs : List UsedPlace). is_some (core_in c.args.w xs)) (sym c.deref.ensures.value) ∙ ap is_some (sym c.kept_core.ensures ∙ c.in_default.is))

pub returns-clause-told : goal.returns-clause-told
returns-clause-told c =
    let here = (goal.at.returns-clause-told c).In_ok-keep_place in
    let same : kept here ≡ c.args.self.now.kept = ap (λ (w : Whims). w.kept) c.self.view_is ∙ c.go_on.ensures.kept in
    let p : UsedPlace = record { vertex = c.args.w; stamp = 0; core = c.core-core.result } in
    rw c.in_ok-keep_place.ensures.ok (subst (λ (a : Answers). TellsCore a (with_place (kept here) p) c.args.w) same (core-tells here).told)

pub returns-clause-core : goal.returns-clause-core
returns-clause-core c = rw c.in_ok-keep_place.ensures.ok (core-tells (goal.at.returns-clause-core c).In_ok-keep_place).core
