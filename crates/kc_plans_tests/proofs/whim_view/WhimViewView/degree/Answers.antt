-- A list is drawn at the first call for a vertex, and found at a later one.
use Rattle.std.proofs.Common.{◌≡◌, ℕ, List, length, sym, ◌∙◌, ap, subst, arith}
use Rattle.std.specs.Prelude.{Some, is_some}
use Rattle.kc_graph.specs.declared.used.UsedEdges.{UsedEdges}
use Rattle.kc_view.specs.Answers.{Answers, list_in, with_list}
use Rattle.kc_view.specs.Lists.{IsListOf}
use Rattle.kc_view.specs.Views.{TellsList, GoesOn}
use Rattle.kc_plans_tests.specs.Whim.{Whims, shown_by_whim}
use Rattle.kc_view.proofs.Marking.{TellsNewList, tells_new_list}
use Rattle.kc_view.proofs.Handing.{lists-push}
use Rattle.kc_view.proofs.Keeping.{GoesOn-trans}
use Rattle.kc_plans_tests.proofs.Looking.{short_list, found-list}
use Rattle.kc_plans_tests.proofs.Drawn.{goes-on-list}
use Rattle.kc_plans_tests.proofs.whim_view.WhimViewView.degree.Goals.{In_ok-keep_list}
use Rattle.kc_plans_tests.proofs.whim_view.WhimViewView.degree.Goals as goal

-- what the view was before
abbrev before : In_ok-keep_list → Whims
before c = record {
  size = c.self.inside.size;
  kept = record { edges = c.self.inside.edges.items; places = c.self.inside.places.items; orders = c.self.inside.orders.items };
  handed = c.self.inside.handed;
  misses = c.self.inside.misses;
  again = c.self.inside.again;
}

-- the list that is kept
abbrev list : In_ok-keep_list → UsedEdges
list c = record { vertex = c.args.w; at = 0; neighbours = c.deref-2.result.now }

-- it is told for the first time
list-tells : (c : In_ok-keep_list) → TellsNewList (before c).kept (list c)
list-tells c =
    tells_new_list (before c).kept (list c)
    (ap (λ (xs : List UsedEdges). is_some (list_in c.args.w xs)) (sym c.deref.ensures.value) ∙ ap is_some c.in_default.ensures)

-- it is one of its vertex
list-drawn : (c : In_ok-keep_list) → IsListOf c.self.inside.size c.args.w c.deref-2.result.now
list-drawn c = subst (IsListOf c.self.inside.size c.args.w) (sym c.deref-2.ensures.value) c.in_ok-list.ensures

pub overflow_cast-result : goal.overflow_cast-result
overflow_cast-result c =
    let here : list_in c.args.w c.self.inside.edges.items ≡ Some c.in-Some.list.now = ap (list_in c.args.w) (sym c.deref.ensures.value) ∙ c.in-Some.ensures in
    omega (
      arith,
      short_list c.self.inside.size c.args.w c.in-Some.list.now
          (found-list c.self.inside.size c.args.w c.self.inside.edges.items c.in-Some.list.now c.self.invariant.lists here),
    )

pub overflow_cast-degree : goal.overflow_cast-degree
overflow_cast-degree c = omega (arith, short_list c.self.inside.size c.args.w c.in_ok-list.list.items c.in_ok-list.ensures)

pub invariant_of-self-2 : goal.invariant_of-self-2
invariant_of-self-2 c =
    let e : UsedEdges = record { vertex = c.args.w; at = 0; neighbours = c.in_ok-list.list.items } in
    rw (c.in_ok-keep_list.ensures.ok, c.deref-2.ensures.value) (record {
      lists = lists-push c.self.inside.size c.self.inside.edges.items e c.self.invariant.lists c.in_ok-list.ensures;
      differ = c.self.invariant.differ;
    })

pub returns-clause-told : goal.returns-clause-told
returns-clause-told c =
    let at = (goal.at.returns-clause-told c).In_ok-keep_list in
    let same : (before at).kept ≡ c.args.self.now.kept = ap (λ (w : Whims). w.kept) c.self.view_is ∙ c.go_on.ensures.kept in
    rw c.in_ok-keep_list.ensures.ok (subst (λ (a : Answers). TellsList a (with_list (before at).kept (list at)) c.args.w) same (list-tells at).told)

pub returns-clause-length : goal.returns-clause-length
returns-clause-length c =
    rw c.in_ok-keep_list.ensures.ok
    (c.len-degree.ensures ∙ (sym c.deref-2.ensures.len ∙ ap (length {A = ℕ}) (list-tells (goal.at.returns-clause-length c).In_ok-keep_list).list))

pub returns-clause-lists : goal.returns-clause-lists
returns-clause-lists c =
    let at = (goal.at.returns-clause-lists c).In_ok-keep_list in
    rw c.in_ok-keep_list.ensures.ok (lists-push c.self.inside.size c.self.inside.edges.items (list at) c.self.invariant.lists (list-drawn at))

pub returns-clause-goes_on : goal.returns-clause-goes_on
returns-clause-goes_on c =
    let at = (goal.at.returns-clause-goes_on c).In_ok-keep_list in
    let step : GoesOn (shown_by_whim (before at)) (shown_by_whim (record (before at) { kept = with_list (before at).kept (list at) })) =
    goes-on-list (before at) (list at) (list-drawn at) in
    GoesOn-trans _ _ _ c.go_on.ensures.goes_on (rw (c.in_ok-keep_list.ensures.ok, ← c.self.view_is) step)
