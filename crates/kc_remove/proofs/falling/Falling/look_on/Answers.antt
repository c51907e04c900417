-- The next neighbour is found just where it supports `y`; at the end of the list all were looked at.
use Rattle.std.proofs.Common.{length, ap, ◌∙◌, arith, inl, inr}
use Rattle.kc_view.specs.Answers.{list_of}
use Rattle.kc_view.proofs.Keeping.{GoesOn-trans, still_has_list, same_list, answers-agreed, list-true}
use Rattle.kc_remove.proofs.Listed.{bound-next, listed-stands, looked-one}
use Rattle.kc_remove.proofs.Tidy.{tidy-again}
use Rattle.kc_remove.proofs.falling.Falling.look_on.Goals as goal
use Rattle.kc_remove.proofs.falling.Falling.look_on.Goals.{then-branch, else-branch}

pub loop-support-init : goal.loop-support-init
loop-support-init g c =
    let r = c.requires in
    let e = c.degree_of.ensures.goes_on in
    let o = c.in_ok-degree.ensures in
    record {
      goes_on = e;
      read = o.told.told;
      row = same_list _ _ c.args.y.vertex e.further r.read;
      degree = o.length ∙ ap (λ a. length (list_of a c.args.y.vertex)) (o.told.before r.read);
      tidy = tidy-again _ _ _ _ _ r.tidy e o.told r.read;
      lists = c.degree_of.ensures.lists;
      looked = r.looked;
      told = λ s a of_level is. is;
    }

pub supports-requires-clause-vertex : goal.supports-requires-clause-vertex
supports-requires-clause-vertex g c =
    let i = c.loop-support.invariant in
    (listed-stands _ _ _ _ _ i.goes_on i.lists c.requires.read c.list.ensures (omega (arith, i.degree, c.if-looked-degree.true))).vertex

pub loop-support-preserved : goal.loop-support-preserved
loop-support-preserved g c =
    let i = c.loop-support.invariant in
    let e = c.supports.ensures.goes_on in
    let z = listed-stands _ _ _ _ _ i.goes_on i.lists c.requires.read c.list.ensures (omega (arith, i.degree, c.if-looked-degree.true)) in
    record {
      goes_on = GoesOn-trans _ _ _ i.goes_on e;
      read = still_has_list _ _ c.args.y.vertex e.further i.read;
      row = same_list _ _ c.args.y.vertex e.further i.read ∙ i.row;
      degree = i.degree;
      tidy = c.in_ok-supports.ensures.tidy;
      lists = e.lists i.lists;
      looked = bound-next _ _ _ z.list.ascends z.here (c.from-bound.ensures ∙ z.at);
      told = λ s a of_level start.
          let before = answers-agreed _ _ s e.further a in
          looked-one c.args.search.update c.args.search.level s _ _ c.args.y.vertex _ _ _ _ _ _ _ _ z
          (list-true _ s c.args.y.vertex (answers-agreed _ _ s i.goes_on.further before) c.requires.read).1 i.looked c.from-bound.ensures
          (i.told s before of_level start) (c.in_ok-supports.ensures.told s a of_level)
          (elim c.if-branch.branch [ then-branch w ↦ inl (w.if-branch.true, w.support-is) | else-branch w ↦ inr (w.if-branch.false, w.support-is) ]);
    }
