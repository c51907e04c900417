-- The order that is kept is that of the state: both vertices are in it, since their core numbers were told.
use Rattle.std.proofs.Common.{ltb, refl}
use Rattle.kc_lists.specs.Lists.{place_of}
use Rattle.kc_view.specs.Answers.{Answers, with_order}
use Rattle.kc_view.proofs.AtRest.{Rests, lists-true, next_order}
use Rattle.kc_view.proofs.plain.PlainViewView.precedes.Goals.{In_ok-keep_order}
use Rattle.kc_view.proofs.plain.PlainViewView.precedes.Goals as goal

-- what was kept before the call
abbrev kept : In_ok-keep_order → Answers
kept c = record { edges = c.self.inside.edges.items; places = c.self.inside.places.items; orders = c.self.inside.orders.items }

-- what the call leaves
order-rests : (c : In_ok-keep_order) → Rests c.self.inside.state.now (kept c)
    (with_order (kept c) (record {
      x = c.args.x;
      y = c.args.y;
      before =
          ltb (place_of c.args.x c.self.inside.state.now.order) (place_of c.args.y c.self.inside.state.now.order);
    })) c.self.inside.handed c.self.inside.is_listed.items c.self.inside.is_placed.items
order-rests c = next_order c.self.invariant c.self.view_is _ c.requires.first c.requires.second refl

pub returns-in_err-keep_order-clause-lists : goal.returns-in_err-keep_order-clause-lists
returns-in_err-keep_order-clause-lists c = lists-true _ c.self.inside.state.now c.self.invariant.agrees

pub returns-clause-lists : goal.returns-clause-lists
returns-clause-lists c = lists-true _ c.self.inside.state.now c.self.invariant.agrees

pub invariant_of-self-2 : goal.invariant_of-self-2
invariant_of-self-2 c =
    rw (c.in_ok-keep_order.ensures.ok, c.place.ensures.place, c.place-2.ensures.place) (order-rests (goal.at.invariant_of-self-2 c).In_ok-keep_order).keeps

pub returns-clause-goes_on : goal.returns-clause-goes_on
returns-clause-goes_on c =
    rw (c.in_ok-keep_order.ensures.ok, c.place.ensures.place, c.place-2.ensures.place, ← c.self.view_is)
    (order-rests (goal.at.returns-clause-goes_on c).In_ok-keep_order).goes_on
