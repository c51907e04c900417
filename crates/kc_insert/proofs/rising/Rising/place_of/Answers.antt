-- In an ascending queue, if the middle one stands before `x` all in front of it do, and if it does not none behind it does.
use Rattle.std.proofs.Common.{ℕ, List, ltb, ◌≡◌, ◌<◌, ◌+◌, ◌-◌, ◌/◌, length, get_or, sym, ◌∙◌, ap, subst, arith}
use Rattle.kc_lists.specs.Lists.{member, place_of}
use Rattle.kc_lists.proofs.Counting.{member-get_or}
use Rattle.kc_graph.specs.Lawful.{Ranked}
use Rattle.kc_graph.specs.declared.update.Update.{Update}
use Rattle.kc_view.specs.Answers.{Answers, Agrees}
use Rattle.kc_view.proofs.Keeping.{GoesOn-refl, GoesOn-trans, answers-agreed, order-true, still_has_core}
use Rattle.kc_insert.specs.Rising.{IsTidyRising}
use Rattle.kc_insert.proofs.Passing.{place-first, place-up, place-down}
use Rattle.kc_insert.proofs.Tidy.{asks-order, tidy-view}
use Rattle.kc_insert.proofs.rising.Rising.place_of.Given.{Over}
use Rattle.kc_insert.proofs.rising.Rising.place_of.Goals.{After-get, In_ok-stands_before}
use Rattle.kc_insert.proofs.rising.Rising.place_of.Goals as goal

-- `x` stands in the queue, in the middle between two places
record IsMiddle (queue : List ℕ) (low high x : ℕ) : Type 0 where
  here : low + (high - low) / 2 < length queue
  at : x ≡ get_or queue (low + (high - low) / 2) 0

-- so does the one that is looked at in a turn of the loop
middle-place : (g : Over) (c : After-get g) → IsMiddle c.args.self.now.queue.items c.loop-low.low c.loop-low.high c.get.result
middle-place g c =
    let l : c.loop-low.low + (c.loop-low.high - c.loop-low.low) / 2 < length c.args.self.now.queue.items =
    omega (arith, c.loop-low-test.true, c.loop-low.invariant.within) in
    record { here = l; at = c.get.ensures }

-- once its order was asked, what holds for every view holds still
tidy-still : (g : Over) (c : In_ok-stands_before g) (update : Update) → IsTidyRising update (g.V.View.shown c.args.view.now) c.args.self.now
    → IsTidyRising update (g.V.View.shown c.stands_before.new.view) c.args.self.now
tidy-still g c update t =
    let e = c.stands_before.ensures.goes_on in
    let k = c.loop-low.invariant.tidy update t in
    tidy-view update _ _ c.args.self.now k e.lasts.same_size e.further
    (asks-order update _ _ c.args.self.now.queue.items _ k.asks c.in_ok-stands_before.ensures.told)

-- and what was told of it is so in each state that agrees
order-is : (g : Over) (c : In_ok-stands_before g) (s : Ranked) → Agrees (g.V.View.shown c.stands_before.new.view).kept s
    → c.in_ok-stands_before.field-0 ≡ ltb (place_of c.get.result s.order) (place_of c.args.x s.order)
order-is g c s a = (order-true _ s _ (subst (λ (b : Answers). Agrees b s) c.in_ok-stands_before.ensures.told a)).2

pub loop-low-init : goal.loop-low-init
loop-low-init g c =
    let r = c.args.self.now in
    let o = c.requires.tidy.1.orderly in
    let all : c.len-high.result ≡ length r.queue.items = c.len-high.ensures in
    record {
      goes_on = GoesOn-refl _;
      tidy = λ update t. t;
      from = omega arith;
      up = omega (arith, all, o.turn_in);
      within = omega (arith, all);
      place = λ s a up first. place-first _ r.queue.items c.args.x r.turn c.len-high.result o.turn_in all first;
    }

pub stands_before-requires-clause-first : goal.stands_before-requires-clause-first
stands_before-requires-clause-first g c =
    let m = middle-place g (goal.at.stands_before-requires-clause-first g c).After-get in
    let queue = c.args.self.now.queue.items in
    (c.loop-low.invariant.tidy c.requires.tidy.0 c.requires.tidy.1).placed c.get.result
    (ap (λ n. member n queue) m.at ∙ member-get_or queue _ 0 m.here)

pub stands_before-requires-clause-second : goal.stands_before-requires-clause-second
stands_before-requires-clause-second g c = still_has_core _ _ c.args.x c.loop-low.invariant.goes_on.further c.requires.placed

pub loop-low-preserved-then-branch : goal.loop-low-preserved-then-branch
loop-low-preserved-then-branch g c =
    let i = c.loop-low.invariant in
    let told = (goal.at.loop-low-preserved-then-branch g c).In_ok-stands_before in
    record {
      goes_on = GoesOn-trans _ _ _ i.goes_on c.stands_before.ensures.goes_on;
      tidy = tidy-still g told;
      from = omega (arith, i.from);
      up = omega (arith, c.loop-low-test.true);
      within = i.within;
      place = λ s a up first.
          let m = middle-place g (goal.at.In_ok-stands_before g told).After-get in
          place-up _ c.args.self.now.queue.items c.args.x c.loop-low.low c.loop-low.high _ c.get.result up
          (i.place s (answers-agreed _ _ s c.stands_before.ensures.goes_on.further a) up first) m.here m.at (sym c.if-branch.true ∙ order-is g told s a);
    }

pub loop-low-preserved : goal.loop-low-preserved
loop-low-preserved g c =
    let i = c.loop-low.invariant in
    let told = (goal.at.loop-low-preserved g c).In_ok-stands_before in
    record {
      goes_on = GoesOn-trans _ _ _ i.goes_on c.stands_before.ensures.goes_on;
      tidy = tidy-still g told;
      from = i.from;
      up = omega (arith, c.loop-low-test.true);
      within = omega (arith, c.loop-low-test.true, i.within);
      place = λ s a up first.
          let m = middle-place g (goal.at.In_ok-stands_before g told).After-get in
          place-down _ c.args.self.now.queue.items c.args.x c.loop-low.low c.loop-low.high _ c.get.result up
          (i.place s (answers-agreed _ _ s c.stands_before.ensures.goes_on.further a) up first) m.here m.at (sym c.if-branch.false ∙ order-is g told s a);
    }

pub returns-clause-place : goal.returns-clause-place
returns-clause-place g c = λ s a up first.
    let p = c.loop-low.invariant.place s a up first in
    record { before = p.before; behind = λ k le l. p.behind k (omega (arith, c.loop-low-test.false, le)) l }
