-- Behind the first turn, a vertex with no candidate before it just leaves the queue; any other is visited.
use Rattle.std.proofs.Common.{◌≡◌, ◌<◌, false, get_or, refl, sym, subst, arith}
use Rattle.std.proofs.lemmas.Bool.{false≢true}
use Rattle.kc_insert.specs.Added.{search_with}
use Rattle.kc_insert.specs.Rising.{earlier_at}
use Rattle.kc_insert.specs.Turns.{LeavesQueue}
use Rattle.kc_insert.specs.declared.rising.Mark.{Mark}
use Rattle.kc_insert.proofs.Tidy.{leave-tidy}
use Rattle.kc_insert.proofs.Waiting.{pass-later}
use Rattle.kc_insert.proofs.rising.Rising.take_turn.Goals as goal

pub returns-then-earlier_of-eq0-clause-tidy : goal.returns-then-earlier_of-eq0-clause-tidy
returns-then-earlier_of-eq0-clause-tidy g c =
    let w = c.get-w.result in
    let r = c.args.self.now in
    let first : w ≡ get_or r.queue.items r.turn 0 = c.get-w.ensures in
    leave-tidy c.args.search.update (g.V.View.shown c.args.view.now) w
    (record { earlier = 0; later = 0; turn = 0; is_candidate = false; is_weak = false }) r c.leave.new.self c.requires.tidy
    (subst (λ (m : Mark). LeavesQueue w m r c.leave.new.self) c.past.ensures c.in_ok-leave.ensures) c.requires.turn (sym first)
    (λ e. absurd (false≢true e)) refl (λ e. absurd (false≢true e))

pub returns-then-earlier_of-eq0-clause-turns : goal.returns-then-earlier_of-eq0-clause-turns
returns-then-earlier_of-eq0-clause-turns g c = λ s root lv a wd b.
    let w = c.get-w.result in
    let r = c.args.self.now in
    let first : w ≡ get_or r.queue.items r.turn 0 = c.get-w.ensures in
    let some : 0 < r.turn = omega (arith, c.if-self-gt0.true) in
    let none : earlier_at r w ≡ 0 = omega (arith, c.earlier_of.ensures, c.if-earlier_of-eq0.true) in
    pass-later (search_with c.args.search.update c.args.search.level s) root w r c.leave.new.self wd c.requires.tidy.orderly c.requires.turn (sym first)
    (subst (λ (m : Mark). LeavesQueue w m r c.leave.new.self) c.past.ensures c.in_ok-leave.ensures) some none b
