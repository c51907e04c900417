-- A vertex that was never queued goes to its place behind those that have left, where the queue stays in order.
use Rattle.std.proofs.Common.{◌≡◌, false, None, sym, ◌∙◌, ap, inl, arith}
use Rattle.std.specs.Prelude.{is_some}
use Rattle.kc_lists.specs.Lists.{member}
use Rattle.kc_view.proofs.Keeping.{still_has_core}
use Rattle.kc_marks.specs.Maps.{value_of}
use Rattle.kc_insert.proofs.Passing.{enqueued-passes, passes-tidy, passes-ascends}
use Rattle.kc_insert.proofs.rising.Rising.pass.Goals as goal

pub returns-in_default-clause-tidy : goal.returns-in_default-clause-tidy
returns-in_default-clause-tidy g c = λ update t.
    let e = c.in_ok-enqueue.ensures in
    let p = c.in_ok-place.ensures in
    let none : value_of c.args.self.now.seen.marks c.args.x ≡ None = sym c.find.ensures ∙ c.in_default.is in
    passes-tidy update _ c.args.x c.args.self.now c.enqueue.new.self (p.tidy update t)
    (enqueued-passes c.args.x c.in_ok-place.place c.args.self.now c.enqueue.new.self none e.marks e.queue e.rest p.from p.within)
    (omega (arith, c.requires.vertex, c.place_of.ensures.goes_on.lasts.same_size))
    (still_has_core _ _ c.args.x c.place_of.ensures.goes_on.further c.requires.placed)

pub returns-in_default-clause-ascends : goal.returns-in_default-clause-ascends
returns-in_default-clause-ascends g c = λ s a stands up.
    let e = c.in_ok-enqueue.ensures in
    let p = c.in_ok-place.ensures in
    let none : value_of c.args.self.now.seen.marks c.args.x ≡ None = sym c.find.ensures ∙ c.in_default.is in
    let out : member c.args.x c.args.self.now.queue.items ≡ false = sym (c.requires.tidy.1.orderly.marked c.args.x) ∙ ap is_some none in
    passes-ascends _ c.args.x c.in_ok-place.place c.args.self.now.queue.items _ e.queue out p.within (p.place s a up stands.behind)
    (λ z m. stands.apart z (inl m)) up
