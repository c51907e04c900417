-- The next vertex is none of those passed before, so it gets one candidate more, and stands apart from all that are queued by now.
use Rattle.std.proofs.Common.{◌≡◌, ◌<◌, ℕ, false, List, take, get_or, sym, ◌∙◌, ap, subst, inl, inr, arith}
use Rattle.std.proofs.lemmas.Bool.{or_cases, false≢true}
use Rattle.std.proofs.lemmas.List.{take_more}
use Rattle.kc_lists.specs.Lists.{member}
use Rattle.kc_lists.proofs.Counting.{member-get_or, take-not_here}
use Rattle.kc_view.proofs.Fronts.{take-member}
use Rattle.kc_view.proofs.Keeping.{GoesOn-trans, answers-agreed, still_has_core}
use Rattle.kc_insert.specs.Turns.{PassedOn}
use Rattle.kc_insert.proofs.Passing.{passed-more}
use Rattle.kc_insert.proofs.rising.Rising.pass_on.Goals as goal

pub pass-requires-clause-vertex : goal.pass-requires-clause-vertex
pass-requires-clause-vertex g c =
    let next : List ℕ = c.args.next.now in
    let l : get_or next c.loop-x.x-index 0 < (g.V.View.shown c.args.view.now).size =
    c.requires.vertices (get_or next c.loop-x.x-index 0) (member-get_or next c.loop-x.x-index 0 c.loop-x-test.true) in
    omega (arith, l, c.loop-x.invariant.goes_on.lasts.same_size)

pub pass-requires-clause-placed : goal.pass-requires-clause-placed
pass-requires-clause-placed g c =
    let next : List ℕ = c.args.next.now in
    still_has_core _ _ (get_or next c.loop-x.x-index 0) c.loop-x.invariant.goes_on.further
    (c.requires.placed (get_or next c.loop-x.x-index 0) (member-get_or next c.loop-x.x-index 0 c.loop-x-test.true))

pub pass-requires-clause-tidy : goal.pass-requires-clause-tidy
pass-requires-clause-tidy g c = (c.requires.tidy.0, c.loop-x.invariant.tidy c.requires.tidy.0 c.requires.tidy.1)

pub loop-x-preserved : goal.loop-x-preserved
loop-x-preserved g c =
    let i = c.loop-x.invariant in
    let e = c.pass.ensures.goes_on in
    let o = c.in_ok-pass.ensures in
    let next : List ℕ = c.args.next.now in
    let n : ℕ = c.loop-x.x-index in
    let x : ℕ = get_or next n 0 in
    let l = c.loop-x-test.true in
    let late : member x (take n next) ≡ false = take-not_here n next l c.requires.once in
    let t = i.tidy c.requires.tidy.0 c.requires.tidy.1 in
    record {
      goes_on = GoesOn-trans _ _ _ i.goes_on e;
      tidy = λ update k. o.tidy update (i.tidy update k);
      passed =
          subst (λ (xs : List ℕ). PassedOn xs c.args.self.now c.pass.new.self) (sym (take_more next n 0 l))
          (passed-more x (take n next) c.args.self.now c.loop-x.self c.pass.new.self t.orderly i.passed o.passes late);
      ascends = λ s a stand up.
          let first = stand x (member-get_or next n 0 l) in
          o.ascends s a (record {
            behind = λ z m. first.behind z (sym (ap (member z) i.passed.same_left) ∙ m);
            apart = λ z in' k. elim in' [
              | inr none ↦ absurd (false≢true none)
              | inl m ↦
                  first.apart z
                  (elim (or_cases (member z c.args.self.now.queue.items) (member z (take n next)) (sym (i.passed.queue z) ∙ m))
                  [ inl q ↦ inl q | inr q ↦ inr (take-member n next z q) ])
                  k
            ];
          }) (i.ascends s (answers-agreed _ _ s e.further a) stand up);
    }
