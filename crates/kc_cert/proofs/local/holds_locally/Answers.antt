-- Each turn looks around the next moved vertex; a failed look refutes that vertex, and in the end every moved one had its turn.
use Rattle.std.proofs.Common.{◌≤◌, ℕ, length, get_or, refl, sym, ◌∙◌, ap, subst, inl, inr, arith, true≢false}
use Rattle.std.proofs.lemmas.Bool.{cases_eq, false≢true}
use Rattle.kc_lists.proofs.Counting.{member-get_or}
use Rattle.kc_graph.specs.Lawful.{Ranked}
use Rattle.kc_cert.specs.Looks.{HoldsAround}
use Rattle.kc_cert.specs.Stands.{changed_by}
use Rattle.kc_cert.proofs.Looking.{each_member}
use Rattle.kc_cert.proofs.local.holds_locally.Goals as goal

pub look_around-requires-clause-vertex : goal.look_around-requires-clause-vertex
look_around-requires-clause-vertex g c =
    c.requires.vertices (get_or c.args.moved.now c.loop-x.x-index 0) (member-get_or c.args.moved.now c.loop-x.x-index 0 c.loop-x-test.true)

pub returns-then-not-branch-3 : goal.returns-then-not-branch-3
returns-then-not-branch-3 g c = (
  λ f. absurd (false≢true f),
  λ h.
      absurd
      (true≢false
      (sym
      (c.in_ok-look_around.ensures.holds.1
      (h.around (get_or c.args.moved.now c.loop-x.x-index 0) (member-get_or c.args.moved.now c.loop-x.x-index 0 c.loop-x-test.true)))
      ∙ c.if-not-branch-3.true)),
)

pub loop-x-preserved : goal.loop-x-preserved
loop-x-preserved g c =
    let s : Ranked = g.S.State.state c.args.state.now in
    let t : Ranked = changed_by c.args.update c.args.arrangement.now.moves.now s in
    record {
      seen = c.in_ok-look_around.ensures.seen;
      around = λ k l. elim (cases_eq k c.loop-x.x-index) [
        | inl e ↦
            subst (λ (x : ℕ). HoldsAround s.graph t x) (ap (λ j. get_or c.args.moved.now j 0) (sym e))
            (c.in_ok-look_around.ensures.holds.0 c.if-not-branch-3.false)
        | inr ne ↦ c.loop-x.invariant.around k (omega arith)
      ];
    }

pub returns : goal.returns
returns g c = (
  λ _.
      let s : Ranked = g.S.State.state c.args.state.now in
      let t : Ranked = changed_by c.args.update c.args.arrangement.now.moves.now s in
      let all : length c.args.moved.now ≤ c.loop-x.x-index = omega (arith, c.loop-x-test.false) in
      record {
        first = c.in_ok-look.ensures.holds.0 c.if-not-branch.false;
        second = c.in_ok-look-2.ensures.holds.0 c.if-not-branch-2.false;
        around = each_member (λ (x : ℕ). HoldsAround s.graph t x) c.args.moved.now c.loop-x.x-index all c.loop-x.invariant.around;
      },
  λ _. refl,
)
