-- Each turn looks at the next neighbour, which is a vertex; in the end every neighbour of `x` has stood at some turn's place.
use Rattle.std.proofs.Common.{◌≤◌, ℕ, List, length, get_or, refl, sym, ◌∙◌, ap, subst, inl, inr, arith}
use Rattle.std.proofs.lemmas.Bool.{cases_eq}
use Rattle.kc_graph.specs.Neighbours.{neighbours_of}
use Rattle.kc_graph.specs.Lawful.{Ranked}
use Rattle.kc_cert.specs.Local.{HoldsAt}
use Rattle.kc_cert.specs.Stands.{changed_by}
use Rattle.kc_cert.proofs.Looking.{each_member}
use Rattle.kc_cert.proofs.Tallying.{neighbour-at}
use Rattle.kc_cert.proofs.local.look_around.Goals as goal

pub look-requires-in-loop-i-clause-vertex : goal.look-requires-in-loop-i-clause-vertex
look-requires-in-loop-i-clause-vertex g c =
    let s : Ranked = g.S.State.state c.args.state.now in
    (neighbour-at s.graph c.args.x c.loop-i.i c.neighbour-y.result (omega (arith, c.loop-i-test.true, c.degree-i-end.ensures)) c.neighbour-y.ensures).0

pub loop-i-preserved : goal.loop-i-preserved
loop-i-preserved g c =
    let s : Ranked = g.S.State.state c.args.state.now in
    let t : Ranked = changed_by c.args.update c.args.arrangement.now.moves.now s in
    let ws : List ℕ = neighbours_of s.graph c.args.x in
    record {
      seen = c.in_ok-look-2.ensures.seen;
      beside = λ k l. elim (cases_eq k c.loop-i.i) [
        | inl e ↦
            subst (λ (y : ℕ). HoldsAt t y) (c.neighbour-y.ensures ∙ ap (λ j. get_or ws j 0) (sym e))
            (c.in_ok-look-2.ensures.holds.0 c.if-not-branch-2.false)
        | inr ne ↦ c.loop-i.invariant.beside k (omega arith)
      ];
    }

pub returns-clause-holds : goal.returns-clause-holds
returns-clause-holds g c = (
  λ _.
      let s : Ranked = g.S.State.state c.args.state.now in
      let t : Ranked = changed_by c.args.update c.args.arrangement.now.moves.now s in
      let ws : List ℕ = neighbours_of s.graph c.args.x in
      let all : length ws ≤ c.loop-i.i = omega (arith, c.loop-i-test.false, c.degree-i-end.ensures) in
      record {
        here = c.in_ok-look.ensures.holds.0 c.if-not-branch.false;
        beside = each_member (λ (y : ℕ). HoldsAt t y) ws c.loop-i.i all c.loop-i.invariant.beside;
      },
  λ _. refl,
)
