-- The ascending numbers are a list of all vertices, and there is no arc.
use Rattle.std.proofs.Common.{◌≡◌, ℕ, [], sym, ap, ◌∙◌, subst}
use Rattle.kc_lists.specs.Lists.{Distinct, member}
use Rattle.kc_words.specs.declared.shape.Shape.{Shape}
use Rattle.kc_table.specs.Log.{Seen}
use Rattle.kc_topo.specs.Dags.{KeepsRows}
use Rattle.kc_topo.specs.Searching.{Trail}
use Rattle.kc_topo.proofs.Opening.{Distinct-ascending, ascending-low, opens-dag, opens-keeps}
use Rattle.kc_topo.proofs.arcs.Arcs.open.Goals as goal

pub open-requires-clause-distinct : goal.open-requires-clause-distinct
open-requires-clause-distinct c = subst Distinct (sym (c.deref.ensures.value ∙ c.in_ok-order.ensures)) (Distinct-ascending c.args.vertices)

pub open-requires-clause-within : goal.open-requires-clause-within
open-requires-clause-within c = λ x m. ascending-low c.args.vertices x (ap (member x) (sym (c.deref.ensures.value ∙ c.in_ok-order.ensures)) ∙ m)

pub invariant_of-arcs : goal.invariant_of-arcs
invariant_of-arcs c =
    let e = c.in_ok-words.ensures in
    let items : c.in_ok-words.words.shape.items ≡ c.args.vertices = ap (λ (s : Shape). s.items) e.shape in
    let now = sym e.writer in (
      subst (λ (s : Seen). KeepsRows s c.in_ok-successors.successors) now
          (opens-keeps c.in_ok-words.words c.args.vertices items (ap (λ (s : Shape). s.fixed) e.shape) c.requires.few
          (e.list ∙ (c.deref.ensures.value ∙ c.in_ok-order.ensures)) e.legal c.in_ok-successors.successors c.in_ok-successors.ensures),
      c.in_ok-reached.ensures ∙ ap (λ (k : ℕ). let t : Trail = record { vertices = []; parents = []; size = k } in t)
          (sym (ap (λ (s : Seen). s.table.shape.items) e.writer ∙ items)),
    )

pub returns : goal.returns
returns c =
    let e = c.in_ok-words.ensures in
    let items : c.in_ok-words.words.shape.items ≡ c.args.vertices = ap (λ (s : Shape). s.items) e.shape in
    opens-dag c.in_ok-words.words c.args.vertices items (ap (λ (s : Shape). s.fixed) e.shape) c.requires.few
    (e.list ∙ (c.deref.ensures.value ∙ c.in_ok-order.ensures)) e.legal c.in_ok-words.writer c.in_ok-words.pass (ap (λ (s : Shape). s.base) e.shape)
    (ap (λ (s : Shape). s.version) e.shape) e.writer e.pass
