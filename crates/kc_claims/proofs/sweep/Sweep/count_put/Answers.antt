-- The edges that were put are counted behind those before.
use Rattle.std.proofs.Common.{◌≡◌, ◌∙◌, ◌++◌, ℕ, List, None, ap, arith, length, refl, subst, sym}
use Rattle.kc_graph.specs.declared.bulk.Edge.{Edge}
use Rattle.kc_graph.proofs.Scattering.{list-written}
use Rattle.kc_tally.specs.Lists.{first_fault, last_edge}
use Rattle.kc_claims.proofs.Counted.{AreTallied-same, HasCounted-more}
use Rattle.kc_claims.proofs.sweep.Sweep.count_put.Goals as goal

pub returns : goal.returns
returns c = λ start before h.
    let old = c.args.self.now in
    let edges : c.deref-3.result.now ≡ old.edges.items = c.deref-3.ensures.value in
    let later = list-written c.count.new.later old.later.items old.later.len
    (omega (arith, old.later.ok.0, c.count.auto.later, ap length c.deref_mut.ensures.value)) in
    let supporters = list-written c.count.new.supporters old.supporters.items old.supporters.len
    (omega (arith, old.supporters.ok.0, c.count.auto.supporters, ap length c.deref_mut-2.ensures.value)) in
    HasCounted-more start old _ before old.edges.items h refl refl refl refl
    (c.last_edge-self.ensures ∙ ap (last_edge old.last) c.deref-4.ensures.value)
    (omega (arith, c.len-2.ensures, old.edges.ok.0)) (omega (arith, c.len-2.ensures, c.len.ensures, old.edges.ok.0, h.within, c.if-self-len.false))
    (subst (λ (xs : List ℕ). first_fault (length xs) 0 old.last old.edges.items ≡ None) c.deref.ensures.value
    (subst (λ (es : List Edge). first_fault (length c.deref.result.now) 0 old.last es ≡ None) edges c.in-Ok.ensures.accepted))
    (λ earlier t. AreTallied-same _ _ _ _ _ _ _ _ _ _ c.deref.ensures.value c.deref-2.ensures.value (ap (λ (es : List Edge). earlier ++ es) edges)
    (sym later) (sym supporters)
    (c.in-Ok.ensures.tally earlier (AreTallied-same _ _ _ _ _ _ _ _ _ _ (sym c.deref.ensures.value) (sym c.deref-2.ensures.value) refl
    (sym c.deref_mut.ensures.value) (sym c.deref_mut-2.ensures.value) t)))
