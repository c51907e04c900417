-- The ends are named, and the edge is put behind the others.
use Rattle.std.proofs.Common.{◌≤◌, ◌<◌, ◌∷◌, ◌++◌, [], ℕ, List, length, ap₂, subst, ◌∙◌, refl, arith}
use Rattle.std.specs.List.{cons_option}
use Rattle.kc_words.specs.declared.layout.TheConstants.{VERTICES}
use Rattle.kc_text.specs.Inputs.{between}
use Rattle.kc_stream.specs.Ids.{with_names}
use Rattle.kc_stream.proofs.Holding.{edge-fine, edge-over, holds-edge}
use Rattle.kc_stream.proofs.gathered.Gathered.take_edge.Goals as goal

pub returns-in_default-clause-refused : goal.returns-in_default-clause-refused
returns-in_default-clause-refused c = λ told h.
    let over : VERTICES < length (with_names c.args.self.now.ids (c.args.a ∷ c.args.b ∷ [])) = rw c.in_default.is at c.in_ok-u.ensures.numbers in
    edge-over c.args.self.now told h c.args.a c.args.b c.if-self.false over

pub returns-clause-refused : goal.returns-clause-refused
returns-clause-refused c = λ told h.
    let (ids, first, second) = rw c.in-Some.is at c.in_ok-u.ensures.numbers in
    edge-fine c.args.self.now told h c.args.a c.args.b c.if-self.false (subst (λ (l : List ℕ). length l ≤ VERTICES) ids c.in_ok-u.ensures.few)

pub returns-clause-holds : goal.returns-clause-holds
returns-clause-holds c = λ _ told h.
    let (ids, first, second) = rw c.in-Some.is at c.in_ok-u.ensures.numbers in
    let (has-a, has-b) = rw c.in-Some.is at c.in_ok-u.ensures.among in
    holds-edge c.args.self.now _ told c.args.a c.args.b c.if-self.false ids has-a has-b refl
    (c.in_ok-push_between.ensures.pair
    ∙ ap₂ (λ (u v : ℕ). c.args.self.now.edges.items ++ cons_option (between u v) []) first second)
    (λ bound u v. c.in_ok-push_between.ensures.within bound (omega (arith, u, first)) (omega (arith, v, second))) refl h
