-- The record at the vertex's place is the record of the vertex.
use Rattle.std.proofs.Common.{◌≡◌, ◌<◌, ◌/◌, ℕ, List, length, sym, ◌∙◌, ap, subst, arith}
use Rattle.std.proofs.lemmas.List.{get_or_read}
use Rattle.kc_graph.specs.declared.used.UsedEdges.{UsedEdges}
use Rattle.kc_view.specs.Lists.{IsListOf}
use Rattle.kc_stripes.specs.declared.stripe.TheConstants.{STRIPES}
use Rattle.kc_stripes.specs.Records.{Striped, IsStripe, IsRecord, record_of}
use Rattle.kc_view.specs.Marks.{no_list}
use Rattle.kc_stripes.proofs.Growing.{was_list}
use Rattle.kc_stripes.proofs.Keeping.{place_in, record_is}
use Rattle.kc_stripes.proofs.stripe.Stripe.get.Goals.{After-index-kept, After-self}
use Rattle.kc_stripes.proofs.stripe.Stripe.get.Goals as goal

-- the stripe keeps the records of its vertices
stripe-is : (c : After-self) → IsStripe c.args.self.now
stripe-is c = subst IsStripe c.self.view_is c.self.invariant.1

-- the vertex has a place among the records
place-below : (c : After-self) → c.args.w / STRIPES < length c.self.inside.records.items
place-below c = omega (arith, place_in c.args.self.now c.args.w (stripe-is c) c.requires, ap (λ (x : Striped). length x.records) c.self.view_is)

-- the record that was read is that of the vertex
record-read : (c : After-index-kept) → c.args.w / STRIPES < length c.self.inside.records.items → c.index-kept.result.now ≡ record_of c.args.self.now c.args.w
record-read c within =
    get_or_read c.self.inside.records.items (c.args.w / STRIPES) c.index-kept.result.now within c.index-kept.ensures no_list
    ∙ ap (λ (x : Striped). record_of x c.args.w) c.self.view_is

pub index-kept-requires : goal.index-kept-requires
index-kept-requires c = omega (arith, place-below (goal.at.index-kept-requires c).After-self)

pub returns-clause-list : goal.returns-clause-list
returns-clause-list c =
    let at = goal.at.returns-clause-list c in
    ap (λ (x : UsedEdges). x.neighbours) (record-read at.After-index-kept (place-below at.After-self))

pub returns-clause-at : goal.returns-clause-at
returns-clause-at c =
    let at = goal.at.returns-clause-at c in
    ap (λ (x : UsedEdges). x.at) (record-read at.After-index-kept (place-below at.After-self))

pub returns-clause-is : goal.returns-clause-is
returns-clause-is c = record_is c.args.self.now c.args.w (stripe-is (goal.at.returns-clause-is c).After-self) c.requires

pub returns-clause-others : goal.returns-clause-others
returns-clause-others c =
    let now : Striped = c.args.self.now in
    let kept : IsStripe now = stripe-is (goal.at.returns-clause-others c).After-self in
    let is : IsRecord now.opened now.seen c.args.w (record_of now c.args.w) = record_is now c.args.w kept c.requires in
    let list = was_list now.opened now.seen (record_of now c.args.w) kept.size is.was in
    subst (λ (ws : List ℕ). IsListOf now.opened.table.shape.fixed c.args.w ws) (sym (returns-clause-list c))
    (subst (λ (v : ℕ). IsListOf now.opened.table.shape.fixed v (record_of now c.args.w).neighbours) is.vertex list)
