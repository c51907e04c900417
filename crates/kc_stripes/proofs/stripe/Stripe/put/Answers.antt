-- The stripe's pass has seen what the caller's has, so the list is true of it, and a later one may stand in its vertex's place.
use Rattle.std.proofs.Common.{◌≡◌, true, length, sym, ◌∙◌, ap, subst, arith}
use mathlib.Core.List.{IsPrefix}
use Rattle.kc_graph.specs.declared.used.UsedEdges.{UsedEdges}
use Rattle.kc_table.specs.Log.{PassSeen}
use Rattle.kc_agree.specs.Reads.{WasList}
use Rattle.kc_agree.proofs.Growing.{list_stays}
use Rattle.kc_stripes.specs.Records.{Striped, IsStripe, belongs}
use Rattle.kc_table.specs.Log.{opened_with}
use Rattle.kc_stripes.proofs.Keeping.{place_in, seen_more, put_newer}
use Rattle.kc_stripes.proofs.stripe.Stripe.put.Goals as goal

pub index-requires : goal.index-requires
index-requires c =
    let is : IsStripe c.args.self.now = subst IsStripe c.self.view_is c.self.invariant.1 in
    omega (arith, place_in c.args.self.now c.args.w is c.requires.belongs, ap (λ (x : Striped). length x.records) c.self.view_is)

pub index_mut-requires : goal.index_mut-requires
index_mut-requires c =
    let is : IsStripe c.args.self.now = subst IsStripe c.self.view_is c.self.invariant.1 in
    omega (arith, place_in c.args.self.now c.args.w is c.requires.belongs, ap (λ (x : Striped). length x.records) c.self.view_is)

pub invariant_of-self : goal.invariant_of-self
invariant_of-self c =
    let s : Striped = record {
      number = c.self.inside.number;
      opened = opened_with c.self.inside.pass.table c.self.inside.edges.value c.self.inside.stamps.value.items;
      seen = c.self.inside.pass.log;
      records = c.self.inside.records.items;
    } in
    let new : UsedEdges = record { vertex = c.args.w; at = c.args.at; neighbours = c.args.neighbours } in
    let log = c.meet.new.pass.log in
    let told : IsPrefix c.args.pass.now.log log = subst (λ (p : PassSeen). IsPrefix p.log log) c.split-seen.ensures.new c.meet.ensures.that in
    let given : WasList s.opened.table s.opened.edges c.args.pass.now.log new =
    subst (λ (x : Striped). WasList x.opened.table x.opened.edges c.args.pass.now.log new) (sym c.self.view_is) c.requires.was in
    let was : WasList s.opened.table s.opened.edges log new = list_stays s.opened.table s.opened.edges c.args.pass.now.log log new told given in
    let here : belongs s c.args.w ≡ true = ap (λ (x : Striped). belongs x c.args.w) c.self.view_is ∙ c.requires.belongs in
    rw c.meet.ensures.table (
      c.self.invariant.0,
      put_newer s log new c.index.result.now c.self.invariant.1 c.meet.ensures.this here was c.index.ensures c.if-index-at.true,
    )

pub invariant_of-self-else-index-at : goal.invariant_of-self-else-index-at
invariant_of-self-else-index-at c =
    let s : Striped = record {
      number = c.self.inside.number;
      opened = opened_with c.self.inside.pass.table c.self.inside.edges.value c.self.inside.stamps.value.items;
      seen = c.self.inside.pass.log;
      records = c.self.inside.records.items;
    } in
    rw c.meet.ensures.table (c.self.invariant.0, seen_more s c.meet.new.pass.log c.self.invariant.1 c.meet.ensures.this)
