-- The caller's pass has seen what the stripe's has, so the record is true of it.
use Rattle.std.proofs.Common.{◌≡◌, sym, ◌∙◌, ap, subst}
use mathlib.Core.List.{IsPrefix}
use Rattle.kc_graph.specs.declared.used.UsedEdges.{UsedEdges}
use Rattle.kc_table.specs.Log.{PassSeen}
use Rattle.kc_stripes.specs.Records.{Striped, IsStripe, IsRecord, record_of}
use Rattle.kc_table.specs.Log.{opened_with}
use Rattle.kc_stripes.proofs.Growing.{record_stays}
use Rattle.kc_stripes.proofs.Keeping.{record_is}
use Rattle.kc_stripes.proofs.stripe.Stripe.hand_out.Goals as goal

pub returns-clause-is : goal.returns-clause-is
returns-clause-is c =
    let now : Striped = c.args.self.now in
    let r : UsedEdges = record_of now c.args.w in
    let log = c.meet.new.pass.log in
    let by : PassSeen → Striped = λ p. record {
      number = c.self.inside.number;
      opened = opened_with p.table c.self.inside.edges.value c.self.inside.stamps.value.items;
      seen = p.log;
      records = c.self.inside.records.items;
    } in
    let after : by c.split-seen.new.pass ≡ now = ap by c.split-seen.ensures.old ∙ c.self.view_is in
    let is : IsRecord now.opened now.seen c.args.w r = record_is now c.args.w (subst IsStripe c.self.view_is c.self.invariant.1) c.requires.belongs in
    let split : IsPrefix c.self.inside.pass.log log = subst (λ (p : PassSeen). IsPrefix p.log log) c.split-seen.ensures.new c.meet.ensures.that in
    let told : IsPrefix now.seen log = subst (λ (x : Striped). IsPrefix x.seen log) c.self.view_is split in
    let list : c.in_ok-share.field-0 ≡ r.neighbours =
    c.in_ok-share.ensures ∙ (c.get-at.ensures.list ∙ ap (λ (x : Striped). (record_of x c.args.w).neighbours) after) in
    let at : c.get-at.result.1 ≡ r.at = c.get-at.ensures.at ∙ ap (λ (x : Striped). (record_of x c.args.w).at) after in
    let given : UsedEdges = record { vertex = c.args.w; at = c.get-at.result.1; neighbours = c.in_ok-share.field-0 } in
    let same : r ≡ given = λ i. record { vertex = is.vertex i; at = sym at i; neighbours = sym list i } in
    subst (λ (x : UsedEdges). IsRecord now.opened log c.args.w x) same (record_stays now.opened now.seen log c.args.w r is told)
