-- Both ends of each update are vertices, so that the keeper refuses none for its ends.
use Rattle.std.proofs.Common.{◌≡◌, ◌<◌, ℕ, List, length, None, sym, ap, ◌∙◌, subst, arith}
use Rattle.std.specs.List.{All}
use Rattle.std.proofs.lemmas.Option.{get_or_from_slice_get, slice_get_within}
use Rattle.kc_graph.specs.declared.update.Update.{Update}
use Rattle.kc_keeper.specs.Causes.{IsApplyCause}
use Rattle.kc_keeper.specs.declared.fault.ApplyFault.{ApplyFault}
use Rattle.kc_c.specs.Updating.{first_outsider}
use Rattle.kc_c.proofs.Strangers.{no_outsider}
use Rattle.kc_c.proofs.keeping.make_in_turn.Goals as goal

pub unreachable-requires : goal.unreachable-requires
unreachable-requires c =
    let size : ℕ = c.args.keeper.now.graph.size in
    let none : first_outsider size c.args.updates.now ≡ None =
    ap (λ (n : ℕ). first_outsider n c.args.updates.now) (sym c.vertices.ensures.size) ∙ (sym c.first_outsider.ensures ∙ c.in_default.is) in
    let us : List Update = c.deref.result.now in
    let within : All (λ (u : Update). u.v < size) us =
    subst (All (λ (u : Update). u.v < size)) (sym c.deref.ensures.value)
    (c.in-Ok.ensures.within size (no_outsider size c.args.updates.now none)) in
    let cause = subst (λ (fault : ApplyFault). IsApplyCause c.args.keeper.now us c.apply.new.self fault) c.in-Err-NoVertex.field-0-is
    c.in-Err-NoVertex.ensures.cause in
    let outside = cause.0 in
    let u : Update = outside.update in
    let low : c.in-Err-NoVertex.field-0-0 < length us = slice_get_within us c.in-Err-NoVertex.field-0-0 u outside.here in
    let is = get_or_from_slice_get us c.in-Err-NoVertex.field-0-0 u u outside.here in
    omega (arith, outside.outside, outside.vertex_is, ap (λ (x : Update). x.v) is, within c.in-Err-NoVertex.field-0-0 u low)
