-- Anchors are vertices, and where both stay on one side of those that leave, only the chains of the shifts order them.
use Rattle.std.proofs.Common.{◌≡◌, nat_eq, sym, ◌∙◌}
use Rattle.std.specs.HashMap.{get}
use Rattle.kc_graph.specs.Lawful.{Ranked}
use Rattle.kc_cert.specs.Stands.{is_low}
use Rattle.kc_cert.proofs.Asking.{same_bools, anchor_vertex, chains_compare, stays_by_place}
use Rattle.kc_cert.proofs.arrangement.Arrangement.stays_after.Goals as goal

pub stands_after-requires-clause-first : goal.stands_after-requires-clause-first
stands_after-requires-clause-first g c =
    anchor_vertex (g.S.State.state c.args.state.now) c.args.self.now.moves.now (get nat_eq c.args.self.now.chains.anchors) c.args.z
    c.requires.certified c.requires.fit c.args.self.now.shown.shifted.anchors c.requires.first

pub stands_after-requires-clause-second : goal.stands_after-requires-clause-second
stands_after-requires-clause-second g c =
    anchor_vertex (g.S.State.state c.args.state.now) c.args.self.now.moves.now (get nat_eq c.args.self.now.chains.anchors) c.args.y
    c.requires.certified c.requires.fit c.args.self.now.shown.shifted.anchors c.requires.second

pub returns : goal.returns
returns g c =
    let s : Ranked = g.S.State.state c.args.state.now in
    let moves = c.args.self.now.moves.now in
    let same : is_low moves s.core c.args.z ≡ is_low moves s.core c.args.y =
    sym c.is_low-first_low.ensures
    ∙ (same_bools c.is_low-first_low.result c.is_low-second_low.result c.if-first_low-second_low.false ∙ c.is_low-second_low.ensures) in
    c.stands_after.ensures
    ∙ (chains_compare s moves (get nat_eq c.args.self.now.chains.anchors) (get nat_eq c.args.self.now.chains.places.of) c.args.z c.args.y
    c.requires.certified c.requires.fit c.args.self.now.shown.shifted.anchors c.args.self.now.shown.shifted.places c.requires.differ
    c.requires.first c.requires.second
    ∙ stays_by_place s moves c.args.z c.args.y c.requires.first_stays c.requires.second_stays same)
