-- A vertex that has a place among those that leave gets the next level, and any other keeps its core number.
use Rattle.std.proofs.Common.{◌≡◌, true, false, cond, get_or, sym, ◌∙◌, ap, arith}
use Rattle.std.specs.Prelude.{is_some}
use Rattle.kc_lists.specs.Lists.{member}
use Rattle.kc_graph.specs.Lawful.{Ranked}
use Rattle.kc_cert.specs.Stands.{leaving, next_level}
use Rattle.kc_cert.proofs.Asking.{core-moved}
use Rattle.kc_cert.proofs.Listing.{place_in-some}
use Rattle.kc_cert.proofs.arrangement.Arrangement.core.Goals as goal

pub returns-then-is_some : goal.returns-then-is_some
returns-then-is_some g c =
    let s : Ranked = g.S.State.state c.args.state.now in
    let moves = c.args.self.now.moves.now in
    let leaves : member c.args.y (leaving moves) ≡ true =
    sym (place_in-some (leaving moves) c.args.y)
    ∙ (ap is_some (sym (c.get.ensures ∙ c.args.self.now.shown.leaving c.args.y)) ∙ (sym c.is_some.ensures ∙ c.if-is_some.true)) in
    c.next_level.ensures
    ∙ sym
    (core-moved s moves c.args.y (omega (arith, c.requires.vertex, c.requires.certified.one_each))
    ∙ ap (λ b. cond b (next_level moves) (get_or s.core c.args.y 0)) leaves)

pub returns-else-is_some : goal.returns-else-is_some
returns-else-is_some g c =
    let s : Ranked = g.S.State.state c.args.state.now in
    let moves = c.args.self.now.moves.now in
    let stays : member c.args.y (leaving moves) ≡ false =
    sym (place_in-some (leaving moves) c.args.y)
    ∙ (ap is_some (sym (c.get.ensures ∙ c.args.self.now.shown.leaving c.args.y)) ∙ (sym c.is_some.ensures ∙ c.if-is_some.false)) in
    (c.from.ensures ∙ c.core.ensures)
    ∙ sym
    (core-moved s moves c.args.y (omega (arith, c.requires.vertex, c.requires.certified.one_each))
    ∙ ap (λ b. cond b (next_level moves) (get_or s.core c.args.y 0)) stays)
