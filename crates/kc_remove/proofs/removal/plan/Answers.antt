-- What the search asked is what the plan hands out.
use Rattle.std.proofs.Common.{sym, subst}
use Rattle.kc_cert.specs.Local.{moved_vertices}
use Rattle.kc_view.specs.Answers.{Answers, answers_in}
use Rattle.kc_view.proofs.Handing.{handed-lists, handed-plan}
use Rattle.kc_remove.specs.Falling.{AsksNear}
use Rattle.kc_remove.proofs.removal.plan.Goals as goal

pub returns-clause-plan : goal.returns-clause-plan
returns-clause-plan g c =
    let found = c.in_ok-moves.ensures in
    handed-plan c.args.update _ c.used-used.result c.in_ok-moves.moves c.used-used.ensures.all found.sure found.named found.asks.cores

pub returns-clause-asked : goal.returns-clause-asked
returns-clause-asked g c =
    let asks : AsksNear c.args.update (answers_in c.used-used.result) (moved_vertices c.in_ok-moves.moves) =
    subst (λ (x : Answers). AsksNear c.args.update x (moved_vertices c.in_ok-moves.moves)) (sym c.used-used.ensures.all) c.in_ok-moves.ensures.asks in
    record { edges = asks.lists; orders = asks.orders }

pub returns-clause-lists : goal.returns-clause-lists
returns-clause-lists g c =
    handed-lists (g.V.View.shown c.args.view.now) (g.V.View.shown c.moves_of.new.view) (g.V.View.shown c.used-used.new.self) (answers_in c.used-used.result)
    c.requires.fresh c.moves_of.ensures.goes_on c.used-used.ensures.hands_out c.used-used.ensures.all
