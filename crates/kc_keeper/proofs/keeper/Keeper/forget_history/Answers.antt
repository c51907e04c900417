-- The marks are for as many vertices as before, and no vertex is more.
use Rattle.std.proofs.Common.{◌∙◌}
use Rattle.kc_keeper.proofs.Entered.{fits-run, marks-stay, same-run}
use Rattle.kc_keeper.proofs.keeper.Keeper.forget_history.Goals as goal

pub invariant_of-self-2 : goal.invariant_of-self-2
invariant_of-self-2 c =
    fits-run c.self.inside.scratch c.in_ok-words.ensures.restarted
    (marks-stay c.vertices-vertices.result c.recall_stands.ensures c.self.invariant c.vertices-vertices.ensures.graph)

pub returns : goal.returns
returns c = same-run c.self.inside.journal c.vertices-vertices.result c.vertices-vertices.ensures.graph c.in_ok-words.ensures.restarted ∙ c.self.view_is
