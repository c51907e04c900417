-- There are marks for each vertex.
use Rattle.std.proofs.Common.{ap, arith}
use Rattle.kc_graph.specs.Lawful.{Ranked}
use Rattle.kc_journal.specs.Journals.{ranked}
use Rattle.kc_keeper.proofs.Entered.{fits-run, marks-grown}
use Rattle.kc_keeper.proofs.keeper.Keeper.restart_with.Goals as goal

pub invariant_of-self-2 : goal.invariant_of-self-2
invariant_of-self-2 c =
    fits-run c.in_ok-scratch.scratch c.in_ok-words.ensures.restarted
    (marks-grown (ranked c.self.inside.journal) (omega (arith, c.requires.more, ap (λ (s : Ranked). s.graph.size) c.self.view_is)) c.in_ok-scratch.ensures)
