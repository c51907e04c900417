-- What the vertices of before keep, and what the new ones have.
use Rattle.std.proofs.lemmas.Result.{IfOk-weaker}
use Rattle.kc_keeper.proofs.Entered.{grows}
use Rattle.kc_keeper.proofs.keeper.Keeper.grow_to.Goals as goal

pub returns-clause-graph : goal.returns-clause-graph
returns-clause-graph c = IfOk-weaker c.restart_with-made.result _ _
    (λ _ is. (grows c.args.self.now c.restart_with-made.new.self c.args.vertices c.recall_certified.ensures.certified c.requires.more is).graph)
    c.restart_with-made.ensures.grown

pub returns-clause-old_numbers : goal.returns-clause-old_numbers
returns-clause-old_numbers c = IfOk-weaker c.restart_with-made.result _ _
    (λ _ is. (grows c.args.self.now c.restart_with-made.new.self c.args.vertices c.recall_certified.ensures.certified c.requires.more is).old_numbers)
    c.restart_with-made.ensures.grown

pub returns-clause-new_numbers : goal.returns-clause-new_numbers
returns-clause-new_numbers c = IfOk-weaker c.restart_with-made.result _ _
    (λ _ is. (grows c.args.self.now c.restart_with-made.new.self c.args.vertices c.recall_certified.ensures.certified c.requires.more is).new_numbers)
    c.restart_with-made.ensures.grown
