-- The vertices whose core number is k are those of its level.
use Rattle.std.proofs.lemmas.Result.{IfOk-weaker}
use Rattle.kc_keeper.proofs.MembersOfCores.{are_level_members}
use Rattle.kc_keeper.proofs.keeper.Keeper.level_members.Goals as goal

pub returns-else-is_err-clause-members : goal.returns-else-is_err-clause-members
returns-else-is_err-clause-members c =
    IfOk-weaker c.list_equal-listed.result _ _
    (λ _ is. are_level_members c.args.self.now.graph c.core_numbers.result.now c.args.k _ c.core_numbers.ensures.seidman is)
    c.list_equal-listed.ensures
