-- The vertices whose numbers the plan changes are vertices of the journal.
use Rattle.std.proofs.Common.{◌<◌, ℕ, List, length, sym, subst}
use Rattle.std.specs.Prelude.{IfOk}
use Rattle.std.specs.List.{All}
use Rattle.kc_cert.specs.Stands.{leaving}
use Rattle.kc_journal.specs.Entering.{IsCurrent, MayEnter}
use Rattle.kc_keeper.proofs.Entered.{leaving-within}
use Rattle.kc_keeper.proofs.entering.plan_update.Goals as goal

pub keep_moved-requires : goal.keep_moved-requires
keep_moved-requires c =
    subst (λ (core : List ℕ). All (λ (v : ℕ). v < length core) (leaving c.in_ok-plan.plan.moves)) (sym c.core_numbers.ensures.core)
    (leaving-within c.args.journal.now c.in_ok-plan.plan c.recall_stands.ensures
    (subst (λ r. IfOk r (MayEnter c.args.journal.now)) c.in_ok-plan.was c.plan_held-planned.ensures.may)
    (subst (λ r. IfOk r (IsCurrent c.args.journal.now)) c.in_ok-plan.was c.plan_held-planned.ensures.current))
