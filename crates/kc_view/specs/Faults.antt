-- A view's fault as the planner's.
use Rattle.kc_view.specs.declared.fault.ViewFault.{ViewFault}
use Rattle.kc_view.specs.declared.fault.ViewFault.TheVariants.{Miss, NoMemory}
use Rattle.kc_view.specs.declared.fault.PlanFault.{PlanFault}
use Rattle.kc_view.specs.declared.fault.PlanFault.TheVariants as plan

-- a view's fault as the planner's: a miss with the same two loads, or no memory
abbrev pub plan_fault : ViewFault → PlanFault
plan_fault (Miss again) = plan.Miss again
plan_fault NoMemory = plan.NoMemory
