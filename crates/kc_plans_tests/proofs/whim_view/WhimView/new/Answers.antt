-- Nothing is kept at first.
use Rattle.std.proofs.Common.{sym, subst}
use Rattle.kc_view.specs.Lists.{AreLists}
use Rattle.kc_view.proofs.Keeping.{no-lists}
use Rattle.kc_plans_tests.proofs.whim_view.WhimView.new.Goals as goal

pub invariant_of-result : goal.invariant_of-result
invariant_of-result c = record { lists = subst (AreLists c.args.size) (sym c.new-2.ensures.items) (no-lists c.args.size); differ = c.requires }
