-- Nothing is kept any more.
use Rattle.std.proofs.Common.{sym, ◌∙◌, ap, subst, Vec, Global}
use Rattle.kc_graph.specs.declared.used.UsedEdges.{UsedEdges}
use Rattle.kc_view.specs.Lists.{AreLists}
use Rattle.kc_view.proofs.Keeping.{no-lists}
use Rattle.kc_plans_tests.proofs.whim_view.WhimViewView.used.Goals as goal

pub invariant_of-self : goal.invariant_of-self
invariant_of-self c = record {
  lists =
      subst (AreLists c.self.inside.size) (sym (ap (λ (v : Vec UsedEdges Global). v.items) c.replace.ensures.after ∙ c.new.ensures.items))
      (no-lists c.self.inside.size);
  differ = c.self.invariant.differ;
}
