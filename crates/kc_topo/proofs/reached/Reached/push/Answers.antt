-- One vertex more is marked.
use Rattle.std.proofs.Common.{◌++◌, List, ℕ, [], ◌∷◌, length, ap, ◌∙◌, arith, length-append}
use Rattle.kc_lists.specs.Lists.{member}
use Rattle.kc_topo.specs.Searching.{Trail}
use Rattle.kc_topo.proofs.Marks.{marked-push}
use Rattle.kc_topo.proofs.reached.Reached.push.Goals as goal

pub invariant_of-self-2 : goal.invariant_of-self-2
invariant_of-self-2 c =
    let i = c.self.inside in
    marked-push (record { vertices = i.vertices.items; parents = i.parents.items; size = i.size }) i.marks.items c.args.v c.push_reserved.new.self.items
    c.push.new.self.items c.self.invariant
    (omega (arith, ap (λ (t : Trail). t.size) c.self.view_is, c.requires.within))
    (ap (λ (t : Trail). member c.args.v t.vertices) c.self.view_is ∙ c.requires.fresh)
    (c.push_reserved.ensures.items ∙ ap (λ (zs : List ℕ). zs ++ c.args.v ∷ []) c.reserve.ensures.items)
    (omega (arith, ap length c.in_ok-push.ensures.items, length-append i.parents.items (c.args.parent ∷ [])))
