-- The last vertex goes, and its mark.
use Rattle.std.proofs.Common.{ℕ, List, [], ◌∷◌, false, ap, ◌∙◌, subst, arith, length-set}
use Rattle.kc_lists.specs.Lists.{Distinct, member}
use Rattle.kc_lists.proofs.Members.{member-append_left, member-append_right, member-head}
use Rattle.kc_lists.proofs.Shared.{Distinct-front}
use Rattle.kc_topo.proofs.Marks.{marks-pop}
use Rattle.kc_topo.proofs.reached.Reached.clear.Goals as goal

pub index_mut-requires : goal.index_mut-requires
index_mut-requires c =
    let low = c.loop-v.invariant.within c.in-Some.v (ap (member c.in-Some.v) c.in-Some.ensures.items
    ∙ member-append_right c.in-Some.v c.pop.new.self.items (c.in-Some.v ∷ []) (member-head c.in-Some.v [])) in
    omega (arith, low, c.loop-v.marks.ok.0)

pub loop-v-preserved : goal.loop-v-preserved
loop-v-preserved c =
    let v : ℕ = c.in-Some.v in
    let vs : List ℕ = c.pop.new.self.items in
    let low = c.loop-v.invariant.within v (ap (member v) c.in-Some.ensures.items ∙ member-append_right v vs (v ∷ []) (member-head v [])) in
    let same = length-set c.loop-v.marks.items v false in
    record {
      long = same ∙ c.loop-v.invariant.long;
      distinct = Distinct-front vs (v ∷ []) (subst Distinct c.in-Some.ensures.items c.loop-v.invariant.distinct);
      within = λ w m. omega (arith, same, c.loop-v.invariant.within w (ap (member w) c.in-Some.ensures.items ∙ member-append_left w vs (v ∷ []) m));
      marks_are = marks-pop c.loop-v.marks.items v c.loop-v.vertices.items vs c.in-Some.ensures.items c.loop-v.invariant.distinct low
          c.loop-v.invariant.marks_are;
    }
