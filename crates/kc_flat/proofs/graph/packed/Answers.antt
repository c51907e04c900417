-- The packed parts are the rows of the graph of the edges.
use Rattle.std.proofs.Common.{◌≡◌, ◌<◌, ◌^◌, ◌++◌, ℕ, true, List, length, take, drop, ap, ap₂, sym, ◌∙◌, subst, arith}
use Rattle.std.specs.Prelude.{All}
use Rattle.std.specs.List.Sorted.{IsStrictlyIncreasing}
use Rattle.kc_lists.specs.Lists.{member}
use Rattle.kc_graph.specs.Bulk.{is_within, are_joined, graph_with}
use Rattle.kc_graph.specs.Rows.{graph_of}
use Rattle.kc_graph.specs.declared.bulk.Edge.{Edge}
use Rattle.kc_graph.proofs.Scattering.{list-written}
use Rattle.kc_flat.specs.Parts.{part, parts_from, AreEndsOf, Fills, IsFlat}
use Rattle.kc_flat.proofs.Pairing.{parts-flat, parts-graph}
use Rattle.kc_flat.proofs.graph.packed.Goals as goal

-- Parts that ascend have just those that the edges join, as the sorted ones had.
module _ (edges : List Edge) (was old ends block : List ℕ) (h : AreEndsOf edges was old) (count : length ends ≡ length was)
    (up : (v : ℕ) → v < length ends → IsStrictlyIncreasing (part ends block v))
    (same : (v w : ℕ) → v < length ends → member w (part ends block v) ≡ member w (part was old v)) where
  -- both ends of each edge have a part
  all : All (λ e. is_within (length ends) e ≡ true) edges
  all = subst (λ (k : ℕ). All (λ e. is_within k e ≡ true) edges) (sym count) h.within

  -- each part has those that an edge joins to the vertex
  has : (v w : ℕ) → v < length ends → member w (part ends block v) ≡ are_joined edges v w
  has v w l = same v w l ∙ h.joined v w (omega (arith, l, count))

  -- they are the rows of a graph
  flat : length was < 2 ^ 32 → Fills ends block → IsFlat ends block
  flat few fills = parts-flat edges ends block all up has (omega (arith, few, count)) fills

  -- which is that of the edges
  made : graph_of (parts_from 0 ends block) ≡ graph_with (length was) edges
  made = parts-graph edges ends block all up has ∙ ap (λ (k : ℕ). graph_with k edges) count

pub drop_repeats-kept-requires-clause-fills : goal.drop_repeats-kept-requires-clause-fills
drop_repeats-kept-requires-clause-fills c = rw (c.deref_mut-2.ensures.value, c.deref_mut.ensures.value) c.requires.ends.1.fills

pub drop_repeats-kept-requires-clause-sorted : goal.drop_repeats-kept-requires-clause-sorted
drop_repeats-kept-requires-clause-sorted c v l =
    rw (c.deref_mut-2.ensures.value, c.deref_mut.ensures.value) (c.requires.ends.1.sorted v (omega (arith, l, ap length c.deref_mut-2.ensures.value)))

pub invariant_of-result : goal.invariant_of-result
invariant_of-result c =
    let was : List ℕ = c.args.gathered.ends.items in
    let old : List ℕ = c.args.gathered.block.items in
    let ends : List ℕ = c.drop_repeats-kept.new.ends in
    let block : List ℕ = c.drop_repeats-kept.new.block in
    let count : length ends ≡ length was = omega (arith, c.drop_repeats-kept.ensures.count, ap length c.deref_mut-2.ensures.value) in
    let ends-is : take c.args.gathered.ends.len (ends ++ drop (length ends) was) ≡ ends =
    list-written ends was c.args.gathered.ends.len (omega (arith, c.args.gathered.ends.ok.0, count)) in
    let block-is : c.shrink_to_fit.new.self.items ≡ take c.drop_repeats-kept.result block =
    c.shrink_to_fit.ensures.items ∙ c.truncate.ensures.items
    ∙ ap (take c.drop_repeats-kept.result)
    (list-written block old c.args.gathered.block.len
    (omega (arith, c.args.gathered.block.ok.0, c.drop_repeats-kept.auto.block, ap length c.deref_mut.ensures.value))) in
    rw (ends-is, block-is)
    (flat c.requires.ends.0 was old ends (take c.drop_repeats-kept.result block) c.requires.ends.1 count c.drop_repeats-kept.ensures.ascend
    (λ v w l.
    c.drop_repeats-kept.ensures.same v w l
    ∙ ap₂ (λ (s t : List ℕ). member w (part s t v)) c.deref_mut-2.ensures.value c.deref_mut.ensures.value)
    c.requires.few c.drop_repeats-kept.ensures.fills)

pub returns : goal.returns
returns c edges h =
    let was : List ℕ = c.args.gathered.ends.items in
    let old : List ℕ = c.args.gathered.block.items in
    let ends : List ℕ = c.drop_repeats-kept.new.ends in
    let block : List ℕ = c.drop_repeats-kept.new.block in
    let count : length ends ≡ length was = omega (arith, c.drop_repeats-kept.ensures.count, ap length c.deref_mut-2.ensures.value) in
    let ends-is : take c.args.gathered.ends.len (ends ++ drop (length ends) was) ≡ ends =
    list-written ends was c.args.gathered.ends.len (omega (arith, c.args.gathered.ends.ok.0, count)) in
    let block-is : c.shrink_to_fit.new.self.items ≡ take c.drop_repeats-kept.result block =
    c.shrink_to_fit.ensures.items ∙ c.truncate.ensures.items
    ∙ ap (take c.drop_repeats-kept.result)
    (list-written block old c.args.gathered.block.len
    (omega (arith, c.args.gathered.block.ok.0, c.drop_repeats-kept.auto.block, ap length c.deref_mut.ensures.value))) in
    ap₂ (λ (s t : List ℕ). graph_of (parts_from 0 s t)) ends-is block-is
    ∙ made edges was old ends (take c.drop_repeats-kept.result block) h count c.drop_repeats-kept.ensures.ascend
    (λ v w l.
    c.drop_repeats-kept.ensures.same v w l
    ∙ ap₂ (λ (s t : List ℕ). member w (part s t v)) c.deref_mut-2.ensures.value c.deref_mut.ensures.value)
