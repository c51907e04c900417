-- The number of the new graph's edges shows that no edge is added twice, so all is as it is with the updates in turn.
use Rattle.std.proofs.Common.{◌≡◌, ◌<◌, ◌+◌, ◌++◌, ℕ, List, length, All, ap, ap₂, sym, subst, ◌∙◌, arith}
use Rattle.std.specs.FinSet.{len}
use Rattle.kc_keeper.specs.Bulk.{applied_alone, pairs_of}
use Rattle.kc_keeper.proofs.Bulking.{bulk-graph, bulk-told, graph, pairs-within}
use Rattle.kc_keeper.proofs.Listing.{set_of}
use Rattle.kc_keeper.proofs.bulk.add_in_bulk.Goals as goal

pub from_pairs-requires : goal.from_pairs-requires
from_pairs-requires c =
    subst (λ (ps : List (ℕ × ℕ)). All (λ (p : ℕ × ℕ). (p.0 < p.1) × (p.1 < c.vertices.result)) ps)
    (sym (c.deref.ensures.value ∙ c.in_ok-push_added.ensures.pairs))
    (subst (λ (n : ℕ). All (λ (p : ℕ × ℕ). (p.0 < p.1) × (p.1 < n)) (c.in_ok-pairs.pairs.items ++ pairs_of (applied_alone c.args.graph.now c.args.updates.now)))
    (sym c.vertices.ensures)
    (pairs-within c.args.updates.now c.in_ok-pairs.ensures c.requires.within))

-- the new graph has all pairs
next-is : (c : goal.After-drop-pairs-then-is_more_by) → c.in_ok-next.next
    ≡ graph c.args.graph.now.size (set_of (c.in_ok-pairs.pairs.items ++ pairs_of (applied_alone c.args.graph.now c.args.updates.now)))
next-is c =
    c.in_ok-next.ensures
    ∙ ap₂ graph c.vertices.ensures (ap set_of (c.deref.ensures.value ∙ c.in_ok-push_added.ensures.pairs))

-- it has as many edges more as there are updates that change the graph of before
more : (c : goal.After-drop-pairs-then-is_more_by)
    → len c.in_ok-next.next.edges ≡ len c.args.graph.now.edges + length (applied_alone c.args.graph.now c.args.updates.now)
more c = omega (arith, c.edges.ensures, c.edges-2.ensures, c.is_more_by.ensures.0 c.if-is_more_by.true, c.in_ok-push_added.ensures.told.added)

pub returns-then-is_more_by-clause-graph : goal.returns-then-is_more_by-clause-graph
returns-then-is_more_by-clause-graph c =
    bulk-graph c.args.updates.now c.in_ok-pairs.ensures c.requires.adds c.requires.within (next-is c) (more c)

pub returns-then-is_more_by-clause-told : goal.returns-then-is_more_by-clause-told
returns-then-is_more_by-clause-told c =
    bulk-told c.args.updates.now c.in_ok-pairs.ensures c.requires.adds c.requires.within (next-is c) (more c) c.push_added.new.changes
    c.in_ok-push_added.ensures.told
