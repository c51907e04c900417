-- Numbers that a round leaves unchanged, reached from the degrees, are the core numbers.
use Rattle.std.proofs.Common.{◌≡◌, ◌≤◌, ◌<◌, ℕ, suc, zero, Bool, true, ◌&&◌, List, map, get_or, leb, sym, ◌∙◌, subst, arith, le_refl}
use Rattle.std.proofs.Common.{le_trans, leb-true, le-leb}
use Rattle.std.specs.Prelude.{count_by}
use Rattle.std.specs.List.{filter}
use Rattle.std.proofs.lemmas.Bool.{and_parts}
use Rattle.std.proofs.lemmas.List.Elements.{All-contains}
use Rattle.kc_lists.specs.Lists.{member, below, Distinct}
use Rattle.kc_lists.proofs.Counting.{count-mono, count-le, count-filter, member-get_or, member-from_Contains, Contains-from_member}
use Rattle.kc_lists.proofs.Counting.{Distinct-from_pairs, pairs_from_Distinct, member-filter, filter-member, Distinct-filter, Distinct-below}
use Rattle.kc_lists.proofs.Counting.{member-below, below-member}
use Rattle.kc_graph.specs.SimpleGraph.{SimpleGraph, adjacent, degree_among}
use Rattle.kc_graph.specs.Core.{IsInCore, IsCoreNumber, AreCoreNumbers, HasMinDegree}
use Rattle.kc_graph.specs.Neighbours.{neighbours_of}
use Rattle.kc_graph.proofs.NeighbourLists.{neighbours_has, neighbours_within, neighbours_once}
use Rattle.kc_hindex.specs.Rounds.{h_round, after_rounds, IsSettled, HasRound}
use Rattle.kc_shard.proofs.HIndex.{h_index-reached, h_index-greatest, count-map}

-- two tests that hold hold together
both_true : (a b : Bool) → a ≡ true → b ≡ true → (a && b) ≡ true
both_true a b p q = rw p q

-- enough neighbours with numbers of at least `k` keep the number at least `k`
pub round-keeps : (g : SimpleGraph) (c : ℕ → ℕ) (k v : ℕ) (members : List ℕ) → Distinct members
    → ((w : ℕ) → member w members ≡ true → w < g.size) → ((w : ℕ) → member w members ≡ true → k ≤ c w)
    → k ≤ degree_among g members v → k ≤ h_round g c v
round-keeps g c k v members distinct vertices high dense =
    let pass : ℕ → Bool = λ w. adjacent g v w && leb k (c w) in
    let one : degree_among g members v ≤ count_by pass members =
    count-mono (adjacent g v) pass members (λ w m a. both_true (adjacent g v w) (leb k (c w)) a (le-leb k (c w) (high w m))) in
    let two : count_by pass members ≤ count_by pass (neighbours_of g v) = count-le pass members (neighbours_of g v) distinct
    (λ w m t. neighbours_has g v w (vertices w m) ∙ (and_parts (adjacent g v w) (leb k (c w)) t).0) in
    let three : count_by pass (neighbours_of g v) ≤ count_by (λ w. leb k (c w)) (neighbours_of g v) = count-mono pass (λ w. leb k (c w)) (neighbours_of g v)
    (λ w _ t. (and_parts (adjacent g v w) (leb k (c w)) t).1) in
    h_index-greatest (map c (neighbours_of g v)) k (omega (arith, dense, one, two, three, count-map (leb k) c (neighbours_of g v)))

-- in no round does a vertex fall below the members of a dense set that has it
pub core-below : (g : SimpleGraph) (k : ℕ) (members : List ℕ) → HasMinDegree g k members → (r v : ℕ) → member v members ≡ true → k ≤ after_rounds g r v
core-below g k members dense zero v m =
    let vertices : (w : ℕ) → member w members ≡ true → w < g.size =
    λ w m. All-contains (λ x. x < g.size) members w dense.vertices (Contains-from_member members w m) in
    let some : k ≤ degree_among g members v = All-contains (λ w. k ≤ degree_among g members w) members v dense.degrees (Contains-from_member members v m) in
    le_trans some (count-le (adjacent g v) members (below g.size) (Distinct-from_pairs members dense.distinct) (λ w m _. member-below w g.size (vertices w m)))
core-below g k members dense (suc r) v m =
    let vertices : (w : ℕ) → member w members ≡ true → w < g.size =
    λ w m. All-contains (λ x. x < g.size) members w dense.vertices (Contains-from_member members w m) in
    let some : k ≤ degree_among g members v = All-contains (λ w. k ≤ degree_among g members w) members v dense.degrees (Contains-from_member members v m) in
    round-keeps g (after_rounds g r) k v members (Distinct-from_pairs members dense.distinct) vertices (core-below g k members dense r) some

-- what a round gives is kept by as many neighbours
pub round-supported : (g : SimpleGraph) (c : ℕ → ℕ) (k v : ℕ) → k ≤ h_round g c v → h_round g c v ≤ degree_among g (filter (λ w. leb k (c w)) (below g.size)) v
round-supported g c k v l =
    let h : ℕ = h_round g c v in
    let high : ℕ → Bool = λ w. leb k (c w) in
    let both : ℕ → Bool = λ w. adjacent g v w && leb h (c w) in
    let near : List ℕ = neighbours_of g v in
    let some : h ≤ count_by (leb h) (map c near) = h_index-reached (map c near) in
    let one : count_by (λ w. leb h (c w)) near ≤ count_by both near =
    count-mono (λ w. leb h (c w)) both near (λ w m t. both_true (adjacent g v w) (leb h (c w)) (neighbours_within g v w m).1 t) in
    let two : count_by both near ≤ count_by both (below g.size) =
    count-le both near (below g.size) (neighbours_once g v) (λ w m _. member-below w g.size (neighbours_within g v w m).0) in
    let three : count_by both (below g.size) ≤ count_by (adjacent g v) (filter high (below g.size)) = count-filter high (adjacent g v) both
    (λ w t. let a = and_parts (adjacent g v w) (leb h (c w)) t in (le-leb k (c w) (le_trans l (leb-true h (c w) a.1)), a.0)) (below g.size) in
    omega (arith, some, one, two, three, count-map (leb h) c near)

-- where a round leaves all as it was, the vertices that are as high are a dense set
pub settled-reached : (g : SimpleGraph) (c : ℕ → ℕ) → ((v : ℕ) → v < g.size → h_round g c v ≡ c v) → (v : ℕ) → v < g.size → IsInCore g (c v) v
settled-reached g c same v l =
    let high : ℕ → Bool = λ w. leb (c v) (c w) in
    let members : List ℕ = filter high (below g.size) in (
      members,
      record {
        vertices =
            λ i d in'.
            below-member (get_or members i d) g.size
            (member-filter high (get_or members i d) (below g.size) (member-get_or members i d in')).0;
        distinct = pairs_from_Distinct members (Distinct-filter high (below g.size) (Distinct-below g.size));
        degrees = λ i d in'.
            let w : ℕ = get_or members i d in
            let m = member-filter high w (below g.size) (member-get_or members i d in') in
            let up : c v ≤ c w = leb-true (c v) (c w) m.1 in
            let e : h_round g c w ≡ c w = same w (below-member w g.size m.0) in
            le_trans (subst (λ (x : ℕ). c v ≤ x) (sym e) up) (round-supported g c (c v) w (subst (λ (x : ℕ). c v ≤ x) (sym e) up));
      },
      Contains-from_member members v (filter-member high v (below g.size) (member-below v g.size l) (le-leb _ _ (le_refl (c v)))),
    )

-- settled numbers are the core numbers
pub settled-core : (g : SimpleGraph) (r : ℕ) → IsSettled g r → (v : ℕ) → v < g.size → IsCoreNumber g v (after_rounds g r v)
settled-core g r settled v l = record {
  reached = settled-reached g (after_rounds g r) settled v l;
  greatest = λ k h. core-below g k h.0 h.1 r v (member-from_Contains h.0 v h.2);
}

-- the numbers of a round that changes nothing are the core numbers
pub settled-are_core : (g : SimpleGraph) (r : ℕ) (numbers : List ℕ) → IsSettled g r → HasRound g r numbers → AreCoreNumbers g numbers
settled-are_core g r numbers settled has = record {
  one_each = has.one_each;
  each = λ v l. subst (λ (k : ℕ). IsCoreNumber g v k) (sym (has.each v l)) (settled-core g r settled v l);
}
