-- Counts that agree with the claimed numbers make the order by keys a certificate, and a certificate makes counts agree.
use Rattle.std.proofs.Common.{◌≡◌, ◌≤◌, ◌<◌, ◌+◌, ◌^◌, ℕ, suc, zero, Bool, true, ◌&&◌, List, [], ◌∷◌, length, get_or, drop, leb, sym, ◌∙◌, ap}
use Rattle.std.proofs.Common.{inl, inr, arith, subst, le_trans}
use Rattle.std.specs.Prelude.{count_by}
use Rattle.std.proofs.lemmas.Bool.{cases_lt, cases_eq, and_parts, and_from}
use Rattle.std.proofs.lemmas.List.Elements.{All-contains}
use Rattle.kc_lists.specs.Lists.{member, below}
use Rattle.kc_lists.proofs.Counting.{count-le, count-mono, member-get_or, member-from_Contains, Contains-from_member, Distinct-from_pairs, Distinct-drop}
use Rattle.kc_lists.proofs.Counting.{drop-member, member-below, below-member, Distinct-below}
use Rattle.kc_graph.specs.SimpleGraph.{SimpleGraph, adjacent, degree_among}
use Rattle.kc_graph.specs.Bulk.{graph_with}
use Rattle.kc_graph.specs.Certificate.{Certifies, Enumerates, degree_as_high}
use Rattle.kc_graph.specs.Core.{AreCoreNumbers}
use Rattle.kc_graph.specs.Lawful.{ArePlaces}
use Rattle.kc_graph.specs.declared.bulk.Edge.{Edge}
use Rattle.kc_graph.proofs.Bulking.{size-with}
use Rattle.kc_graph.proofs.Law.{certified-core_numbers, core-unique}
use Rattle.kc_graph.proofs.Existence.{certificate_exists}
use Rattle.kc_graph.proofs.Places.{length-enumerates}
use Rattle.kc_tally.specs.Keys.{has_lesser_key}
use Rattle.kc_tally.specs.Layers.{AreLayers, is_left_at, left_at}
use Rattle.kc_tally.specs.Lists.{ListsEachOnce}
use Rattle.kc_tally.specs.Tallies.{later_count, supporter_count, capped, AreTallied, AreBetween}
use Rattle.kc_tally.proofs.Keys.{has_lesser_key-trans, has_lesser_key-total, has_lesser_key-core, has_lesser_key-true, has_lesser_key-left}
use Rattle.kc_tally.proofs.Sorting.{Ascends, order_below, Ascends-pairs, Ascends-behind}
use Rattle.kc_tally.proofs.EdgeCounts.{count-adjacent, leads-few}

-- the numbers of an order of the vertices are vertices
pub order-within : (n : ℕ) (order : List ℕ) (w : ℕ) → Enumerates n order → member w order ≡ true → w < n
order-within n order w e m = All-contains (λ x. x < n) order w e.below (Contains-from_member order w m)

-- what stands at a place from `k` on is left when the first `k` are dropped
pub member-drop_at : (k j : ℕ) (xs : List ℕ) → k ≤ j → j < length xs → member (get_or xs j 0) (drop k xs) ≡ true
member-drop_at zero j xs h l = member-get_or xs j 0 l
member-drop_at (suc k) j [] h l = absurd (omega arith)
member-drop_at (suc k) zero (x ∷ xs) h l = absurd (omega arith)
member-drop_at (suc k) (suc j) (x ∷ xs) h l = member-drop_at k j xs (omega arith) (omega arith)

module _ (core rank : List ℕ) (edges : List Edge) (once : ListsEachOnce (length core) edges) where
  -- the graph with the edges
  abbrev g : SimpleGraph
  g = graph_with (length core) edges

  -- whether `w` is a neighbour of `v` with a greater key
  abbrev is_later : ℕ → ℕ → Bool
  is_later v w = adjacent g v w && has_lesser_key core rank v w

  -- whether `w` is a neighbour of `v` with no lesser core number
  abbrev supports : ℕ → ℕ → Bool
  supports v w = adjacent g v w && leb (get_or core v 0) (get_or core w 0)

  -- the counts of edges count neighbours
  later-is : (v : ℕ) → later_count core rank edges v ≡ count_by (is_later v) (below (length core))
  later-is v = count-adjacent (length core) edges once (has_lesser_key core rank v) v

  supporters-are : (v : ℕ) → supporter_count core edges v ≡ count_by (supports v) (below (length core))
  supporters-are v = count-adjacent (length core) edges once (λ w. leb (get_or core v 0) (get_or core w 0)) v

  -- no vertex has more than 32 bits hold
  later-fits : (v : ℕ) → length core ≤ 2 ^ 32 → v < length core → capped (later_count core rank edges v) ≡ later_count core rank edges v
  later-fits v few l = omega (arith, leads-few (length core) edges once (has_lesser_key core rank v) v l)

  supporters-fit : (v : ℕ) → length core ≤ 2 ^ 32 → v < length core → capped (supporter_count core edges v) ≡ supporter_count core edges v
  supporters-fit v few l = omega (arith, leads-few (length core) edges once (λ w. leb (get_or core v 0) (get_or core w 0)) v l)

  -- the vertices in the order of their keys
  abbrev by_key : (order : List ℕ) × Enumerates (length core) order × Ascends (has_lesser_key core rank) order
  by_key = order_below (has_lesser_key core rank) (has_lesser_key-trans core rank) (has_lesser_key-total core rank) (length core)

  -- in the order of the keys the later neighbours stand later
  few-later : (order : List ℕ) → Enumerates (length core) order → Ascends (has_lesser_key core rank) order → (i : ℕ) → i < length order
      → degree_among g (drop (i + 1) order) (get_or order i 0) ≤ later_count core rank edges (get_or order i 0)
  few-later order e a i l =
      let v : ℕ = get_or order i 0 in
      let rest : List ℕ = drop (i + 1) order in
      let first : count_by (adjacent g v) rest ≤ count_by (is_later v) rest =
      count-mono (adjacent g v) (is_later v) rest (λ w m t. and_from _ _ t (Ascends-behind (has_lesser_key core rank) i order a l w m)) in
      let second : count_by (is_later v) rest ≤ count_by (is_later v) (below (length core)) =
      count-le (is_later v) rest (below (length core)) (Distinct-drop (i + 1) order (Distinct-from_pairs order e.distinct))
      (λ w m _. member-below w (length core) (order-within (length core) order w e (drop-member (i + 1) w order m))) in
      omega (arith, first, second, later-is v)

  -- the supporters stand in the order
  supporters-in : (order : List ℕ) → Enumerates (length core) order → (v : ℕ) → supporter_count core edges v ≤ degree_as_high g core order v
  supporters-in order e v =
      let up : count_by (supports v) (below (length core)) ≤ count_by (supports v) order =
      count-le (supports v) (below (length core)) order (Distinct-below (length core))
      (λ w m _. member-from_Contains order w (e.complete w (below-member w (length core) m))) in
      omega (arith, up, supporters-are v)

  -- and no others as high
  in-supporters : (order : List ℕ) → Enumerates (length core) order → (v : ℕ) → degree_as_high g core order v ≤ supporter_count core edges v
  in-supporters order e v =
      let down : count_by (supports v) order ≤ count_by (supports v) (below (length core)) =
      count-le (supports v) order (below (length core)) (Distinct-from_pairs order e.distinct)
      (λ w m _. member-below w (length core) (order-within (length core) order w e m)) in
      omega (arith, down, supporters-are v)

  -- where the counts agree, the order of the keys certifies the numbers
  pub agreed-certify : ((v : ℕ) → v < length core → later_count core rank edges v ≤ get_or core v 0)
      → ((v : ℕ) → v < length core → get_or core v 0 ≤ supporter_count core edges v)
      → (order : List ℕ) × Certifies g core order
  agreed-certify few enough =
      let order : List ℕ = by_key.0 in
      let e : Enumerates (length core) order = by_key.1 in
      let size : g.size ≡ length core = size-with (length core) edges in (
        order,
        record {
          one_each = sym size;
          enumerates = subst (λ (n : ℕ). Enumerates n order) (sym size) e;
          rising = λ i j d lt l. has_lesser_key-core core rank _ _ (Ascends-pairs (has_lesser_key core rank) order by_key.2 i j d lt l);
          few_later = λ i l. le_trans (few-later order e by_key.2 i l) (few (get_or order i 0) (e.below i 0 l));
          enough_as_high = λ v l. le_trans (enough v (omega (arith, size))) (supporters-in order e v);
        },
      )

  -- counts as 32 bits hold them show the core numbers
  pub agreed-core_numbers : (later supporters : List ℕ) → length core ≤ 2 ^ 32 → AreTallied core rank edges later supporters → AreBetween core later supporters
      → AreCoreNumbers g core
  agreed-core_numbers later supporters short t a =
      let c = agreed-certify (λ v l. omega (arith, t.later_counted v l, later-fits v short l, a.few_later v l))
      (λ v l. omega (arith, t.supporters_counted v l, supporters-fit v short l, a.enough_supporters v l)) in
      certified-core_numbers g core c.0 c.1

  -- the core numbers of the graph have enough supporters
  pub core_numbers-supported : AreCoreNumbers g core → (v : ℕ) → v < length core → get_or core v 0 ≤ supporter_count core edges v
  core_numbers-supported right v l =
      let (other, order, c) = certificate_exists g in
      let same : other ≡ core = core-unique g other core (certified-core_numbers g other order c) right in
      let c' : Certifies g core order = subst (λ (numbers : List ℕ). Certifies g numbers order) same c in
      let size : g.size ≡ length core = size-with (length core) edges in
      le_trans (c'.enough_as_high v (omega (arith, size))) (in-supporters order (subst (λ (n : ℕ). Enumerates n order) size c'.enumerates) v)

  -- right numbers agree where each vertex has few neighbours left at the step that is its rank
  pub rounds-agree : AreCoreNumbers g core → ((v : ℕ) → v < length core → left_at g core rank (get_or rank v 0) v ≤ get_or core v 0)
      → (later supporters : List ℕ) → length core ≤ 2 ^ 32 → AreTallied core rank edges later supporters → AreBetween core later supporters
  rounds-agree right few later supporters short t = record {
    later_each = t.later_each;
    supporters_each = t.supporters_each;
    few_later = λ v l.
        let left : ℕ → Bool = λ w. adjacent g v w && is_left_at core rank (get_or core v 0) (get_or rank v 0) w in
        let more : count_by (is_later v) (below (length core)) ≤ count_by left (below (length core)) =
        count-mono (is_later v) left (below (length core))
        (λ w _ h. let p = and_parts (adjacent g v w) (has_lesser_key core rank v w) h in and_from _ _ p.0 (has_lesser_key-left core rank v w p.1)) in
        let same : count_by left (below (length core)) ≡ left_at g core rank (get_or rank v 0) v =
        ap (λ n. count_by left (below n)) (sym (size-with (length core) edges)) in
        omega (arith, t.later_counted v l, later-fits v short l, later-is v, more, same, few v l);
    enough_supporters = λ v l. omega (arith, t.supporters_counted v l, supporters-fit v short l, core_numbers-supported right v l);
  }

  module _ (order : List ℕ) (c : Certifies g core order) (p : ArePlaces order rank) where
    -- the order has each vertex
    enumerated : Enumerates (length core) order
    enumerated = subst (λ (n : ℕ). Enumerates n order) (size-with (length core) edges) c.enumerates

    -- and is as long as there are vertices
    long : length order ≡ length core
    long = length-enumerates (length core) order enumerated

    -- who has a greater key, by places as ranks, stands later
    later-place : (v w : ℕ) → v < length core → w < length core → has_lesser_key core rank v w ≡ true → get_or rank v 0 < get_or rank w 0
    later-place v w lv lw h =
        let at-v : get_or order (get_or rank v 0) 0 ≡ v = p.right v (omega (arith, long)) in
        let at-w : get_or order (get_or rank w 0) 0 ≡ w = p.right w (omega (arith, long)) in
        let in-v : get_or rank v 0 < length order = p.within v (omega (arith, long)) in
        let same : get_or rank v 0 ≡ get_or rank w 0 → v ≡ w = λ s. sym at-v ∙ (ap (λ i. get_or order i 0) s ∙ at-w) in
        elim (has_lesser_key-true core rank v w h) [
          | inl lt ↦ elim (cases_lt (get_or rank v 0) (get_or rank w 0)) [
            | inl done ↦ done
            | inr ge ↦ elim (cases_eq (get_or rank v 0) (get_or rank w 0)) [
              | inl s ↦ absurd (omega (arith, ap (λ x. get_or core x 0) (same s)))
              | inr ne ↦
                  let down : get_or core (get_or order (get_or rank w 0) 0) 0 ≤ get_or core (get_or order (get_or rank v 0) 0) 0 =
                  c.rising (get_or rank w 0) (get_or rank v 0) 0 (omega arith) in-v in
                  absurd (omega (arith, ap (λ x. get_or core x 0) at-v, ap (λ x. get_or core x 0) at-w))
            ]
          ]
          | inr q ↦ elim q.1 [ inl lt ↦ lt | inr r ↦ absurd (omega (arith, r.1, same r.0)) ]
        ]

    -- so no vertex has more later neighbours by keys than stand later
    certified-later : (v : ℕ) → v < length core → later_count core rank edges v ≤ get_or core v 0
    certified-later v l =
        let i : ℕ = get_or rank v 0 in
        let rest : List ℕ = drop (i + 1) order in
        let at-v : get_or order i 0 ≡ v = p.right v (omega (arith, long)) in
        let among : count_by (is_later v) (below (length core)) ≤ count_by (is_later v) rest =
        count-le (is_later v) (below (length core)) rest (Distinct-below (length core))
        (λ w m t.
        let lw : w < length core = below-member w (length core) m in
        let up : i < get_or rank w 0 = later-place v w l lw (and_parts (adjacent g v w) (has_lesser_key core rank v w) t).1 in
        subst (λ (x : ℕ). member x rest ≡ true) (p.right w (omega (arith, long)))
        (member-drop_at (i + 1) (get_or rank w 0) order (omega arith) (p.within w (omega (arith, long))))) in
        let less : count_by (is_later v) rest ≤ degree_among g rest v =
        count-mono (is_later v) (adjacent g v) rest (λ w m t. (and_parts (adjacent g v w) (has_lesser_key core rank v w) t).0) in
        let few : degree_among g rest v ≤ get_or core v 0 =
        subst (λ (x : ℕ). degree_among g rest x ≤ get_or core x 0) at-v (c.few_later i (p.within v (omega (arith, long)))) in
        omega (arith, later-is v, among, less, few)

    -- the counts of a certified order, with places as ranks, agree
    pub certified-agree : (later supporters : List ℕ) → length core ≤ 2 ^ 32 → AreTallied core rank edges later supporters → AreBetween core later supporters
    certified-agree later supporters short t = record {
      later_each = t.later_each;
      supporters_each = t.supporters_each;
      few_later = λ v l. omega (arith, t.later_counted v l, later-fits v short l, certified-later v l);
      enough_supporters = λ v l.
          omega (
            arith,
            t.supporters_counted v l,
            supporters-fit v short l,
            c.enough_as_high v (omega (arith, size-with (length core) edges)),
            in-supporters order enumerated v,
          );
    }

-- and right numbers agree where the ranks are layers
pub layers-agree : (g : SimpleGraph) (core rank : List ℕ) (edges : List Edge) (later supporters : List ℕ) → length core ≤ 2 ^ 32
    → ListsEachOnce (length core) edges → g ≡ graph_with (length core) edges → AreCoreNumbers g core → AreLayers g core rank
    → AreTallied core rank edges later supporters → AreBetween core later supporters
layers-agree g core rank edges later supporters short once same right layers tally =
    let right' : AreCoreNumbers (graph_with (length core) edges) core = subst (λ (h : SimpleGraph). AreCoreNumbers h core) same right in
    let layers' : AreLayers (graph_with (length core) edges) core rank = subst (λ (h : SimpleGraph). AreLayers h core rank) same layers in
    rounds-agree core rank edges once right' (λ v l. layers'.taken v (omega (arith, size-with (length core) edges))) later supporters short tally
