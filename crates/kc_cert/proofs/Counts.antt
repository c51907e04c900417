-- Counts over the neighbours of a vertex are counts over all vertices.
use Rattle.std.proofs.Common.{◌≡◌, ◌≤◌, ◌<◌, ℕ, Bool, false, not, ◌&&◌, List, length, get_or, take, drop, sym, ◌∙◌, ap, inl, inr, arith, true≢false}
use Rattle.std.proofs.Common.{nat_le, take-append-drop}
use Rattle.std.specs.Prelude.{count_by}
use Rattle.std.proofs.lemmas.List.Elements.{All-contains}
use Rattle.std.proofs.lemmas.Bool.{and_parts, and_from, not-true, not_from_false}
use Rattle.kc_lists.specs.Lists.{member, Distinct, below}
use Rattle.kc_lists.proofs.Members.{member-append}
use Rattle.kc_lists.proofs.Counting.{member-from_Contains, Contains-from_member, Distinct-from_pairs, Distinct-drop, Distinct-below}
use Rattle.kc_lists.proofs.Counting.{member-below, below-member, drop-not_take, count-le, count-mono, count-agree}
use Rattle.kc_graph.specs.SimpleGraph.{SimpleGraph, adjacent, degree_among}
use Rattle.kc_graph.specs.Neighbours.{AreNeighbours}
use Rattle.kc_graph.specs.Certificate.{Enumerates, Certifies, degree_as_high}
use Rattle.kc_graph.proofs.PeelingLemmas.{neighbours-distinct}
use Rattle.kc_cert.specs.Conditions.{NeverFalls, HasFewLater, HasEnoughAsHigh}
use Rattle.kc_cert.proofs.Enumerating.{MarkedTo}

-- the neighbours that are not marked are those that stand later
pub later_count : (g : SimpleGraph) (v j : ℕ) (order ws : List ℕ) (marks : List Bool) → Enumerates g.size order → AreNeighbours g v ws
    → MarkedTo g.size j order marks
    → count_by (λ w. not (get_or marks w false)) ws ≡ degree_among g (drop j order) v
later_count g v j order ws marks e near marked =
    let left : ℕ → Bool = λ w. adjacent g v w && not (member w (take j order)) in
    let d : Distinct order = Distinct-from_pairs order e.distinct in
    let here : count_by (λ w. not (get_or marks w false)) ws ≡ count_by left ws = count-agree (λ w. not (get_or marks w false)) left ws
    (λ w m. ap not (marked.exact w (near.within w m)) ∙ sym (ap (λ b. b && not (member w (take j order))) (sym (near.exact w) ∙ m))) in
    let up : count_by left ws ≤ count_by left (drop j order) = count-le left ws (drop j order) (neighbours-distinct g v ws near)
    (λ w m t.
    let out : member w (take j order) ≡ false = not-true (member w (take j order)) (and_parts (adjacent g v w) (not (member w (take j order))) t).1 in
    elim (member-append w (take j order) (drop j order) (ap (member w) (take-append-drop j order)
    ∙ member-from_Contains order w (e.complete w (near.within w m)))) [ inl k ↦ absurd (true≢false (sym k ∙ out)) | inr k ↦ k ]) in
    let among : count_by left (drop j order) ≤ degree_among g (drop j order) v =
    count-mono left (adjacent g v) (drop j order) (λ w _ t. (and_parts (adjacent g v w) (not (member w (take j order))) t).0) in
    let back : degree_among g (drop j order) v ≤ count_by left (drop j order) =
    count-mono (adjacent g v) left (drop j order) (λ w m a. and_from _ _ a (not_from_false _ (drop-not_take j w order d m))) in
    let down : count_by left (drop j order) ≤ count_by left ws = count-le left (drop j order) ws (Distinct-drop j order d)
    (λ w _ t. near.exact w ∙ (and_parts (adjacent g v w) (not (member w (take j order))) t).0) in
    omega (arith, here, up, among, back, down)

-- those whose number is no less are as many in the list of neighbours as over all vertices
pub high_count : (g : SimpleGraph) (v : ℕ) (core ws : List ℕ) → AreNeighbours g v ws → count_by (λ w. nat_le (get_or core v 0) (get_or core w 0)) ws
    ≡ degree_as_high g core (below g.size) v
high_count g v core ws near =
    let high : ℕ → Bool = λ w. adjacent g v w && nat_le (get_or core v 0) (get_or core w 0) in
    let here : count_by (λ w. nat_le (get_or core v 0) (get_or core w 0)) ws ≡ count_by high ws =
    count-agree (λ w. nat_le (get_or core v 0) (get_or core w 0)) high ws
    (λ w m. sym (ap (λ b. b && nat_le (get_or core v 0) (get_or core w 0)) (sym (near.exact w) ∙ m))) in
    let up : count_by high ws ≤ degree_as_high g core (below g.size) v = count-le high ws (below g.size) (neighbours-distinct g v ws near)
    (λ w m _. member-below w g.size (near.within w m)) in
    let down : degree_as_high g core (below g.size) v ≤ count_by high ws = count-le high (below g.size) ws (Distinct-below g.size)
    (λ w _ t. near.exact w ∙ (and_parts (adjacent g v w) (nat_le (get_or core v 0) (get_or core w 0)) t).0) in
    omega (arith, here, up, down)

-- the neighbours whose number is no less are as many over all vertices as over the order
pub degree_as_high-order : (g : SimpleGraph) (core order : List ℕ) (v : ℕ) → Enumerates g.size order → degree_as_high g core (below g.size) v
    ≡ degree_as_high g core order v
degree_as_high-order g core order v e =
    let high : ℕ → Bool = λ w. adjacent g v w && nat_le (get_or core v 0) (get_or core w 0) in
    let up : count_by high (below g.size) ≤ count_by high order =
    count-le high (below g.size) order (Distinct-below g.size)
    (λ w m _. member-from_Contains order w (e.complete w (below-member w g.size m))) in
    let down : count_by high order ≤ count_by high (below g.size) = count-le high order (below g.size) (Distinct-from_pairs order e.distinct)
    (λ w m _. member-below w g.size (All-contains (λ x. x < g.size) order w e.below (Contains-from_member order w m))) in
    omega (arith, up, down)

-- the unmarked neighbours that were counted are as many as those that stand later
pub unmarked-counted : (g : SimpleGraph) (v j n : ℕ) (order ws : List ℕ) (marks now : List Bool) → Enumerates g.size order → AreNeighbours g v ws
    → MarkedTo g.size j order marks → now ≡ marks
    → n ≡ count_by (λ w. not (get_or now w false)) ws → n ≡ degree_among g (drop j order) v
unmarked-counted g v j n order ws marks now e near marked same is =
    is ∙ ap (λ (t : List Bool). count_by (λ w. not (get_or t w false)) ws) same ∙ later_count g v j order ws marks e near marked

-- the conditions make the certificate
pub all_conditions : (g : SimpleGraph) (core order : List ℕ) → length core ≡ g.size → Enumerates g.size order → NeverFalls core order
    → HasFewLater g core order → HasEnoughAsHigh g core → Certifies g core order
all_conditions g core order n e rising few high = record {
  one_each = n;
  enumerates = e;
  rising = rising;
  few_later = few;
  enough_as_high = λ v l. omega (arith, high v l, degree_as_high-order g core order v e);
}

-- in a certified state each vertex has enough neighbours whose number is no less
pub enough_in : (g : SimpleGraph) (core order : List ℕ) → Certifies g core order → HasEnoughAsHigh g core
enough_in g core order h v l = omega (arith, h.enough_as_high v l, degree_as_high-order g core order v h.enumerates)
