-- Numbers whose vertices are all between, in the order of their keys, are certified, so they are the core numbers.
use Rattle.std.proofs.Common.{◌≡◌, ◌≤◌, ◌<◌, ◌+◌, ℕ, Bool, true, ◌&&◌, List, length, get_or, drop, leb, arith, le_trans, subst, ◌∙◌}
use Rattle.std.specs.Prelude.{count_by}
use Rattle.std.proofs.lemmas.Bool.{and_from}
use Rattle.std.proofs.lemmas.List.Elements.{All-contains}
use Rattle.kc_lists.specs.Lists.{member, below}
use Rattle.kc_lists.proofs.Counting.{count-le, count-mono, member-from_Contains, Contains-from_member, Distinct-from_pairs, Distinct-drop}
use Rattle.kc_lists.proofs.Counting.{drop-member, member-below, below-member, Distinct-below}
use Rattle.kc_graph.specs.SimpleGraph.{SimpleGraph, adjacent, degree_among}
use Rattle.kc_graph.specs.Certificate.{Certifies, Enumerates, degree_as_high}
use Rattle.kc_graph.specs.Core.{AreCoreNumbers, IsCoreNumber}
use Rattle.kc_graph.specs.Peeling.{at}
use Rattle.kc_graph.proofs.Law.{certified-core_numbers}
use Rattle.kc_tally.specs.Keys.{has_lesser_key}
use Rattle.kc_tally.proofs.Keys.{has_lesser_key-trans, has_lesser_key-total, has_lesser_key-core}
use Rattle.kc_tally.proofs.Sorting.{Ascends, order_below, Ascends-pairs, Ascends-behind}
use Rattle.kc_claims.specs.Certificates.{AreCertificate, IsBetween, TellCoreNumbers, later_neighbours, supporters}
use Rattle.kc_claims.specs.declared.claim.Claim.{Claim}

module _ (g : SimpleGraph) (core rank : List ℕ) where
  -- whether `w` is a neighbour of `v` with a greater key
  abbrev is_later : ℕ → ℕ → Bool
  is_later v w = adjacent g v w && has_lesser_key core rank v w

  -- whether `w` is a neighbour of `v` with no lesser number
  abbrev supports : ℕ → ℕ → Bool
  supports v w = adjacent g v w && leb (at core v) (at core w)

  -- the numbers of an order of the vertices are vertices
  order-within : (order : List ℕ) (w : ℕ) → Enumerates g.size order → member w order ≡ true → w < g.size
  order-within order w e m = All-contains (λ x. x < g.size) order w e.below (Contains-from_member order w m)

  -- in the order of the keys the later neighbours stand later
  few-later : (order : List ℕ) → Enumerates g.size order → Ascends (has_lesser_key core rank) order → (i : ℕ) → i < length order
      → degree_among g (drop (i + 1) order) (get_or order i 0) ≤ later_neighbours g core rank (get_or order i 0)
  few-later order e a i l =
      let v : ℕ = get_or order i 0 in
      let rest : List ℕ = drop (i + 1) order in
      let first : count_by (adjacent g v) rest ≤ count_by (is_later v) rest =
      count-mono (adjacent g v) (is_later v) rest (λ w m t. and_from _ _ t (Ascends-behind (has_lesser_key core rank) i order a l w m)) in
      let second : count_by (is_later v) rest ≤ count_by (is_later v) (below g.size) =
      count-le (is_later v) rest (below g.size) (Distinct-drop (i + 1) order (Distinct-from_pairs order e.distinct))
      (λ w m _. member-below w g.size (order-within order w e (drop-member (i + 1) w order m))) in
      le_trans first second

  -- the supporters stand in the order
  supporters-in : (order : List ℕ) → Enumerates g.size order → (v : ℕ) → supporters g core v ≤ degree_as_high g core order v
  supporters-in order e v =
      count-le (supports v) (below g.size) order (Distinct-below g.size)
      (λ w m _. member-from_Contains order w (e.complete w (below-member w g.size m)))

  -- the order of the keys certifies the numbers, so they are the core numbers
  pub between-core_numbers : length core ≡ g.size → ((v : ℕ) → v < g.size → IsBetween g core rank v) → AreCoreNumbers g core
  between-core_numbers size between =
      let (order, e, a) = order_below (has_lesser_key core rank) (has_lesser_key-trans core rank) (has_lesser_key-total core rank) g.size in
      let certified : Certifies g core order = record {
        one_each = size;
        enumerates = e;
        rising = λ i j d lt l. has_lesser_key-core core rank _ _ (Ascends-pairs (has_lesser_key core rank) order a i j d lt l);
        few_later = λ i l. le_trans (few-later order e a i l) (between (get_or order i 0) (e.below i 0 l)).few_later;
        enough_as_high = λ v l. le_trans (between v l).supported (supporters-in order e v);
      } in
      certified-core_numbers g core order certified

-- so the claims of a certificate tell core numbers
pub TellCoreNumbers-certificate : (ids : List ℕ) (g : SimpleGraph) (claims : List Claim) → length ids ≡ g.size → AreCertificate ids g claims
    → TellCoreNumbers ids g claims
TellCoreNumbers-certificate ids g claims size c i l =
    let right : AreCoreNumbers g c.core = between-core_numbers g c.core c.rank (c.told.one_number ∙ size) c.between in
    let v : ℕ = at c.order i in
    let within : v < g.size = omega (arith, c.told.all.vertices i l, size) in
    (v, within, c.told.all.named i l, subst (IsCoreNumber g v) (c.told.all.numbers i l) (right.each v within))
