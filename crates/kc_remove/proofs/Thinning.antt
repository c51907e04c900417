-- A certified state from which an edge is removed.
use Rattle.std.proofs.Common.{◌≡◌, ◌≢◌, ◌≤◌, ◌<◌, ◌+◌, ◌⊎◌, ℕ, min, Bool, true, false, not, ◌&&◌, ◌||◌, List, get_or, eqb, ltb, leb, refl, sym, ◌∙◌}
use Rattle.std.proofs.Common.{ap, subst, inl, inr, arith, true≢false, eq-eqb, ne_eqb, lt-ltb}
use Rattle.std.specs.Prelude.{count_by}
use Rattle.std.proofs.lemmas.Bool.{cases_eq, cases_lt, cases_order, and_from, false_from_ne_true, or_parts, or_from}
use Rattle.kc_lists.specs.Lists.{member, below}
use Rattle.kc_lists.proofs.Counting.{member-below, Distinct-below, count-mono, count-agree, one_if}
use Rattle.kc_graph.specs.SimpleGraph.{SimpleGraph, adjacent}
use Rattle.kc_graph.specs.Edges.{without_edge}
use Rattle.kc_graph.specs.Certificate.{Certifies}
use Rattle.kc_graph.specs.Lawful.{Ranked, IsCertified}
use Rattle.kc_graph.proofs.Ends.{joins, joins-true, joins-first, joins-second}
use Rattle.kc_graph.proofs.EdgeChanges.{adjacent-without}
use Rattle.kc_graph.proofs.Law.{adjacent-self, adjacent-sym}
use Rattle.kc_cert.specs.Ranks.{rank_in}
use Rattle.kc_cert.proofs.Sums.{count-one-in, count-some}
use Rattle.kc_cert.proofs.Ordered.{order-has, rank-apart, few-ranked, enough-below, ranks-rise}
use Rattle.kc_view.specs.Search.{search_in}
use Rattle.kc_view.proofs.Among.{at_most_one}
use Rattle.kc_remove.specs.Cascade.{Thinned}

-- in a certified state a vertex with a neighbour has a core number of 1 at least
pub joined-positive : (g : SimpleGraph) (core order : List ℕ) → Certifies g core order → (u v : ℕ) → u < g.size → v < g.size
    → adjacent g u v ≡ true → 0 < get_or core u 0
joined-positive g core order h u v lu lv a =
    let there : (y : ℕ) → y < g.size → member y order ≡ true = λ y l. order-has g.size order h.enumerates y ∙ member-below y g.size l in
    let first : (x y : ℕ) → x < g.size → y < g.size → adjacent g x y ≡ true → rank_in order x < rank_in order y → 0 < get_or core x 0 = λ x y lx ly j lt.
    let some =
    count-some (λ z. adjacent g x z && ltb (rank_in order x) (rank_in order z)) y (below g.size) (member-below y g.size ly)
    (and_from _ _ j (lt-ltb _ _ lt)) in
    omega (arith, some, few-ranked g core order h x lx) in
    elim (cases_order (rank_in order u) (rank_in order v)) [
      | inl e ↦
          let same : u ≡ v = rank-apart order u v (there u lu) (there v lv) e in
          absurd (true≢false (sym a ∙ (ap (adjacent g u) (sym same) ∙ adjacent-self g u)))
      | inr (inl lt) ↦ first u v lu lv a lt
      | inr (inr lt) ↦
          let low : 0 < get_or core v 0 = first v u lv lu (adjacent-sym g v u ∙ a) lt in
          elim (cases_lt (get_or core u 0) (get_or core v 0)) [
            | inl less ↦
                let back : rank_in order u < rank_in order v = ranks-rise core order h.rising u v (there u lu) (there v lv) less in
                absurd (omega (arith, back))
            | inr ge ↦ omega (arith, low)
          ]
    ]

-- who passes in the graph without an edge passes in the graph with it
passing-with_edge : (a j l : Bool) → ((a && not j) && l) ≡ true → (a && l) ≡ true
passing-with_edge a j l t = grind arith

-- a pair that the edge does not join passes alike in both
pair-unjoined : (a j l : Bool) → j ≡ false → ((a && not j) && l) ≡ (a && l)
pair-unjoined a j l n = grind arith

-- and so does one that it joins where the rest of the test fails
low_end : (a j l : Bool) → (j ≡ true → l ≡ false) → (a && l) ≡ ((a && not j) && l)
low_end a j l n = grind arith

-- a pair that it joins does not pass in the graph without it
pair-gone : (a j l : Bool) → j ≡ true → ((a && not j) && l) ≡ false
pair-gone a j l n = grind arith

-- whether `z` is one of the two
abbrev pub is_either : ℕ → ℕ → ℕ → Bool
is_either u v z = eqb z u || eqb z v

-- the edge joins a vertex that is no end of it to no vertex
no_end : (u v z y : ℕ) → is_either u v z ≡ false → joins u v z y ≡ false
no_end u v z y n = false_from_ne_true _ (λ j. elim (joins-true u v z y j) [
  | inl p ↦ true≢false (sym (ap (λ b. b || eqb z v) (eq-eqb z u p.0)) ∙ n)
  | inr p ↦ let k = or_parts (eqb z u) (eqb z v) n in true≢false (sym (eq-eqb z v p.0) ∙ k.1)
])

-- and an end to one vertex alone
one_other : (u v z w y : ℕ) → u ≢ v → joins u v z w ≡ true → y ≢ w → joins u v z y ≡ false
one_other u v z w y differ jw ne = false_from_ne_true _ (λ j. elim (joins-true u v z y j) [
  | inl p ↦ elim (joins-true u v z w jw) [ inl q ↦ ne (p.1 ∙ sym q.1) | inr q ↦ differ (sym p.0 ∙ q.0) ]
  | inr p ↦ elim (joins-true u v z w jw) [ inl q ↦ differ (sym q.0 ∙ p.0) | inr q ↦ ne (p.1 ∙ sym q.1) ]
])

module _ (s : Ranked) (u v level : ℕ) (h : IsCertified s) (differ : u ≢ v) (lu : u < s.graph.size) (lv : v < s.graph.size)
    (a : adjacent s.graph u v ≡ true) (least : level ≡ min (get_or s.core u 0) (get_or s.core v 0)) where
  -- who is joined once the edge is gone
  abbrev now : ℕ → ℕ → Bool
  now = adjacent (without_edge s.graph u v)

  -- the core numbers, as they are
  abbrev number : ℕ → ℕ
  number y = get_or s.core y 0

  -- neighbours that are as high stay, but for the ends on the level
  high_now : (z : ℕ) → z < s.graph.size → (number z ≢ level) ⊎ (is_either u v z ≡ false) → (y : ℕ)
      → (adjacent s.graph z y && leb (number z) (number y)) ≡ (now z y && leb (number z) (number y))
  high_now z l where' y =
      let e = adjacent-without s.graph u v z y differ in
      rw e (low_end (adjacent s.graph z y) (joins u v z y) (leb (number z) (number y)) (λ j. elim where' [
        | inr n ↦ absurd (true≢false (sym j ∙ no_end u v z y n))
        | inl ne ↦ elim (joins-true u v z y j) [
          | inl p ↦
              let ez : number z ≡ number u = ap number p.0 in
              let ey : number y ≡ number v = ap number p.1 in
              let lt : number y < number z = omega (arith, ez, ey, least, ne) in grind (arith, lt)
          | inr p ↦
              let ez : number z ≡ number v = ap number p.0 in
              let ey : number y ≡ number u = ap number p.1 in
              let lt : number y < number z = omega (arith, ez, ey, least, ne) in grind (arith, lt)
        ]
      ]))

  -- one neighbour at most is lost
  lost_one : (z w : ℕ) (test : ℕ → Bool) → w < s.graph.size → joins u v z w ≡ true
      → count_by (λ y. adjacent s.graph z y && test y) (below s.graph.size) ≤ count_by (λ y. now z y && test y) (below s.graph.size) + 1
  lost_one z w test l j =
      let one =
      count-one-in (λ y. adjacent s.graph z y && test y) (λ y. now z y && test y) w (below s.graph.size) (Distinct-below s.graph.size)
      (member-below w s.graph.size l)
      (rw (adjacent-without s.graph u v z w differ) (pair-gone (adjacent s.graph z w) (joins u v z w) (test w) j))
      (λ y m ne.
      rw (adjacent-without s.graph u v z y differ)
      (sym (pair-unjoined (adjacent s.graph z y) (joins u v z y) (test y) (one_other u v z w y differ j ne)))) in
      let most : one_if (adjacent s.graph z w && test w) ≤ 1 = at_most_one (adjacent s.graph z w && test w) in
      omega (arith, one, most)

  -- without the edge, the search is thinned at its ends
  pub graph-thinned : Thinned (search_in (without_edge s.graph u v) s level) (is_either u v)
  graph-thinned =
      let there : (y : ℕ) → y < s.graph.size → member y s.order ≡ true = λ y l. order-has s.graph.size s.order h.enumerates y ∙ member-below y s.graph.size l in
      record {
        symmetric = adjacent-sym (without_edge s.graph u v);
        rising = λ x y lx ly lt. ranks-rise s.core s.order h.rising x y (there x lx) (there y ly) lt;
        some_level =
            let pu : 0 < number u = joined-positive s.graph s.core s.order h u v lu lv a in
            let pv : 0 < number v = joined-positive s.graph s.core s.order h v u lv lu (adjacent-sym s.graph v u ∙ a) in
            omega (arith, pu, pv, least);
        few = λ z l.
            let less : count_by (λ y. now z y && ltb (rank_in s.order z) (rank_in s.order y)) (below s.graph.size)
            ≤ count_by (λ y. adjacent s.graph z y && ltb (rank_in s.order z) (rank_in s.order y)) (below s.graph.size) =
            count-mono (λ y. now z y && ltb (rank_in s.order z) (rank_in s.order y))
            (λ y. adjacent s.graph z y && ltb (rank_in s.order z) (rank_in s.order y)) (below s.graph.size) (λ y m t.
            passing-with_edge (adjacent s.graph z y) (joins u v z y) (ltb (rank_in s.order z) (rank_in s.order y))
            (sym (ap (λ b. b && ltb (rank_in s.order z) (rank_in s.order y)) (adjacent-without s.graph u v z y differ)) ∙ t)) in
            omega (arith, less, few-ranked s.graph s.core s.order h z l);
        enough = λ z l where'.
            let same : count_by (λ y. adjacent s.graph z y && leb (number z) (number y)) (below s.graph.size)
            ≡ count_by (λ y. now z y && leb (number z) (number y)) (below s.graph.size) =
            count-agree (λ y. adjacent s.graph z y && leb (number z) (number y)) (λ y. now z y && leb (number z) (number y))
            (below s.graph.size) (λ y m. high_now z l where' y) in
            omega (arith, same, enough-below s.graph s.core s.order h z l);
        nearly = λ z oz.
            let old : number z ≤ count_by (λ y. adjacent s.graph z y && leb (number z) (number y)) (below s.graph.size) =
            enough-below s.graph s.core s.order h z oz.here in
            let lvl : number z ≡ level = oz.level in
            let old' : level ≤ count_by (λ y. adjacent s.graph z y && leb level (number y)) (below s.graph.size) =
            subst (λ (k : ℕ). k ≤ count_by (λ y. adjacent s.graph z y && leb k (number y)) (below s.graph.size)) lvl old in
            elim (cases_eq z u) [
              | inl e ↦ omega (arith, old', lost_one z v (λ y. leb level (number y)) lv (joins-first u v z v e refl))
              | inr nu ↦ elim (cases_eq z v) [
                | inl e ↦ omega (arith, old', lost_one z u (λ y. leb level (number y)) lu (joins-second u v z u e refl))
                | inr nv ↦
                    let out : is_either u v z ≡ false = or_from (eqb z u) (eqb z v) (ne_eqb z u nu) (ne_eqb z v nv) in
                    let same : count_by (λ y. adjacent s.graph z y && leb level (number y)) (below s.graph.size)
                    ≡ count_by (λ y. now z y && leb level (number y)) (below s.graph.size) =
                    count-agree (λ y. adjacent s.graph z y && leb level (number y)) (λ y. now z y && leb level (number y)) (below s.graph.size) (λ y m.
                    rw (adjacent-without s.graph u v z y differ)
                    (sym (pair-unjoined (adjacent s.graph z y) (joins u v z y) (leb level (number y)) (no_end u v z y out)))) in
                    omega (arith, old', same)
              ]
            ];
      }
