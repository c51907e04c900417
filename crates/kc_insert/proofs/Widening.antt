-- A certified state to which an edge is added.
use Rattle.std.proofs.Common.{◌≡◌, ◌≢◌, ◌≤◌, ◌<◌, ℕ, min, Bool, true, false, cond, ◌&&◌, ◌||◌, get_or, eqb, ltb, leb, sym, ◌∙◌, ap, subst, inl, inr}
use Rattle.std.proofs.Common.{arith, eqb-true, ne_eqb}
use Rattle.std.specs.Prelude.{count_by}
use Rattle.std.proofs.lemmas.Bool.{cases_order}
use Rattle.kc_lists.specs.Lists.{member, below}
use Rattle.kc_lists.proofs.Counting.{member-below, Distinct-below, count-mono, count-agree, one_if}
use Rattle.kc_graph.specs.SimpleGraph.{adjacent}
use Rattle.kc_graph.specs.Edges.{with_edge}
use Rattle.kc_graph.specs.Lawful.{Ranked, IsCertified}
use Rattle.kc_graph.specs.declared.update.Update.{Update}
use Rattle.kc_graph.proofs.Ends.{joins}
use Rattle.kc_graph.proofs.EdgeChanges.{adjacent-with}
use Rattle.kc_graph.proofs.Law.{adjacent-self, adjacent-sym}
use Rattle.kc_cert.specs.Ranks.{rank_in}
use Rattle.kc_cert.proofs.Keeping.{ends_differ}
use Rattle.kc_cert.proofs.Ordered.{order-has, rank-apart, few-ranked, enough-below, ranks-rise}
use Rattle.kc_cert.proofs.Sums.{count-one-in}
use Rattle.kc_view.specs.Search.{search_in}
use Rattle.kc_view.specs.Sure.{root_of}
use Rattle.kc_view.proofs.Among.{at_most_one}
use Rattle.kc_insert.specs.Added.{search_with}
use Rattle.kc_insert.specs.Searching.{Widened}

-- the new edge gives no later neighbour to a vertex that is not the root
later_same : (a' a zr yo zo yr : Bool) (rz ry : ℕ) → a' ≡ (a || ((zr && yo) || (zo && yr))) → zr ≡ false → (zo ≡ true → yr ≡ true → ry < rz)
    → (a' && ltb rz ry) ≡ (a && ltb rz ry)
later_same a' a zr yo zo yr rz ry e n back = grind arith

-- the new edge gives the root no neighbour but the other end
root_same : (a' a rr yo ro yr l : Bool) → a' ≡ (a || ((rr && yo) || (ro && yr))) → yo ≡ false → ro ≡ false → (a' && l) ≡ (a && l)
root_same a' a rr yo ro yr l e n r = grind arith

-- neighbours stay where an edge is added
neighbours-still : (a' a x l : Bool) → a' ≡ (a || x) → (a && l) ≡ true → (a' && l) ≡ true
neighbours-still a' a x l e t = grind arith

-- the other end was no neighbour before
new_one : (a l : Bool) → a ≡ false → (a && l) ≡ false
new_one a l e = grind arith

-- which end is named first makes no difference
ends-turned : (a b c d : Bool) → ((a && b) || (c && d)) ≡ ((c && d) || (a && b))
ends-turned a b c d = grind arith

-- The edge joins `root` and `other`, and the root stands first.
module _ (s : Ranked) (u v root other level : ℕ) (h : IsCertified s) (lr : root < s.graph.size) (lo : other < s.graph.size)
    (least : level ≡ get_or s.core root 0) (first : rank_in s.order root < rank_in s.order other) (new : adjacent s.graph root other ≡ false)
    (adds : (a b : ℕ) → adjacent (with_edge s.graph u v) a b ≡ (adjacent s.graph a b || joins root other a b)) where
  -- who is joined once the edge is there
  abbrev now : ℕ → ℕ → Bool
  now = adjacent (with_edge s.graph u v)

  -- the ranks, as they are
  abbrev rank : ℕ → ℕ
  rank = rank_in s.order

  -- the core numbers, as they are
  abbrev number : ℕ → ℕ
  number y = get_or s.core y 0

  -- with the edge, the search is widened at the root
  widened-at : Widened (search_in (with_edge s.graph u v) s level) root
  widened-at =
      let there : (y : ℕ) → y < s.graph.size → member y s.order ≡ true = λ y l. order-has s.graph.size s.order h.enumerates y ∙ member-below y s.graph.size l in
      record {
        symmetric = adjacent-sym (with_edge s.graph u v);
        no_loop = adjacent-self (with_edge s.graph u v);
        apart = λ x y lx ly e. rank-apart s.order x y (there x lx) (there y ly) e;
        rising = λ x y lx ly lt. ranks-rise s.core s.order h.rising x y (there x lx) (there y ly) lt;
        root_here = lr;
        root_level = sym least;
        few = λ z l ne.
            let same : count_by (λ y. now z y && ltb (rank z) (rank y)) (below s.graph.size)
            ≡ count_by (λ y. adjacent s.graph z y && ltb (rank z) (rank y)) (below s.graph.size) =
            count-agree (λ y. now z y && ltb (rank z) (rank y)) (λ y. adjacent s.graph z y && ltb (rank z) (rank y)) (below s.graph.size) (λ y m.
            let back : eqb z other ≡ true → eqb y root ≡ true → rank y < rank z =
            λ p q.
            let ez : rank z ≡ rank other = ap rank (eqb-true z other p) in
            let ey : rank y ≡ rank root = ap rank (eqb-true y root q) in omega (arith, ez, ey, first) in
            later_same (now z y) (adjacent s.graph z y) (eqb z root) (eqb y other) (eqb z other) (eqb y root) (rank z) (rank y) (adds z y)
            (ne_eqb z root ne) back) in
            omega (arith, same, few-ranked s.graph s.core s.order h z l);
        few_root =
            let apart : root ≢ other = λ k. let e : rank root ≡ rank other = ap rank k in absurd (omega (arith, first, e)) in
            let one =
            count-one-in (λ y. now root y && ltb (rank root) (rank y)) (λ y. adjacent s.graph root y && ltb (rank root) (rank y)) other
            (below s.graph.size) (Distinct-below s.graph.size) (member-below other s.graph.size lo)
            (new_one (adjacent s.graph root other) (ltb (rank root) (rank other)) new)
            (λ y m ne.
            root_same (now root y) (adjacent s.graph root y) (eqb root root) (eqb y other) (eqb root other) (eqb y root)
            (ltb (rank root) (rank y)) (adds root y) (ne_eqb y other ne) (ne_eqb root other apart)) in
            let most : one_if (now root other && ltb (rank root) (rank other)) ≤ 1 = at_most_one (now root other && ltb (rank root) (rank other)) in
            omega (arith, one, most, few-ranked s.graph s.core s.order h root lr, least);
        enough = λ z l.
            let more : count_by (λ y. adjacent s.graph z y && leb (number z) (number y)) (below s.graph.size)
            ≤ count_by (λ y. now z y && leb (number z) (number y)) (below s.graph.size) =
            count-mono (λ y. adjacent s.graph z y && leb (number z) (number y)) (λ y. now z y && leb (number z) (number y))
            (below s.graph.size)
            (λ y m t. neighbours-still (now z y) (adjacent s.graph z y) (joins root other z y) (leb (number z) (number y)) (adds z y) t) in
            omega (arith, more, enough-below s.graph s.core s.order h z l);
      }

-- where the first end has the lesser core number it is the root
root-lesser : (a b p q u v : ℕ) → a < b → cond (ltb a b) u (cond (ltb b a) v (cond (ltb p q) u v)) ≡ u
root-lesser a b p q u v l = grind arith

-- where the second end has the lesser core number it is the root
root-greater : (a b p q u v : ℕ) → b < a → cond (ltb a b) u (cond (ltb b a) v (cond (ltb p q) u v)) ≡ v
root-greater a b p q u v l = grind arith

-- of ends with one core number, the first is the root where it stands first
root-first : (a b p q u v : ℕ) → a ≡ b → p < q → cond (ltb a b) u (cond (ltb b a) v (cond (ltb p q) u v)) ≡ u
root-first a b p q u v e l = grind arith

-- of ends with one core number, the second is the root where it stands first
root-second : (a b p q u v : ℕ) → a ≡ b → q < p → cond (ltb a b) u (cond (ltb b a) v (cond (ltb p q) u v)) ≡ v
root-second a b p q u v e l = grind arith

-- a certified state, with the edge added, is one in which the search can begin
pub state-widened : (update : Update) (s : Ranked) (level root : ℕ) → IsCertified s → update.v < s.graph.size → adjacent s.graph update.u update.v ≡ false
    → level ≡ min (get_or s.core update.u 0) (get_or s.core update.v 0) → root ≡ root_of s update → Widened (search_with update level s) root
state-widened update s level root h l new least is =
    let u : ℕ = update.u in
    let v : ℕ = update.v in
    let up : u < v = update.ordered in
    let lu : u < s.graph.size = omega (arith, up, l) in
    let number : ℕ → ℕ = λ y. get_or s.core y 0 in
    let rank : ℕ → ℕ = rank_in s.order in
    let there : (y : ℕ) → y < s.graph.size → member y s.order ≡ true = λ y ly. order-has s.graph.size s.order h.enumerates y ∙ member-below y s.graph.size ly in
    let adds : (a b : ℕ) → adjacent (with_edge s.graph u v) a b ≡ (adjacent s.graph a b || joins u v a b) =
    λ a b. adjacent-with s.graph u v a b (ends_differ update) in
    let from_u : root_of s update ≡ u → number u ≤ number v → rank u < rank v → Widened (search_with update level s) root = λ e le first.
    subst (λ (r : ℕ). Widened (search_with update level s) r) (sym (is ∙ e)) (widened-at s u v u v level h lu l (omega (arith, least, le)) first new adds) in
    let from_v : root_of s update ≡ v → number v ≤ number u → rank v < rank u → Widened (search_with update level s) root = λ e le first.
    subst (λ (r : ℕ). Widened (search_with update level s) r) (sym (is
    ∙ e)) (widened-at s u v v u level h l lu (omega (arith, least, le)) first (adjacent-sym s.graph v u ∙ new)
    (λ a b. adds a b ∙ ap (λ k. adjacent s.graph a b || k) (ends-turned (eqb a u) (eqb b v) (eqb a v) (eqb b u)))) in
    elim (cases_order (number u) (number v)) [
      | inr (inl lt) ↦
          from_u (root-lesser (number u) (number v) (rank u) (rank v) u v lt) (omega (arith, lt))
          (ranks-rise s.core s.order h.rising u v (there u lu) (there v l) lt)
      | inr (inr lt) ↦
          from_v (root-greater (number u) (number v) (rank u) (rank v) u v lt) (omega (arith, lt))
          (ranks-rise s.core s.order h.rising v u (there v l) (there u lu) lt)
      | inl e ↦ elim (cases_order (rank u) (rank v)) [
        | inl same ↦ let k : u ≡ v = rank-apart s.order u v (there u lu) (there v l) same in absurd (omega (arith, up, k))
        | inr (inl lt) ↦ from_u (root-first (number u) (number v) (rank u) (rank v) u v e lt) (omega (arith, e)) lt
        | inr (inr lt) ↦ from_v (root-second (number u) (number v) (rank u) (rank v) u v e lt) (omega (arith, e)) lt
      ]
    ]
