-- Two other rows are put in the place of those of the ends of an edge.
use Rattle.std.proofs.Common.{◌≡◌, ◌<◌, ◌+◌, ℕ, Bool, false, ◌&&◌, ◌||◌, List, [], length, set, eqb, sym, ◌∙◌, ap, ap₂, subst, inl, inr, arith}
use Rattle.std.proofs.Common.{length-set, eq-eqb, ne_eqb}
use Rattle.std.specs.List.Sorted.{IsStrictlyIncreasing}
use Rattle.std.specs.List.{sum_by}
use Rattle.std.proofs.lemmas.List.Sums.{sum_by-set}
use Rattle.std.proofs.lemmas.Bool.{cases_eq}
use Rattle.std.proofs.Math.Bool.{or-false}
use Rattle.kc_lists.specs.Lists.{member}
use Rattle.kc_graph.specs.Rows.{row, graph_of}
use Rattle.kc_graph.proofs.Buckets.{row-set_same, row-set_other}
use Rattle.kc_graph.proofs.Ends.{joins}
use Rattle.kc_graph.proofs.RowsLemmas.{size-graph_of}

module _ (old new : List (List ℕ)) (u v : ℕ) (first second : List ℕ) (put : new ≡ set (set old u first) v second) where
  -- there are as many rows as before
  pub new-length : length new ≡ length old
  new-length = ap length put ∙ length-set (set old u first) v second ∙ length-set old u first

  -- the graph has as many vertices
  pub same-size : (graph_of new).size ≡ (graph_of old).size
  same-size = size-graph_of new ∙ new-length ∙ sym (size-graph_of old)

  -- Both ends are vertices, and they differ.
  module _ (differ : u ≡ v → ⊥) (lu : u < length old) (lv : v < length old) where
    -- the row of the second end is the one that was put there
    at-v : row new v ≡ second
    at-v = ap (λ t. row t v) put ∙ row-set_same (set old u first) v second (omega (arith, length-set old u first))

    -- the row of the first end is the one that was put there
    at-u : row new u ≡ first
    at-u = ap (λ t. row t u) put ∙ row-set_other (set old u first) v u second differ ∙ row-set_same old u first lu

    -- the row of a vertex that is no end is as before
    at-other : (a : ℕ) → (a ≡ u → ⊥) → (a ≡ v → ⊥) → row new a ≡ row old a
    at-other a nu nv = ap (λ t. row t a) put ∙ row-set_other (set old u first) v a second nv ∙ row-set_other old u a first nu

    -- the rows ascend, where those did that were there and those do that were put there
    pub two_rows-ascend : IsStrictlyIncreasing first → IsStrictlyIncreasing second → ((a : ℕ) → IsStrictlyIncreasing (row old a))
        → (a : ℕ) → IsStrictlyIncreasing (row new a)
    two_rows-ascend up-u up-v h a = elim (cases_eq a u) [
      | inl e ↦ subst IsStrictlyIncreasing (sym (ap (row new) e ∙ at-u)) up-u
      | inr nu ↦ elim (cases_eq a v) [
        | inl e ↦ subst IsStrictlyIncreasing (sym (ap (row new) e ∙ at-v)) up-v
        | inr nv ↦ subst IsStrictlyIncreasing (sym (at-other a nu nv)) (h a)
      ]
    ]

    -- Whether a number is in a row follows from whether it was there and whether the edge joins the two, where it does so in the two rows.
    pub two_rows-hold : (f : Bool → Bool → Bool) → ((s : Bool) → f s false ≡ s) → ((b : ℕ) → member b first ≡ f (member b (row old u)) (eqb b v))
        → ((b : ℕ) → member b second ≡ f (member b (row old v)) (eqb b u)) → (a b : ℕ) → member b (row new a) ≡ f (member b (row old a)) (joins u v a b)
    two_rows-hold f stays at_first at_second a b = elim (cases_eq a u) [
      | inl e ↦
          let j : joins u v a b ≡ eqb b v =
          ap₂ (λ s t. (s && eqb b v) || (t && eqb b u)) (eq-eqb a u e) (ne_eqb a v (λ q. differ (sym e ∙ q))) ∙ or-false (eqb b v) in
          ap (λ k. member b (row new k)) e ∙ ap (member b) at-u ∙ at_first b ∙ ap₂ f (ap (λ k. member b (row old k)) (sym e)) (sym j)
      | inr nu ↦ elim (cases_eq a v) [
        | inl e ↦
            let j : joins u v a b ≡ eqb b u = ap₂ (λ s t. (s && eqb b v) || (t && eqb b u)) (ne_eqb a u nu) (eq-eqb a v e) in
            ap (λ k. member b (row new k)) e ∙ ap (member b) at-v ∙ at_second b ∙ ap₂ f (ap (λ k. member b (row old k)) (sym e)) (sym j)
        | inr nv ↦
            let j : joins u v a b ≡ false = ap₂ (λ s t. (s && eqb b v) || (t && eqb b u)) (ne_eqb a u nu) (ne_eqb a v nv) in
            ap (member b) (at-other a nu nv) ∙ sym (ap (f (member b (row old a))) j ∙ stays (member b (row old a)))
      ]
    ]

    -- in all rows there are as many entries more, or less, as in the two
    pub two_rows-sum : sum_by length new + length (row old u) + length (row old v) ≡ sum_by length old + length first + length second
    two_rows-sum =
        let mid : List (List ℕ) = set old u first in
        let a : sum_by length mid + length (row old u) ≡ sum_by length old + length first = sum_by-set length old u first [] lu in
        let b : sum_by length (set mid v second) + length (row mid v) ≡ sum_by length mid + length second =
        sum_by-set length mid v second [] (omega (arith, length-set old u first)) in
        let c : length (row mid v) ≡ length (row old v) = ap length (row-set_other old u v first (λ e. differ (sym e))) in
        omega (arith, a, b, c, ap (sum_by length) put)
