-- Counts over the neighbours after an update, from those before it.
use Rattle.std.proofs.Common.{◌≡◌, ◌≢◌, ◌≤◌, ◌<◌, ◌+◌, ℕ, Bool, true, false, cond, not, ◌&&◌, ◌||◌, List, Option, Some, None, length, get_or}
use Rattle.std.proofs.Common.{take, eqb, refl, sym, ◌∙◌, ap, ap₂, inl, inr, arith, true≢false, eq-eqb, ne_eqb}
use Rattle.std.specs.Prelude.{count_by}
use Rattle.std.specs.Option.{option_eq}
use Rattle.std.proofs.lemmas.Bool.{cases_Bool, cases_eq, and_parts, not-true}
use Rattle.std.proofs.lemmas.Option.{same_Some}
use Rattle.std.proofs.lemmas.List.{length-take}
use Rattle.std.proofs.lemmas.List.Sums.{count_by_more_yes, count_by_more_no}
use Rattle.kc_lists.specs.Lists.{member, below}
use Rattle.kc_lists.proofs.Counting.{member-below, below-member, Distinct-below, count-le, count-agree, count-le-length, member-get_or, one_if}
use Rattle.kc_graph.specs.SimpleGraph.{SimpleGraph, adjacent}
use Rattle.kc_graph.specs.Neighbours.{neighbours_of}
use Rattle.kc_graph.specs.Plans.{is_applied, updated}
use Rattle.kc_graph.specs.declared.update.Update.{Update}
use Rattle.kc_graph.proofs.Law.{adjacent-self, adjacent-sym}
use Rattle.kc_graph.proofs.Ends.{joins, joins-true}
use Rattle.kc_graph.proofs.NeighbourLists.{neighbours_has, neighbours_within, neighbours_once}
use Rattle.kc_cert.specs.Stands.{other_end, keeps}
use Rattle.kc_cert.proofs.Sums.{count-one-in, count-none, count-sum}
use Rattle.kc_cert.proofs.Keeping.{adjacent-updated, ends_differ}

-- what passes among the neighbours is counted over them or over all vertices
pub count-neighbours : (g : SimpleGraph) (z : ℕ) (r : ℕ → Bool) → count_by (λ y. adjacent g z y && r y) (below g.size) ≡ count_by r (neighbours_of g z)
count-neighbours g z r =
    let both : ℕ → Bool = λ y. adjacent g z y && r y in
    let ws : List ℕ = neighbours_of g z in
    let here : count_by r ws ≡ count_by both ws = count-agree r both ws (λ y m. sym (ap (λ b. b && r y) (neighbours_within g z y m).1)) in
    let up : count_by both (below g.size) ≤ count_by both ws =
    count-le both (below g.size) ws (Distinct-below g.size)
    (λ y m t. neighbours_has g z y (below-member y g.size m) ∙ (and_parts (adjacent g z y) (r y) t).0) in
    let down : count_by both ws ≤ count_by both (below g.size) =
    count-le both ws (below g.size) (neighbours_once g z) (λ y m _. member-below y g.size (neighbours_within g z y m).0) in
    omega (arith, here, up, down)

-- either order of an equality is the same
eqb-either : (a b : ℕ) → eqb a b ≡ eqb b a
eqb-either a b = elim (cases_eq a b) [
  | inl e ↦ eq-eqb a b e ∙ sym (eq-eqb b a (sym e))
  | inr ne ↦ ne_eqb a b ne ∙ sym (ne_eqb b a (λ e. ne (sym e)))
]

-- of two cases the first tells where it is given and the second isn't
first_of_two : (a b c d : Bool) → a ≡ true → c ≡ false → ((a && b) || (c && d)) ≡ b
first_of_two a b c d x y = grind arith

-- of two cases the second tells where it is given and the first isn't
second_of_two : (a b c d : Bool) → a ≡ false → c ≡ true → ((a && b) || (c && d)) ≡ d
second_of_two a b c d x y = grind arith

-- of two cases neither holds where none is given
none_of_two : (a b c d : Bool) → a ≡ false → c ≡ false → ((a && b) || (c && d)) ≡ false
none_of_two a b c d x y = grind arith

-- the other end of an edge from its first end is its second
other-first : (update : Update) (z : ℕ) → z ≡ update.u → other_end update z ≡ Some update.v
other-first update z e = ap (λ b. cond b (Some update.v) (cond (eqb z update.v) (Some update.u) None)) (eq-eqb z update.u e)

-- the other end of an edge from its second end is its first
other-second : (update : Update) (z : ℕ) → z ≢ update.u → z ≡ update.v → other_end update z ≡ Some update.u
other-second update z ne e =
    ap (λ b. cond b (Some update.v) (cond (eqb z update.v) (Some update.u) None)) (ne_eqb z update.u ne)
    ∙ ap (λ b. cond b (Some update.u) None) (eq-eqb z update.v e)

-- a vertex that is no end has no other end
other-none : (update : Update) (z : ℕ) → z ≢ update.u → z ≢ update.v → other_end update z ≡ None
other-none update z nu nv =
    ap (λ b. cond b (Some update.v) (cond (eqb z update.v) (Some update.u) None)) (ne_eqb z update.u nu)
    ∙ ap (λ b. cond b (Some update.u) None) (ne_eqb z update.v nv)

-- an update's edge joins a vertex that is an end to the other
joins-other : (update : Update) (z y : ℕ) → joins update.u update.v z y ≡ option_eq eqb (other_end update z) (Some y)
joins-other update z y =
    let at : (o : Option ℕ) → other_end update z ≡ o → option_eq eqb (other_end update z) (Some y) ≡ option_eq eqb o (Some y) =
    λ o e. ap (λ p. option_eq eqb p (Some y)) e in
    elim (cases_eq z update.u) [
      | inl e ↦
          let nv : z ≢ update.v = λ f. ends_differ update (sym e ∙ f) in
          first_of_two (eqb z update.u) (eqb y update.v) (eqb z update.v) (eqb y update.u) (eq-eqb z update.u e) (ne_eqb z update.v nv)
          ∙ (eqb-either y update.v ∙ sym (at (Some update.v) (other-first update z e)))
      | inr nu ↦ elim (cases_eq z update.v) [
        | inl e ↦
            second_of_two (eqb z update.u) (eqb y update.v) (eqb z update.v) (eqb y update.u) (ne_eqb z update.u nu) (eq-eqb z update.v e)
            ∙ (eqb-either y update.u ∙ sym (at (Some update.u) (other-second update z nu e)))
        | inr nv ↦
            none_of_two (eqb z update.u) (eqb y update.v) (eqb z update.v) (eqb y update.u) (ne_eqb z update.u nu) (ne_eqb z update.v nv)
            ∙ sym (at None (other-none update z nu nv))
      ]
    ]

-- 1 where there is a vertex and it passes, and 0 else
abbrev pub one_of : Option ℕ → (ℕ → Bool) → ℕ
one_of None q = 0
one_of (Some y) q = one_if (q y)

-- how many more pass at the other end of an edge that comes
abbrev pub gained : Update → ℕ → (ℕ → Bool) → ℕ
gained update z q = cond update.add (one_of (other_end update z) q) 0

-- the other end is a vertex, and not the vertex itself
pub other-vertex : (update : Update) (n z y : ℕ) → update.v < n → other_end update z ≡ Some y → (y < n) × (z ≢ y)
other-vertex update n z y l e =
    let up : update.u < update.v = update.ordered in
    elim (cases_eq z update.u) [
      | inl f ↦ let k : update.v ≡ y = same_Some update.v y (sym (other-first update z f) ∙ e) in (omega arith, λ same. omega arith)
      | inr nu ↦ elim (cases_eq z update.v) [
        | inl f ↦ let k : update.u ≡ y = same_Some update.u y (sym (other-second update z nu f) ∙ e) in (omega arith, λ same. omega arith)
        | inr nv ↦ let k : None ≡ Some y = sym (other-none update z nu nv) ∙ e in absurd cc
      ]
    ]

-- those joined by the update's edge that pass are as many as pass at the other end
count-other : (update : Update) (n z : ℕ) (q : ℕ → Bool) → update.v < n
    → count_by (λ y. joins update.u update.v z y && q y) (below n) ≡ one_of (other_end update z) q
count-other update n z q l =
    let test : ℕ → Bool = λ y. joins update.u update.v z y && q y in
    let at : (o : Option ℕ) → other_end update z ≡ o → (y : ℕ) → test y ≡ (option_eq eqb o (Some y) && q y) =
    λ o e y. ap (λ b. b && q y) (joins-other update z y ∙ ap (λ p. option_eq eqb p (Some y)) e) in
    elim (other_end update z) as (λ o. other_end update z ≡ o → count_by test (below n) ≡ one_of o q) [
      | None ↦ λ e. count-none test (below n) (λ y m. at None e y)
      | Some v ↦ λ e.
          let p = other-vertex update n z v l e in
          let one =
          count-one-in test (λ _. false) v (below n) (Distinct-below n) (member-below v n p.0) refl
          (λ y m ne. at (Some v) e y ∙ ap (λ b. b && q y) (ne_eqb v y (λ f. ne (sym f)))) in
          let none : count_by (λ _. false) (below n) ≡ 0 = count-none (λ _. false) (below n) (λ y m. refl) in
          let here : one_if (test v) ≡ one_if (q v) = ap one_if (at (Some v) e v ∙ ap (λ b. b && q v) (eq-eqb v v refl)) in
          omega (arith, one, none, here)
    ] refl

-- where an edge comes, what passes is what passed before, and the new one
edge_comes-apart : (a' a j q : Bool) → a' ≡ (a || j) → (j ≡ true → a ≡ false) → one_if (a' && q) ≡ one_if (a && q) + one_if (j && q)
edge_comes-apart a' a j q e n = grind arith

-- where an edge goes, what is left and passes is what was there, is kept and passes
edge_goes-regrouped : (a' a j k q : Bool) → a' ≡ (a && not j) → k ≡ not j → (a' && q) ≡ (a && (k && q))
edge_goes-regrouped a' a j k q e f = grind arith

-- a first condition that holds changes nothing
and-true : (k q : Bool) → k ≡ true → (k && q) ≡ q
and-true k q e = grind arith

-- the count after the update
pub count-updated : (update : Update) (g : SimpleGraph) (z : ℕ) (q : ℕ → Bool) → update.v < g.size → is_applied update g ≡ true
    → count_by (λ y. adjacent (updated update g) z y && q y) (below g.size) ≡ count_by (λ y. keeps update z y && q y) (neighbours_of g z) + gained update z q
count-updated update g z q l applied =
    let after : ℕ → Bool = λ y. adjacent (updated update g) z y && q y in
    let join : ℕ → Bool = λ y. joins update.u update.v z y in
    let kept : ℕ → Bool = λ y. keeps update z y && q y in
    elim (cases_Bool update.add) [
      | inl add ↦
          let new' : adjacent g update.u update.v ≡ false =
          not-true (adjacent g update.u update.v)
          (ap (λ b. cond b (not (adjacent g update.u update.v)) (adjacent g update.u update.v)) (sym add) ∙ applied) in
          let not_both : (y : ℕ) → join y ≡ true → adjacent g z y ≡ false = λ y t. elim (joins-true update.u update.v z y t) [
            | inl p ↦ ap₂ (adjacent g) p.0 p.1 ∙ new'
            | inr p ↦ ap₂ (adjacent g) p.0 p.1 ∙ (adjacent-sym g update.v update.u ∙ new')
          ] in
          let sum = count-sum (λ y. adjacent g z y && q y) (λ y. join y && q y) after (below g.size)
          (λ y m.
          edge_comes-apart (adjacent (updated update g) z y) (adjacent g z y) (join y) (q y)
          (adjacent-updated update g z y ∙ ap (λ b. cond b (adjacent g z y || join y) (adjacent g z y && not (join y))) add)
          (not_both y)) in
          let here : count_by q (neighbours_of g z) ≡ count_by kept (neighbours_of g z) =
          count-agree q kept (neighbours_of g z)
          (λ y m. sym (and-true (keeps update z y) (q y) (ap (λ b. b || not (option_eq eqb (other_end update z) (Some y))) add))) in
          let more : gained update z q ≡ one_of (other_end update z) q = ap (λ b. cond b (one_of (other_end update z) q) 0) add in
          omega (arith, sum, count-neighbours g z q, here, count-other update g.size z q l, more)
      | inr removes ↦
          let none : gained update z q ≡ 0 = ap (λ b. cond b (one_of (other_end update z) q) 0) removes in
          let same : count_by after (below g.size) ≡ count_by (λ y. adjacent g z y && kept y) (below g.size) =
          count-agree after (λ y. adjacent g z y && kept y) (below g.size)
          (λ y m. edge_goes-regrouped (adjacent (updated update g) z y) (adjacent g z y) (join y) (keeps update z y) (q y)
          (adjacent-updated update g z y ∙ ap (λ b. cond b (adjacent g z y || join y) (adjacent g z y && not (join y))) removes)
          (ap (λ b. b || not (option_eq eqb (other_end update z) (Some y))) removes ∙ ap not (sym (joins-other update z y)))) in
          omega (arith, same, count-neighbours g z kept, none)
    ]

-- with one member more, the count is one more where it passes
pub count-more : (q : ℕ → Bool) (xs : List ℕ) (i : ℕ) → i < length xs → count_by q (take (i + 1) xs) ≡ count_by q (take i xs) + one_if (q (get_or xs i 0))
count-more q xs i l = elim (cases_Bool (q (get_or xs i 0))) [
  | inl y ↦ omega (arith, count_by_more_yes q xs i 0 l y, ap one_if y)
  | inr n ↦ omega (arith, count_by_more_no q xs i 0 l n, ap one_if n)
]

-- of the first members no more pass than they are
pub count-few : (q : ℕ → Bool) (xs : List ℕ) (i : ℕ) → count_by q (take i xs) ≤ i
count-few q xs i = omega (arith, count-le-length q (take i xs), length-take i xs)

-- the neighbour at a place of the list is a vertex, and not the vertex itself
pub neighbour-at : (g : SimpleGraph) (z i y : ℕ) → i < length (neighbours_of g z) → y ≡ get_or (neighbours_of g z) i 0 → (y < g.size) × (z ≢ y)
neighbour-at g z i y l e =
    let near = neighbours_within g z y (ap (λ k. member k (neighbours_of g z)) e ∙ member-get_or (neighbours_of g z) i 0 l) in
    (near.0, λ same. true≢false (sym near.1 ∙ (ap (adjacent g z) (sym same) ∙ adjacent-self g z)))

-- where an edge comes, one more passes at an end if the other end passes, and none else
pub gained-some : (update : Update) (z y : ℕ) (q : ℕ → Bool) → update.add ≡ true → other_end update z ≡ Some y → gained update z q ≡ one_if (q y)
gained-some update z y q add e = ap (λ b. cond b (one_of (other_end update z) q) 0) add ∙ ap (λ o. one_of o q) e

-- where an edge goes, none more passes
pub gained-removed : (update : Update) (z : ℕ) (q : ℕ → Bool) → update.add ≡ false → gained update z q ≡ 0
gained-removed update z q removes = ap (λ b. cond b (one_of (other_end update z) q) 0) removes

-- at a vertex that is no end, none more passes
pub gained-none : (update : Update) (z : ℕ) (q : ℕ → Bool) → other_end update z ≡ None → gained update z q ≡ 0
gained-none update z q e = ap (λ o. cond update.add (one_of o q) 0) e ∙ elim update.add as (λ b. ◌≡◌ {A = ℕ} (cond b 0 0) 0) [ true ↦ refl | false ↦ refl ]
