-- What the certificate asks at each vertex, in the state after an insertion.
use Rattle.std.proofs.Common.{◌≡◌, ◌≤◌, ◌<◌, ◌+◌, ℕ, Bool, true, List, [], get_or, leb, refl, ◌∙◌, ap, inl, inr, arith}
use Rattle.std.proofs.lemmas.Bool.{cases_eq}
use Rattle.kc_lists.specs.Lists.{member, Distinct}
use Rattle.kc_lists.proofs.Counting.{member-below}
use Rattle.kc_graph.specs.SimpleGraph.{SimpleGraph}
use Rattle.kc_graph.specs.Lawful.{Ranked, IsCertified}
use Rattle.kc_graph.specs.Plans.{shifted, put_between, renumbered}
use Rattle.kc_cert.specs.Local.{HoldsAt, firsts, seconds}
use Rattle.kc_cert.specs.Ranks.{rank_in, AscendsBy, place_after, Orders, then_after}
use Rattle.kc_cert.proofs.Ordered.{order-has, order-distinct, rank-ascends}
use Rattle.kc_cert.proofs.Placing.{shifted-has, shifted-ascends}
use Rattle.kc_cert.proofs.Final.{final-orders, final-has, after-itself}
use Rattle.kc_view.specs.Search.{Search, search_in, among, after, OnLevel}
use Rattle.kc_view.proofs.Still.{still-holds, moved-holds}
use Rattle.kc_insert.specs.Searching.{ahead, behind, Widened, BetweenTurns}
use Rattle.kc_insert.proofs.Steps.{ahead-later}
use Rattle.kc_insert.proofs.Ending.{few_behind, few_after, enough_after}

-- where no vertex moves, the certificate holds at each vertex
pub plain-holds : (s : Ranked) (g : SimpleGraph) (level root frontier : ℕ) (earlier later : ℕ → ℕ) → IsCertified s → g.size ≡ s.graph.size
    → Widened (search_in g s level) root
    → BetweenTurns (search_in g s level) root [] [] frontier earlier later []
    → (z : ℕ) → z < s.graph.size → HoldsAt (record { graph = g; core = s.core; order = s.order }) z
plain-holds s g level root frontier earlier later h size w b z l =
    let q : Search = search_in g s level in
    let few : among q z (after q z) ≤ get_or s.core z 0 = elim (cases_eq z root) [
      | inr ne ↦ w.few z l ne
      | inl e ↦
          let lvl : get_or s.core z 0 ≡ level = ap (λ y. get_or s.core y 0) e ∙ w.root_level in
          let oz : OnLevel q z = record { here = l; level = lvl } in
          let low : behind q [] (rank_in s.order) z ≤ level = few_behind q root [] frontier earlier later (rank_in s.order) w b.searching z oz refl in
          let same : behind q [] (rank_in s.order) z ≡ ahead q z = refl in
          omega (arith, low, same, ahead-later q root w z oz, lvl)
    ] in
    still-holds s g h size z l few (w.enough z l)

-- where vertices rise, and others are shifted, the certificate holds at each vertex
pub rise-holds : (s : Ranked) (g : SimpleGraph) (level root : ℕ) (rise : List ℕ) (frontier : ℕ) (earlier later : ℕ → ℕ)
    (shifts : List (ℕ × ℕ))
    → IsCertified s → g.size ≡ s.graph.size → Widened (search_in g s level) root
    → BetweenTurns (search_in g s level) root rise [] frontier earlier later shifts → AscendsBy (rank_in s.order) rise
    → (z : ℕ) → z < s.graph.size
    → HoldsAt
    (record {
      graph = g;
      core = renumbered rise (level + 1) s.core;
      order = put_between (λ y. leb (get_or s.core y 0) level) rise (shifted shifts s.order);
    })
    z
rise-holds s g level root rise frontier earlier later shifts h size w b up z l =
    let q : Search = search_in g s level in
    let low : ℕ → Bool = λ y. leb (get_or s.core y 0) level in
    let rank : ℕ → ℕ = rank_in s.order in
    let place : ℕ → ℕ = place_after rank shifts in
    let lt : ℕ → ℕ → Bool = then_after low rise rank place in
    let d : Distinct s.order = order-distinct s.graph.size s.order h.enumerates in
    let there : (y : ℕ) → y < s.graph.size → member y s.order ≡ true = λ y ly. order-has s.graph.size s.order h.enumerates y ∙ member-below y s.graph.size ly in
    let first_in : (x : ℕ) → member x (firsts shifts) ≡ true → member x s.order ≡ true = λ x m. there x (b.shifts_fit.first_level x m).here in
    let second_in : (x : ℕ) → member x (seconds shifts) ≡ true → member x s.order ≡ true = λ x m. there x (b.shifts_fit.second_level x m).here in
    let has : (y : ℕ) → member y (shifted shifts s.order) ≡ member y s.order = shifted-has shifts s.order b.shifts_fit.in_turn first_in second_in in
    let ascends : AscendsBy place (shifted shifts s.order) =
    shifted-ascends rank shifts s.order (rank-ascends s.order d) b.shifts_fit.in_turn first_in second_in in
    let orders : Orders lt (put_between low rise (shifted shifts s.order)) = final-orders low rise rank place (shifted shifts s.order) up ascends in
    moved-holds s g rise (put_between low rise (shifted shifts s.order)) (level + 1) lt h size (after-itself low rise rank place) orders
    (λ y. final-has low rise (shifted shifts s.order) (λ x m. has x ∙ there x (b.searching.cand_level x m).here) y ∙ has y) z l
    (few_after q root rise frontier earlier later place w b.searching z l) (enough_after q root rise frontier earlier later place w b.searching b.strong z l)
