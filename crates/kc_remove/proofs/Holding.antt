-- What the certificate asks at each vertex, in the state after a removal.
use Rattle.std.proofs.Common.{◌≡◌, ◌≤◌, ◌<◌, ◌-◌, ℕ, Bool, true, not, ◌&&◌, List, [], length, get_or, ltb, leb, refl, ◌∙◌, inl, inr, arith}
use Rattle.std.proofs.lemmas.Bool.{cases_eq}
use Rattle.kc_lists.specs.Lists.{member, Distinct}
use Rattle.kc_lists.proofs.Counting.{member-below}
use Rattle.kc_graph.specs.SimpleGraph.{SimpleGraph}
use Rattle.kc_graph.specs.Lawful.{Ranked, IsCertified}
use Rattle.kc_graph.specs.Plans.{put_between, renumbered}
use Rattle.kc_cert.specs.Local.{HoldsAt}
use Rattle.kc_cert.specs.Ranks.{rank_in, Orders, then_after}
use Rattle.kc_cert.proofs.Ordered.{order-has, order-distinct, rank-ascends}
use Rattle.kc_cert.proofs.Final.{final-orders, final-has, after-itself}
use Rattle.kc_view.specs.Search.{Search, search_in, among, after, OnLevel}
use Rattle.kc_view.proofs.Among.{among-mono}
use Rattle.kc_view.proofs.Still.{still-holds, moved-holds}
use Rattle.kc_remove.specs.Cascade.{Thinned, support, Cascade, nobody}
use Rattle.kc_remove.proofs.Falls.{kept_support}
use Rattle.kc_remove.proofs.Ending.{few_after, enough_after}

-- a test for the level with more asked is a test for a number that is the level
strong_enough : (l n m : ℕ) (g : Bool) → n ≡ l → (leb l m && not g) ≡ true → leb n m ≡ true
strong_enough l n m g e t = grind arith

-- where no vertex falls
pub plain-holds : (s : Ranked) (g : SimpleGraph) (level : ℕ) (is_end visited : ℕ → Bool) (sup : ℕ → ℕ) (looked : ℕ → ℕ → Bool) → IsCertified s
    → g.size ≡ s.graph.size → Thinned (search_in g s level) is_end
    → Cascade (search_in g s level) [] 0 nobody visited sup looked nobody → ((z : ℕ) → OnLevel (search_in g s level) z → is_end z ≡ true → visited z ≡ true)
    → (z : ℕ) → z < s.graph.size → HoldsAt (record { graph = g; core = s.core; order = s.order }) z
plain-holds s g level is_end visited sup looked h size t c ends z l =
    let q : Search = search_in g s level in
    let few : among q z (after q z) ≤ get_or s.core z 0 = t.few z l in
    let enough : get_or s.core z 0 ≤ among q z (λ y. leb (get_or s.core z 0) (get_or s.core y 0)) = elim (cases_eq (get_or s.core z 0) level) [
      | inr ne ↦ t.enough z l (inl ne)
      | inl e ↦
          let kept : level ≤ support q [] z = kept_support q is_end [] visited sup looked t c ends z (record { here = l; level = e }) refl in
          let more : support q [] z ≤ among q z (λ y. leb (get_or s.core z 0) (get_or s.core y 0)) =
          among-mono q z (λ y. leb level (get_or s.core y 0) && not (member y [])) (λ y. leb (get_or s.core z 0) (get_or s.core y 0))
          (λ y ly a t'. strong_enough level (get_or s.core z 0) (get_or s.core y 0) (member y []) e t') in
          omega (arith, kept, more, e)
    ] in
    still-holds s g h size z l few enough

-- where vertices fall
pub fall-holds : (s : Ranked) (g : SimpleGraph) (level : ℕ) (fall : List ℕ) (is_end visited : ℕ → Bool) (sup : ℕ → ℕ) (looked : ℕ → ℕ → Bool) → IsCertified s
    → g.size ≡ s.graph.size → Thinned (search_in g s level) is_end
    → Cascade (search_in g s level) fall (length fall) nobody visited sup looked nobody
    → ((z : ℕ) → OnLevel (search_in g s level) z → is_end z ≡ true → visited z ≡ true)
    → (z : ℕ) → z < s.graph.size
    → HoldsAt
    (record
    { graph = g; core = renumbered fall (level - 1) s.core; order = put_between (λ y. ltb (get_or s.core y 0) level) fall s.order })
    z
fall-holds s g level fall is_end visited sup looked h size t c ends z l =
    let q : Search = search_in g s level in
    let low : ℕ → Bool = λ y. ltb (get_or s.core y 0) level in
    let lt : ℕ → ℕ → Bool = then_after low fall (rank_in fall) (rank_in s.order) in
    let d : Distinct s.order = order-distinct s.graph.size s.order h.enumerates in
    let there : (y : ℕ) → y < s.graph.size → member y s.order ≡ true = λ y ly. order-has s.graph.size s.order h.enumerates y ∙ member-below y s.graph.size ly in
    let orders : Orders lt (put_between low fall s.order) =
    final-orders low fall (rank_in fall) (rank_in s.order) s.order (rank-ascends fall c.distinct) (rank-ascends s.order d) in
    moved-holds s g fall (put_between low fall s.order) (level - 1) lt h size (after-itself low fall (rank_in fall) (rank_in s.order)) orders
    (final-has low fall s.order (λ x m. there x (c.fall_level x m).here)) z l
    (few_after q is_end fall visited sup looked t c z l) (enough_after q is_end fall visited sup looked t c ends z l)
