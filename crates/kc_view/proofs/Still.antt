-- What the certificate asks at each vertex of a state after a plan, and plans that change nothing.
use Rattle.std.proofs.Common.{◌≡◌, ◌≤◌, ◌<◌, ℕ, Bool, false, cond, not, ◌&&◌, List, get_or, ltb, leb, refl, sym, ◌∙◌, ap, subst, inl, inr, arith}
use Rattle.std.proofs.Common.{true≢false, lt-ltb}
use Rattle.std.specs.Prelude.{count_by}
use Rattle.std.proofs.lemmas.Bool.{cases_Bool, false≢true}
use Rattle.kc_lists.specs.Lists.{member, Distinct, below}
use Rattle.kc_lists.proofs.Counting.{below-member, count-agree}
use Rattle.kc_graph.specs.SimpleGraph.{SimpleGraph, adjacent}
use Rattle.kc_graph.specs.Lawful.{Ranked, IsCertified}
use Rattle.kc_graph.specs.Plans.{is_applied, renumbered}
use Rattle.kc_graph.specs.declared.update.Update.{Update}
use Rattle.kc_graph.specs.declared.used.Used.{Used}
use Rattle.kc_graph.specs.declared.plan.Moves.TheVariants.{Kept}
use Rattle.kc_cert.specs.Local.{IsLocal, HoldsAt}
use Rattle.kc_cert.specs.Ranks.{rank_in, Orders}
use Rattle.kc_cert.proofs.Ordered.{order-has, order-distinct, rank-ascends, few-ranked, enough-below}
use Rattle.kc_cert.proofs.Placing.{Orders-from_Ascends}
use Rattle.kc_cert.proofs.Holding.{holds-from, renumbered-other, renumbered-moved}
use Rattle.kc_view.specs.Sure.{IsSparing}
use Rattle.kc_cert.proofs.FittingMoves.{kept_fits}

-- where core numbers and order stay
pub still-holds : (s : Ranked) (g : SimpleGraph) → IsCertified s → g.size ≡ s.graph.size → (z : ℕ) → z < s.graph.size
    → count_by (λ y. adjacent g z y && ltb (rank_in s.order z) (rank_in s.order y)) (below s.graph.size) ≤ get_or s.core z 0
    → get_or s.core z 0 ≤ count_by (λ y. adjacent g z y && leb (get_or s.core z 0) (get_or s.core y 0)) (below s.graph.size)
    → HoldsAt (record { graph = g; core = s.core; order = s.order }) z
still-holds s g h size z l few enough =
    let lt : ℕ → ℕ → Bool = λ y x. ltb (rank_in s.order y) (rank_in s.order x) in
    let d : Distinct s.order = order-distinct s.graph.size s.order h.enumerates in
    let orders : Orders lt s.order =
    Orders-from_Ascends lt (rank_in s.order) s.order (λ y x my mx k. (lt-ltb _ _ k, grind (arith, k))) (rank-ascends s.order d) in
    let none : (y : ℕ) → lt y y ≡ false = λ y. grind arith in
    holds-from g s.core s.order lt none orders
    (λ y. order-has s.graph.size s.order h.enumerates y ∙ ap (λ n. member y (below n)) (sym size)) z (omega (arith, l, size))
    (subst (λ (n : ℕ). count_by (λ y. adjacent g z y && lt z y) (below n) ≤ get_or s.core z 0) (sym size) few)
    (subst (λ (n : ℕ). get_or s.core z 0 ≤ count_by (λ y. adjacent g z y && leb (get_or s.core z 0) (get_or s.core y 0)) (below n)) (sym size) enough)

-- where nothing happens
pub kept-holds : (s : Ranked) → IsCertified s → (z : ℕ) → z < s.graph.size → HoldsAt s z
kept-holds s h z l = still-holds s s.graph h refl z l (few-ranked s.graph s.core s.order h z l) (enough-below s.graph s.core s.order h z l)

-- the core number of a vertex where those of `moved` have the number `k` now
abbrev pub number_then : List ℕ → List ℕ → ℕ → ℕ → ℕ
number_then core moved k y = cond (member y moved) k (get_or core y 0)

-- so many has each vertex after those of `moved` got the number `k`
pub number_then-is : (s : Ranked) (moved : List ℕ) (k y : ℕ) → IsCertified s → y < s.graph.size
    → get_or (renumbered moved k s.core) y 0 ≡ number_then s.core moved k y
number_then-is s moved k y h l = elim (cases_Bool (member y moved)) [
  | inl m ↦ renumbered-moved moved k s.core y (omega (arith, l, h.one_each)) m ∙ sym (ap (λ b. cond b k (get_or s.core y 0)) m)
  | inr n ↦ renumbered-other moved k s.core y n ∙ sym (ap (λ b. cond b k (get_or s.core y 0)) n)
]

-- where vertices move to another level, and the order is that of a test
pub moved-holds : (s : Ranked) (g : SimpleGraph) (moved order : List ℕ) (k : ℕ) (lt : ℕ → ℕ → Bool) → IsCertified s → g.size ≡ s.graph.size
    → ((y : ℕ) → lt y y ≡ false) → Orders lt order → ((y : ℕ) → member y order ≡ member y s.order)
    → (z : ℕ) → z < s.graph.size
    → count_by (λ y. adjacent g z y && lt z y) (below s.graph.size) ≤ number_then s.core moved k z
    → number_then s.core moved k z ≤ count_by (λ y. adjacent g z y && leb (number_then s.core moved k z) (number_then s.core moved k y)) (below s.graph.size)
    → HoldsAt (record { graph = g; core = renumbered moved k s.core; order = order }) z
moved-holds s g moved order k lt h size none orders same_order z l few enough =
    let core : List ℕ = renumbered moved k s.core in
    let number : ℕ → ℕ = number_then s.core moved k in
    let all : (y : ℕ) → member y order ≡ member y (below g.size) =
    λ y. same_order y ∙ (order-has s.graph.size s.order h.enumerates y ∙ ap (λ n. member y (below n)) (sym size)) in
    let here : get_or core z 0 ≡ number z = number_then-is s moved k z h l in
    let same : count_by (λ y. adjacent g z y && leb (number z) (number y)) (below s.graph.size)
    ≡ count_by (λ y. adjacent g z y && leb (get_or core z 0) (get_or core y 0)) (below s.graph.size) =
    count-agree (λ y. adjacent g z y && leb (number z) (number y)) (λ y. adjacent g z y && leb (get_or core z 0) (get_or core y 0)) (below s.graph.size) (λ y m.
    rw (here, number_then-is s moved k y h (below-member y s.graph.size m)) refl) in
    holds-from g core order lt none orders all z (omega (arith, l, size))
    (subst (λ (n : ℕ). count_by (λ y. adjacent g z y && lt z y) (below n) ≤ get_or core z 0) (sym size) (omega (arith, few, here)))
    (subst (λ (n : ℕ). get_or core z 0 ≤ count_by (λ y. adjacent g z y && leb (get_or core z 0) (get_or core y 0)) (below n)) (sym size)
    (omega (arith, enough, here, same)))

-- an update that is not applied changes nothing
pub kept-is_sure : (update : Update) (used : Used) (s : Ranked) → IsCertified s → update.v < s.graph.size → is_applied update s.graph ≡ false
    → IsLocal s (record { update = update; used = used; moves = Kept }) × IsSparing s (record { update = update; used = used; moves = Kept })
kept-is_sure update used s h l none = (
  record {
    ends = l;
    kept = sym (ap not none);
    moves_fit = kept_fits s;
    holds = λ z lz _. kept-holds s h z lz;
  },
  record {
    moves = record {
      once = tt;
      kept = λ _. refl;
      inserted = λ _ x m. absurd (false≢true m);
      removed = λ _ applied. absurd (true≢false (sym applied ∙ none));
    };
  },
)
