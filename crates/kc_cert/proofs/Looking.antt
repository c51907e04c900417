-- Where the local test looks, and what it has to see there.
use Rattle.std.proofs.Common.{◌≡◌, ◌≢◌, ◌≤◌, ◌<◌, ◌+◌, ℕ, Bool, true, false, not, ◌||◌, List, [], ◌∷◌, drop, length, get_or, eqb, refl, sym, ◌∙◌, ap}
use Rattle.std.proofs.Common.{subst, inl, inr, arith, true≢false, eq-eqb, ne_eqb}
use Rattle.std.specs.List.{list_any}
use Rattle.std.proofs.lemmas.Bool.{cases_Bool, cases_eq, or_cases, or_left, or_right, or_from, or_parts, false≢true}
use Rattle.kc_lists.specs.Lists.{member, place_of}
use Rattle.kc_lists.proofs.Members.{member-cases}
use Rattle.kc_lists.proofs.Counting.{member-below, Contains-from_member}
use Rattle.kc_graph.specs.SimpleGraph.{SimpleGraph, adjacent, degree_among}
use Rattle.kc_graph.specs.Neighbours.{neighbours_of}
use Rattle.kc_graph.specs.Lawful.{Ranked, IsCertified}
use Rattle.kc_graph.specs.Plans.{is_applied, graph_after, moved_by}
use Rattle.kc_graph.specs.declared.update.Update.{Update}
use Rattle.kc_graph.specs.declared.plan.Moves.{Moves}
use Rattle.kc_graph.specs.declared.plan.Moves.TheVariants.{Kept, Plain, Rise, Fall}
use Rattle.kc_graph.specs.declared.plan.Plan.{Plan}
use Rattle.kc_graph.proofs.NeighbourLists.{neighbours_has, neighbours_within}
use Rattle.kc_cert.specs.Local.{MovesFit, HoldsAt, IsLocal, is_kept, is_looked_at, moved_vertices}
use Rattle.kc_cert.specs.Looks.{HoldsLocally}
use Rattle.kc_cert.specs.Ranks.{rank_in}
use Rattle.kc_cert.specs.Stands.{changed_by}
use Rattle.kc_cert.proofs.Ordered.{rank-here, order-has}
use Rattle.kc_cert.proofs.Keeping.{adjacent-elsewhere}
use Rattle.kc_lists.proofs.Shared.{list_any-some, get_or-any}
use Rattle.kc_graph.proofs.Law.{adjacent-sym}
use Rattle.kc_cert.proofs.FittingMoves.{kept_fits}

-- what holds at each place holds of each member
pub each_member : (P : ℕ → Type 0) (xs : List ℕ) (n : ℕ) → length xs ≤ n → ((k : ℕ) → k < n → P (get_or xs k 0)) → (x : ℕ) → member x xs ≡ true → P x
each_member P xs n l h x m =
    let (k, lk, e) = Contains-from_member xs x m in
    subst P (get_or-any xs k 0 x lk ∙ e) (h k (omega arith))

-- a vertex that stands at no place of the list of another's neighbours is none of them
pub not_adjacent : (g : SimpleGraph) (u v n : ℕ) → v < g.size → length (neighbours_of g u) ≤ n
    → ((k : ℕ) → k < n → get_or (neighbours_of g u) k 0 ≢ v) → adjacent g u v ≡ true → ⊥
not_adjacent g u v n lv l h a = each_member (λ w. w ≢ v) (neighbours_of g u) n l h v (neighbours_has g u v lv ∙ a) refl

-- a certified state has what the certificate asks at each vertex
pub holds_certified : (s : Ranked) (z : ℕ) → IsCertified s → z < s.graph.size → HoldsAt s z
holds_certified s z h l =
    let here = rank-here z s.order (order-has s.graph.size s.order h.enumerates z ∙ member-below z s.graph.size l) in
    record {
      few_later =
          subst (λ (k : ℕ). degree_among s.graph (drop (place_of z s.order + 1) s.order) k ≤ get_or s.core k 0) here.1
          (h.few_later (rank_in s.order z) here.0);
      enough_as_high = h.enough_as_high z l;
    }

-- a vertex that moves is one
pub moved_vertex : (s : Ranked) (moves : Moves) (x : ℕ) → MovesFit s moves → member x (moved_vertices moves) ≡ true → x < s.graph.size
moved_vertex s Kept x fit m = absurd (false≢true m)
moved_vertex s Plain x fit m = absurd (false≢true m)
moved_vertex s (Rise level rise shifts) x fit m = (fit.of_level x m).vertex
moved_vertex s (Fall level fall) x fit m = (fit.of_level x m).vertex

-- where the moves are not to keep all, the state after is the updated graph with the moves made
after-changed : (s : Ranked) (update : Update) (moves : Moves) → is_kept moves ≡ false
    → (let t : Ranked = record (moved_by moves s) { graph = graph_after update moves s.graph } in t) ≡ changed_by update moves s
after-changed s update Kept n = absurd (true≢false n)
after-changed s update Plain n = refl
after-changed s update (Rise level rise shifts) n = refl
after-changed s update (Fall level fall) n = refl

-- where the moves keep all, the state after is the state
after-kept : (s : Ranked) (update : Update) (moves : Moves) → is_kept moves ≡ true
    → (let t : Ranked = record (moved_by moves s) { graph = graph_after update moves s.graph } in t) ≡ s
after-kept s update Kept y = refl
after-kept s update Plain y = absurd (false≢true y)
after-kept s update (Rise level rise shifts) y = absurd (false≢true y)
after-kept s update (Fall level fall) y = absurd (false≢true y)

-- moves that keep all fit
fit-kept : (s : Ranked) (moves : Moves) → is_kept moves ≡ true → MovesFit s moves
fit-kept s Kept y = kept_fits s
fit-kept s Plain y = absurd (false≢true y)
fit-kept s (Rise level rise shifts) y = absurd (false≢true y)
fit-kept s (Fall level fall) y = absurd (false≢true y)

-- a plan that keeps all, rightly, passes
pub kept_local : (s : Ranked) (plan : Plan) → IsCertified s → plan.update.v < s.graph.size → is_kept plan.moves ≡ true
    → is_applied plan.update s.graph ≡ false → IsLocal s plan
kept_local s plan h l kept applied = record {
  ends = l;
  kept = kept ∙ ap not (sym applied);
  moves_fit = fit-kept s plan.moves kept;
  holds = λ z lz _. subst (λ (t : Ranked). HoldsAt t z) (sym (after-kept s plan.update plan.moves kept)) (holds_certified s z h lz);
}

-- a test that a member passes is passed by one of the list
list_any-member : (p : ℕ → Bool) (xs : List ℕ) (x : ℕ) → member x xs ≡ true → p x ≡ true → list_any p xs ≡ true
list_any-member p [] x m t = absurd (false≢true m)
list_any-member p (y ∷ ys) x m t = elim (member-cases x y ys m) [
  | inl e ↦ or_left (p y) (list_any p ys) (ap p (sym e) ∙ t)
  | inr k ↦ or_right (p y) (list_any p ys) (list_any-member p ys x k t)
]

-- it holds wherever the test looks
abbrev LooksGood : Plan → Ranked → ℕ → Type 0
LooksGood plan t n = (z : ℕ) → z < n → is_looked_at plan t.graph z ≡ true → HoldsAt t z

-- where it holds at the ends and around those that moved, it holds wherever the test looks
looks_good : (s : Ranked) (plan : Plan) → HoldsLocally s.graph (changed_by plan.update plan.moves s) plan.update (moved_vertices plan.moves)
    → LooksGood plan (changed_by plan.update plan.moves s) s.graph.size
looks_good s plan h z l looked =
    let t : Ranked = changed_by plan.update plan.moves s in
    elim (cases_eq z plan.update.u) [
      | inl e ↦ subst (λ (k : ℕ). HoldsAt t k) (sym e) h.first
      | inr nu ↦ elim (cases_eq z plan.update.v) [
        | inl e ↦ subst (λ (k : ℕ). HoldsAt t k) (sym e) h.second
        | inr nv ↦
            let no_end : (eqb z plan.update.u || eqb z plan.update.v) ≡ false =
            or_from (eqb z plan.update.u) (eqb z plan.update.v) (ne_eqb z plan.update.u nu) (ne_eqb z plan.update.v nv) in
            elim (or_cases (eqb z plan.update.u || eqb z plan.update.v) _ looked) [
              | inl y ↦ absurd (true≢false (sym y ∙ no_end))
              | inr k ↦ elim (or_cases (member z (moved_vertices plan.moves)) _ k) [
                | inl m ↦ (h.around z m).here
                | inr any ↦
                    let (x, m, a) = list_any-some (adjacent t.graph z) (moved_vertices plan.moves) any in
                    let before : adjacent s.graph z x ≡ true =
                    sym (adjacent-elsewhere plan.update s.graph z x (ne_eqb z plan.update.u nu) (ne_eqb z plan.update.v nv)) ∙ a in
                    (h.around x m).beside z (neighbours_has s.graph x z l ∙ (adjacent-sym s.graph x z ∙ before))
              ]
            ]
      ]
    ]

-- where it holds wherever the test looks, it holds at the ends and around those that moved
holds_there : (s : Ranked) (plan : Plan) → plan.update.v < s.graph.size → MovesFit s plan.moves
    → LooksGood plan (changed_by plan.update plan.moves s) s.graph.size
    → HoldsLocally s.graph (changed_by plan.update plan.moves s) plan.update (moved_vertices plan.moves)
holds_there s plan l fit h =
    let t : Ranked = changed_by plan.update plan.moves s in
    let moved : List ℕ = moved_vertices plan.moves in
    let u : ℕ = plan.update.u in
    let v : ℕ = plan.update.v in
    let up : u < v = plan.update.ordered in
    let end : (z : ℕ) → z < s.graph.size → (eqb z u || eqb z v) ≡ true → HoldsAt t z =
    λ z lz e. h z lz (or_left (eqb z u || eqb z v) (member z moved || list_any (adjacent t.graph z) moved) e) in
    record {
      first = end u (omega arith) (or_left (eqb u u) (eqb u v) (eq-eqb u u refl));
      second = end v l (or_right (eqb v u) (eqb v v) (eq-eqb v v refl));
      around = λ x m.
          let lx : x < s.graph.size = moved_vertex s plan.moves x fit m in
          record {
            here = h x lx (or_right (eqb x u || eqb x v) _ (or_left (member x moved) _ m));
            beside = λ y my.
                let near = neighbours_within s.graph x y my in
                elim (cases_Bool (eqb y u || eqb y v)) [
                  | inl e ↦ end y near.0 e
                  | inr n ↦
                      let p = or_parts (eqb y u) (eqb y v) n in
                      let a : adjacent t.graph y x ≡ true = adjacent-elsewhere plan.update s.graph y x p.0 p.1 ∙ (adjacent-sym s.graph y x ∙ near.1) in
                      h y near.0 (or_right (eqb y u || eqb y v) _ (or_right (member y moved) _ (list_any-member (adjacent t.graph y) moved x m a)))
                ];
          };
    }

-- a plan that changes something passes where its moves fit and the certificate holds on around them
pub changed_local : (s : Ranked) (plan : Plan) → plan.update.v < s.graph.size → is_kept plan.moves ≡ false
    → is_applied plan.update s.graph ≡ true → MovesFit s plan.moves
    → HoldsLocally s.graph (changed_by plan.update plan.moves s) plan.update (moved_vertices plan.moves) → IsLocal s plan
changed_local s plan l kept applied fit h = record {
  ends = l;
  kept = kept ∙ ap not (sym applied);
  moves_fit = fit;
  holds = subst (λ (t : Ranked). LooksGood plan t s.graph.size) (sym (after-changed s plan.update plan.moves kept)) (looks_good s plan h);
}

-- a plan that changes something and passes has moves that fit, and the certificate holds on around them
pub local_changed : (s : Ranked) (plan : Plan) → is_kept plan.moves ≡ false → IsLocal s plan
    → MovesFit s plan.moves × HoldsLocally s.graph (changed_by plan.update plan.moves s) plan.update (moved_vertices plan.moves)
local_changed s plan kept h = (
  h.moves_fit,
  holds_there s plan h.ends h.moves_fit
      (subst (λ (t : Ranked). LooksGood plan t s.graph.size) (after-changed s plan.update plan.moves kept) h.holds),
)
