-- A state stays certified after a plan that passes the local test.
use Rattle.std.proofs.Common.{◌≡◌, ◌≤◌, ◌<◌, ◌+◌, ℕ, Bool, true, false, cond, not, ◌&&◌, ◌||◌, List, [], ◌∷◌, drop, length, get_or, eqb, ltb, leb}
use Rattle.std.proofs.Common.{refl, sym, ◌∙◌, ap, ap₂, subst, inl, inr, arith, true≢false, ne_eqb}
use Rattle.std.specs.Prelude.{count_by}
use Rattle.std.specs.List.{list_any}
use Rattle.std.proofs.lemmas.Bool.{cases_Bool, or_parts, or_from}
use Rattle.kc_lists.specs.Lists.{member, Distinct, below, place_of}
use Rattle.kc_lists.proofs.Counting.{member-get_or, below-member, count-agree}
use Rattle.kc_graph.specs.SimpleGraph.{SimpleGraph, adjacent, degree_among}
use Rattle.kc_graph.specs.Edges.{with_edge, without_edge}
use Rattle.kc_graph.specs.Lawful.{Ranked, IsCertified}
use Rattle.kc_graph.specs.Plans.{updated, graph_after, state_after}
use Rattle.kc_graph.specs.declared.update.Update.{Update}
use Rattle.kc_graph.specs.declared.plan.Moves.{Moves}
use Rattle.kc_graph.specs.declared.plan.Moves.TheVariants.{Kept, Plain, Rise, Fall}
use Rattle.kc_graph.specs.declared.plan.Plan.{Plan}
use Rattle.kc_graph.proofs.Ends.{joins}
use Rattle.kc_graph.proofs.EdgeChanges.{adjacent-with, adjacent-without}
use Rattle.kc_graph.proofs.Places.{place_of-at}
use Rattle.kc_cert.specs.Local.{moved_vertices, HoldsAt, is_looked_at, IsLocal}
use Rattle.kc_cert.specs.Ranks.{rank_in}
use Rattle.kc_cert.specs.Stands.{stands_after}
use Rattle.kc_cert.proofs.Placing.{Orders-distinct}
use Rattle.kc_cert.proofs.Ordered.{distinct-enumerates, few-ranked, enough-below}
use Rattle.kc_cert.proofs.Holding.{holds-from}
use Rattle.kc_cert.proofs.Arranging.{Arranged, moves-arranged, Orders-pairs}

-- the ends of an update differ
pub ends_differ : (update : Update) → update.u ≡ update.v → ⊥
ends_differ update e = let l : update.u < update.v = update.ordered in omega arith

-- who is adjacent after an update
pub adjacent-updated : (update : Update) (g : SimpleGraph) (z y : ℕ)
    → adjacent (updated update g) z y ≡ cond update.add (adjacent g z y || joins update.u update.v z y) (adjacent g z y && not (joins update.u update.v z y))
adjacent-updated update g z y =
    elim update.add as (λ b. adjacent (cond b (with_edge g update.u update.v) (without_edge g update.u update.v)) z y ≡ cond b
    (adjacent g z y || joins update.u update.v z y) (adjacent g z y && not (joins update.u update.v z y))) [
      | true ↦ adjacent-with g update.u update.v z y (ends_differ update)
      | false ↦ adjacent-without g update.u update.v z y (ends_differ update)
    ]

-- where neither end is concerned, an edge that comes or goes changes nothing
same_either_way : (add a e u v : Bool) (j k : Bool) → u ≡ false → v ≡ false
    → e ≡ cond add (a || ((u && j) || (v && k))) (a && not ((u && j) || (v && k))) → e ≡ a
same_either_way add a e u v j k hu hv h = grind arith

-- the neighbours of a vertex that is no end stay
pub adjacent-elsewhere : (update : Update) (g : SimpleGraph) (z y : ℕ) → eqb z update.u ≡ false → eqb z update.v ≡ false
    → adjacent (updated update g) z y ≡ adjacent g z y
adjacent-elsewhere update g z y a b =
    same_either_way update.add (adjacent g z y) (adjacent (updated update g) z y) (eqb z update.u) (eqb z update.v) (eqb y update.v)
    (eqb y update.u) a b (adjacent-updated update g z y)

-- a vertex that is no end has the neighbours that it had, whatever the moves
pub adjacent-after : (update : Update) (moves : Moves) (g : SimpleGraph) (z y : ℕ) → eqb z update.u ≡ false → eqb z update.v ≡ false
    → adjacent (graph_after update moves g) z y ≡ adjacent g z y
adjacent-after update Kept g z y a b = refl
adjacent-after update Plain g z y a b = adjacent-elsewhere update g z y a b
adjacent-after update (Rise level rise shifts) g z y a b = adjacent-elsewhere update g z y a b
adjacent-after update (Fall level fall) g z y a b = adjacent-elsewhere update g z y a b

-- an update leaves the vertices
pub size-updated : (update : Update) (g : SimpleGraph) → (updated update g).size ≡ g.size
size-updated update g =
    elim update.add as
    (λ b. (let h : SimpleGraph = cond b (with_edge g update.u update.v) (without_edge g update.u update.v) in h.size) ≡ g.size)
    [ true ↦ refl | false ↦ refl ]

-- an update with its moves leaves the vertices
pub size-after : (update : Update) (moves : Moves) (g : SimpleGraph) → (graph_after update moves g).size ≡ g.size
size-after update Kept g = refl
size-after update Plain g = size-updated update g
size-after update (Rise level rise shifts) g = size-updated update g
size-after update (Fall level fall) g = size-updated update g

-- a vertex that is not looked at is no end, doesn't move, and has no neighbour that does
looked-parts : (a b c d : Bool) → ((a || b) || (c || d)) ≡ false → (a ≡ false) × (b ≡ false) × (c ≡ false) × (d ≡ false)
looked-parts a b c d h =
    let p = or_parts (a || b) (c || d) h in
    let q = or_parts a b p.0 in
    let r = or_parts c d p.1 in
    (q.0, q.1, r.0, r.1)

-- where a vertex has no neighbour in a list, none of its neighbours is a member of it
not_beside : (g : SimpleGraph) (z y : ℕ) (xs : List ℕ) → list_any (adjacent g z) xs ≡ false → adjacent g z y ≡ true → member y xs ≡ false
not_beside g z y [] none a = refl
not_beside g z y (x ∷ xs) none a =
    let p = or_parts (adjacent g z x) (list_any (adjacent g z) xs) none in
    or_from (eqb y x) (member y xs) (ne_eqb y x (λ e. true≢false (sym a ∙ (ap (adjacent g z) e ∙ p.0)))) (not_beside g z y xs p.1 a)

-- where two tests agree wherever there is a neighbour, the neighbours that pass are the same
both_same : (a a' x x' : Bool) → a' ≡ a → (a ≡ true → x' ≡ x) → (a' && x') ≡ (a && x)
both_same a a' x x' e same = grind arith

-- what the certificate asks holds on at a vertex that the test does not look at
holds_on : (s : Ranked) (plan : Plan) → IsCertified s
    → Arranged s (state_after plan s).core (state_after plan s).order (moved_vertices plan.moves) (stands_after plan.moves s)
    → (z : ℕ) → z < s.graph.size → is_looked_at plan (state_after plan s).graph z ≡ false → HoldsAt (state_after plan s) z
holds_on s plan h a z l out =
    let n : ℕ = s.graph.size in
    let g : SimpleGraph = (state_after plan s).graph in
    let core : List ℕ = (state_after plan s).core in
    let lt : ℕ → ℕ → Bool = stands_after plan.moves s in
    let size : g.size ≡ n = size-after plan.update plan.moves s.graph in
    let p =
    looked-parts (eqb z plan.update.u) (eqb z plan.update.v) (member z (moved_vertices plan.moves))
    (list_any (adjacent g z) (moved_vertices plan.moves)) out in
    let near : (y : ℕ) → adjacent g z y ≡ adjacent s.graph z y = λ y. adjacent-after plan.update plan.moves s.graph z y p.0 p.1 in
    let still : (y : ℕ) → adjacent s.graph z y ≡ true → member y (moved_vertices plan.moves) ≡ false =
    λ y t. not_beside g z y (moved_vertices plan.moves) p.3 (near y ∙ t) in
    let number : get_or core z 0 ≡ get_or s.core z 0 = a.numbers_stay z p.2 in
    let later : count_by (λ y. adjacent g z y && lt z y) (below n)
    ≡ count_by (λ y. adjacent s.graph z y && ltb (rank_in s.order z) (rank_in s.order y)) (below n) =
    count-agree (λ y. adjacent g z y && lt z y) (λ y. adjacent s.graph z y && ltb (rank_in s.order z) (rank_in s.order y)) (below n)
    (λ y m.
    both_same (adjacent s.graph z y) (adjacent g z y) (ltb (rank_in s.order z) (rank_in s.order y)) (lt z y) (near y)
    (λ t. a.order_stays z y l (below-member y n m) p.2 (still y t))) in
    let high : count_by (λ y. adjacent g z y && leb (get_or core z 0) (get_or core y 0)) (below n)
    ≡ count_by (λ y. adjacent s.graph z y && leb (get_or s.core z 0) (get_or s.core y 0)) (below n) =
    count-agree (λ y. adjacent g z y && leb (get_or core z 0) (get_or core y 0))
    (λ y. adjacent s.graph z y && leb (get_or s.core z 0) (get_or s.core y 0)) (below n)
    (λ y m.
    both_same (adjacent s.graph z y) (adjacent g z y) (leb (get_or s.core z 0) (get_or s.core y 0))
    (leb (get_or core z 0) (get_or core y 0)) (near y) (λ t. ap₂ leb number (a.numbers_stay y (still y t)))) in
    let sized : below g.size ≡ below n = ap below size in
    holds-from g core (state_after plan s).order lt a.itself a.orders (λ y. a.all y ∙ ap (λ k. member y (below k)) (sym size)) z (omega arith)
    (omega (arith, later, few-ranked s.graph s.core s.order h z l, number, ap (count_by (λ y. adjacent g z y && lt z y)) sized))
    (omega (
      arith,
      high,
      enough-below s.graph s.core s.order h z l,
      number,
      ap (count_by (λ y. adjacent g z y && leb (get_or core z 0) (get_or core y 0))) sized,
    ))

-- what holds at each vertex of an order makes a certificate
pub certified_from : (s t : Ranked) (moved : List ℕ) (lt : ℕ → ℕ → Bool) → t.graph.size ≡ s.graph.size → Arranged s t.core t.order moved lt
    → ((z : ℕ) → z < s.graph.size → HoldsAt t z) → IsCertified t
certified_from s t moved lt size a holds =
    let n : ℕ = t.graph.size in
    let all : (y : ℕ) → member y t.order ≡ member y (below n) = λ y. a.all y ∙ ap (λ k. member y (below k)) (sym size) in
    let once : Distinct t.order = Orders-distinct lt t.order a.itself a.orders in
    let vertex : (i d : ℕ) → i < length t.order → get_or t.order i d < s.graph.size =
    λ i d l. omega (arith, below-member (get_or t.order i d) n (sym (all (get_or t.order i d)) ∙ member-get_or t.order i d l)) in
    record {
      one_each = a.one_each ∙ sym size;
      enumerates = distinct-enumerates n t.order once all;
      rising =
          λ i j d l lj.
          a.rising (get_or t.order i d) (get_or t.order j d) (vertex i d (omega arith)) (vertex j d lj)
          (Orders-pairs lt t.order a.orders i j d l lj);
      few_later = λ i l.
          let at : place_of (get_or t.order i 0) t.order ≡ i = place_of-at t.order i once l in
          subst (λ (k : ℕ). degree_among t.graph (drop (k + 1) t.order) (get_or t.order i 0) ≤ get_or t.core (get_or t.order i 0) 0) at
          (holds (get_or t.order i 0) (vertex i 0 l)).few_later;
      enough_as_high = λ v l. (holds v (omega arith)).enough_as_high;
    }

-- a certified state stays so after a plan that passes the local test
pub certified_after : (s : Ranked) (plan : Plan) → IsCertified s → IsLocal s plan → IsCertified (state_after plan s)
certified_after s plan h local =
    let a = moves-arranged s plan.moves h local.moves_fit in
    let size : (state_after plan s).graph.size ≡ s.graph.size = size-after plan.update plan.moves s.graph in
    certified_from s (state_after plan s) (moved_vertices plan.moves) (stands_after plan.moves s) size a
    (λ z l. elim (cases_Bool (is_looked_at plan (state_after plan s).graph z)) [
      | inl t ↦ local.holds z l t
      | inr f ↦ holds_on s plan h a z l f
    ])
