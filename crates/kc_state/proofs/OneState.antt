-- A text is that of one state: all that two states tell is the same where their texts are.
use Rattle.std.proofs.Common.{◌≡◌, ◌<◌, ◌≤◌, ◌^◌, ◌++◌, ◌∙◌, ◌⊎◌, ℕ, suc, true, false, Bool, cond, List, [], ◌∷◌, length, get_or, codes, decimal}
use Rattle.std.proofs.Common.{ap, append_assoc, arith, eqb, inl, inr, ltb, refl, subst, sym, zero}
use Rattle.std.specs.FinSet as set
use Rattle.std.specs.List.{filter, flat_map}
use Rattle.std.specs.Prelude.{All, map}
use Rattle.std.proofs.lemmas.Bool.{true≢false}
use Rattle.std.proofs.lemmas.List.{same_lists}
use Rattle.std.proofs.lemmas.List.Concat.{flat_map-append}
use Rattle.kc_lists.specs.Lists.{Distinct, member, place_of}
use Rattle.kc_lists.proofs.Counting.{Distinct-from_pairs}
use Rattle.kc_lists.proofs.Members.{member-append_left, member-append_right, member-cases, member-head}
use Rattle.kc_lists.proofs.Shared.{get_or-any}
use Rattle.kc_graph.specs.Certificate.{Enumerates}
use Rattle.kc_graph.specs.Lawful.{Ranked}
use Rattle.kc_graph.specs.Neighbours.{edges_to_greater, neighbours_of}
use Rattle.kc_graph.specs.Peeling.{at}
use Rattle.kc_graph.specs.SimpleGraph.{SimpleGraph}
use Rattle.kc_graph.proofs.Places.{in_order, length-enumerates, place_of-at}
use Rattle.kc_flat.specs.Listing.{ascending_below, edge_list}
use Rattle.kc_flat.proofs.Listed.{ascending-suc, edge_list-within}
use Rattle.kc_state.specs.OneState.{AreSame, IsKeptState}
use Rattle.kc_state.specs.Texts.{KeptParts, body_text, edges_text, ended_by, lines_to_greater, named_line, pair_text, state_text, sum_from}
use Rattle.kc_state.specs.Texts.{vertex_text, vertices_text}
use Rattle.kc_state.specs.declared.TheConstants.{FORMAT_VERSION}
use Rattle.kc_state.proofs.Apart.{digits-apart, decimal-digits, line-apart, number-apart, pair-apart, word-apart}

-- the numbers that are told of a vertex are below 2^64
pub record HasSmall (ids : List ℕ) (s : Ranked) (v : ℕ) : Type 0 where
  pub id : at ids v < 2 ^ 64
  pub core : at s.core v < 2 ^ 64
  pub place : place_of v s.order < 2 ^ 64

-- what two states tell of a vertex is the same
pub record TellSame (ids ids' : List ℕ) (s s' : Ranked) (v : ℕ) : Type 0 where
  pub id : at ids v ≡ at ids' v
  pub core : at s.core v ≡ at s'.core v
  pub place : place_of v s.order ≡ place_of v s'.order

-- the lines of the same vertices are told apart, whatever stands behind
pub vertices-apart : (ids ids' : List ℕ) (s s' : Ranked) (vs x y : List ℕ) → ((v : ℕ) → HasSmall ids s v) → ((v : ℕ) → HasSmall ids' s' v)
    → flat_map (vertex_text ids s) vs ++ x ≡ flat_map (vertex_text ids' s') vs ++ y
    → ((v : ℕ) → member v vs ≡ true → TellSame ids ids' s s' v) × (x ≡ y)
vertices-apart ids ids' s s' [] x y small small' e = (λ v m. absurd (true≢false (sym m)), e)
vertices-apart ids ids' s s' (w ∷ vs) x y small small' e =
    let a : List ℕ = ended_by 32 (at ids w) in
    let a' : List ℕ = ended_by 32 (at ids' w) in
    let b : List ℕ = pair_text (at s.core w) (place_of w s.order) in
    let b' : List ℕ = pair_text (at s'.core w) (place_of w s'.order) in
    let r : List ℕ = flat_map (vertex_text ids s) vs in
    let r' : List ℕ = flat_map (vertex_text ids' s') vs in
    let parted : a ++ (b ++ (r ++ x)) ≡ a' ++ (b' ++ (r' ++ y)) =
    sym (append_assoc a b (r ++ x)) ∙ sym (append_assoc (a ++ b) r x) ∙ e ∙ append_assoc (a' ++ b') r' y ∙ append_assoc a' b' (r' ++ y) in
    let (id, behind) = number-apart 32 (at ids w) (at ids' w) (b ++ (r ++ x)) (b' ++ (r' ++ y)) refl (small w).id (small' w).id parted in
    let (core, place, rest) = pair-apart (at s.core w) (place_of w s.order) (at s'.core w) (place_of w s'.order) (r ++ x) (r' ++ y)
    (small w).core (small w).place (small' w).core (small' w).place behind in
    let (others, end) = vertices-apart ids ids' s s' vs x y small small' rest in (
      λ v m. elim (member-cases v w vs m) [
        | inl is ↦ subst (TellSame ids ids' s s') (sym is) (record { id = id; core = core; place = place })
        | inr more ↦ others v more
      ],
      end,
    )

-- two orders of the vertices in which each has the same place are the same
pub orders-same : (n : ℕ) (order order' : List ℕ) → Enumerates n order → Enumerates n order'
    → ((v : ℕ) → v < n → place_of v order ≡ place_of v order') → order ≡ order'
orders-same n order order' e e' same =
    let long : length order ≡ length order' = length-enumerates n order e ∙ sym (length-enumerates n order' e') in
    same_lists order order' long (λ i d l.
    let v : ℕ = get_or order i 0 in
    let lv : v < n = in_order n order i e l in
    let (k, lk, at-k) = e'.complete v lv in
    let is : get_or order' k 0 ≡ v = get_or-any order' k 0 v lk ∙ at-k in
    let there : place_of v order' ≡ k = ap (λ x. place_of x order') (sym is) ∙ place_of-at order' k (Distinct-from_pairs order' e'.distinct) lk in
    let here : place_of v order ≡ i = place_of-at order i (Distinct-from_pairs order e.distinct) l in
    let k-i : k ≡ i = sym there ∙ sym (same v lv) ∙ here in
    get_or-any order i d 0 l ∙ sym is ∙ ap (λ j. get_or order' j 0) k-i ∙ get_or-any order' i 0 d (omega arith))

-- the line of an edge between two vertices
abbrev edge_line : List ℕ → ℕ × ℕ → List ℕ
edge_line ids e = pair_text (at ids e.0) (at ids e.1)

-- the lines of the edges to greater vertices are those of the listed edges
greater-listed : (ids : List ℕ) (v : ℕ) (ws : List ℕ) → lines_to_greater ids v ws ≡ flat_map (edge_line ids) (edges_to_greater v ws)
greater-listed ids v [] = refl
greater-listed ids v (w ∷ ws) = go (ltb v w) (greater-listed ids v ws)
  where
    go : (b : Bool) → lines_to_greater ids v ws ≡ flat_map (edge_line ids) (edges_to_greater v ws)
        → cond b (pair_text (at ids v) (at ids w)) [] ++ lines_to_greater ids v ws
        ≡ flat_map (edge_line ids) (map (λ x. (v, x)) (cond b (w ∷ filter (ltb v) ws) (filter (ltb v) ws)))
    go true rest = ap (λ t. pair_text (at ids v) (at ids w) ++ t) rest
    go false rest = rest

-- what is made of all that is made is made of each part
flat_map-twice : (f : ℕ → List ℕ) (h : ℕ × ℕ → List ℕ) (k : ℕ → List (ℕ × ℕ)) (xs : List ℕ) → ((x : ℕ) → f x ≡ flat_map h (k x))
    → flat_map f xs ≡ flat_map h (flat_map k xs)
flat_map-twice f h k [] same = refl
flat_map-twice f h k (x ∷ xs) same =
    ap (λ t. t ++ flat_map f xs) (same x) ∙ ap (λ t. flat_map h (k x) ++ t) (flat_map-twice f h k xs same)
    ∙ sym (flat_map-append h (k x) (flat_map k xs))

-- the lines of all edges are those of the listed edges
pub edges-listed : (ids : List ℕ) (g : SimpleGraph) → edges_text ids g ≡ flat_map (edge_line ids) (edge_list g)
edges-listed ids g =
    flat_map-twice (λ v. lines_to_greater ids v (neighbours_of g v)) (edge_line ids) (λ v. edges_to_greater v (neighbours_of g v))
    (ascending_below g.size) (λ v. greater-listed ids v (neighbours_of g v))

-- no line of two numbers begins with a byte that is no digit and no blank
no-pair : (a b : ℕ) (x y : List ℕ) → a < 2 ^ 64 → 115 ∷ x ≡ pair_text a b ++ y → ⊥
no-pair a b x y l e =
    let parted : [] ++ 115 ∷ x ≡ decimal a ++ 32 ∷ (ended_by 10 b ++ y) =
    e ∙ append_assoc (ended_by 32 a) (ended_by 10 b) y ∙ append_assoc (decimal a) (32 ∷ []) (ended_by 10 b ++ y) in
    let (none, behind) = digits-apart [] (decimal a) 115 32 x (ended_by 10 b ++ y) refl (decimal-digits a l) refl refl parted in
    let same : 115 ∷ x ≡ 32 ∷ (ended_by 10 b ++ y) = parted ∙ ap (λ t. t ++ 32 ∷ (ended_by 10 b ++ y)) (sym none) in
    omega (arith, ap (λ (l : List ℕ). get_or l 0 0) same)

-- an id stands at one vertex
one-vertex : (ids : List ℕ) (u v : ℕ) → Distinct ids → u < length ids → v < length ids → at ids u ≡ at ids v → u ≡ v
one-vertex ids u v once lu lv e = sym (place_of-at ids u once lu) ∙ ap (λ x. place_of x ids) e ∙ place_of-at ids v once lv

-- the pairs are ascending pairs of places in a list
abbrev Within : List ℕ → List (ℕ × ℕ) → Type 0
Within ids es = All (λ (p : ℕ × ℕ). (p.0 < p.1) × (p.1 < length ids)) es

-- the lines of edges are told apart where a byte follows that begins none
edges-apart : (ids : List ℕ) (es es' : List (ℕ × ℕ)) (x y : List ℕ) → ((v : ℕ) → at ids v < 2 ^ 64) → Distinct ids → Within ids es → Within ids es'
    → flat_map (edge_line ids) es ++ 115 ∷ x ≡ flat_map (edge_line ids) es' ++ 115 ∷ y → es ≡ es'
edges-apart ids [] [] x y small once in-es in-es' e = refl
edges-apart ids [] (p ∷ es') x y small once in-es in-es' e =
    absurd (no-pair (at ids p.0) (at ids p.1) x (flat_map (edge_line ids) es' ++ 115 ∷ y) (small p.0)
    (e ∙ append_assoc (edge_line ids p) (flat_map (edge_line ids) es') (115 ∷ y)))
edges-apart ids (p ∷ es) [] x y small once in-es in-es' e =
    absurd (no-pair (at ids p.0) (at ids p.1) y (flat_map (edge_line ids) es ++ 115 ∷ x) (small p.0)
    (sym e ∙ append_assoc (edge_line ids p) (flat_map (edge_line ids) es) (115 ∷ x)))
edges-apart ids (p ∷ es) (q ∷ es') x y small once in-es in-es' e =
    let (first, second, rest) = pair-apart (at ids p.0) (at ids p.1) (at ids q.0) (at ids q.1) (flat_map (edge_line ids) es ++ 115 ∷ x)
    (flat_map (edge_line ids) es' ++ 115 ∷ y) (small p.0) (small p.1) (small q.0) (small q.1)
    (sym (append_assoc (edge_line ids p) (flat_map (edge_line ids) es) (115 ∷ x)) ∙ e
    ∙ append_assoc (edge_line ids q) (flat_map (edge_line ids) es') (115 ∷ y)) in
    let hp : (p.0 < p.1) × (p.1 < length ids) = in-es 0 p (omega arith) in
    let hq : (q.0 < q.1) × (q.1 < length ids) = in-es' 0 q (omega arith) in
    let u : p.0 ≡ q.0 = one-vertex ids p.0 q.0 once (omega (arith, hp.0, hp.1)) (omega (arith, hq.0, hq.1)) first in
    let v : p.1 ≡ q.1 = one-vertex ids p.1 q.1 once hp.1 hq.1 second in
    let head : p ≡ q = λ i. (u i, v i) in
    let tail : es ≡ es' = edges-apart ids es es' x y small once (λ k d l. in-es (suc k) d (omega (arith, l)))
    (λ k d l. in-es' (suc k) d (omega (arith, l))) rest in
    (λ i. head i ∷ tail i)

-- what is told of one vertex is told of all, so the lists are the same
lists-same : (n : ℕ) (xs ys : List ℕ) → length xs ≡ n → length ys ≡ n → ((v : ℕ) → v < n → at xs v ≡ at ys v) → xs ≡ ys
lists-same n xs ys lx ly same =
    same_lists xs ys (lx ∙ sym ly) (λ k d l. get_or-any xs k d 0 l ∙ same k (omega arith) ∙ get_or-any ys k 0 d (omega arith))

-- a number of a list of small ones is small, also where none stands
at-small : (xs : List ℕ) (v : ℕ) → All (λ x. x < 2 ^ 32) xs → at xs v < 2 ^ 64
at-small [] v h = omega arith
at-small (x ∷ xs) zero h = let l : x < 2 ^ 32 = h 0 0 (omega arith) in omega arith
at-small (x ∷ xs) (suc k) h = at-small xs k (λ j d l. h (suc j) d (omega (arith, l)))

-- a vertex has no greater place than there are
place-small : (v : ℕ) (xs : List ℕ) → place_of v xs ≤ length xs
place-small v [] = omega arith
place-small v (x ∷ xs) = go (eqb v x) (place-small v xs)
  where
    go : (b : Bool) → place_of v xs ≤ length xs → cond b 0 (suc (place_of v xs)) ≤ suc (length xs)
    go true h = omega arith
    go false h = omega arith

-- the numbers of a kept state are small
kept-small : (s : KeptParts) → IsKeptState s → (v : ℕ) → HasSmall s.ids s.ranked v
kept-small s kept v = record {
  id = at-small s.ids v kept.small_ids;
  core = at-small s.ranked.core v kept.small_core;
  place = omega (arith, place-small v s.ranked.order, length-enumerates s.ranked.graph.size s.ranked.order kept.certified.enumerates, kept.few_vertices);
}

-- seven texts behind one another, from the first on
regroup : (a b c d v e z : List ℕ) → ((a ++ (b ++ (c ++ d))) ++ (v ++ e)) ++ z ≡ a ++ (b ++ (c ++ (d ++ (v ++ (e ++ z)))))
regroup a b c d v e z = simp append_assoc

-- the text of a state in its parts
text-parted : (s : KeptParts) → state_text s
    ≡ named_line (codes "kcore-state ") FORMAT_VERSION ++ (named_line (codes "batches ") s.batches ++ (named_line (codes "vertices ") s.ranked.graph.size
    ++ (named_line (codes "edges ") (set.len s.ranked.graph.edges) ++ (vertices_text s.ids s.ranked ++ (edges_text s.ids s.ranked.graph
    ++ named_line (codes "sum ") (sum_from 0 (body_text s)))))))
unfolding state_text body_text
text-parted s =
    regroup (named_line (codes "kcore-state ") FORMAT_VERSION) (named_line (codes "batches ") s.batches)
    (named_line (codes "vertices ") s.ranked.graph.size) (named_line (codes "edges ") (set.len s.ranked.graph.edges)) (vertices_text s.ids s.ranked)
    (edges_text s.ids s.ranked.graph) (named_line (codes "sum ") (sum_from 0 (body_text s)))

-- each number below another one is among those below it
ascending-has : (v n : ℕ) → v < n → member v (ascending_below n) ≡ true
ascending-has v zero l = absurd (omega arith)
ascending-has v (suc n) l = elim (either v n l) [
  | inl is ↦ ap (member v) (ascending-suc n) ∙ member-append_right v (ascending_below n) (n ∷ []) (ap (λ x. member x (n ∷ [])) is ∙ member-head n [])
  | inr less ↦ ap (member v) (ascending-suc n) ∙ member-append_left v (ascending_below n) (n ∷ []) (ascending-has v n less)
]
  where
    either : (a b : ℕ) → a < suc b → (a ≡ b) ⊎ (a < b)
    either a b l = grind arith

-- the first lines are told apart, whatever stands behind
heads-apart : (b b' n n' m m' : ℕ) (x y : List ℕ) → b < 2 ^ 64 → b' < 2 ^ 64 → n < 2 ^ 64 → n' < 2 ^ 64 → m < 2 ^ 64 → m' < 2 ^ 64
    → named_line (codes "kcore-state ") FORMAT_VERSION ++ (named_line (codes "batches ") b ++ (named_line (codes "vertices ") n
    ++ (named_line (codes "edges ") m ++ x)))
    ≡ named_line (codes "kcore-state ") FORMAT_VERSION ++ (named_line (codes "batches ") b' ++ (named_line (codes "vertices ") n'
    ++ (named_line (codes "edges ") m' ++ y)))
    → (b ≡ b') × (n ≡ n') × (m ≡ m') × (x ≡ y)
heads-apart b b' n n' m m' x y lb lb' ln ln' lm lm' e =
    let x3 : List ℕ = named_line (codes "edges ") m ++ x in
    let y3 : List ℕ = named_line (codes "edges ") m' ++ y in
    let x2 : List ℕ = named_line (codes "vertices ") n ++ x3 in
    let y2 : List ℕ = named_line (codes "vertices ") n' ++ y3 in
    let x1 : List ℕ = named_line (codes "batches ") b ++ x2 in
    let y1 : List ℕ = named_line (codes "batches ") b' ++ y2 in
    let e1 : x1 ≡ y1 = word-apart (named_line (codes "kcore-state ") FORMAT_VERSION) x1 y1 e in
    let (batches, e2) = line-apart (codes "batches ") b b' x2 y2 lb lb' e1 in
    let (vertices, e3) = line-apart (codes "vertices ") n n' x3 y3 ln ln' e2 in
    let (edges, e4) = line-apart (codes "edges ") m m' x y lm lm' e3 in
    (batches, vertices, edges, e4)

-- a text is that of one state
pub one-state : (s s' : KeptParts) → IsKeptState s → IsKeptState s' → state_text s ≡ state_text s' → AreSame s s'
one-state s s' k k' e =
    let n : ℕ = s.ranked.graph.size in
    let z : List ℕ = named_line (codes "sum ") (sum_from 0 (body_text s)) in
    let z' : List ℕ = named_line (codes "sum ") (sum_from 0 (body_text s')) in
    let x : List ℕ = edges_text s.ids s.ranked.graph ++ z in
    let y : List ℕ = edges_text s'.ids s'.ranked.graph ++ z' in
    let (batches, size, count, rows) = heads-apart s.batches s'.batches n s'.ranked.graph.size (set.len s.ranked.graph.edges)
    (set.len s'.ranked.graph.edges) (vertices_text s.ids s.ranked ++ x) (vertices_text s'.ids s'.ranked ++ y) k.few_batches k'.few_batches
    (omega (arith, k.few_vertices)) (omega (arith, k'.few_vertices)) k.few_edges k'.few_edges (sym (text-parted s) ∙ e ∙ text-parted s') in
    let lines : vertices_text s'.ids s'.ranked ≡ flat_map (vertex_text s'.ids s'.ranked) (ascending_below n) =
    ap (λ m. flat_map (vertex_text s'.ids s'.ranked) (ascending_below m)) (sym size) in
    let (told, behind) = vertices-apart s.ids s'.ids s.ranked s'.ranked (ascending_below n) x y (kept-small s k) (kept-small s' k')
    (rows ∙ ap (λ t. t ++ y) lines) in
    let each : (v : ℕ) → v < n → TellSame s.ids s'.ids s.ranked s'.ranked v = λ v l. told v (ascending-has v n l) in
    let ids : s.ids ≡ s'.ids = lists-same n s.ids s'.ids k.one_id_each (k'.one_id_each ∙ sym size) (λ v l. (each v l).id) in
    let among : Within s.ids (edge_list s.ranked.graph) =
    subst (λ m. All (λ (p : ℕ × ℕ). (p.0 < p.1) × (p.1 < m)) (edge_list s.ranked.graph)) (sym k.one_id_each) (edge_list-within s.ranked.graph) in
    let among' : Within s.ids (edge_list s'.ranked.graph) =
    subst (λ m. All (λ (p : ℕ × ℕ). (p.0 < p.1) × (p.1 < m)) (edge_list s'.ranked.graph)) (sym (k.one_id_each ∙ size))
    (edge_list-within s'.ranked.graph) in
    record {
      batches = batches;
      ids = ids;
      size = size;
      edges = edges-apart s.ids (edge_list s.ranked.graph) (edge_list s'.ranked.graph)
          ((117 ∷ 109 ∷ 32 ∷ []) ++ ended_by 10 (sum_from 0 (body_text s))) ((117 ∷ 109 ∷ 32 ∷ []) ++ ended_by 10 (sum_from 0 (body_text s')))
          (λ v. at-small s.ids v k.small_ids) k.once among among'
          (ap (λ t. t ++ z) (sym (edges-listed s.ids s.ranked.graph)) ∙ behind
          ∙ ap (λ t. t ++ z') (ap (λ l. edges_text l s'.ranked.graph) (sym ids) ∙ edges-listed s.ids s'.ranked.graph));
      core = lists-same n s.ranked.core s'.ranked.core k.certified.one_each (k'.certified.one_each ∙ sym size) (λ v l. (each v l).core);
      order = orders-same n s.ranked.order s'.ranked.order k.certified.enumerates
          (subst (λ m. Enumerates m s'.ranked.order) (sym size) k'.certified.enumerates) (λ v l. (each v l).place);
    }
