-- The list of the edges of a graph.
use Rattle.std.proofs.Common.{◌≡◌, ◌<◌, ◌≤◌, ◌+◌, ◌++◌, ◌∙◌, ℕ, zero, suc, Bool, true, false, cond, List, [], ◌∷◌, length, take, map, ltb}
use Rattle.std.proofs.Common.{ap, sym, refl, arith, get_or, append-nil, append_assoc, ltb-true}
use Rattle.std.specs.FinSet.{from_list}
use Rattle.std.specs.List.{filter, flat_map}
use Rattle.std.specs.Prelude.{All}
use Rattle.std.proofs.lemmas.List.{length-take-le, reverse-append}
use Rattle.std.proofs.lemmas.List.Concat.{flat_map-append}
use Rattle.std.proofs.lemmas.List.Elements.{All-append, All-cons, All-nil}
use Rattle.std.proofs.Math.Seq.{take-length, take-suc}
use Rattle.kc_lists.specs.Lists.{below, member}
use Rattle.kc_lists.proofs.Members.{member-head, member-tail}
use Rattle.kc_graph.specs.Neighbours.{edges_to_greater, neighbours_of}
use Rattle.kc_graph.specs.Rows.{IsAdjacency, graph_of, pairs_from, row}
use Rattle.kc_graph.specs.SimpleGraph.{SimpleGraph}
use Rattle.kc_graph.proofs.NeighbourLists.{neighbours_are, neighbours_within}
use Rattle.kc_graph.proofs.RowsLemmas.{neighbours-view, size-view}
use Rattle.kc_flat.specs.Listing.{ascending_below, edge_list}

-- one more number comes at the end
pub ascending-suc : (n : ℕ) → ascending_below (suc n) ≡ ascending_below n ++ n ∷ []
ascending-suc n = reverse-append (n ∷ []) (below n)

-- what is made of one more number comes at the end
pub flat_map-suc : {A : Type 0} (f : ℕ → List A) (n : ℕ) → flat_map f (ascending_below (suc n)) ≡ flat_map f (ascending_below n) ++ f n
flat_map-suc f n =
    ap (flat_map f) (ascending-suc n) ∙ flat_map-append f (ascending_below n) (n ∷ [])
    ∙ ap (λ t. flat_map f (ascending_below n) ++ t) (append-nil (f n))

-- the same, where the next number is a sum
pub flat_map-next : {A : Type 0} (f : ℕ → List A) (n : ℕ) → flat_map f (ascending_below (n + 1)) ≡ flat_map f (ascending_below n) ++ f n
flat_map-next f n =
    let next : n + 1 ≡ suc n = omega arith in
    ap (λ m. flat_map f (ascending_below m)) next ∙ flat_map-suc f n

-- the pairs of rows, with those of a row more
pairs-push : (first : ℕ) (rows : List (List ℕ)) (r : List ℕ)
    → pairs_from first (rows ++ r ∷ []) ≡ pairs_from first rows ++ edges_to_greater (first + length rows) r
pairs-push first [] r =
    let here : first ≡ first + 0 = omega arith in
    append-nil (edges_to_greater first r) ∙ ap (λ m. edges_to_greater m r) here
pairs-push first (s ∷ rows) r =
    let here : first + 1 + length rows ≡ first + suc (length rows) = omega arith in
    ap (λ t. edges_to_greater first s ++ t) (pairs-push (first + 1) rows r)
    ∙ sym (append_assoc (edges_to_greater first s) (pairs_from (first + 1) rows) (edges_to_greater (first + 1 + length rows) r))
    ∙ ap (λ m. (edges_to_greater first s ++ pairs_from (first + 1) rows) ++ edges_to_greater m r) here

-- the pairs of the first rows are the edges to the greater ones of each of them
pairs-front : (rows : List (List ℕ)) (n : ℕ) → n ≤ length rows
    → pairs_from 0 (take n rows) ≡ flat_map (λ v. edges_to_greater v (row rows v)) (ascending_below n)
pairs-front rows zero h = refl
pairs-front rows (suc n) h =
    let here : 0 + length (take n rows) ≡ n = omega (arith, length-take-le n rows (omega arith)) in
    ap (pairs_from 0) (take-suc rows n [] (omega arith)) ∙ pairs-push 0 (take n rows) (get_or rows n [])
    ∙ ap (λ m. pairs_from 0 (take n rows) ++ edges_to_greater m (get_or rows n [])) here
    ∙ ap (λ t. t ++ edges_to_greater n (get_or rows n [])) (pairs-front rows n (omega arith))
    ∙ sym (flat_map-suc (λ v. edges_to_greater v (row rows v)) n)

-- the pairs of the rows of a graph are its edges
edge_list-pairs : (rows : List (List ℕ)) (g : SimpleGraph) → graph_of rows ≡ g → IsAdjacency rows → edge_list g ≡ pairs_from 0 rows
edge_list-pairs rows g is adjacency =
    let each : (v : ℕ) → neighbours_of g v ≡ row rows v = λ v. sym (neighbours_are g v (row rows v) (neighbours-view rows g is adjacency v)) in
    let same : neighbours_of g ≡ row rows = λ i v. each v i in
    ap (λ (f : ℕ → List ℕ). flat_map (λ v. edges_to_greater v (f v)) (ascending_below g.size)) same
    ∙ ap (λ n. flat_map (λ v. edges_to_greater v (row rows v)) (ascending_below n)) (sym (size-view rows g is))
    ∙ sym (pairs-front rows (length rows) (omega arith)) ∙ ap (pairs_from 0) (take-length rows)

-- the set of a graph of rows is that of the list of its edges
pub edge_list-whole : (rows : List (List ℕ)) (g : SimpleGraph) → graph_of rows ≡ g → IsAdjacency rows
    → g ≡ record { size = g.size; edges = from_list (edge_list g) }
unfolding graph_of
edge_list-whole rows g is adjacency =
    let size : length rows ≡ g.size = size-view rows g is in
    let listed : pairs_from 0 rows ≡ edge_list g = sym (edge_list-pairs rows g is adjacency) in
    sym is ∙ (λ i. record { size = size i; edges = from_list (listed i) })

-- an edge to a greater one of numbers below a size is a pair of two of them
greater-within : (v n : ℕ) (ws : List ℕ) → ((w : ℕ) → member w ws ≡ true → w < n)
    → All (λ (p : ℕ × ℕ). (p.0 < p.1) × (p.1 < n)) (edges_to_greater v ws)
greater-within v n [] h = All-nil (λ (p : ℕ × ℕ). (p.0 < p.1) × (p.1 < n))
greater-within v n (w ∷ ws) h =
    let rest : All (λ (p : ℕ × ℕ). (p.0 < p.1) × (p.1 < n)) (edges_to_greater v ws) = greater-within v n ws (λ x m. h x (member-tail x w ws m)) in
    go (ltb v w) (λ t. ltb-true v w t) rest
  where
    go : (b : Bool) → (b ≡ true → v < w) → All (λ (p : ℕ × ℕ). (p.0 < p.1) × (p.1 < n)) (edges_to_greater v ws)
        → All (λ (p : ℕ × ℕ). (p.0 < p.1) × (p.1 < n)) (map (λ x. (v, x)) (cond b (w ∷ filter (ltb v) ws) (filter (ltb v) ws)))
    go true t rest = All-cons (λ (p : ℕ × ℕ). (p.0 < p.1) × (p.1 < n)) (v, w) (edges_to_greater v ws) (t refl, h w (member-head w ws)) rest
    go false t rest = rest

-- what holds of what is made of each holds of all that is made
All-flat_map : {A : Type 0} (P : A → Type 0) (f : ℕ → List A) (xs : List ℕ) → ((x : ℕ) → All P (f x)) → All P (flat_map f xs)
All-flat_map P f [] h = All-nil P
All-flat_map P f (x ∷ xs) h = All-append P (f x) (flat_map f xs) (h x) (All-flat_map P f xs h)

-- the edges are pairs of two vertices, the lesser one first
pub edge_list-within : (g : SimpleGraph) → All (λ (p : ℕ × ℕ). (p.0 < p.1) × (p.1 < g.size)) (edge_list g)
edge_list-within g =
    All-flat_map (λ (p : ℕ × ℕ). (p.0 < p.1) × (p.1 < g.size)) (λ v. edges_to_greater v (neighbours_of g v)) (ascending_below g.size)
    (λ v. greater-within v g.size (neighbours_of g v) (λ w m. (neighbours_within g v w m).0))
