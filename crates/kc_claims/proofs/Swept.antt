-- The graph of a stream whose edges were counted, and what the counts are in it.
use Rattle.std.proofs.Common.{◌≡◌, ◌≢◌, ◌≤◌, ◌<◌, ◌^◌, ◌⊎◌, ℕ, Bool, Option, true, false, cond, eqb, nat_lt, append-nil, ◌&&◌, ◌||◌}
use Rattle.std.proofs.Common.{List, [], ◌∷◌, length, map, nat_eq, None, Some, leb}
use Rattle.std.proofs.Common.{refl, sym, ap, ap₂, ◌∙◌, arith, inl, inr, eq-eqb, ne_eqb, le-leb, lt-ltb, subst}
use Rattle.std.specs.Prelude.{All, count_by}
use Rattle.std.specs.FinSet.{from_list}
use Rattle.std.specs.List.{cons_option, filter_map}
use Rattle.std.specs.List.Sorted.{IsStrictlyIncreasing}
use Rattle.std.specs.Set.{is_member}
use Rattle.std.specs.Cmp.{both_ways}
use Rattle.std.proofs.lemmas.Bool.{cases_eq, or_left, or_right}
use Rattle.std.proofs.lemmas.List.Elements.{All-cons, All-head, All-nil, All-tail}
use Rattle.kc_lists.specs.Lists.{below}
use Rattle.kc_lists.proofs.Counting.{member-get_or}
use Rattle.kc_graph.specs.Bulk.{graph_with}
use Rattle.kc_graph.specs.Gathering.{edge_of}
use Rattle.kc_graph.specs.Peeling.{at}
use Rattle.kc_graph.specs.SimpleGraph.{SimpleGraph, adjacent}
use Rattle.kc_graph.specs.declared.bulk.Edge.{Edge}
use Rattle.kc_graph.proofs.Bulking.{pairs-graph, size-with}
use Rattle.kc_text.specs.Inputs.{AreIds, between, numbered, start_graph}
use Rattle.kc_text.specs.Meaning.{ends, names}
use Rattle.kc_text.specs.TellingLines.{edge_lines}
use Rattle.kc_text.proofs.Places.{place-found}
use Rattle.kc_tally.specs.Keys.{has_lesser_key}
use Rattle.kc_tally.specs.Lists.{ListsEachOnce}
use Rattle.kc_tally.specs.Tallies.{AreTallied, capped, later_count, leads_to, supporter_count}
use Rattle.kc_tally.proofs.EdgeCounts.{count-adjacent, edges-cons, leads-few}
use Rattle.kc_claims.specs.Certificates.{later_neighbours, supporters}
use Rattle.kc_claims.specs.Streams.{IsAmong}
use Rattle.kc_claims.specs.Sweeping.{edge_said, named}
use Rattle.kc_claims.proofs.Rising.{id-place, ids-apart}
use Rattle.kc_claims.proofs.StreamLines.{edges_told, ends-among}

-- the two ends of an edge
abbrev ends_of_edge : Edge → ℕ × ℕ
ends_of_edge e = (e.u, e.v)

-- an edge is that of its two ends
edges-back : (edges : List Edge) → map edge_of (map ends_of_edge edges) ≡ edges
edges-back [] = refl
edges-back (e ∷ edges) = ap (λ (t : List Edge). e ∷ t) (edges-back edges)

module _ (ids : List ℕ) where
  -- the lines of edges are those of the ids of their ends
  pub said-same : (edges : List Edge) → map (λ e. edge_said (named ids e)) edges ≡ edge_lines (map (named ids) edges)
  said-same [] = refl
  said-same (e ∷ edges) = ap (λ t. edge_said (named ids e) ∷ t) (said-same edges)

  -- the ids of their ends are ids
  pub pairs-among : (edges : List Edge) → All (λ e. e.u < e.v) edges → All (λ e. e.v < length ids) edges → All (IsAmong ids) (map (named ids) edges)
  pairs-among [] up within = All-nil (IsAmong ids)
  pairs-among (e ∷ edges) up within =
      let l : e.u < e.v = All-head (λ e. e.u < e.v) e edges up in
      let k : e.v < length ids = All-head (λ e. e.v < length ids) e edges within in
      All-cons (IsAmong ids) (named ids e) (map (named ids) edges)
      (member-get_or ids e.u 0 (omega arith), member-get_or ids e.v 0 k)
      (pairs-among edges (All-tail (λ e. e.u < e.v) e edges up) (All-tail (λ e. e.v < length ids) e edges within))

  -- the ends of edges have edges between them, and lie within
  ends-within : (edges : List Edge) → All (λ e. e.u < e.v) edges → All (λ e. e.v < length ids) edges
      → All (λ p. (p.0 < p.1) × (p.1 < length ids)) (map ends_of_edge edges)
  ends-within [] up within = All-nil (λ p. (p.0 < p.1) × (p.1 < length ids))
  ends-within (e ∷ edges) up within =
      All-cons (λ p. (p.0 < p.1) × (p.1 < length ids)) (ends_of_edge e) (map ends_of_edge edges)
      (All-head (λ e. e.u < e.v) e edges up, All-head (λ e. e.v < length ids) e edges within)
      (ends-within edges (All-tail (λ e. e.u < e.v) e edges up) (All-tail (λ e. e.v < length ids) e edges within))

  module _ (ascending : IsStrictlyIncreasing ids) where
    -- the ids of the ends of an edge stand for these ends
    numbered-back : (edges : List Edge) → All (λ e. e.u < e.v) edges → All (λ e. e.v < length ids) edges
        → filter_map (numbered ids) (map (named ids) edges) ≡ map ends_of_edge edges
    numbered-back [] up within = refl
    numbered-back (e ∷ edges) up within =
        let l : e.u < e.v = All-head (λ e. e.u < e.v) e edges up in
        let k : e.v < length ids = All-head (λ e. e.v < length ids) e edges within in
        let first = place-found ids (at ids e.u) e.u ascending (omega arith) refl in
        let second = place-found ids (at ids e.v) e.v ascending k refl in
        let here : numbered ids (named ids e) ≡ Some (e.u, e.v) =
        ap₂ between first second ∙ ap (λ b. cond b (Some (e.u, e.v)) (cond (nat_lt e.v e.u) (Some (e.v, e.u)) None)) (lt-ltb e.u e.v l) in
        ap₂ (λ (p : Option (ℕ × ℕ)) (t : List (ℕ × ℕ)). cons_option p t) here
        (numbered-back edges (All-tail (λ e. e.u < e.v) e edges up) (All-tail (λ e. e.v < length ids) e edges within))

    -- so the graph of these ids is that of the edges
    pub graph-same : (edges : List Edge) → All (λ e. e.u < e.v) edges → All (λ e. e.v < length ids) edges
        → start_graph ids (map (named ids) edges) ≡ graph_with (length ids) edges
    unfolding start_graph
    graph-same edges up within =
        ap (λ (t : List (ℕ × ℕ)). let g : SimpleGraph = record { size = length ids; edges = from_list t } in g) (numbered-back edges up within)
        ∙ sym (pairs-graph (length ids) (map ends_of_edge edges) (ends-within edges up within))
        ∙ ap (graph_with (length ids)) (edges-back edges)

    -- an end from which some of the edges lead is named
    leads-named : (test : ℕ → Bool) (v : ℕ) (edges : List Edge) → 0 < count_by (leads_to test v) edges
        → is_member nat_eq (ends (map (named ids) edges)) (at ids v) ≡ true
    leads-named test v [] some = absurd (omega arith)
    leads-named test v (e ∷ edges) some = elim (cases_eq v e.u) [
      | inl is ↦ or_left _ _ (eq-eqb (at ids v) (at ids e.u) (ap (at ids) is))
      | inr ne ↦ or_right (nat_eq (at ids v) (at ids e.u)) _ (elim (cases_eq v e.v) [
        | inl is ↦ or_left _ _ (eq-eqb (at ids v) (at ids e.v) (ap (at ids) is))
        | inr ne' ↦
            let none : leads_to test v e ≡ false = neither (eqb v e.u) (eqb v e.v) (test e.v) (test e.u) (ne_eqb v e.u ne) (ne_eqb v e.v ne') in
            or_right (nat_eq (at ids v) (at ids e.v)) _
            (leads-named test v edges (omega (arith, some, edges-cons (leads_to test v) e edges, ap {B = ℕ} (λ b. cond b 1 0) none)))
      ])
    ]
      where
        neither : (vu vv tv tu : Bool) → vu ≡ false → vv ≡ false → ((vu && tv) || (vv && tu)) ≡ false
        neither vu vv tv tu b c = grind arith

    -- a vertex from which no edge leads is not named
    leads-none : (test : ℕ → Bool) (v : ℕ) (edges : List Edge) → v < length ids → ((w : ℕ) → test w ≡ true) → All (λ e. e.u < e.v) edges
        → All (λ e. e.v < length ids) edges → count_by (leads_to test v) edges ≡ 0
        → is_member nat_eq (ends (map (named ids) edges)) (at ids v) ≡ false
    leads-none test v [] l all up within none = refl
    leads-none test v (e ∷ edges) l all up within none =
        let first : e.u < e.v = All-head (λ e. e.u < e.v) e edges up in
        let second : e.v < length ids = All-head (λ e. e.v < length ids) e edges within in
        let parts = edges-cons (leads_to test v) e edges in
        let not_first : nat_eq (at ids v) (at ids e.u) ≡ false = elim (cases_eq v e.u) [
          | inl is ↦ absurd (omega (
            arith,
            none,
            parts,
            ap {B = ℕ} (λ b. cond b 1 0)
                (or_left (nat_eq v e.u && test e.v) (nat_eq v e.v && test e.u) (both (nat_eq v e.u) (test e.v) (eq-eqb v e.u is) (all e.v))),
          ))
          | inr ne ↦ apart v e.u l (omega arith) ne
        ] in
        let not_second : nat_eq (at ids v) (at ids e.v) ≡ false = elim (cases_eq v e.v) [
          | inl is ↦ absurd (omega (
            arith,
            none,
            parts,
            ap {B = ℕ} (λ b. cond b 1 0)
                (or_right (nat_eq v e.u && test e.v) _ (both (nat_eq v e.v) (test e.u) (eq-eqb v e.v is) (all e.u))),
          ))
          | inr ne ↦ apart v e.v l second ne
        ] in
        let rest : is_member nat_eq (ends (map (named ids) edges)) (at ids v) ≡ false =
        leads-none test v edges l all (All-tail (λ e. e.u < e.v) e edges up) (All-tail (λ e. e.v < length ids) e edges within) (omega (arith, none, parts)) in
        ap₂ (λ (a b : Bool). a || b) not_first (ap₂ (λ (a b : Bool). a || b) not_second rest)
      where
        both : (a b : Bool) → a ≡ true → b ≡ true → (a && b) ≡ true
        both a b p q = grind arith

        apart : (a b : ℕ) → a < length ids → b < length ids → a ≢ b → nat_eq (at ids a) (at ids b) ≡ false
        apart a b l k ne = ne_eqb (at ids a) (at ids b) (λ same. ne (ids-apart ids ascending a b l k same))

module _ (ids core rank : List ℕ) (edges : List Edge) (ascending : IsStrictlyIncreasing ids) (size : length core ≡ length ids)
    (few : length core ≤ 2 ^ 32) (once : ListsEachOnce (length core) edges) where
  -- both ends are vertices
  pub within : All (λ e. e.v < length ids) edges
  within = subst (λ (n : ℕ). All (λ e. e.v < n) edges) size once.within

  -- the graph of the stream
  abbrev pub streamed : SimpleGraph
  streamed = start_graph ids (map (named ids) edges)

  pub streamed-is : streamed ≡ graph_with (length core) edges
  streamed-is = graph-same ids ascending edges once.lesser_first within ∙ ap (λ n. graph_with n edges) (sym size)

  -- it has a vertex for each id
  pub size-streamed : streamed.size ≡ length ids
  size-streamed = ap (λ (g : SimpleGraph). g.size) streamed-is ∙ size-with (length core) edges ∙ size

  module _ (later supporting : List ℕ) (tally : AreTallied core rank edges later supporting) where
    -- the counts of a vertex are those of its neighbours
    pub later-counted : (v : ℕ) → v < length core → at later v ≡ later_neighbours streamed core rank v
    later-counted v l =
        let test : ℕ → Bool = has_lesser_key core rank v in
        let counted : at later v ≡ capped (later_count core rank edges v) = tally.later_counted v l in
        let neighbours : later_count core rank edges v ≡ later_neighbours (graph_with (length core) edges) core rank v =
        count-adjacent (length core) edges once test v
        ∙ ap (λ n. count_by (λ w. adjacent (graph_with (length core) edges) v w && test w) (below n)) (sym (size-with (length core) edges)) in
        omega (
          arith,
          counted,
          leads-few (length core) edges once test v l,
          neighbours,
          ap (λ (g : SimpleGraph). later_neighbours g core rank v) streamed-is,
          few,
        )

    pub supporters-counted : (v : ℕ) → v < length core → at supporting v ≡ supporters streamed core v
    supporters-counted v l =
        let test : ℕ → Bool = λ w. leb (at core v) (at core w) in
        let counted : at supporting v ≡ capped (supporter_count core edges v) = tally.supporters_counted v l in
        let neighbours : supporter_count core edges v ≡ supporters (graph_with (length core) edges) core v =
        count-adjacent (length core) edges once test v
        ∙ ap (λ n. count_by (λ w. adjacent (graph_with (length core) edges) v w && test w) (below n)) (sym (size-with (length core) edges)) in
        omega (
          arith,
          counted,
          leads-few (length core) edges once test v l,
          neighbours,
          ap (λ (g : SimpleGraph). supporters g core v) streamed-is,
          few,
        )

    -- a vertex of which something is counted is named
    counted-named : (v : ℕ) → v < length core → (0 < at later v) ⊎ (0 < at supporting v)
        → is_member nat_eq (ends (map (named ids) edges)) (at ids v) ≡ true
    counted-named v l (inl some) =
        let test : ℕ → Bool = has_lesser_key core rank v in
        let counted : at later v ≡ capped (count_by (leads_to test v) edges) = tally.later_counted v l in
        leads-named ids ascending test v edges (omega (arith, some, counted))
    counted-named v l (inr some) =
        let test : ℕ → Bool = λ w. leb (at core v) (at core w) in
        let counted : at supporting v ≡ capped (count_by (leads_to test v) edges) = tally.supporters_counted v l in
        leads-named ids ascending test v edges (omega (arith, some, counted))

    -- the names that are told, and nothing behind them
    names-told : names (edges_told (map (named ids) edges)) ≡ ends (map (named ids) edges)
    names-told = ap ends (append-nil (map (named ids) edges))

    -- so it is among the names that are told
    pub counted-names : (v : ℕ) → v < length core → (0 < at later v) ⊎ (0 < at supporting v)
        → is_member nat_eq (names (edges_told (map (named ids) edges))) (at ids v) ≡ true
    counted-names v l some = ap (λ (t : List ℕ). is_member nat_eq t (at ids v)) names-told ∙ counted-named v l some

    -- a vertex that has the number 0 and no supporter is not named
    pub uncounted-unnamed : (v : ℕ) → v < length core → at core v ≡ 0 → at supporting v ≡ 0
        → is_member nat_eq (names (edges_told (map (named ids) edges))) (at ids v) ≡ false
    uncounted-unnamed v l zero none =
        let test : ℕ → Bool = λ w. leb (at core v) (at core w) in
        let counted : at supporting v ≡ capped (count_by (leads_to test v) edges) = tally.supporters_counted v l in
        ap (λ (t : List ℕ). is_member nat_eq t (at ids v)) names-told
        ∙ leads-none ids ascending test v edges (omega (arith, l, size)) (λ w. le-leb (at core v) (at core w) (omega (arith, zero)))
        once.lesser_first within (omega (arith, counted, none))

    -- where something is counted of each vertex, each id is named
    each-named : ((v : ℕ) → v < length core → (0 < at later v) ⊎ (0 < at supporting v)) → (id : ℕ) → is_member nat_eq ids id ≡ true
        → is_member nat_eq (names (edges_told (map (named ids) edges))) id ≡ true
    each-named each id h =
        let (v, l, is) = id-place ids id h in
        ap (is_member nat_eq (names (edges_told (map (named ids) edges)))) (sym is)
        ∙ counted-names v (omega (arith, l, size)) (each v (omega (arith, l, size)))

    -- and what is named is an id
    named-each : (id : ℕ) → is_member nat_eq (names (edges_told (map (named ids) edges))) id ≡ true → is_member nat_eq ids id ≡ true
    named-each id h =
        ends-among ids (map (named ids) edges) (pairs-among ids edges once.lesser_first within) id
        (sym (ap (λ (t : List ℕ). is_member nat_eq t id) names-told) ∙ h)

    -- so the ids are those that are named
    pub ids-named : ((v : ℕ) → v < length core → (0 < at later v) ⊎ (0 < at supporting v)) → AreIds (names (edges_told (map (named ids) edges))) ids
    ids-named each = record {
      ascending = ascending;
      exact = λ id.
          both_ways (is_member nat_eq ids id) (is_member nat_eq (names (edges_told (map (named ids) edges))) id) (each-named each id) (named-each id);
    }
