-- The edges of a graph as a list of pairs, and what such a list has as a set.
use Rattle.std.proofs.Common.{◌≡◌, ◌≤◌, ◌<◌, ◌+◌, ◌-◌, ◌++◌, ℕ, suc, Bool, true, false, cond, ◌&&◌, ◌||◌, List, [], ◌∷◌, length, get_or, ltb}
use Rattle.std.proofs.Common.{refl, sym, ◌∙◌, ap, subst, inl, inr, arith, lt-ltb, ltb-true, append_assoc, length-append}
use Rattle.std.specs.Prelude.{All}
use Rattle.std.specs.Ordering.{eq_by_cmp}
use Rattle.std.specs.FinSet.{FinSet, contains, contains-empty, contains-from_list, contains-insert, contains-remove, empty_of_len, from_list}
use Rattle.std.specs.FinSet.{len, len-empty, len-insert, len-remove, remove, same_set}
use Rattle.std.proofs.lemmas.Bool.{and_from, and_parts, cases_Bool, cases_eq, cases_lt, false_from_ne_true, false≢true, not_from_false, or_left, or_right}
use Rattle.std.proofs.lemmas.Bool.{true≢false}
use Rattle.std.proofs.lemmas.List.{append-nil, get_or-append_right, get_or_append_left}
use Rattle.std.proofs.lemmas.List.Elements.{All-from_get_or}
use Rattle.std.proofs.lemmas.List.Folds.{list_any_at}
use Rattle.kc_lists.specs.Lists.{member}
use Rattle.kc_graph.specs.SimpleGraph.{SimpleGraph, adjacent, pair_cmp}
use Rattle.kc_graph.specs.Neighbours.{AreNeighbours, edges_to_greater}
use Rattle.kc_graph.specs.Rows.{graph_of, pairs_from, row}
use Rattle.kc_graph.proofs.Buckets.{row_past}
use Rattle.kc_graph.proofs.RowsLemmas.{contains-edges, pair_exact, pair_total, same_pair, tied_pair}
use Rattle.kc_keeper.specs.Bulk.{AreEdgesFrom}

-- a list of pairs as a set
abbrev pub set_of : List (ℕ × ℕ) → FinSet pair_cmp
set_of ps = from_list ps

-- a set that has something is not empty
some-len : (s : FinSet pair_cmp) (p : ℕ × ℕ) → contains s p ≡ true → 0 < len s
some-len s p there = elim (cases_eq (len s) 0) [
  | inl none ↦ absurd (true≢false (sym there ∙ (ap (λ (t : FinSet pair_cmp). contains t p) (empty_of_len s none) ∙ contains-empty pair_cmp p)))
  | inr some ↦ omega arith
]

-- a set that has all pairs of a list is no smaller than the set of the list
pub len-within : (ps : List (ℕ × ℕ)) (s : FinSet pair_cmp) → ((q : ℕ × ℕ) → contains (set_of ps) q ≡ true → contains s q ≡ true) → len (set_of ps) ≤ len s
len-within [] s within = omega (arith, len-empty pair_cmp)
len-within (p ∷ ps) s within =
    let rest : FinSet pair_cmp = set_of ps in
    let there : contains s p ≡ true = within p (contains-insert pair_total rest p p ∙ or_left _ _ (tied_pair p p refl)) in
    subst (λ (n : ℕ). n ≤ len s) (sym (len-insert pair_total rest p)) (elim (contains rest p) as
    (λ (b : Bool). contains rest p ≡ b → cond b (len rest) (len rest + 1) ≤ len s) [
      | true ↦ λ _. len-within ps s (λ q h. within q (contains-insert pair_total rest p q ∙ or_right (eq_by_cmp pair_cmp q p) _ h))
      | false ↦ λ lacks.
          let one : 0 < len s = some-len s p there in
          let less : len (remove s p) ≡ len s - 1 = len-remove pair_total s p ∙ ap (λ (b : Bool). cond b (len s - 1) (len s)) there in
          let small : len rest ≤ len (remove s p) = len-within ps (remove s p) (λ q h.
          let other : eq_by_cmp pair_cmp q p ≡ false =
          false_from_ne_true _ (λ t. true≢false (sym h ∙ (ap (contains rest) (same_pair q p t) ∙ lacks))) in
          contains-remove pair_total s p q
          ∙ and_from _ _ (not_from_false _ other) (within q (contains-insert pair_total rest p q ∙ or_right (eq_by_cmp pair_cmp q p) _ h))) in
          omega (arith, one, less, small)
    ] refl)

-- where it is no greater either, it is the set of the list
pub set-within : (ps : List (ℕ × ℕ)) (s : FinSet pair_cmp) → ((q : ℕ × ℕ) → contains (set_of ps) q ≡ true → contains s q ≡ true)
    → len s ≤ len (set_of ps) → set_of ps ≡ s
set-within ps s within few = same_set pair_total pair_exact _ _ (λ q. elim (cases_Bool (contains (set_of ps) q)) [
  | inl there ↦ there ∙ sym (within q there)
  | inr lacks ↦ lacks ∙ sym (false_from_ne_true (contains s q) (λ has.
      let more : len (set_of (q ∷ ps)) ≡ len (set_of ps) + 1 =
      len-insert pair_total (set_of ps) q ∙ ap (λ (b : Bool). cond b (len (set_of ps)) (len (set_of ps) + 1)) lacks in
      let most : len (set_of (q ∷ ps)) ≤ len s = len-within (q ∷ ps) s (λ p h. elim (cases_Bool (eq_by_cmp pair_cmp p q)) [
        | inl same ↦ ap (contains s) (same_pair p q same) ∙ has
        | inr other ↦ within p
            (sym (contains-insert pair_total (set_of ps) q p ∙ ap (λ (b : Bool). b || contains (set_of ps) p) other) ∙ h)
      ]) in
      absurd (omega (arith, more, most, few))))
])

-- the pairs of one row more
pairs-push : (first : ℕ) (rows : List (List ℕ)) (r : List ℕ)
    → pairs_from first (rows ++ r ∷ []) ≡ pairs_from first rows ++ edges_to_greater (first + length rows) r
pairs-push first [] r =
    let last : first ≡ first + 0 = omega arith in
    append-nil (edges_to_greater first r) ∙ ap (λ (v : ℕ). edges_to_greater v r) last
pairs-push first (x ∷ rows) r =
    let last : first + 1 + length rows ≡ first + suc (length rows) = omega arith in
    ap (λ (ps : List (ℕ × ℕ)). edges_to_greater first x ++ ps) (pairs-push (first + 1) rows r ∙ ap
    (λ (v : ℕ). pairs_from (first + 1) rows ++ edges_to_greater v r) last)
    ∙ sym (append_assoc (edges_to_greater first x) (pairs_from (first + 1) rows) (edges_to_greater (first + suc (length rows)) r))

-- the edges of one vertex more
pub more-edges : {g : SimpleGraph} {n : ℕ} {pairs more : List (ℕ × ℕ)} (ws : List ℕ) → AreEdgesFrom g n pairs → AreNeighbours g n ws
    → more ≡ pairs ++ edges_to_greater n ws → AreEdgesFrom g (n + 1) more
more-edges {g} {n} {pairs} {more} ws e near is =
    let rows : List (List ℕ) = e.rows in
    let here : n ≡ 0 + length rows = omega (arith, e.count) in
    record {
      rows = rows ++ ws ∷ [];
      count = omega (arith, e.count, length-append rows (ws ∷ []));
      near = λ v l. elim (cases_lt v n) [
        | inl low ↦ subst (AreNeighbours g v) (sym (get_or_append_left rows (ws ∷ []) [] v (omega (arith, low, e.count)))) (e.near v low)
        | inr high ↦
            let v-is : v ≡ n = omega (arith, l, high) in
            let first : v - n ≡ 0 = omega arith in
            let last : row (rows ++ ws ∷ []) v ≡ ws =
            get_or-append_right rows (ws ∷ []) n v [] e.count high ∙ ap (λ (k : ℕ). get_or (ws ∷ []) k []) first in
            subst (AreNeighbours g v) (sym last) (subst (λ (x : ℕ). AreNeighbours g x ws) (sym v-is) near)
      ];
      pairs_are =
          is ∙ (ap (λ (ps : List (ℕ × ℕ)). ps ++ edges_to_greater n ws) e.pairs_are
          ∙ (ap (λ (v : ℕ). pairs_from 0 rows ++ edges_to_greater v ws) here ∙ sym (pairs-push 0 rows ws)));
    }

-- a pair is listed where its lesser end comes first, and has the other one in its row
contains-rows : (rows : List (List ℕ)) (a b : ℕ) → contains (set_of (pairs_from 0 rows)) (a, b) ≡ (ltb a b && member b (row rows a))
unfolding graph_of
contains-rows rows a b = contains-edges rows a b

module _ {g : SimpleGraph} {pairs : List (ℕ × ℕ)} (e : AreEdgesFrom g g.size pairs) where
  -- so it is with the listed edges of a graph
  contains-listed : (a b : ℕ) → contains (set_of pairs) (a, b) ≡ (ltb a b && member b (row e.rows a))
  contains-listed a b = ap (λ (ps : List (ℕ × ℕ)). contains (set_of ps) (a, b)) e.pairs_are ∙ contains-rows e.rows a b

  -- a listed pair has two ends of the graph, the lesser one first, and is an edge
  pub listed-parts : (a b : ℕ) → contains (set_of pairs) (a, b) ≡ true → (a < b) × (b < g.size) × (contains g.edges (a, b) ≡ true)
  listed-parts a b h =
      let parts = and_parts (ltb a b) (member b (row e.rows a)) (sym (contains-listed a b) ∙ h) in
      let less : a < b = ltb-true a b parts.0 in
      elim (cases_lt a g.size) [
        | inl low ↦
            let near : AreNeighbours g a (row e.rows a) = e.near a low in
            let adj : adjacent g a b ≡ true = sym (near.exact b) ∙ parts.1 in
            (less, near.within b parts.1, rw (lt-ltb a b less) at adj)
        | inr past ↦ absurd (false≢true (sym (ap (member b) (row_past e.rows a (omega (arith, past, e.count)))) ∙ parts.1))
      ]

  -- what is listed is an edge
  pub listed-within : (q : ℕ × ℕ) → contains (set_of pairs) q ≡ true → contains g.edges q ≡ true
  listed-within q h = (listed-parts q.0 q.1 h).2

  -- each listed pair has its lesser end first, and two ends of the graph
  pub listed-ends : All (λ p. (p.0 < p.1) × (p.1 < g.size)) pairs
  listed-ends = All-from_get_or (λ (p : ℕ × ℕ). (p.0 < p.1) × (p.1 < g.size)) pairs (0, 0) (λ i l.
      let p : ℕ × ℕ = get_or pairs i (0, 0) in
      let there : contains (set_of pairs) p ≡ true =
      contains-from_list pair_total pairs p ∙ list_any_at (eq_by_cmp pair_cmp p) pairs i (0, 0) l (tied_pair p p refl) in
      let parts = listed-parts p.0 p.1 there in
      (parts.0, parts.1))

  -- the listed edges join the vertices that the graph joins
  pub listed-adjacent : (v w : ℕ) → v < w → v < g.size → adjacent (record { size = g.size; edges = set_of pairs }) v w ≡ adjacent g v w
  listed-adjacent v w less low =
      let yes : ltb v w ≡ true = lt-ltb v w less in
      let near : AreNeighbours g v (row e.rows v) = e.near v low in
      ap (λ (b : Bool). cond b (contains (set_of pairs) (v, w)) (ltb w v && contains (set_of pairs) (w, v))) yes
      ∙ (contains-listed v w ∙ (ap (λ (b : Bool). b && member w (row e.rows v)) yes ∙ near.exact w))
