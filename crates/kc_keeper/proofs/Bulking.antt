-- Updates that add, each looked at in the graph of before alone: where the new graph has as many edges more as there are updates that
-- change the graph of before, no edge is added twice, and so each changes the graph of its turn too.
use Rattle.std.proofs.Common.{◌≡◌, ◌≤◌, ◌<◌, ◌+◌, ◌++◌, ℕ, Bool, true, false, cond, not, ◌&&◌, ◌||◌, List, [], ◌∷◌, length}
use Rattle.std.proofs.Common.{refl, sym, ◌∙◌, ap, ap₂, subst, inl, inr, arith, lt-ltb}
use Rattle.std.specs.Prelude.{All}
use Rattle.std.specs.List.{list_any}
use Rattle.std.specs.Ordering.{eq_by_cmp}
use Rattle.std.specs.FinSet.{FinSet, contains, contains-from_list, contains-insert, len, len-insert, same_set}
use Rattle.std.proofs.lemmas.Bool.{cases_Bool, false_from_ne_true, not-false, true≢false}
use Rattle.std.proofs.lemmas.List.Elements.{All-append, All-filter, All-map, All-tail, All-weaker}
use Rattle.std.proofs.lemmas.List.Folds.{list_any-append}
use Rattle.kc_graph.specs.SimpleGraph.{SimpleGraph, adjacent, pair_cmp}
use Rattle.kc_graph.specs.Edges.{edge, with_edge, without_edge}
use Rattle.kc_graph.specs.Plans.{is_applied, updated}
use Rattle.kc_graph.specs.declared.update.Update.{Update}
use Rattle.kc_graph.proofs.Ends.{contains-edge, joins}
use Rattle.kc_graph.proofs.EdgeChanges.{adjacent-with}
use Rattle.kc_graph.proofs.RowsLemmas.{pair_exact, pair_total, same_pair}
use Rattle.kc_keeper.specs.Batches.{applied_in_turn, count_applied, made_in_turn}
use Rattle.kc_keeper.specs.Bulk.{AllAdd, AreEdgesFrom, IsToldAlone, applied_alone, pairs_of}
use Rattle.kc_keeper.specs.Causes.{EndsAreWithin}
use Rattle.kc_keeper.specs.Telling.{IsToldOf}
use Rattle.kc_keeper.specs.declared.changes.Changes.{Changes}
use Rattle.kc_keeper.proofs.InTurn.{size-made}
use Rattle.kc_keeper.proofs.Listing.{len-within, listed-adjacent, listed-ends, listed-within, set-within, set_of}

-- a graph of this size with these edges
abbrev pub graph : ℕ → FinSet pair_cmp → SimpleGraph
graph n edges = record { size = n; edges = edges }

-- whether the pair is one of the listed
abbrev one_of : ℕ × ℕ → List (ℕ × ℕ) → Bool
one_of q ps = list_any (eq_by_cmp pair_cmp q) ps

-- 1 or 0
abbrev bit : Bool → ℕ
bit b = cond b 1 0

-- the first one of updates that add adds
adds-first : (u : Update) (us : List Update) → AllAdd (u ∷ us) → u.add ≡ true
adds-first u us all = all 0 u (omega arith)

-- and so do the others
adds-rest : (u : Update) (us : List Update) → AllAdd (u ∷ us) → AllAdd us
adds-rest u us all = All-tail (λ (x : Update). x.add ≡ true) u us all

-- the ends of an update differ
apart : (u : Update) → u.u ≡ u.v → ⊥
apart u same = let less : u.u < u.v = u.ordered in omega arith

-- an update that adds gives the graph its edge
added-is : (u : Update) (g : SimpleGraph) → u.add ≡ true → updated u g ≡ with_edge g u.u u.v
added-is u g adds = ap (λ (b : Bool). cond b (with_edge g u.u u.v) (without_edge g u.u u.v)) adds

-- it changes the graph where its ends are not joined
applied-is : (u : Update) (g : SimpleGraph) → u.add ≡ true → is_applied u g ≡ not (adjacent g u.u u.v)
applied-is u g adds = ap (λ (b : Bool). cond b (not (adjacent g u.u u.v)) (adjacent g u.u u.v)) adds

-- its edge is the pair of its ends
pair-is : (u : Update) → edge u.u u.v ≡ (u.u, u.v)
pair-is u = ap (λ (b : Bool). cond b (u.u, u.v) (u.v, u.u)) (lt-ltb u.u u.v u.ordered)

-- the second of three alternatives may be asked first
or-turned : (a b c : Bool) → ((a || b) || c) ≡ (b || (a || c))
or-turned true true c = refl
or-turned true false c = refl
or-turned false b c = refl

-- an alternative that never holds changes nothing
or-none : (a : Bool) → a ≡ (a || false)
or-none true = refl
or-none false = refl

-- after updates that add, the graph has what it had, and their edges
made-has : (us : List Update) (g : SimpleGraph) (q : ℕ × ℕ) → AllAdd us
    → contains (made_in_turn g us).edges q ≡ (contains g.edges q || one_of q (pairs_of us))
made-has [] g q all = or-none (contains g.edges q)
made-has (u ∷ us) g q all =
    let now : contains (updated u g).edges q ≡ (eq_by_cmp pair_cmp q (u.u, u.v) || contains g.edges q) =
    ap (λ (x : SimpleGraph). contains x.edges q) (added-is u g (adds-first u us all)) ∙ contains-insert pair_total g.edges (edge u.u u.v) q
    ∙ ap (λ (p : ℕ × ℕ). eq_by_cmp pair_cmp q p || contains g.edges q) (pair-is u) in
    made-has us (updated u g) q (adds-rest u us all) ∙ ap (λ (b : Bool). b || one_of q (pairs_of us)) now
    ∙ or-turned (eq_by_cmp pair_cmp q (u.u, u.v)) (contains g.edges q) (one_of q (pairs_of us))

-- of what the graph does not have, their edges are those of the updates that change it alone
new-pairs : (us : List Update) (g : SimpleGraph) (q : ℕ × ℕ) → AllAdd us → contains g.edges q ≡ false
    → one_of q (pairs_of us) ≡ one_of q (pairs_of (applied_alone g us))
new-pairs [] g q all lacks = refl
new-pairs (u ∷ us) g q all lacks =
    let rest : one_of q (pairs_of us) ≡ one_of q (pairs_of (applied_alone g us)) = new-pairs us g q (adds-rest u us all) lacks in
    elim (is_applied u g) as (λ (b : Bool). is_applied u g ≡ b → (eq_by_cmp pair_cmp q (u.u, u.v) || one_of q (pairs_of us))
    ≡ one_of q (pairs_of (cond b (u ∷ applied_alone g us) (applied_alone g us)))) [
      | true ↦ λ _. ap (λ (b : Bool). eq_by_cmp pair_cmp q (u.u, u.v) || b) rest
      | false ↦ λ no.
          let there : adjacent g u.u u.v ≡ true = not-false (adjacent g u.u u.v) (sym (applied-is u g (adds-first u us all)) ∙ no) in
          let had : contains g.edges (u.u, u.v) ≡ true =
          ap (contains g.edges) (sym (pair-is u)) ∙ (contains-edge g u.u u.v (apart u) ∙ there) in
          let other : eq_by_cmp pair_cmp q (u.u, u.v) ≡ false =
          false_from_ne_true _ (λ t. true≢false (sym (ap (contains g.edges) (same_pair q (u.u, u.v) t) ∙ had) ∙ lacks)) in
          ap (λ (b : Bool). b || one_of q (pairs_of us)) other ∙ rest
    ] refl

-- what the graph had, and the edges of updates, is what it had, and those of the updates that change it alone
same-pairs : (us : List Update) (g : SimpleGraph) (q : ℕ × ℕ) → AllAdd us
    → (contains g.edges q || one_of q (pairs_of us)) ≡ (contains g.edges q || one_of q (pairs_of (applied_alone g us)))
same-pairs us g q all = elim (cases_Bool (contains g.edges q)) [
  | inl has ↦ ap (λ (b : Bool). b || one_of q (pairs_of us)) has ∙ sym (ap (λ (b : Bool). b || one_of q (pairs_of (applied_alone g us))) has)
  | inr lacks ↦ ap (λ (b : Bool). contains g.edges q || b) (new-pairs us g q all lacks)
]

-- the graph after updates that add is made of the pairs of before and of those that change it alone
made-is : (us : List Update) (g : SimpleGraph) (pairs : List (ℕ × ℕ)) → g.edges ≡ set_of pairs → AllAdd us
    → made_in_turn g us ≡ graph g.size (set_of (pairs ++ pairs_of (applied_alone g us)))
made-is us g pairs is all =
    let more : List (ℕ × ℕ) = pairs_of (applied_alone g us) in
    let edges : (made_in_turn g us).edges ≡ set_of (pairs ++ more) = same_set pair_total pair_exact _ _ (λ q.
    made-has us g q all ∙ (same-pairs us g q all ∙ sym (contains-from_list pair_total (pairs ++ more) q
    ∙ (list_any-append (eq_by_cmp pair_cmp q) pairs more
    ∙ ap (λ (b : Bool). b || one_of q more) (sym (contains-from_list pair_total pairs q) ∙ ap (λ (s : FinSet pair_cmp). contains s q) (sym is)))))) in
    ap₂ graph (size-made g us) edges

-- one more, or as many as before
counted : (there : Bool) (n : ℕ) → cond there n (n + 1) ≡ n + bit (not there)
counted true n = omega arith
counted false n = omega arith

-- an update that adds makes the edges one more where it is applied
longer : (u : Update) (g : SimpleGraph) → u.add ≡ true → len (updated u g).edges ≡ len g.edges + bit (u.add && is_applied u g)
longer u g adds =
    let applied : (u.add && is_applied u g) ≡ not (adjacent g u.u u.v) = ap (λ (b : Bool). b && is_applied u g) adds ∙ applied-is u g adds in
    ap (λ (x : SimpleGraph). len x.edges) (added-is u g adds)
    ∙ (len-insert pair_total g.edges (edge u.u u.v)
    ∙ (ap (λ (b : Bool). cond b (len g.edges) (len g.edges + 1)) (contains-edge g u.u u.v (apart u))
    ∙ (counted (adjacent g u.u u.v) (len g.edges) ∙ ap (λ (b : Bool). len g.edges + bit b) (sym applied))))

-- updates that add make the edges more by those that are applied in turn
made-len : (us : List Update) (g : SimpleGraph) → AllAdd us → len (made_in_turn g us).edges ≡ len g.edges + count_applied (λ u. u.add) g us
made-len [] g all = omega arith
made-len (u ∷ us) g all = omega (arith, made-len us (updated u g) (adds-rest u us all), longer u g (adds-first u us all))

-- the second graph has the edges of the first
abbrev HasEdgesOf : SimpleGraph → SimpleGraph → Type 0
HasEdgesOf g h = (v w : ℕ) → adjacent g v w ≡ true → adjacent h v w ≡ true

-- so it does with one more
has-still : (u : Update) (g h : SimpleGraph) → u.add ≡ true → HasEdgesOf g h → HasEdgesOf g (updated u h)
has-still u g h adds has v w there =
    ap (λ (x : SimpleGraph). adjacent x v w) (added-is u h adds)
    ∙ (adjacent-with h u.u u.v v w (apart u) ∙ ap (λ (b : Bool). b || joins u.u u.v v w) (has v w there))

-- a bit is at most 1
bit-most : (b : Bool) → bit b ≤ 1
bit-most true = omega arith
bit-most false = omega arith

-- an update that is applied to the graph with more edges is applied to the other too
bit-less : (u : Update) (g h : SimpleGraph) → u.add ≡ true → HasEdgesOf g h → bit (u.add && is_applied u h) ≤ bit (is_applied u g)
bit-less u g h adds has =
    let here : (u.add && is_applied u h) ≡ not (adjacent h u.u u.v) = ap (λ (b : Bool). b && is_applied u h) adds ∙ applied-is u h adds in
    let before : is_applied u g ≡ not (adjacent g u.u u.v) = applied-is u g adds in
    elim (cases_Bool (adjacent g u.u u.v)) [
      | inl there ↦
          let none : bit (u.add && is_applied u h) ≡ 0 = ap bit (here ∙ ap not (has u.u u.v there)) in
          omega (arith, none)
      | inr lacks ↦
          let one : bit (is_applied u g) ≡ 1 = ap bit (before ∙ ap not lacks) in
          omega (arith, one, bit-most (u.add && is_applied u h))
    ]

-- tests with the same bit are the same
bit-same : (a b : Bool) → bit a ≡ bit b → a ≡ b
bit-same true true e = refl
bit-same true false e = absurd (omega (arith, e))
bit-same false true e = absurd (omega (arith, e))
bit-same false false e = refl

-- a list that may have one more
longer-list : (b : Bool) (u : Update) (us : List Update) → length (cond b (u ∷ us) us) ≡ bit b + length us
longer-list true u us = omega arith
longer-list false u us = omega arith

-- no more are applied in turn than alone
fewer-in_turn : (us : List Update) (g h : SimpleGraph) → AllAdd us → HasEdgesOf g h → count_applied (λ u. u.add) h us ≤ length (applied_alone g us)
fewer-in_turn [] g h all has = omega arith
fewer-in_turn (u ∷ us) g h all has =
    let adds : u.add ≡ true = adds-first u us all in
    omega (
      arith,
      fewer-in_turn us g (updated u h) (adds-rest u us all) (has-still u g h adds has),
      bit-less u g h adds has,
      longer-list (is_applied u g) u (applied_alone g us),
    )

-- where as many are applied in turn as alone, they are the same
same-in_turn : (us : List Update) (g h : SimpleGraph) → AllAdd us → HasEdgesOf g h → count_applied (λ u. u.add) h us ≡ length (applied_alone g us)
    → applied_in_turn h us ≡ applied_alone g us
same-in_turn [] g h all has e = refl
same-in_turn (u ∷ us) g h all has e =
    let adds : u.add ≡ true = adds-first u us all in
    let now : HasEdgesOf g (updated u h) = has-still u g h adds has in
    let rest-less : count_applied (λ x. x.add) (updated u h) us ≤ length (applied_alone g us) = fewer-in_turn us g (updated u h) (adds-rest u us all) now in
    let less : bit (u.add && is_applied u h) ≤ bit (is_applied u g) = bit-less u g h adds has in
    let long : length (applied_alone g (u ∷ us)) ≡ bit (is_applied u g) + length (applied_alone g us) =
    longer-list (is_applied u g) u (applied_alone g us) in
    let whole : bit (u.add && is_applied u h) + count_applied (λ x. x.add) (updated u h) us ≡ length (applied_alone g (u ∷ us)) = e in
    let first : is_applied u h ≡ is_applied u g =
    ap (λ (b : Bool). b && is_applied u h) (sym adds) ∙ bit-same (u.add && is_applied u h) (is_applied u g) (omega (arith, whole, long, less, rest-less)) in
    let rest : applied_in_turn (updated u h) us ≡ applied_alone g us =
    same-in_turn us g (updated u h) (adds-rest u us all) now (omega (arith, whole, long, less, rest-less)) in
    ap₂ (λ (b : Bool) (xs : List Update). cond b (u ∷ xs) xs) first rest

-- updates that add remove nothing
none-removed : (us : List Update) (g : SimpleGraph) → AllAdd us → count_applied (λ u. not u.add) g us ≡ 0
none-removed [] g all = refl
none-removed (u ∷ us) g all =
    let none : bit (not u.add && is_applied u g) ≡ 0 = ap (λ (b : Bool). bit (not b && is_applied u g)) (adds-first u us all) in
    omega (arith, none, none-removed us (updated u g) (adds-rest u us all))

-- graphs that join the ends of each update alike are changed by the same ones alone
same-alone : (us : List Update) (g h : SimpleGraph) (n : ℕ) → EndsAreWithin n us → ((v w : ℕ) → v < w → v < n → adjacent h v w ≡ adjacent g v w)
    → applied_alone h us ≡ applied_alone g us
same-alone [] g h n within alike = refl
same-alone (u ∷ us) g h n within alike =
    let low : u.v < n = within 0 u (omega arith) in
    let less : u.u < u.v = u.ordered in
    let first : is_applied u h ≡ is_applied u g = ap (λ (t : Bool). cond u.add (not t) t) (alike u.u u.v less (omega (arith, low, less))) in
    ap₂ (λ (b : Bool) (xs : List Update). cond b (u ∷ xs) xs) first (same-alone us g h n (All-tail (λ (x : Update). x.v < n) u us within) alike)

-- no more are applied than there are
most-alone : (us : List Update) (g : SimpleGraph) → length (applied_alone g us) ≤ length us
most-alone [] g = omega arith
most-alone (u ∷ us) g = omega (arith, most-alone us g, longer-list (is_applied u g) u (applied_alone g us), bit-most (is_applied u g))

-- The graph of all pairs has as many edges more as there are updates that change the graph of before alone.
module _ {g next : SimpleGraph} (us : List Update) {pairs : List (ℕ × ℕ)} (e : AreEdgesFrom g g.size pairs) (all : AllAdd us)
    (within : EndsAreWithin g.size us) (next-is : next ≡ graph g.size (set_of (pairs ++ pairs_of (applied_alone g us))))
    (more : len next.edges ≡ len g.edges + length (applied_alone g us)) where
  -- the graph of the pairs of before
  abbrev listed : SimpleGraph
  listed = graph g.size (set_of pairs)

  -- it is changed by the same updates alone
  alone : applied_alone listed us ≡ applied_alone g us
  alone = same-alone us g listed g.size within (listed-adjacent e)

  -- the updates in turn make the new graph of it
  in_turn : next ≡ made_in_turn listed us
  in_turn =
      next-is ∙ (ap (λ (xs : List Update). graph g.size (set_of (pairs ++ pairs_of xs))) (sym alone) ∙ sym (made-is us listed pairs refl all))

  -- so it has no fewer edges, and as many are applied in turn as alone
  counts : (len g.edges ≤ len (set_of pairs)) × (count_applied (λ u. u.add) listed us ≡ length (applied_alone listed us))
  counts =
      let long : len next.edges ≡ len (set_of pairs) + count_applied (λ u. u.add) listed us =
      ap (λ (x : SimpleGraph). len x.edges) in_turn ∙ made-len us listed all in
      let few : count_applied (λ u. u.add) listed us ≤ length (applied_alone listed us) = fewer-in_turn us listed listed all (λ v w there. there) in
      let small : len (set_of pairs) ≤ len g.edges = len-within pairs g.edges (listed-within e) in
      let same : length (applied_alone listed us) ≡ length (applied_alone g us) = ap length alone in
      (omega (arith, more, long, few, small, same), omega (arith, more, long, few, small, same))

  -- it is the graph of before
  listed-is : listed ≡ g
  listed-is = ap (graph g.size) (set-within pairs g.edges (listed-within e) counts.0)

  -- the new graph is the one after the updates in turn
  pub bulk-graph : next ≡ made_in_turn g us
  bulk-graph = in_turn ∙ ap (λ (x : SimpleGraph). made_in_turn x us) listed-is

  -- as many are applied in turn as alone
  bulk-count : count_applied (λ u. u.add) g us ≡ length (applied_alone g us)
  bulk-count = subst (λ (x : SimpleGraph). count_applied (λ u. u.add) x us ≡ length (applied_alone x us)) listed-is counts.1

  -- what is told of each alone is what is told of them in turn
  pub bulk-told : (changes : Changes) → IsToldAlone g us changes → IsToldOf g us changes
  bulk-told changes told = record {
    added = told.added ∙ sym bulk-count;
    removed = told.removed ∙ sym (none-removed us g all);
    applied = told.applied ∙ sym (same-in_turn us g g all (λ v w there. there) bulk-count);
    few = omega (arith, told.added, told.removed, most-alone us g);
  }

-- all pairs, those of before and those that are added, have their lesser end first, and two ends of the graph
pub pairs-within : (us : List Update) {g : SimpleGraph} {pairs : List (ℕ × ℕ)} → AreEdgesFrom g g.size pairs → EndsAreWithin g.size us
    → All (λ p. (p.0 < p.1) × (p.1 < g.size)) (pairs ++ pairs_of (applied_alone g us))
pairs-within us {g} {pairs} e within =
    let Is : ℕ × ℕ → Type 0 = λ p. (p.0 < p.1) × (p.1 < g.size) in
    let pair : Update → ℕ × ℕ = λ u. (u.u, u.v) in
    All-append Is pairs (pairs_of (applied_alone g us)) (listed-ends e) (All-map Is pair (applied_alone g us)
    (All-filter (λ (u : Update). is_applied u g) (λ (u : Update). Is (pair u)) us
    (All-weaker (λ (u : Update). u.v < g.size) (λ (u : Update). Is (pair u)) (λ u low. (u.ordered, low)) us within)))
