-- A graph with spare vertices: its core numbers and layers are those of the graph without them, which goes on as the edges change.
use Rattle.std.proofs.Common.{◌≡◌, ◌≤◌, ◌<◌, ◌-◌, ℕ, zero, suc, Bool, true, false, cond, not, ◌&&◌, ◌||◌, List, [], ◌∷◌, length, take, get_or, refl}
use Rattle.std.proofs.Common.{sym, ap, ◌∙◌, subst, inl, inr, arith, lt-ltb, Option, Some, None, Vec, Global}
use Rattle.std.specs.Prelude.{◌==◌, All, Err, Ok, Result, count_by, fold, is_some, max, nat_le, nat_lt, slice_index, unwrap_or}
use Rattle.std.specs.List.{list_any}
use Rattle.std.specs.Ordering.{eq_by_cmp}
use Rattle.std.specs.FinSet as set
use Rattle.std.proofs.lemmas.Bool.{and_parts, cases_Bool, cases_lt, false≢true, or_cases, true≢false}
use Rattle.std.proofs.lemmas.List.{get_or-take, get_or_past, length-take-le}
use Rattle.std.proofs.lemmas.List.Elements.{All-head, All-nil, All-tail, All-take, All-weaker}
use Rattle.kc_lists.specs.Lists.{below}
use Rattle.kc_lists.proofs.Counting.{below-member, count-agree, count-no}
use Rattle.kc_graph.specs.Core.{AreCoreNumbers, IsCoreNumber, greatest}
use Rattle.kc_graph.specs.Edges.{edge, with_edge, without_edge}
use Rattle.kc_graph.specs.Growing.{HasItsEnds, grown, with_vertices}
use Rattle.kc_graph.specs.Lawful.{Ranked}
use Rattle.kc_graph.specs.Plans.{updated}
use Rattle.kc_graph.specs.SimpleGraph.{SimpleGraph, adjacent, pair_cmp}
use Rattle.kc_graph.specs.declared.update.Update.{Update}
use Rattle.kc_graph.proofs.Existence.{certificate_exists}
use Rattle.kc_graph.proofs.Grown.{certified-more, graph-grown, length-with_more, new-with_more, old-with_more}
use Rattle.kc_graph.proofs.Law.{adjacent-sym, certified-core_numbers}
use Rattle.kc_graph.proofs.RowsLemmas.{pair_total, same_pair}
use Rattle.kc_tally.specs.Layers.{AreLayers, is_left_at, left_at}
use Rattle.kc_keeper.specs.Batches.{made_in_turn, updates_made}
use Rattle.kc_keeper.specs.Cores.{AreCoreChanges, IsCoreChange}
use Rattle.kc_keeper.specs.declared.changes.CoreChange.{CoreChange}
use Rattle.kc_keeper.specs.declared.fault.ApplyFault.{ApplyFault}
use Rattle.kc_keeper.specs.declared.fault.ApplyFault.TheVariants.{NoMemory, NoVertex}
use Rattle.kc_watch.specs.Accounts.{core_numbers_of, layers_of, top_of}
use Rattle.kc_watch.specs.Room.{AreEdgesBelow, HasRoom, layers_in}
use Rattle.kc_stream.specs.Gathering.{IsPairBelow}
use Rattle.kc_watch.proofs.Accounts.{layers-alone, numbers-alone, numbers-are, top-is}

-- where the edges are between vertices, so are their ends
ends-from : (n : ℕ) (g : SimpleGraph) → AreEdgesBelow n g.edges → HasItsEnds (with_vertices n g)
ends-from n g h v w near =
    elim (nat_lt v w) as (λ (b : Bool). cond b (set.contains g.edges (v, w)) (nat_lt w v && set.contains g.edges (w, v)) ≡ true → v < n) [
      | true ↦ λ there. let (less, low) = h (v, w) there in omega (arith, less, low)
      | false ↦ λ there. (h (w, v) (and_parts (nat_lt w v) (set.contains g.edges (w, v)) there).1).1
    ] near

-- Core numbers and layers. -----------------------------------------------------------------------------------

-- with vertices more, each vertex of before has the number that it had, and the others have 0
numbers-grown : (g : SimpleGraph) (n : ℕ) → HasItsEnds g → g.size ≤ n
    → (v : ℕ) → slice_index (core_numbers_of (with_vertices n g)) v ≡ slice_index (core_numbers_of g) v
numbers-grown g n ends more v =
    let (core, order, certifies) = certificate_exists g in
    let s : Ranked = record { graph = g; core = core; order = order } in
    let are : AreCoreNumbers (grown n s).graph (grown n s).core =
    certified-core_numbers (grown n s).graph (grown n s).core (grown n s).order (certified-more (n - g.size) s ends certifies).0 in
    let same : (grown n s).core ≡ core_numbers_of (with_vertices n g) =
    numbers-alone (with_vertices n g) (grown n s).core (subst (λ (h : SimpleGraph). AreCoreNumbers h (grown n s).core) (graph-grown n s more) are) in
    ap (λ (l : List ℕ). get_or l v 0) (sym same) ∙ elim (cases_lt v (length core)) [
      | inl low ↦ old-with_more (n - g.size) s v low
      | inr high ↦ elim (cases_lt v n) [
        | inl there ↦
            new-with_more (n - g.size) s v high (omega (arith, certifies.one_each)) ∙ sym (get_or_past core v 0 high)
        | inr past ↦
            get_or_past (grown n s).core v 0 (omega (arith, length-with_more (n - g.size) s, certifies.one_each))
            ∙ sym (get_or_past core v 0 high)
      ]
    ]

-- so it is where edges are between the vertices of before
pub numbers-more : (n m : ℕ) (g : SimpleGraph) → AreEdgesBelow n g.edges → n ≤ m
    → (v : ℕ) → slice_index (core_numbers_of (with_vertices m g)) v ≡ slice_index (core_numbers_of (with_vertices n g)) v
numbers-more n m g h more = numbers-grown (with_vertices n g) m (ends-from n g h) more

-- lists that are alike but for zeros behind them have the same greatest number, and so have both beside a number more
greatest-same : (xs ys : List ℕ) (d : ℕ) → ((v : ℕ) → get_or xs v 0 ≡ get_or ys v 0) → fold (λ n c. max n c) d xs ≡ fold (λ n c. max n c) d ys
greatest-same [] [] d h = refl
greatest-same [] (y ∷ ys) d h = let e : d ≡ max d y = omega (arith, h 0) in e ∙ greatest-same [] ys (max d y) (λ v. h (suc v))
greatest-same (x ∷ xs) [] d h = greatest-same xs [] (max d x) (λ v. h (suc v)) ∙ (let e : max d x ≡ d = omega (arith, h 0) in e)
greatest-same (x ∷ xs) (y ∷ ys) d h =
    greatest-same xs ys (max d x) (λ v. h (suc v)) ∙ ap (λ (m : ℕ). fold (λ n c. max n c) (max d m) ys) (h 0)

module _ (g : SimpleGraph) (n : ℕ) (fits : n ≤ g.size) (edges : AreEdgesBelow n g.edges) where
  -- each end of an edge is a vertex that is used
  ends : HasItsEnds (with_vertices n g)
  ends = ends-from n g edges

  -- the graph without spare vertices
  abbrev used : SimpleGraph
  used = with_vertices n g

  -- the core numbers of both are the same
  pub spare-numbers : (v : ℕ) → slice_index (core_numbers_of g) v ≡ slice_index (core_numbers_of (with_vertices n g)) v
  spare-numbers = numbers-grown used g.size ends fits

  -- the first of the core numbers are those of the graph without spare vertices
  pub numbers-taken : (core : List ℕ) → AreCoreNumbers g core → AreCoreNumbers (with_vertices n g) (take n core)
  numbers-taken core are = record {
    one_each = length-take-le n core (omega (arith, fits, are.one_each));
    each = λ v low. subst (IsCoreNumber used v)
        (sym
        (get_or-take n core v 0 low ∙ ap (λ (l : List ℕ). get_or l v 0) (numbers-alone g core are) ∙ spare-numbers v))
        ((numbers-are used).each v low);
  }

  -- the greatest of the core numbers is that of the graph without spare vertices
  pub spare-top : (core : List ℕ) → AreCoreNumbers g core → greatest core ≡ top_of (with_vertices n g)
  spare-top core are = top-is g core are ∙ greatest-same (core_numbers_of g) (core_numbers_of (with_vertices n g)) 0 spare-numbers

  -- a spare vertex is nobody's neighbour
  nobody-beside : (v w : ℕ) → n ≤ w → adjacent g v w ≡ false
  nobody-beside v w high = elim (cases_Bool (adjacent g v w)) [
    | inl near ↦ absurd (omega (arith, ends w v (sym (adjacent-sym g v w) ∙ near), high))
    | inr f ↦ f
  ]

  -- who passes no test from `n` on is not counted there
  count-first : (p : ℕ → Bool) (m : ℕ) → n ≤ m → ((w : ℕ) → n ≤ w → p w ≡ false) → count_by p (below m) ≡ count_by p (below n)
  count-first p zero le none = ap (λ (k : ℕ). count_by p (below k)) (let e : 0 ≡ n = omega arith in e)
  count-first p (suc m) le none = elim (cases_lt m n) [
    | inl end ↦ ap (λ (k : ℕ). count_by p (below k)) (let e : suc m ≡ n = omega arith in e)
    | inr high ↦ count-no p m (below m) (none m high) ∙ count-first p m high none
  ]

  module _ (core rank : List ℕ) where
    abbrev beside : ℕ → ℕ → ℕ → Bool
    beside v step w = adjacent g v w && is_left_at core rank (slice_index core v) step w

    -- as many neighbours are left to a vertex that is used
    left-same : (step v : ℕ) → v < n → left_at g core rank step v ≡ left_at used (take n core) (take n rank) step v
    left-same step v low =
        count-first (beside v step) g.size fits (λ w high. ap (λ (b : Bool). b && is_left_at core rank (slice_index core v) step w) (nobody-beside v w high))
        ∙ count-agree (beside v step) (λ w. adjacent g v w && is_left_at (take n core) (take n rank) (slice_index (take n core) v) step w) (below n)
        (λ w m.
        let lw : w < n = below-member w n m in
        λ i. adjacent g v w && here (sym (get_or-take n core v 0 low) i) (sym (get_or-take n core w 0 lw) i) (sym (get_or-take n rank w 0 lw) i) step)
      where
        here : ℕ → ℕ → ℕ → ℕ → Bool
        here level number turn step = nat_lt level number || (level == number && nat_le step turn)

    -- the first of the layers are those of the graph without spare vertices
    pub layers-taken : AreLayers g core rank → AreLayers (with_vertices n g) (take n core) (take n rank)
    layers-taken h = record {
      one_each = length-take-le n rank (omega (arith, fits, h.one_each));
      taken = λ v low.
          let turn : get_or (take n rank) v 0 ≡ get_or rank v 0 = get_or-take n rank v 0 low in
          let few : left_at g core rank (get_or rank v 0) v ≤ get_or core v 0 = h.taken v (omega (arith, fits, low)) in
          omega (
            arith,
            few,
            left-same (get_or rank v 0) v low,
            ap (λ (t : ℕ). left_at used (take n core) (take n rank) t v) turn,
            get_or-take n core v 0 low,
          );
      not_before = λ v step low early.
          let turn : get_or (take n rank) v 0 ≡ get_or rank v 0 = get_or-take n rank v 0 low in
          let many : get_or core v 0 < left_at g core rank step v = h.not_before v step (omega (arith, fits, low)) (omega (arith, early, turn)) in
          omega (arith, many, left-same step v low, get_or-take n core v 0 low);
    }

  -- so they are its layers
  pub layers-first : (core rank : List ℕ) → AreCoreNumbers g core → AreLayers g core rank → take n rank ≡ layers_of (with_vertices n g)
  layers-first core rank are h = layers-alone used (take n core) (take n rank) (numbers-taken core are) (layers-taken core rank h)

-- Layers that are kept. ----------------------------------------------------------------------------------------

-- there is room where no layers are kept
pub room : (g : SimpleGraph) (n : ℕ) → n ≤ g.size → AreEdgesBelow n g.edges → HasRoom g n None
room g n fits edges = record { fits = fits; edges = edges; layered = λ l e. absurd (clash l e) }
  where
    clash : (l : List ℕ) → None ≡ Some l → ⊥
    clash l e = cc

-- so there is where the layers are kept that were found
pub room-layered : (g : SimpleGraph) (n : ℕ) (layer : List ℕ) → n ≤ g.size → AreEdgesBelow n g.edges → layer ≡ layers_of (with_vertices n g)
    → HasRoom g n (Some layer)
room-layered g n layer fits edges is = record {
  fits = fits;
  edges = edges;
  layered = λ l e. ap (λ (o : Option (List ℕ)). unwrap_or o []) (sym e) ∙ is;
}

-- there is room where the graph has more vertices that are spare
pub room-more : (g new : SimpleGraph) (n : ℕ) (layers : Option (List ℕ)) → new ≡ with_vertices new.size g → g.size ≤ new.size → HasRoom g n layers
    → HasRoom new n layers
room-more g new n layers is more h =
    let edges : new.edges ≡ g.edges = ap (λ (x : SimpleGraph). x.edges) is in
    record {
      fits = omega (arith, h.fits, more);
      edges = subst (AreEdgesBelow n) (sym edges) h.edges;
      layered = λ l e. h.layered l e ∙ ap (λ (x : SimpleGraph). layers_of (with_vertices n x)) (sym is);
    }

-- layers that are kept are those of the graph
pub layers-kept : (g : SimpleGraph) (n : ℕ) (layers : Option (Vec ℕ Global)) → HasRoom g n (layers_in layers) → is_some layers ≡ true
    → layers_in layers ≡ Some (layers_of (with_vertices n g))
layers-kept g n None h some = absurd (true≢false (sym some))
layers-kept g n (Some l) h some = ap (λ (x : List ℕ). Some x) (h.layered l.items refl)

-- Edges that change. -------------------------------------------------------------------------------------------

-- one of listed pairs is what holds of each
any-below : (n : ℕ) (ps : List (ℕ × ℕ)) (q : ℕ × ℕ) → All (IsPairBelow n) ps → list_any (eq_by_cmp pair_cmp q) ps ≡ true → IsPairBelow n q
any-below n [] q each h = absurd (false≢true h)
any-below n (p ∷ ps) q each h = elim (or_cases (eq_by_cmp pair_cmp q p) (list_any (eq_by_cmp pair_cmp q) ps) h) [
  | inl e ↦ subst (IsPairBelow n) (sym (same_pair q p e)) (All-head (IsPairBelow n) p ps each)
  | inr later ↦ any-below n ps q (All-tail (IsPairBelow n) p ps each) later
]

-- pairs of two vertices, listed, are edges between vertices
pub edges-listed : (n : ℕ) (ps : List (ℕ × ℕ)) → All (IsPairBelow n) ps → AreEdgesBelow n (set.from_list ps)
edges-listed n ps each q h = any-below n ps q each (sym (set.contains-from_list pair_total ps q) ∙ h)

-- more vertices have no edges
pub edges-more : (n m : ℕ) (edges : set.FinSet pair_cmp) → n ≤ m → AreEdgesBelow n edges → AreEdgesBelow m edges
edges-more n m edges more h q there = let (less, low) = h q there in (less, omega (arith, low, more))

-- an update between two vertices leaves it so
edges-updated : (n : ℕ) (g : SimpleGraph) (u : Update) → u.v < n → AreEdgesBelow n g.edges → AreEdgesBelow n (updated u g).edges
edges-updated n g u low h q there =
    let e : ℕ × ℕ = edge u.u u.v in
    let e-is : edge u.u u.v ≡ (u.u, u.v) = ap (λ (b : Bool). let p : ℕ × ℕ = cond b (u.u, u.v) (u.v, u.u) in p) (lt-ltb u.u u.v u.ordered) in
    let Has : Bool → Type 0 = λ (b : Bool). let x : SimpleGraph = cond b (with_edge g u.u u.v) (without_edge g u.u u.v) in set.contains x.edges q ≡ true in
    elim (cases_Bool u.add) [
      | inl add ↦
          let now : (eq_by_cmp pair_cmp q e || set.contains g.edges q) ≡ true = sym (set.contains-insert pair_total g.edges e q) ∙ subst Has add there in
          elim (or_cases (eq_by_cmp pair_cmp q e) (set.contains g.edges q) now) [
            | inl new ↦ subst (IsPairBelow n) (sym (same_pair q e new ∙ e-is)) (u.ordered, low)
            | inr before ↦ h q before
          ]
      | inr remove ↦
          let now : (not (eq_by_cmp pair_cmp q e) && set.contains g.edges q) ≡ true = sym (set.contains-remove pair_total g.edges e q)
          ∙ subst Has remove there in
          h q (and_parts (not (eq_by_cmp pair_cmp q e)) (set.contains g.edges q) now).1
    ]

-- so do several in turn
edges-made : (n : ℕ) (us : List Update) (g : SimpleGraph) → All (λ u. u.v < n) us → AreEdgesBelow n g.edges → AreEdgesBelow n (made_in_turn g us).edges
edges-made n [] g within h = h
edges-made n (u ∷ us) g within h =
    let Is : Update → Type 0 = λ (x : Update). x.v < n in
    edges-made n us (updated u g) (All-tail Is u us within) (edges-updated n g u (All-head Is u us within) h)

-- and the vertices stay the same
size-updated : (g : SimpleGraph) (u : Update) → (updated u g).size ≡ g.size
size-updated g u = elim u.add as (λ b. let h : SimpleGraph = cond b (with_edge g u.u u.v) (without_edge g u.u u.v) in h.size ≡ g.size) [
  | true ↦ refl
  | false ↦ refl
]

pub size-made : (us : List Update) (g : SimpleGraph) → (made_in_turn g us).size ≡ g.size
size-made [] g = refl
size-made (u ∷ us) g = size-made us (updated u g) ∙ size-updated g u

-- the updates that were made are among those of the batch
made-within : (n : ℕ) (result : Result (Unit {0}) ApplyFault) (us : List Update) → All (λ u. u.v < n) us → All (λ u. u.v < n) (updates_made result us)
made-within n (Ok _) us within = within
made-within n (Err (NoVertex place vertex)) us within = All-nil (λ u. u.v < n)
made-within n (Err (NoMemory made)) us within = All-take (λ u. u.v < n) made us within

-- however many updates of a batch were made, the edges are between the vertices that are used
pub edges-applied : (n : ℕ) (g new : SimpleGraph) (result : Result (Unit {0}) ApplyFault) (us : List Update) → new ≡ made_in_turn g (updates_made result us)
    → All (λ u. u.v < n) us → AreEdgesBelow n g.edges → AreEdgesBelow n new.edges
edges-applied n g new result us made within h =
    subst (λ (x : SimpleGraph). AreEdgesBelow n x.edges) (sym made) (edges-made n (updates_made result us) g (made-within n result us within) h)

-- numbers that stand for the same change alike
pub changes-same : (old old' new new' : List ℕ) (cs : List CoreChange) → ((v : ℕ) → slice_index old v ≡ slice_index old' v)
    → ((v : ℕ) → slice_index new v ≡ slice_index new' v) → AreCoreChanges old new cs → AreCoreChanges old' new' cs
changes-same old old' new new' cs before now h = record {
  ascending = h.ascending;
  each = All-weaker (IsCoreChange old new) (IsCoreChange old' new')
      (λ (c : CoreChange) is. record { before = is.before ∙ before c.vertex; now = is.now ∙ now c.vertex; differs = is.differs }) cs h.each;
  all = λ v ne. h.all v (λ e. ne (sym (before v) ∙ e ∙ now v));
}
