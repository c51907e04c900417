-- Rows without a fault, and their edges.
use Rattle.std.proofs.Common.{◌≡◌, ◌≢◌, ◌≤◌, ◌<◌, ◌+◌, ◌-◌, ◌∙◌, ℕ, suc, zero, Bool, true, false, cond, not, ◌&&◌, ◌||◌, List, [], ◌∷◌, ◌++◌, Option}
use Rattle.std.proofs.Common.{None, Some}
use Rattle.std.proofs.Common.{drop, length, get_or, ltb, eqb, refl, sym, ap, subst, inl, inr, arith, true≢false, ltb-true, lt-ltb, eqb-true, eq-eqb}
use Rattle.std.specs.Prelude.{All}
use Rattle.std.specs.List.{position}
use Rattle.std.specs.Option.{option_map}
use Rattle.std.proofs.lemmas.Bool.{cases_lt, and_from}
use Rattle.std.proofs.lemmas.List.Elements.{All-append, All-drop, All-map, All-take, All-weaker}
use Rattle.kc_lists.proofs.Backs.{behind-first}
use Rattle.kc_graph.specs.Bulk.{is_within}
use Rattle.kc_graph.specs.SimpleGraph.{SimpleGraph}
use Rattle.kc_graph.specs.declared.bulk.Edge.{Edge}
use Rattle.kc_graph.proofs.Bulking.{size-with}
use Rattle.kc_shard.specs.Shards.{or_fault, shard_row}
use Rattle.kc_shard.specs.declared.fault.ShardFault.{ShardFault}
use Rattle.kc_shard.specs.declared.fault.ShardFault.TheVariants.{WrongOffsetCount, FirstNotZero, Descending, WrongLastOffset, NotAVertex}
use Rattle.kc_c.specs.Csr.{AreRows, csr_fault, first_descent, graph_of_rows, row_edges, rows_edges}
use Rattle.kc_c.proofs.Strangers.{none_fails}

-- a test that does not stop at a place, and finds nothing behind it
not-here : (t : Bool) (place : ℕ) (rest : Option ℕ) → cond t (Some place) rest ≡ None → (t ≡ false) × (rest ≡ None)
not-here true place rest h = absurd (cc h)
not-here false place rest h = (refl, h)

-- where no number is less than the one before it, they ascend
none-descends : (place last : ℕ) (xs : List ℕ) → first_descent place last xs ≡ None → (k : ℕ) → k < length xs → get_or (last ∷ xs) k 0 ≤ get_or xs k 0
none-descends place last [] h k low = absurd (omega (arith, low))
none-descends place last (x ∷ xs) h zero low =
    let t = not-here (ltb x last) place (first_descent (place + 1) x xs) h in
    elim (cases_lt x last) [ inl down ↦ absurd (true≢false (sym (lt-ltb x last down) ∙ t.0)) | inr up ↦ up ]
none-descends place last (x ∷ xs) h (suc k) low =
    none-descends (place + 1) x xs (not-here (ltb x last) place (first_descent (place + 1) x xs) h).1 k (omega (arith, low))

-- what is none when something is made of it is none
unmapped : {A B : Type 0} (f : A → B) (o : Option A) → option_map f o ≡ None → o ≡ None
unmapped f None h = refl
unmapped f (Some x) h = absurd (cc h)

-- the tests that let rows through
rows-tests : (a b c : Bool) (x y : Option ShardFault)
    → cond a (cond b (or_fault x (cond c y (Some WrongLastOffset))) (Some FirstNotZero)) (Some WrongOffsetCount) ≡ None
    → (a ≡ true) × (b ≡ true) × (x ≡ None) × (c ≡ true) × (y ≡ None)
rows-tests false b c x y h = absurd (cc h)
rows-tests true false c x y h = absurd (cc h)
rows-tests true true c (Some fault) y h = absurd (cc h)
rows-tests true true false None y h = absurd (cc h)
rows-tests true true true None y h = (refl, refl, refl, refl, h)

-- rows without a fault are rows
pub faultless-rows : (vertices : ℕ) (offsets neighbours : List ℕ) → csr_fault vertices offsets neighbours ≡ None → AreRows vertices offsets neighbours
faultless-rows vertices offsets neighbours h =
    let t = rows-tests (eqb (length offsets) (vertices + 1)) (eqb (get_or offsets 0 0) 0) (eqb (get_or offsets vertices 0) (length neighbours))
    (option_map Descending (first_descent 0 0 offsets)) (option_map NotAVertex (position (λ w. not (ltb w vertices)) neighbours)) h in
    let count : length offsets ≡ vertices + 1 = eqb-true (length offsets) (vertices + 1) t.0 in
    let up = none-descends 0 0 offsets (unmapped Descending (first_descent 0 0 offsets) t.2) in
    record {
      one_more = count;
      first = eqb-true (get_or offsets 0 0) 0 t.1;
      ascending = λ v low. omega (arith, up (v + 1) (omega (arith, count, low)), behind-first 0 offsets v);
      last = eqb-true (get_or offsets vertices 0) (length neighbours) t.3;
      within = All-weaker (λ w. ltb w vertices ≡ true) (λ w. w < vertices) (λ w b. ltb-true w vertices b) neighbours
          (none_fails (λ w. ltb w vertices) neighbours (unmapped NotAVertex (position (λ w. not (ltb w vertices)) neighbours) t.4));
    }

module _ (vertices : ℕ) (offsets neighbours : List ℕ) (h : AreRows vertices offsets neighbours) where
  -- offsets never fall
  rises : (v k : ℕ) → v + k ≤ vertices → get_or offsets v 0 ≤ get_or offsets (v + k) 0
  rises v zero low = let same : v ≡ v + 0 = omega arith in omega (arith, ap (λ (x : ℕ). get_or offsets x 0) same)
  rises v (suc k) low =
      let next : v + k + 1 ≡ v + suc k = omega arith in
      omega (arith, ap (λ (x : ℕ). get_or offsets x 0) next, h.ascending (v + k) (omega (arith, low)), rises v k (omega (arith, low)))

  -- each row ends within the entries
  pub ends-within : (v : ℕ) → v < vertices → get_or offsets (v + 1) 0 ≤ length neighbours
  ends-within v low =
      let last : v + 1 + (vertices - (v + 1)) ≡ vertices = omega (arith, low) in
      omega (arith, ap (λ (x : ℕ). get_or offsets x 0) last, rises (v + 1) (vertices - (v + 1)) (omega (arith, low)), h.last)

-- one row more
pub rows-next : (offsets neighbours : List ℕ) (v : ℕ)
    → rows_edges offsets neighbours (v + 1) ≡ rows_edges offsets neighbours v ++ row_edges v (shard_row offsets neighbours v)
rows-next offsets neighbours v = let next : v + 1 ≡ suc v = omega arith in ap (rows_edges offsets neighbours) next

-- the graph of rows has the vertices that it is given
pub rows-size : (vertices : ℕ) (offsets neighbours : List ℕ) (g : SimpleGraph) → g ≡ graph_of_rows vertices offsets neighbours → g.size ≡ vertices
rows-size vertices offsets neighbours g is = ap (λ (h : SimpleGraph). h.size) is ∙ size-with vertices (rows_edges offsets neighbours vertices)

-- the edges of a row of vertices have vertices alone
row-within : (vertices v : ℕ) (entries : List ℕ) → v < vertices → All (λ w. w < vertices) entries
    → All (λ e. is_within vertices e ≡ true) (row_edges v entries)
row-within vertices v entries low all =
    All-map (λ (e : Edge). is_within vertices e ≡ true) (λ w. record { u = v; v = w }) entries
    (All-weaker (λ w. w < vertices) (λ w. (ltb v vertices && ltb w vertices) ≡ true)
    (λ w l. and_from (ltb v vertices) (ltb w vertices) (lt-ltb v vertices low) (lt-ltb w vertices l)) entries all)

-- and so have the edges of all rows
pub rows-within : (vertices : ℕ) (offsets neighbours : List ℕ) → All (λ w. w < vertices) neighbours → (n : ℕ) → n ≤ vertices
    → All (λ e. is_within vertices e ≡ true) (rows_edges offsets neighbours n)
rows-within vertices offsets neighbours all zero low = λ k d l. absurd (omega (arith, l))
rows-within vertices offsets neighbours all (suc n) low =
    All-append (λ (e : Edge). is_within vertices e ≡ true) (rows_edges offsets neighbours n) (row_edges n (shard_row offsets neighbours n))
    (rows-within vertices offsets neighbours all n (omega (arith, low)))
    (row-within vertices n (shard_row offsets neighbours n) (omega (arith, low))
    (All-take (λ w. w < vertices) _ _ (All-drop (λ w. w < vertices) _ neighbours all)))
