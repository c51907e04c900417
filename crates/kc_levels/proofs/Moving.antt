-- What a put of a vertex makes of levels.
use Rattle.std.proofs.Common.{◌⊎◌, ◌≡◌, ◌≢◌, ◌<◌, ◌≤◌, ◌+◌, ◌*◌, ℕ, zero, suc, Bool, true, List, [], ◌∷◌, ◌++◌, length, get_or, set, ltb, refl}
use Rattle.std.proofs.Common.{sym, ◌∙◌, ap, ap₂, subst, inl, inr, arith, true≢false, length-set}
use Rattle.std.proofs.lemmas.Bool.{cases_eq, lt-ltb, ltb-true, ltb-false, leb-true, leb-false, false≢true}
use Rattle.std.proofs.lemmas.List.{get_or-set_same, get_or-set_other, get_or_read}
use Rattle.kc_lists.specs.Lists.{member, without, prev_of, last_or}
use Rattle.kc_lists.proofs.Members.{member-head, member-tail, member-cases, member-append_right, not_member-parts, member-without, without-member}
use Rattle.kc_lists.proofs.Members.{member-last_or}
use Rattle.kc_lists.proofs.Counting.{member-filter, filter-member, Distinct-filter, member-get_or, pairs_from_Distinct, Contains-from_member}
use Rattle.kc_lists.proofs.Counting.{member-from_Contains}
use Rattle.kc_words.specs.VertexWord.{vertex_of}
use Rattle.kc_graph.specs.Certificate.{Enumerates}
use Rattle.kc_graph.specs.Plans.{put_between}
use Rattle.kc_cert.proofs.Final.{final-has}
use Rattle.kc_cert.proofs.Placing.{put_after-has}
use Rattle.kc_cert.proofs.Ordered.{order-distinct}
use Rattle.kc_table.specs.declared.view.Event.{Event}
use Rattle.kc_table.specs.Log.{Seen, TableName}
use Rattle.kc_table.specs.TableState.{TableState, state_of}
use Rattle.kc_table.specs.Legal.{Legal, last_entry, stamp_in}
use Rattle.kc_table.proofs.Listed.{Listed, list-stands}
use Rattle.kc_order.specs.Standing.{list_after}
use Rattle.kc_order.specs.Writers.{Puts}
use Rattle.kc_levels.specs.Heads.{level_part, parts_from, with_heads, vertices_of, put, under, up_to}
use Rattle.kc_levels.specs.Levels.{Levelled, levelled, AreLevels, Tallied, MayMove, MovesTo, Rises, size_of, state_in, number_of, stamp_at, unsealed_in}
use Rattle.kc_levels.proofs.Heading.{put-after, put-front, put-back, heads-without, parts-prev, levels-have}
use Rattle.kc_levels.proofs.Cuts.{prev_of-in}
use Rattle.kc_levels.proofs.Rising.{vertices-order, Rises-after, Rises-between}
use Rattle.kc_levels.proofs.Growing.{PutState, puts-state}

-- each head is among the parts
parts-head : (n k : ℕ) (part : ℕ → List ℕ) (from count : ℕ) → from ≤ k → k < from + count → member (n + k) (parts_from n part from count) ≡ true
parts-head n k part from zero low high = absurd (omega (arith, low, high))
parts-head n k part from (suc count) low high = elim (cases_eq from k) [
  | inl e ↦ ap (λ (j : ℕ). member (n + k) ((n + j) ∷ (part from ++ parts_from n part (suc from) count))) e
      ∙ member-head (n + k) (part from ++ parts_from n part (suc from) count)
  | inr ne ↦ member-tail (n + k) (n + from) (part from ++ parts_from n part (suc from) count)
      (member-append_right (n + k) (part from) (parts_from n part (suc from) count)
      (parts-head n k part (suc from) count (omega (arith, low, ne)) (omega (arith, high))))
]

-- the heads are in the list
pub head-in : (n k : ℕ) (order core : List ℕ) → k ≤ n → member (n + k) (with_heads n order core) ≡ true
unfolding with_heads
head-in n k order core l = parts-head n k (level_part core order) 0 (suc n) (omega arith) (omega (arith, l))

-- the vertices of a legal log's list
pub enumerates-listed : (s : Seen) → Legal s.table.shape s.table.opening s.log
    → Enumerates s.table.shape.fixed (vertices_of s.table.shape.fixed (list_after s.table s.log))
enumerates-listed s lawful =
    let n : ℕ = s.table.shape.fixed in
    let list : List ℕ = list_after s.table s.log in
    let h : Listed s.table.shape list = (list-stands s.table.shape s.table.opening s.log lawful).listed in
    let vertex : ℕ → Bool = λ x. ltb x n in
    record {
      below = λ i d l. ltb-true (get_or (vertices_of n list) i d) n
          (member-filter vertex (get_or (vertices_of n list) i d) list (member-get_or (vertices_of n list) i d l)).1;
      distinct = pairs_from_Distinct (vertices_of n list) (Distinct-filter vertex list h.distinct);
      complete = λ v l. Contains-from_member (vertices_of n list) v (filter-member vertex v list (h.vertices v l) (lt-ltb v n l));
    }

-- one put, where the log's table is the same
moved-at : (s : Seen) (log : List Event) (core core' : List ℕ) (open_ : Bool) (v p : ℕ) (order' : List ℕ) → AreLevels (levelled s core open_)
    → MayMove (levelled s core open_) v
    → Puts s (record { table = s.table; log = log }) v p → p < s.table.shape.items
    → put v p (with_heads s.table.shape.fixed (vertices_of s.table.shape.fixed (list_after s.table s.log)) core) ≡ with_heads s.table.shape.fixed order' core'
    → Rises core' order' → ((y : ℕ) → member y order' ≡ true → y < s.table.shape.fixed) → length core' ≡ length core
    → ((w : ℕ) → w ≢ v → get_or core' w 0 ≡ get_or core w 0) → get_or core' v 0 < s.table.shape.fixed
    → MovesTo (levelled s core open_) (levelled (record { table = s.table; log = log }) core' open_) v p order' core'
moved-at s log core core' open_ v p order' are may puts p-in list-is rises within long others low =
    let shape = s.table.shape in
    let n : ℕ = shape.fixed in
    let old : Levelled = levelled s core open_ in
    let now : Seen = record { table = s.table; log = log } in
    let t : TableState = state_of shape s.table.opening log in
    let vertex : v < n = may.vertex in
    let state : PutState shape (state_in old) t v =
    puts-state s log v p puts vertex in
    let low-all : (w : ℕ) → w < n → get_or core' w 0 < n = λ w l. elim (cases_eq w v) [
      | inl e ↦ omega (arith, low, ap (λ (k : ℕ). get_or core' k 0) e)
      | inr ne ↦ omega (arith, others w ne, are.low w l)
    ] in
    let here : list_after s.table log ≡ with_heads n order' core' = puts.list ∙ (ap (put v p) are.list ∙ list-is) in
    let order-is : vertices_of n (list_after s.table log) ≡ order' = ap (vertices_of n) here
    ∙ vertices-order n core' order' rises (λ y m. let l : y < n = within y m in (l, omega (arith, low-all y l))) in
    let stamp : (w : ℕ) → stamp_in shape t w ≡ stamp_at old w = λ w. ap (λ (z : ℕ). (vertex_of z).stamp) (state.words w) in
    let number : last_entry shape t ≡ number_of old = ap (λ es. shape.base + length es) state.entries in
    record {
      puts = puts;
      order_is = order-is;
      core_is = refl;
      open_is = refl;
      are = record {
        legal = puts.ends.legal;
        items = are.items;
        few = are.few;
        list = here ∙ ap (λ (o : List ℕ). with_heads n o core') (sym order-is);
        enumerates = enumerates-listed now puts.ends.legal;
        rising = subst (Rises core') (sym order-is) rises;
        long = long ∙ are.long;
        low = low-all;
        quiet = state.quiet;
        words = λ w l out. let parts = not_member-parts w v (unsealed_in old) (sym (ap (member w) state.unsealed) ∙ out) in
            ap (λ (z : ℕ). (vertex_of z).core) (state.words w) ∙ (are.words w l parts.1 ∙ sym (others w parts.0));
        unsealed = λ w m. elim (member-cases w v (unsealed_in old) (sym (ap (member w) state.unsealed) ∙ m)) [
          | inl e ↦ (omega (arith, e, vertex), omega (arith, stamp w, number, may.once, ap (stamp_at old) e))
          | inr k ↦ let u = are.unsealed w k in (u.0, omega (arith, stamp w, number, u.1))
        ];
        inside = λ o. omega (arith, are.inside o, ap length state.entries);
        closed = λ o. absurd (true≢false (sym may.open_ ∙ o));
      };
      unsealed = state.unsealed;
      entries = state.entries;
      words = state.words;
    }

-- a put is of the same table
same-table : (s now : Seen) (v p : ℕ) → Puts s now v p → now ≡ record { table = s.table; log = now.log }
same-table s now v p puts = λ i. record { table = puts.ends.table i; log = now.log }

-- one put, where the log's table is that of what the writer became
pub moved-to : (s now : Seen) (core core' : List ℕ) (open_ : Bool) (v p : ℕ) (order' : List ℕ) → AreLevels (levelled s core open_)
    → MayMove (levelled s core open_) v
    → Puts s now v p → p < s.table.shape.items
    → put v p (with_heads s.table.shape.fixed (vertices_of s.table.shape.fixed (list_after s.table s.log)) core) ≡ with_heads s.table.shape.fixed order' core'
    → Rises core' order' → ((y : ℕ) → member y order' ≡ true → y < s.table.shape.fixed) → length core' ≡ length core
    → ((w : ℕ) → w ≢ v → get_or core' w 0 ≡ get_or core w 0) → get_or core' v 0 < s.table.shape.fixed
    → MovesTo (levelled s core open_) (levelled now core' open_) v p order' core'
moved-to s now core core' open_ v p order' are may puts p-in list-is rises within long others low =
    let same : now ≡ record { table = s.table; log = now.log } = same-table s now v p puts in
    subst (λ (z : Seen). MovesTo (levelled s core open_) (levelled z core' open_) v p order' core') (sym same)
    (moved-at s now.log core core' open_ v p order' are may (subst (λ (z : Seen). Puts s z v p) same puts) p-in list-is rises within long others low)

-- what the code keeps beside them stays
pub tallied-moved : (old new : Levelled) (stamps : List ℕ) (number size v p : ℕ) (order core : List ℕ) → Tallied old stamps number size
    → MovesTo old new v p order core → Tallied new stamps number size
tallied-moved old new stamps number size v p order core h m =
    let table : new.table ≡ old.table = m.puts.ends.table in
    let fixed : size_of new ≡ size_of old = ap (λ (t : TableName). t.shape.fixed) table in
    record {
      are = m.are;
      long = h.long ∙ sym fixed;
      stamps_are = λ v l. h.stamps_are v (omega (arith, l, fixed)) ∙ sym (ap (λ (z : ℕ). (vertex_of z).stamp) (m.words v));
      number_is = h.number_is ∙ sym (ap₂ (λ (a b : ℕ). a + b) (ap (λ (t : TableName). t.shape.base) table) (ap length m.entries));
      number_fits = h.number_fits;
      size_is = h.size_is ∙ sym fixed;
    }

-- a vertex's place in the order
pub order-within : (s : Seen) (core : List ℕ) (open_ : Bool) → AreLevels (levelled s core open_) → (y : ℕ)
    → member y (vertices_of s.table.shape.fixed (list_after s.table s.log)) ≡ true → y < s.table.shape.fixed
order-within s core open_ are y m = ltb-true y s.table.shape.fixed (member-filter (λ x. ltb x s.table.shape.fixed) y (list_after s.table s.log) m).1

-- each vertex is in the order
pub order-member : (s : Seen) (core : List ℕ) (open_ : Bool) → AreLevels (levelled s core open_) → (y : ℕ) → y < s.table.shape.fixed
    → member y (vertices_of s.table.shape.fixed (list_after s.table s.log)) ≡ true
order-member s core open_ are y l = member-from_Contains (vertices_of s.table.shape.fixed (list_after s.table s.log)) y (are.enumerates.complete y l)

-- A put of a vertex, which has the levels' order and core numbers. ----------------------------------

module _ (s now : Seen) (core : List ℕ) (open_ : Bool) (v : ℕ) (are : AreLevels (levelled s core open_)) (may : MayMove (levelled s core open_) v) where
  -- how many vertices there are
  abbrev count : ℕ
  count = s.table.shape.fixed

  -- the order of the vertices
  abbrev old_order : List ℕ
  old_order = vertices_of count (list_after s.table s.log)

  -- the vertices of the order are those of the table
  old_order-within : (y : ℕ) → member y old_order ≡ true → y < count
  old_order-within = order-within s core open_ are

  -- the vertex is in the order
  vertex-in_order : member v old_order ≡ true
  vertex-in_order = order-member s core open_ are v may.vertex

  -- the vertex has a core number
  vertex-has_core : v < length core
  vertex-has_core = omega (arith, may.vertex, are.long)

  -- a vertex of the order with the vertex put anew is one of the table
  put-within : (low : ℕ → Bool) (y : ℕ) → member y (put_between low (v ∷ []) old_order) ≡ true → y < count
  put-within low y m = old_order-within y (sym (final-has low (v ∷ []) old_order
      (λ x k. elim (member-cases x v [] k) [ inl e ↦ ap (λ (z : ℕ). member z old_order) e ∙ vertex-in_order | inr none ↦ absurd (false≢true none) ]) y) ∙ m)

  -- a put right behind a head
  front-moved : (level : ℕ) → level < count → Puts s now v (count + level)
      → MovesTo (levelled s core open_) (levelled now (set core v level) open_) v (count + level)
      (put_between (under core level) (v ∷ []) old_order) (set core v level)
  front-moved level high puts =
      moved-to s now core (set core v level) open_ v (count + level) (put_between (under core level) (v ∷ []) old_order) are may puts
      (omega (arith, high, are.items))
      (put-front count v level old_order core old_order-within may.vertex vertex-has_core (omega (arith, high)))
      (Rises-between core (under core level) v level old_order vertex-has_core (λ y t. omega (arith, ltb-true (get_or core y 0) level t))
      (λ y f. ltb-false (get_or core y 0) level f) are.rising)
      (put-within (under core level))
      (length-set core v level)
      (λ w ne. get_or-set_other core v w level 0 ne)
      (omega (arith, get_or-set_same core v level 0 vertex-has_core, high))

  -- a put right behind a vertex
  after-moved : (w : ℕ) → w < count → w ≢ v → Puts s now v w
      → MovesTo (levelled s core open_) (levelled now (set core v (get_or core w 0)) open_) v w (put v w old_order) (set core v (get_or core w 0))
  after-moved w vertex ne puts =
      let anchor : member w old_order ≡ true = order-member s core open_ are w vertex in
      moved-to s now core (set core v (get_or core w 0)) open_ v w (put v w old_order) are may puts
      (omega (arith, vertex, s.table.shape.fixed_in))
      (put-after count v w old_order core old_order-within may.vertex vertex vertex-has_core ne)
      (Rises-after core v w old_order anchor ne vertex-has_core are.rising)
      (λ y m. old_order-within y (sym (put_after-has v w old_order vertex-in_order anchor ne y) ∙ m))
      (length-set core v (get_or core w 0))
      (λ y k. get_or-set_other core v y (get_or core w 0) 0 k)
      (omega (arith, get_or-set_same core v (get_or core w 0) 0 vertex-has_core, are.low w vertex))

  -- a put behind the last other vertex of a level
  back-moved : (level p : ℕ) → level < count → p < s.table.shape.items
      → p ≡ prev_of s.table.shape.items (count + (level + 1)) (without v (list_after s.table s.log)) → Puts s now v p
      → MovesTo (levelled s core open_) (levelled now (set core v level) open_) v p (put_between (up_to core level) (v ∷ []) old_order) (set core v level)
  back-moved level p high p-in p-is puts =
      let head : count + (level + 1) ≡ count + suc level = omega arith in
      let p-at : p ≡ prev_of s.table.shape.items (count + suc level) (without v (with_heads count old_order core)) = p-is
      ∙ ap₂ (λ (k : ℕ) (l : List ℕ). prev_of s.table.shape.items k (without v l)) head are.list in
      moved-to s now core (set core v level) open_ v p (put_between (up_to core level) (v ∷ []) old_order) are may puts
      p-in
      (ap (λ (k : ℕ). put v k (with_heads count old_order core)) p-at
      ∙ put-back count s.table.shape.items v level old_order core old_order-within (order-distinct count old_order are.enumerates)
      may.vertex vertex-has_core high)
      (Rises-between core (up_to core level) v level old_order vertex-has_core (λ y t. leb-true (get_or core y 0) level t)
      (λ y f. omega (arith, leb-false (get_or core y 0) level f)) are.rising)
      (put-within (up_to core level))
      (length-set core v level)
      (λ w ne. get_or-set_other core v w level 0 ne)
      (omega (arith, get_or-set_same core v level 0 vertex-has_core, high))

-- The same in the words of the contracts. ----------------------------------------------------------

-- what a call leaves: the type's invariant, and what its contract says
abbrev Leaves : Levelled → Seen → List ℕ → Bool → List ℕ → ℕ → ℕ → ℕ → ℕ → List ℕ → List ℕ → Type 0
Leaves old now core open_ stamps number size v p order core' =
    Tallied (levelled now core open_) stamps number size × MovesTo old (levelled now core open_) v p order core'

-- what a put to the front of a level leaves
pub front-leaves : (old : Levelled) (s now : Seen) (core stamps : List ℕ) (open_ : Bool) (number size v level : ℕ) → levelled s core open_ ≡ old
    → Tallied (levelled s core open_) stamps number size → MayMove old v → level < size_of old
    → Puts s now v (size + level)
    → Leaves old now (set core v level) open_ stamps number size v (size_of old + level) (put_between (under old.core level) (v ∷ []) old.order)
    (set old.core v level)
front-leaves old s now core stamps open_ number size v level is h may high puts =
    let m = front-moved s now core open_ v h.are (subst (λ (z : Levelled). MayMove z v) (sym is) may) level
    (subst (λ (z : Levelled). level < size_of z) (sym is) high) (subst (λ (k : ℕ). Puts s now v (k + level)) h.size_is puts) in (
      tallied-moved (levelled s core open_) (levelled now (set core v level) open_) stamps number size v (s.table.shape.fixed + level) _ _ h m,
      subst (λ (z : Levelled). MovesTo z (levelled now (set core v level) open_) v (size_of z + level)
          (put_between (under z.core level) (v ∷ []) z.order) (set z.core v level)) is m,
    )

-- what a put after another vertex leaves
pub after-leaves : (old : Levelled) (s now : Seen) (core stamps : List ℕ) (open_ : Bool) (number size v w level : ℕ) → levelled s core open_ ≡ old
    → Tallied (levelled s core open_) stamps number size → MayMove old v → w < size_of old → v ≢ w
    → level ≡ get_or core w level → Puts s now v w
    → Leaves old now (set core v level) open_ stamps number size v w (put v w old.order) (set old.core v (get_or old.core w 0))
after-leaves old s now core stamps open_ number size v w level is h may vertex ne level-is puts =
    let vertex' : w < s.table.shape.fixed = subst (λ (z : Levelled). w < size_of z) (sym is) vertex in
    let at : level ≡ get_or core w 0 = get_or_read core w level (omega (arith, vertex', h.are.long)) level-is 0 in
    let m = after-moved s now core open_ v h.are (subst (λ (z : Levelled). MayMove z v) (sym is) may) w vertex' (λ e. ne (sym e)) puts in
    subst (λ (k : ℕ). Leaves old now (set core v k) open_ stamps number size v w (put v w old.order) (set old.core v (get_or old.core w 0))) (sym at) (
      tallied-moved (levelled s core open_) (levelled now (set core v (get_or core w 0)) open_) stamps number size v w _ _ h m,
      subst (λ (z : Levelled). MovesTo z (levelled now (set core v (get_or core w 0)) open_) v w (put v w z.order) (set z.core v (get_or z.core w 0))) is m,
    )

-- where a vertex goes that is put at the back of a level: there is an item before the next head
pub record BackPlace (s : Seen) (v level size p : ℕ) : Type 0 where
  pub head_in : member (size + level + 1) (list_after s.table s.log) ≡ true
  pub vertex_in : member v (list_after s.table s.log) ≡ true
  pub apart : size + level + 1 ≢ v
  pub later : prev_of s.table.shape.items (size + level + 1) (without v (list_after s.table s.log)) ≢ s.table.shape.items
  pub place_in : p ≡ prev_of s.table.shape.items (size + level + 1) (without v (list_after s.table s.log)) → member p (list_after s.table s.log) ≡ true
  pub place_other : p ≡ prev_of s.table.shape.items (size + level + 1) (without v (list_after s.table s.log)) → v ≢ p

-- what stands before a member is in the list, or nothing does
prev-in : (e x : ℕ) (xs : List ℕ) → member x xs ≡ true → (prev_of e x xs ≡ e) ⊎ (member (prev_of e x xs) xs ≡ true)
prev-in e x xs m = elim (member-cases (prev_of e x xs) e xs (prev_of-in e x xs m)) [ inl k ↦ inl k | inr k ↦ inr k ]

-- there is an item before the next head, and it is another
pub back-place : (old : Levelled) (s : Seen) (core stamps : List ℕ) (open_ : Bool) (number size v level p : ℕ) → levelled s core open_ ≡ old
    → Tallied (levelled s core open_) stamps number size → MayMove old v → level < size_of old
    → BackPlace s v level size p
back-place old s core stamps open_ number size v level p is h may high =
    let n : ℕ = s.table.shape.fixed in
    let e : ℕ = s.table.shape.items in
    let list : List ℕ = list_after s.table s.log in
    let order : List ℕ = vertices_of n list in
    let vertex : v < n = (subst (λ (z : Levelled). MayMove z v) (sym is) may).vertex in
    let in-level : level < n = subst (λ (z : Levelled). level < size_of z) (sym is) high in
    let head : size + level + 1 ≡ n + suc level = omega (arith, h.size_is) in
    let head-there : member (size + level + 1) list ≡ true = ap₂ (λ (k : ℕ) (l : List ℕ). member k l) head h.are.list
    ∙ head-in n (suc level) order core (omega (arith, in-level)) in
    let listed : Listed s.table.shape list = (list-stands s.table.shape s.table.opening s.log h.are.legal).listed in
    let apart : size + level + 1 ≢ v = λ k. omega (arith, k, head, vertex) in
    let place : ℕ = prev_of e (size + level + 1) (without v list) in
    let is-last : place ≡ last_or (n + level) (level_part core (without v order) level) =
    ap₂ (λ (k : ℕ) (l : List ℕ). prev_of e k (without v l)) head h.are.list
    ∙ back-at n e v level order core (order-within s core open_ h.are) vertex in-level in
    let place-there : member place (without v list) ≡ true =
    elim (prev-in e (size + level + 1) (without v list) (without-member (size + level + 1) v list head-there apart)) [
      | inl k ↦ absurd (last-below n e v level order core (order-within s core open_ h.are) in-level h.are.items (sym is-last ∙ k))
      | inr m ↦ m
    ] in
    let both = member-without place v list place-there in
    record {
      head_in = head-there;
      vertex_in = listed.vertices v vertex;
      apart = apart;
      later = λ k. last-below n e v level order core (order-within s core open_ h.are) in-level h.are.items (sym is-last ∙ k);
      place_in = λ q. ap (λ (k : ℕ). member k list) q ∙ both.0;
      place_other = λ q k. both.1 (sym q ∙ sym k);
    }
  where
    -- that item is the last of the level, or its head
    back-at : (n e v level : ℕ) (order core : List ℕ) → ((y : ℕ) → member y order ≡ true → y < n) → v < n → level < n
        → prev_of e (n + suc level) (without v (with_heads n order core)) ≡ last_or (n + level) (level_part core (without v order) level)
    back-at n e v level order core within lv high = ap (prev_of e (n + suc level)) (heads-without n v order core lv)
        ∙ parts-prev n e level (level_part core (without v order)) 0 (suc n)
        (levels-have n core (without v order) (λ y m. within y (member-without y v order m).0)) (omega arith) (omega (arith, high))

    -- and so an item of the table
    last-below : (n e v level : ℕ) (order core : List ℕ) → ((y : ℕ) → member y order ≡ true → y < n) → level < n → e ≡ 2 * n + 1
        → last_or (n + level) (level_part core (without v order) level) ≢ e
    last-below n e v level order core within high is q =
        elim (member-cases (last_or (n + level) (level_part core (without v order) level)) (n + level) (level_part core (without v order) level)
        (member-last_or (n + level) (level_part core (without v order) level))) [
          | inl k ↦ omega (arith, k, q, is, high)
          | inr m ↦ let l : last_or (n + level) (level_part core (without v order) level) < n =
              levels-have n core (without v order) (λ y m. within y (member-without y v order m).0) level _ m in omega (arith, l, q, is)
        ]

-- what a put to the back of a level leaves
pub back-leaves : (old : Levelled) (s now : Seen) (core stamps : List ℕ) (open_ : Bool) (number size v level p : ℕ) → levelled s core open_ ≡ old
    → Tallied (levelled s core open_) stamps number size → MayMove old v → level < size_of old
    → p ≡ prev_of s.table.shape.items (size + level + 1) (without v (list_after s.table s.log))
    → Puts s now v p
    → Leaves old now (set core v level) open_ stamps number size v
    (prev_of (2 * size_of old + 1) (size_of old + (level + 1)) (without v (list_after old.table old.log)))
    (put_between (up_to old.core level) (v ∷ []) old.order) (set old.core v level)
back-leaves old s now core stamps open_ number size v level p is h may high p-is puts =
    let n : ℕ = s.table.shape.fixed in
    let list : List ℕ = list_after s.table s.log in
    let place = back-place old s core stamps open_ number size v level p is h may high in
    let head : size + level + 1 ≡ n + (level + 1) = omega (arith, h.size_is) in
    let at : p ≡ prev_of s.table.shape.items (n + (level + 1)) (without v list) = p-is ∙ ap (λ (k : ℕ). prev_of s.table.shape.items k (without v list)) head in
    let p-below : p < s.table.shape.items = (list-stands s.table.shape s.table.opening s.log h.are.legal).listed.within p (place.place_in p-is) in
    let m = back-moved s now core open_ v h.are (subst (λ (z : Levelled). MayMove z v) (sym is) may) level p
    (subst (λ (z : Levelled). level < size_of z) (sym is) high) p-below at puts in
    let named : p ≡ prev_of (2 * n + 1) (n + (level + 1)) (without v list) = at ∙ ap (λ (k : ℕ). prev_of k (n + (level + 1)) (without v list)) h.are.items in (
      tallied-moved (levelled s core open_) (levelled now (set core v level) open_) stamps number size v p _ _ h m,
      subst (λ (z : Levelled). MovesTo z (levelled now (set core v level) open_) v
          (prev_of (2 * size_of z + 1) (size_of z + (level + 1)) (without v (list_after z.table z.log)))
          (put_between (up_to z.core level) (v ∷ []) z.order) (set z.core v level)) is
          (subst (λ (k : ℕ). MovesTo (levelled s core open_) (levelled now (set core v level) open_) v k
          (put_between (up_to core level) (v ∷ []) (vertices_of n list)) (set core v level)) named m),
    )
