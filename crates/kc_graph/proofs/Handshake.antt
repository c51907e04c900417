-- Each edge stands in two rows: rows that say who is adjacent have twice as many entries as there are edges.
use Rattle.std.proofs.Common.{◌≡◌, ◌≤◌, ◌<◌, ◌+◌, ℕ, suc, zero, Bool, true, false, cond, ◌&&◌, ◌||◌, List, [], ◌∷◌, ◌++◌, length, map, ltb}
use Rattle.std.proofs.Common.{refl, sym, ◌∙◌, ap, ap₂, inl, inr, arith, ltb-true, lt-ltb}
use Rattle.std.specs.List.{filter, list_any, sum_by, count_by}
use Rattle.std.specs.Cmp.{both_ways}
use Rattle.std.specs.Ordering.{eq_by_cmp}
use Rattle.std.specs.FinSet.{FinSet, contains, contains-from_list, from_list, len, len-insert, len-empty}
use Rattle.std.proofs.lemmas.Bool.{cases_order, or_left, or_right, or_from, and_parts, and_from, false≢true, true≢false, false_from_ne_true}
use Rattle.std.proofs.lemmas.List.Folds.{list_any-append}
use Rattle.std.proofs.lemmas.List.Sums.{sum_by-cons}
use Rattle.kc_lists.specs.Lists.{member, below, Distinct, total}
use Rattle.kc_lists.proofs.Members.{not_member-parts}
use Rattle.kc_lists.proofs.Counting.{count-cons, count-le, count-all, count-agree, member-filter, filter-member}
use Rattle.kc_lists.proofs.Counting.{member-below, Distinct-below, Distinct-filter}
use Rattle.kc_lists.proofs.Shared.{total-agree}
use Rattle.kc_graph.specs.SimpleGraph.{pair_cmp}
use Rattle.kc_graph.specs.Rows.{row, pairs_from, graph_of, IsAdjacency}
use Rattle.kc_graph.proofs.RowsLemmas.{pair_total, same_pair, Distinct-from_increasing}

-- Sums over the numbers below a bound. ---------------------------------------------------------------

-- the sum of two functions added is their sums added
pub total-add : (f g : ℕ → ℕ) (n : ℕ) → total (λ v. f v + g v) n ≡ total f n + total g n
total-add f g zero = refl
total-add f g (suc n) = omega (arith, total-add f g n)

-- the first number may be counted apart
total-first : (f : ℕ → ℕ) (n : ℕ) → total f (suc n) ≡ f 0 + total (λ v. f (suc v)) n
total-first f zero = refl
total-first f (suc n) = omega (arith, total-first f n)

-- nothing each time sums up to nothing
pub total-nothing : (n : ℕ) → total (λ _. 0) n ≡ 0
total-nothing zero = refl
total-nothing (suc n) = omega (arith, total-nothing n)

-- pairs that pass are counted by their first parts or by their second parts
total-turned : (p : ℕ → ℕ → Bool) (n m : ℕ) → total (λ v. count_by (p v) (below m)) n ≡ total (λ w. count_by (λ v. p v w) (below n)) m
total-turned p n zero = total-nothing n
total-turned p n (suc m) =
    total-agree (λ v. count_by (p v) (below (suc m))) (λ v. cond (p v m) 1 0 + count_by (p v) (below m)) n (λ v l. count-cons (p v) m (below m))
    ∙ (total-add (λ v. cond (p v m) 1 0) (λ v. count_by (p v) (below m)) n
    ∙ ap₂ (λ (a b : ℕ). a + b) (one n) (total-turned p n m)) where
      one : (k : ℕ) → total (λ v. cond (p v m) 1 0) k ≡ count_by (λ v. p v m) (below k)
      one zero = refl
      one (suc k) = ap (λ (s : ℕ). cond (p k m) 1 0 + s) (one k) ∙ sym (count-cons (λ v. p v m) k (below k))

-- Entries of rows. -----------------------------------------------------------------------------------

-- the sum over rows is one over their places
sum-total : (f : List ℕ → ℕ) (rows : List (List ℕ)) → sum_by f rows ≡ total (λ v. f (row rows v)) (length rows)
sum-total f [] = refl
sum-total f (r ∷ rows) = sum_by-cons f r rows ∙ (ap (λ (s : ℕ). f r + s) (sum-total f rows) ∙ sym (total-first (λ v. f (row (r ∷ rows) v)) (length rows)))

-- an ascending row of numbers below `n` has as many as it names
length-named : (r : List ℕ) (n : ℕ) → Distinct r → ((w : ℕ) → member w r ≡ true → w < n) → length r ≡ count_by (λ w. member w r) (below n)
length-named r n once within =
    let all : count_by (λ w. member w r) r ≡ length r = count-all (λ w. member w r) r (λ w m. m) in
    let up : count_by (λ w. member w r) r ≤ count_by (λ w. member w r) (below n) =
    count-le (λ w. member w r) r (below n) once (λ w m _. member-below w n (within w m)) in
    let down : count_by (λ w. member w r) (below n) ≤ count_by (λ w. member w r) r = count-le (λ w. member w r) (below n) r (Distinct-below n) (λ w _ m. m) in
    omega (arith, all, up, down)

-- the greater numbers of a row
length-greater : (r : List ℕ) (n u : ℕ) → Distinct r → ((w : ℕ) → member w r ≡ true → w < n)
    → length (filter (ltb u) r) ≡ count_by (λ w. ltb u w && member w r) (below n)
length-greater r n u once within =
    length-named (filter (ltb u) r) n (Distinct-filter (ltb u) r once) (λ w m. within w (member-filter (ltb u) w r m).0)
    ∙ count-agree (λ w. member w (filter (ltb u) r)) (λ w. ltb u w && member w r) (below n) (λ w _. named u w r)
  where
    named : (u w : ℕ) (r : List ℕ) → member w (filter (ltb u) r) ≡ (ltb u w && member w r)
    named u w r = both_ways _ _
        (λ m. let k = member-filter (ltb u) w r m in and_from _ _ k.1 k.0)
        (λ m. let k = and_parts (ltb u w) (member w r) m in filter-member (ltb u) w r k.1 k.0)

-- what passes counts once where just one of two tests lets it through
one_of_two-counted : (l m c : Bool) → (c ≡ true → (l || m) ≡ true) → (l && m) ≡ false → ◌≡◌ {A = ℕ} (cond c 1 0) (cond (l && c) 1 0 + cond (m && c) 1 0)
one_of_two-counted true true c one apart = absurd (true≢false apart)
one_of_two-counted true false true one apart = refl
one_of_two-counted true false false one apart = refl
one_of_two-counted false true true one apart = refl
one_of_two-counted false true false one apart = refl
one_of_two-counted false false true one apart = absurd (false≢true (one refl))
one_of_two-counted false false false one apart = refl

-- where `v` does not pass, those that do are below it or above it
count-parted : (p : ℕ → Bool) (v : ℕ) (ws : List ℕ) → p v ≡ false → count_by p ws ≡ count_by (λ w. ltb v w && p w) ws + count_by (λ w. ltb w v && p w) ws
count-parted p v [] none = refl
count-parted p v (w ∷ ws) none =
    omega (arith, count-cons p w ws, count-cons (λ w. ltb v w && p w) w ws, count-cons (λ w. ltb w v && p w) w ws, count-parted p v ws none, one)
  where
    one : ◌≡◌ {A = ℕ} (cond (p w) 1 0) (cond (ltb v w && p w) 1 0 + cond (ltb w v && p w) 1 0)
    one = one_of_two-counted (ltb v w) (ltb w v) (p w)
        (λ t. elim (cases_order v w) [
          | inl e ↦ absurd (true≢false (sym t ∙ (ap p (sym e) ∙ none)))
          | inr o ↦ elim o [ inl l ↦ or_left (ltb v w) (ltb w v) (lt-ltb v w l) | inr l ↦ or_right (ltb v w) (ltb w v) (lt-ltb w v l) ]
        ])
        (false_from_ne_true _ (λ t. let k = and_parts (ltb v w) (ltb w v) t in absurd (omega (arith, ltb-true v w k.0, ltb-true w v k.1))))

-- Pairs. ---------------------------------------------------------------------------------------------

-- no pair of later rows has a lesser first part
later_rows-no_lesser : (u a b : ℕ) (rows : List (List ℕ)) → a < u → list_any (eq_by_cmp pair_cmp (a, b)) (pairs_from u rows) ≡ false
later_rows-no_lesser u a b [] l = refl
later_rows-no_lesser u a b (r ∷ rows) l =
    list_any-append (eq_by_cmp pair_cmp (a, b)) (map (λ w. (u, w)) (filter (ltb u) r)) (pairs_from (u + 1) rows)
    ∙ or_from _ _ (here (filter (ltb u) r)) (later_rows-no_lesser (u + 1) a b rows (omega arith))
  where
    here : (ws : List ℕ) → list_any (eq_by_cmp pair_cmp (a, b)) (map (λ w. (u, w)) ws) ≡ false
    here [] = refl
    here (w ∷ ws) = or_from _ _ (false_from_ne_true _ (λ t. let e : a ≡ u = ap (λ (q : ℕ × ℕ). q.0) (same_pair (a, b) (u, w) t) in omega arith)) (here ws)

-- pairs with the first part `u` and distinct second ones, before pairs with others
len-before : (u : ℕ) (ws : List ℕ) (ps : List (ℕ × ℕ)) → Distinct ws → ((w : ℕ) → list_any (eq_by_cmp pair_cmp (u, w)) ps ≡ false)
    → len (from_list {R = pair_cmp} (map (λ w. (u, w)) ws ++ ps)) ≡ length ws + len (from_list {R = pair_cmp} ps)
len-before u [] ps once others = omega arith
len-before u (w ∷ ws) ps once others =
    let rest : FinSet pair_cmp = from_list (map (λ w. (u, w)) ws ++ ps) in
    let absent : contains rest (u, w) ≡ false =
    contains-from_list pair_total (map (λ w. (u, w)) ws ++ ps) (u, w)
    ∙ (list_any-append (eq_by_cmp pair_cmp (u, w)) (map (λ w. (u, w)) ws) ps ∙ or_from _ _ (out ws once.0) (others w)) in
    len-insert pair_total rest (u, w) ∙ (ap (λ b. cond b (len rest) (len rest + 1)) absent ∙ omega (arith, len-before u ws ps once.1 others))
  where
    out : (xs : List ℕ) → member w xs ≡ false → list_any (eq_by_cmp pair_cmp (u, w)) (map (λ x. (u, x)) xs) ≡ false
    out [] h = refl
    out (x ∷ xs) h =
        let k = not_member-parts w x xs h in
        or_from _ _ (false_from_ne_true _ (λ t. k.0 (ap (λ (q : ℕ × ℕ). q.1) (same_pair (u, w) (u, x) t)))) (out xs k.1)

-- there are as many pairs of rows as numbers in them that are greater than the row's vertex
len-pairs : (u : ℕ) (rows : List (List ℕ)) → ((v : ℕ) → Distinct (row rows v))
    → len (from_list {R = pair_cmp} (pairs_from u rows)) ≡ total (λ v. length (filter (ltb (u + v)) (row rows v))) (length rows)
len-pairs u [] once = len-empty pair_cmp
len-pairs u (r ∷ rows) once =
    len-before u (filter (ltb u) r) (pairs_from (u + 1) rows) (Distinct-filter (ltb u) r (once 0)) (λ w. later_rows-no_lesser (u + 1) u w rows (omega arith))
    ∙ (ap₂ (λ (a b : ℕ). a + b)
    (greater u (u + 0) r (omega arith))
    (len-pairs (u + 1) rows (λ v. once (suc v)) ∙ total-agree _ _ (length rows) (λ v _. greater (u + 1 + v) (u + suc v) (row rows v) (omega arith)))
    ∙ sym (total-first (λ v. length (filter (ltb (u + v)) (row (r ∷ rows) v))) (length rows)))
  where
    greater : (a b : ℕ) (ws : List ℕ) → a ≡ b → length (filter (ltb a) ws) ≡ length (filter (ltb b) ws)
    greater a b ws e = ap (λ n. length (filter (ltb n) ws)) e

-- The rows of a graph. -------------------------------------------------------------------------------

-- what stands in rows is twice the number of edges
pub handshake : (rows : List (List ℕ)) → IsAdjacency rows → sum_by length rows ≡ len (graph_of rows).edges + len (graph_of rows).edges
unfolding graph_of
handshake rows h =
    sum-total length rows ∙ (total-agree (λ v. length (row rows v)) (λ v. up v + down v) n (λ v _. both v)
    ∙ (total-add up down n ∙ ap₂ (λ (a b : ℕ). a + b) ups (downs ∙ ups)))
  where
    n : ℕ
    n = length rows

    once : (v : ℕ) → Distinct (row rows v)
    once v = Distinct-from_increasing (row rows v) (h.ascends v)

    up : ℕ → ℕ
    up v = count_by (λ w. ltb v w && member w (row rows v)) (below (length rows))

    down : ℕ → ℕ
    down v = count_by (λ w. ltb w v && member w (row rows v)) (below (length rows))

    both : (v : ℕ) → length (row rows v) ≡ up v + down v
    both v = length-named (row rows v) n (once v) (h.within v) ∙ count-parted (λ w. member w (row rows v)) v (below n) (h.irreflexive v)

    downs : total down n ≡ total up n
    downs = total-turned (λ v w. ltb w v && member w (row rows v)) n n
        ∙ total-agree _ _ n (λ w _. count-agree _ _ (below n) (λ v _. ap (λ t. ltb w v && t) (h.symmetric v w)))

    ups : total up n ≡ len (from_list {R = pair_cmp} (pairs_from 0 rows))
    ups = sym (len-pairs 0 rows once ∙ total-agree _ _ n (λ v _.
        ap (λ k. length (filter (ltb k) (row rows v))) (omega arith) ∙ length-greater (row rows v) n v (once v) (h.within v)))
