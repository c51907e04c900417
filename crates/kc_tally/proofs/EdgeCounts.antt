-- Edges that lead from a vertex are its neighbours, counted.
use Rattle.std.proofs.Common.{◌≡◌, ◌≢◌, ◌<◌, ◌+◌, ℕ, suc, zero, Bool, true, false, cond, not, ◌&&◌, ◌||◌, List, [], ◌∷◌, ◌++◌, length, get_or, eqb}
use Rattle.std.proofs.Common.{refl, sym, ◌∙◌, ap, ap₂, inl, inr, arith, true≢false, eq-eqb, ne_eqb}
use Rattle.std.specs.Prelude.{All, count_by}
use Rattle.std.proofs.lemmas.Bool.{cases_eq, and_parts, and_left, false_from_ne_true, or_from}
use Rattle.std.proofs.lemmas.List.Sums.{sum_by-cons}
use Rattle.std.proofs.lemmas.List.Elements.{All-tail}
use Rattle.kc_lists.specs.Lists.{below}
use Rattle.kc_lists.proofs.Counting.{count-cons, count-agree, count-miss, below-member, member-below, length-below}
use Rattle.kc_graph.specs.Bulk.{is_no_loop, is_between, are_joined, graph_with}
use Rattle.kc_graph.specs.declared.bulk.Edge.{Edge}
use Rattle.kc_graph.proofs.Ends.{joins, joins-true}
use Rattle.kc_graph.proofs.Bulking.{joined-turned, adjacent-with_edges}
use Rattle.kc_graph.proofs.Law.{adjacent-self}
use Rattle.kc_graph.specs.SimpleGraph.{adjacent}
use Rattle.kc_tally.specs.Lists.{ListsEachOnce}
use Rattle.kc_tally.specs.Tallies.{leads_to}

-- a list with one more edge in front counts as the rest, and 1 more where the first passes
pub edges-cons : (p : Edge → Bool) (e : Edge) (es : List Edge) → count_by p (e ∷ es) ≡ cond (p e) 1 0 + count_by p es
edges-cons p e es = sum_by-cons (λ y. cond (p y) 1 0) e es

-- two lists one after the other count as both
pub edges-append : (p : Edge → Bool) (es fs : List Edge) → count_by p (es ++ fs) ≡ count_by p es + count_by p fs
edges-append p [] fs = omega arith
edges-append p (e ∷ es) fs = omega (arith, edges-cons p e (es ++ fs), edges-cons p e es, edges-append p es fs)

-- nothing that fails everywhere counts
count-none : (p : ℕ → Bool) (n : ℕ) → ((w : ℕ) → p w ≡ false) → count_by p (below n) ≡ 0
count-none p zero h = refl
count-none p (suc n) h = omega (arith, count-cons p n (below n), ap {B = ℕ} (λ b. cond b 1 0) (h n), count-none p n h)

-- a test that passes at one number below a bound at most counts once, if it does there
count-one : (a n : ℕ) (t : ℕ → Bool) → a < n → count_by (λ w. eqb w a && t w) (below n) ≡ cond (t a) 1 0
count-one a zero t l = absurd (omega arith)
count-one a (suc n) t l = elim (cases_eq n a) [
  | inl e ↦
      let rest : count_by (λ w. eqb w a && t w) (below n) ≡ 0 =
      count-agree (λ w. eqb w a && t w) (λ w. false) (below n)
      (λ w m. let k : w < n = below-member w n m in and_left (eqb w a) (t w) (ne_eqb w a (λ same. absurd (omega arith))))
      ∙ count-none (λ w. false) n (λ w. refl) in
      omega (
        arith,
        count-cons (λ w. eqb w a && t w) n (below n),
        ap {B = ℕ} (λ b. cond (b && t n) 1 0) (eq-eqb n a e),
        ap {B = ℕ} (λ k. cond (t k) 1 0) e,
        rest,
      )
  | inr ne ↦
      omega (arith, count-cons (λ w. eqb w a && t w) n (below n), ap {B = ℕ} (λ b. cond (b && t n) 1 0) (ne_eqb n a ne), count-one a n t (omega arith))
]

-- what passes one of two tests, but never both, counts as much as both tests do
pub count-apart : (p q r : ℕ → Bool) (xs : List ℕ) → ((x : ℕ) → ◌≡◌ {A = ℕ} (cond (r x) 1 0) (cond (p x) 1 0 + cond (q x) 1 0))
    → count_by r xs ≡ count_by p xs + count_by q xs
count-apart p q r [] h = refl
count-apart p q r (x ∷ xs) h = omega (arith, count-cons p x xs, count-cons q x xs, count-cons r x xs, h x, count-apart p q r xs h)

-- where one alternative excludes the other
alternatives-counted : (a b t : Bool) → (a ≡ true → b ≡ false) → ◌≡◌ {A = ℕ} (cond ((a || b) && t) 1 0) (cond (a && t) 1 0 + cond (b && t) 1 0)
alternatives-counted true true t h = absurd (true≢false (h refl))
alternatives-counted true false true h = refl
alternatives-counted true false false h = refl
alternatives-counted false true true h = refl
alternatives-counted false true false h = refl
alternatives-counted false false true h = refl
alternatives-counted false false false h = refl

-- of the numbers below a bound an edge joins the other end to `v`, where it leads from there
count-between : (test : ℕ → Bool) (v n : ℕ) (e : Edge) → e.u < e.v → e.v < n
    → count_by (λ w. is_between v w e && test w) (below n) ≡ cond (leads_to test v e) 1 0
count-between test v n e l k =
    let two : is_no_loop e ≡ true = ap not (ne_eqb e.u e.v (λ same. absurd (omega arith))) in
    elim (cases_eq v e.u) [
      | inl is ↦
          let off : eqb v e.v ≡ false = ne_eqb v e.v (λ same. absurd (omega arith)) in
          let on : eqb v e.u ≡ true = eq-eqb v e.u is in
          count-agree (λ w. is_between v w e && test w) (λ w. eqb w e.v && test w) (below n)
          (λ w m. first (is_no_loop e) (eqb v e.u) (eqb v e.v) (eqb w e.v) (eqb w e.u) (test w) two on off)
          ∙ count-one e.v n test k ∙ ap {B = ℕ} (λ b. cond b 1 0) (sym (first-leads (eqb v e.u) (eqb v e.v) (test e.v) (test e.u) on off))
      | inr ne ↦ elim (cases_eq v e.v) [
        | inl is ↦
            let off : eqb v e.u ≡ false = ne_eqb v e.u ne in
            let on : eqb v e.v ≡ true = eq-eqb v e.v is in
            count-agree (λ w. is_between v w e && test w) (λ w. eqb w e.u && test w) (below n)
            (λ w m. second (is_no_loop e) (eqb v e.u) (eqb v e.v) (eqb w e.v) (eqb w e.u) (test w) two off on)
            ∙ count-one e.u n test (omega arith) ∙ ap {B = ℕ} (λ b. cond b 1 0) (sym (second-leads (eqb v e.u) (eqb v e.v) (test e.v) (test e.u) off on))
        | inr ne' ↦
            count-none (λ w. is_between v w e && test w) n
            (λ w. neither (is_no_loop e) (eqb v e.u) (eqb v e.v) (eqb w e.v) (eqb w e.u) (test w) (ne_eqb v e.u ne) (ne_eqb v e.v ne'))
            ∙ ap {B = ℕ} (λ b. cond b 1 0) (sym (neither-leads (eqb v e.u) (eqb v e.v) (test e.v) (test e.u) (ne_eqb v e.u ne) (ne_eqb v e.v ne')))
      ]
    ]
  where
    first : (two vu vv wv wu t : Bool) → two ≡ true → vu ≡ true → vv ≡ false → ((two && ((vu && wv) || (vv && wu))) && t) ≡ (wv && t)
    first two vu vv wv wu t a b c = grind arith

    second : (two vu vv wv wu t : Bool) → two ≡ true → vu ≡ false → vv ≡ true → ((two && ((vu && wv) || (vv && wu))) && t) ≡ (wu && t)
    second two vu vv wv wu t a b c = grind arith

    neither : (two vu vv wv wu t : Bool) → vu ≡ false → vv ≡ false → ((two && ((vu && wv) || (vv && wu))) && t) ≡ false
    neither two vu vv wv wu t b c = grind arith

    first-leads : (vu vv tv tu : Bool) → vu ≡ true → vv ≡ false → ((vu && tv) || (vv && tu)) ≡ tv
    first-leads vu vv tv tu b c = grind arith

    second-leads : (vu vv tv tu : Bool) → vu ≡ false → vv ≡ true → ((vu && tv) || (vv && tu)) ≡ tu
    second-leads vu vv tv tu b c = grind arith

    neither-leads : (vu vv tv tu : Bool) → vu ≡ false → vv ≡ false → ((vu && tv) || (vv && tu)) ≡ false
    neither-leads vu vv tv tu b c = grind arith

-- edges with the same ends are the same
edge-same : (e f : Edge) → e.u ≡ f.u → e.v ≡ f.v → e ≡ f
edge-same e f p q = ap₂ (λ (u v : ℕ). let x : Edge = record { u = u; v = v } in x) p q

-- a new edge has ends that no listed edge joins
joined-new : (e : Edge) (es : List Edge) → e.u < e.v → All (λ f. f.u < f.v) es → ((k : ℕ) (d : Edge) → k < length es → e ≢ get_or es k d)
    → are_joined es e.u e.v ≡ false
joined-new e [] l a new' = refl
joined-new e (f ∷ fs) l a new' =
    or_from _ _ (false_from_ne_true (is_between e.u e.v f) (λ h.
    let k = and_parts (is_no_loop f) (joins f.u f.v e.u e.v) h in
    let lf : f.u < f.v = a 0 f (omega arith) in
    elim (joins-true f.u f.v e.u e.v k.1) [ inl p ↦ new' 0 f (omega arith) (edge-same e f p.0 p.1) | inr p ↦ absurd (omega (arith, p.0, p.1)) ]))
    (joined-new e fs l (All-tail (λ f. f.u < f.v) f fs a) (λ i d lt. new' (suc i) d (omega arith)))

-- the rest of a list that has each edge once has each once
once-tail : (n : ℕ) (e : Edge) (es : List Edge) → ListsEachOnce n (e ∷ es) → ListsEachOnce n es
once-tail n e es h = record {
  lesser_first = All-tail (λ f. f.u < f.v) e es h.lesser_first;
  within = All-tail (λ f. f.v < n) e es h.within;
  once = λ i j d lt l. h.once (suc i) (suc j) d (omega arith) (omega arith);
}

-- Of a list that has each edge once those that lead from a vertex to ends that pass are as many as its neighbours that pass.
pub count-edges : (n : ℕ) (edges : List Edge) → ListsEachOnce n edges → (test : ℕ → Bool) (v : ℕ)
    → count_by (leads_to test v) edges ≡ count_by (λ w. are_joined edges v w && test w) (below n)
count-edges n [] h test v = sym (count-none (λ w. false && test w) n (λ w. refl))
count-edges n (e ∷ es) h test v =
    let l : e.u < e.v = h.lesser_first 0 e (omega arith) in
    let k : e.v < n = h.within 0 e (omega arith) in
    let rest : ListsEachOnce n es = once-tail n e es h in
    let new' : are_joined es e.u e.v ≡ false = joined-new e es l rest.lesser_first (λ i d lt. h.once 0 (suc i) d (omega arith) (omega arith)) in
    let apart : (w : ℕ) → is_between v w e ≡ true → are_joined es v w ≡ false = λ w b.
    elim (joins-true e.u e.v v w (and_parts (is_no_loop e) (joins e.u e.v v w) b).1) [
      | inl p ↦ ap₂ (are_joined es) p.0 p.1 ∙ new'
      | inr p ↦ ap₂ (are_joined es) p.0 p.1 ∙ (joined-turned es e.v e.u ∙ new')
    ] in
    edges-cons (leads_to test v) e es
    ∙ (ap₂ (λ (a b : ℕ). a + b) (sym (count-between test v n e l k)) (count-edges n es rest test v)
    ∙ sym (count-apart (λ w. is_between v w e && test w) (λ w. are_joined es v w && test w) (λ w. are_joined (e ∷ es) v w && test w) (below n)
    (λ w. alternatives-counted (is_between v w e) (are_joined es v w) (test w) (apart w))))

module _ (n : ℕ) (edges : List Edge) (h : ListsEachOnce n edges) where
  -- and so they are by the graph with these edges
  pub count-adjacent : (test : ℕ → Bool) (v : ℕ) → count_by (leads_to test v) edges ≡ count_by (λ w. adjacent (graph_with n edges) v w && test w) (below n)
  count-adjacent test v = count-edges n edges h test v
      ∙ count-agree (λ w. are_joined edges v w && test w) (λ w. adjacent (graph_with n edges) v w && test w) (below n)
      (λ w _. ap (λ b. b && test w) (sym (adjacent-with_edges n edges v w)))

  -- from a vertex lead fewer edges than there are vertices
  pub leads-few : (test : ℕ → Bool) (v : ℕ) → v < n → count_by (leads_to test v) edges < n
  leads-few test v l =
      let few : count_by (λ w. adjacent (graph_with n edges) v w && test w) (below n) < length (below n) =
      count-miss (λ w. adjacent (graph_with n edges) v w && test w) v (below n) (member-below v n l)
      (and_left _ (test v) (adjacent-self (graph_with n edges) v)) in
      omega (arith, count-adjacent test v, few, length-below n)
