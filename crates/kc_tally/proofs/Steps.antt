-- Step by step each level loses a layer; where a step takes nothing, core numbers leave nothing.
use Rattle.std.proofs.Common.{◌≡◌, ◌≤◌, ◌<◌, ◌+◌, ◌-◌, ◌^◌, ℕ, suc, zero, Bool, true, false, cond, not, ◌&&◌, ◌||◌, List, [], length, get_or, drop}
use Rattle.std.proofs.Common.{eqb, leb, ltb, refl, sym, ◌∙◌, ap, subst, ◌⊎◌, inl, inr, arith, leb-true, le-leb, ltb-true, lt-ltb, eqb-true, eq-eqb}
use Rattle.std.proofs.Common.{ne_eqb, true≢false}
use Rattle.std.specs.Prelude.{count_by}
use Rattle.std.proofs.lemmas.List.{get_or_past}
use Rattle.std.proofs.lemmas.Bool.{cases_Bool, cases_eq, cases_lt, cases_order, and_parts, and_from, and_left, and_right, or_cases, or_from, or_left}
use Rattle.std.proofs.lemmas.Bool.{or_right, false≢true}
use Rattle.std.proofs.lemmas.Bool.{false_from_ne_true, not_from_false}
use Rattle.kc_lists.specs.Lists.{member, Distinct, below}
use Rattle.kc_lists.proofs.Counting.{one_if, count-agree, count-le, count-mono, count-without, count-le-length, length-below, member-below}
use Rattle.kc_lists.proofs.Counting.{below-member, Distinct-below}
use Rattle.kc_lists.proofs.Shared.{get_or-any}
use Rattle.kc_graph.specs.SimpleGraph.{SimpleGraph, adjacent, degree_among}
use Rattle.kc_graph.specs.Certificate.{Certifies}
use Rattle.kc_graph.specs.Core.{AreCoreNumbers}
use Rattle.kc_graph.specs.Peeling.{at, as_high}
use Rattle.kc_graph.proofs.Law.{adjacent-self, certified-core_numbers, core-unique}
use Rattle.kc_graph.proofs.Existence.{certificate_exists}
use Rattle.kc_tally.specs.Layers.{is_left_at, left_at, AreLayers}
use Rattle.kc_tally.specs.Taking.{TakesLayer, IsFirstLayer, are_beside}
use Rattle.kc_tally.proofs.EdgeCounts.{count-apart}
use Rattle.kc_tally.proofs.Certifying.{member-drop_at}

-- the rank of those that are not taken yet
abbrev pub untaken_rank : ℕ
untaken_rank = 2 ^ 32 - 1

-- At the beginning of a step the layer has just those whose rank is the step. Those of lesser rank are taken, and the others have no rank yet.
-- Each vertex is kept with what is left at this step.
pub record Layered (g : SimpleGraph) (core : List ℕ) (step : ℕ) (left rank layer : List ℕ) : Type 0 where
  pub one_left : length left ≡ g.size
  pub one_rank : length rank ≡ g.size
  pub counted : (v : ℕ) → v < g.size → at left v ≡ left_at g core rank step v
  pub here : (v : ℕ) → member v layer ≡ true → (v < g.size) × (at rank v ≡ step)
  pub all_here : (v : ℕ) → v < g.size → at rank v ≡ step → member v layer ≡ true
  pub once : Distinct layer
  pub high : (v : ℕ) → v < g.size → step < at rank v → at core v < at left v
  pub low : (v : ℕ) → v < g.size → at rank v ≤ step → at left v ≤ at core v
  pub untaken : (v : ℕ) → v < g.size → step < at rank v → at rank v ≡ untaken_rank
  pub taken : (v : ℕ) → v < g.size → at rank v ≤ step → left_at g core rank (at rank v) v ≤ at core v
  pub not_before : (v s : ℕ) → v < g.size → s < at rank v → s ≤ step → at core v < left_at g core rank s v
  pub room : step + count_by (λ v. leb step (at rank v)) (below g.size) ≤ g.size

-- the vertices of a layer have this rank, and the others what they had
pub record Ranks (layer : List ℕ) (step : ℕ) (old new : List ℕ) : Type 0 where
  pub one_each : length new ≡ length old
  pub ranked : (v : ℕ) → member v layer ≡ true → at new v ≡ step
  pub others : (v : ℕ) → member v layer ≡ false → at new v ≡ at old v

-- where one passes the second test and not the first, and all that pass the first pass the second, fewer pass the first
pub count-fewer : (p q : ℕ → Bool) (x : ℕ) (xs : List ℕ) → Distinct xs → member x xs ≡ true → p x ≡ false → q x ≡ true
    → ((y : ℕ) → member y xs ≡ true → p y ≡ true → q y ≡ true) → count_by p xs < count_by q xs
count-fewer p q x xs d m px qx h =
    let r : ℕ → Bool = λ y. q y && not (eqb y x) in
    let less : count_by p xs ≤ count_by r xs = count-mono p r xs
    (λ y in' t. and_from _ _ (h y in' t) (not_from_false _ (false_from_ne_true _ (λ e. true≢false (sym t ∙ (ap p (eqb-true y x e) ∙ px)))))) in
    let gone : r x ≡ false = and_right (q x) _ (ap not (eq-eqb x x refl)) in
    let other : (y : ℕ) → (y ≡ x → ⊥) → q y ≡ r y = λ y ne. sym (kept (q y) (eqb y x) (false_from_ne_true _ (λ e. ne (eqb-true y x e)))) in
    omega (arith, less, count-without q r x xs d m qx gone other)
  where
    kept : (a b : Bool) → b ≡ false → (a && not b) ≡ a
    kept true b e = ap not e
    kept false b e = refl

-- where one passes, some do
count-some : (p : ℕ → Bool) (x : ℕ) (xs : List ℕ) → Distinct xs → member x xs ≡ true → p x ≡ true → 0 < count_by p xs
count-some p x xs d m px = omega (arith, count-fewer (λ _. false) p x xs d m refl px (λ y _ t. absurd (false≢true t)))

-- a vertex of the level that is left at a step is left at the next one, or is taken in this one
left-steps : (adjoins above on now next here : Bool) → (above ≡ true → on ≡ false) → ◌≡◌ {A = ℕ} (cond now 1 0) (cond next 1 0 + cond here 1 0)
    → ◌≡◌ {A = ℕ} (cond (adjoins && (above || (on && now))) 1 0) (cond (adjoins && (above || (on && next))) 1 0 + cond ((adjoins && on) && here) 1 0)
left-steps false above on now next here h s = refl
left-steps true true true now next here h s = absurd (true≢false (h refl))
left-steps true true false now next here h s = refl
left-steps true false true now next here h s = s
left-steps true false false now next here h s = refl

-- a number is at least the step where it is at least the next one, or the step itself
step-splits : (step r : ℕ) → ◌≡◌ {A = ℕ} (cond (leb step r) 1 0) (cond (leb (step + 1) r) 1 0 + cond (eqb r step) 1 0)
step-splits step r = elim (cases_order r step) [
  | inl e ↦ omega (arith, ap one_if (le-leb step r (omega arith)), ap one_if (too_great (step + 1) r (omega arith)), ap one_if (eq-eqb r step e))
  | inr (inl l) ↦
      omega (
        arith,
        ap one_if (too_great step r l),
        ap one_if (too_great (step + 1) r (omega arith)),
        ap one_if (ne_eqb r step (λ e. absurd (omega (arith, l, e)))),
      )
  | inr (inr l) ↦
      omega (
        arith,
        ap one_if (le-leb step r (omega arith)),
        ap one_if (le-leb (step + 1) r (omega arith)),
        ap one_if (ne_eqb r step (λ e. absurd (omega (arith, l, e)))),
      )
] where
  too_great : (a b : ℕ) → b < a → leb a b ≡ false
  too_great a b l = false_from_ne_true _ (λ t. absurd (omega (arith, leb-true a b t, l)))

-- a level is not above itself
above-off : (a b : ℕ) → ltb a b ≡ true → eqb a b ≡ false
above-off a b t = false_from_ne_true _ (λ e. absurd (omega (arith, ltb-true a b t, eqb-true a b e)))

-- at a step what is left is what is left at the next one, and what is taken in this one
pub left_at-step : (g : SimpleGraph) (core rank layer : List ℕ) (step v : ℕ) → Distinct layer
    → ((w : ℕ) → member w layer ≡ true → (w < g.size) × (at rank w ≡ step)) → ((w : ℕ) → w < g.size → at rank w ≡ step → member w layer ≡ true)
    → left_at g core rank step v ≡ left_at g core rank (step + 1) v + count_by (are_beside g core v) layer
left_at-step g core rank layer step v once here all =
    let now : ℕ → Bool = λ w. adjacent g v w && is_left_at core rank (at core v) step w in
    let next : ℕ → Bool = λ w. adjacent g v w && is_left_at core rank (at core v) (step + 1) w in
    let at-step : ℕ → Bool = λ w. are_beside g core v w && eqb (at rank w) step in
    let split : count_by now (below g.size) ≡ count_by next (below g.size) + count_by at-step (below g.size) =
    count-apart next at-step now (below g.size)
    (λ w. left-steps (adjacent g v w) (ltb (at core v) (at core w)) (eqb (at core v) (at core w)) (leb step (at rank w)) (leb (step + 1) (at rank w))
    (eqb (at rank w) step) (above-off (at core v) (at core w)) (step-splits step (at rank w))) in
    let same : count_by (are_beside g core v) layer ≡ count_by at-step layer =
    count-agree (are_beside g core v) at-step layer (λ w m. sym (with-true (are_beside g core v w) _ (eq-eqb (at rank w) step (here w m).1))) in
    let up : count_by at-step layer ≤ count_by at-step (below g.size) =
    count-le at-step layer (below g.size) once (λ w m _. member-below w g.size (here w m).0) in
    let down : count_by at-step (below g.size) ≤ count_by at-step layer =
    count-le at-step (below g.size) layer (Distinct-below g.size)
    (λ w m t. all w (below-member w g.size m) (eqb-true (at rank w) step (and_parts (are_beside g core v w) (eqb (at rank w) step) t).1)) in
    omega (arith, split, same, up, down)
  where
    with-true : (a b : Bool) → b ≡ true → (a && b) ≡ a
    with-true true b e = e
    with-true false b e = refl

-- at the first step no vertex of a level is taken
pub left_at-first : (g : SimpleGraph) (core rank : List ℕ) (v : ℕ) → left_at g core rank 0 v ≡ as_high g core (at core v) v
left_at-first g core rank v =
    count-agree (λ w. adjacent g v w && is_left_at core rank (at core v) 0 w) (λ w. adjacent g v w && leb (at core v) (at core w)) (below g.size)
    (λ w _. ap (λ b. adjacent g v w && b) (no-less (at core v) (at core w) (at rank w)))
  where
    not-less : (a b r : ℕ) → b < a → (ltb a b || (eqb a b && leb 0 r)) ≡ false
    not-less a b r l =
        or_from (ltb a b) (eqb a b && leb 0 r) (false_from_ne_true (ltb a b) (λ k. absurd (omega (arith, ltb-true a b k, l))))
        (and_left (eqb a b) (leb 0 r) (false_from_ne_true (eqb a b) (λ k. absurd (omega (arith, eqb-true a b k, l)))))

    no-less : (a b r : ℕ) → (ltb a b || (eqb a b && leb 0 r)) ≡ leb a b
    no-less a b r = elim (cases_order a b) [
      | inl e ↦ or_right (ltb a b) _ (and_from _ _ (eq-eqb a b e) (le-leb 0 r (omega arith))) ∙ sym (le-leb a b (omega arith))
      | inr o ↦ elim o [
        | inl l ↦ or_left (ltb a b) _ (lt-ltb a b l) ∙ sym (le-leb a b (omega arith))
        | inr l ↦ not-less a b r l ∙ sym (false_from_ne_true (leb a b) (λ t. absurd (omega (arith, leb-true a b t, l))))
      ]
    ]

-- the first step takes those that have few neighbours as high
pub layered_first : (g : SimpleGraph) (core left layer start rank : List ℕ) → g.size < 2 ^ 32 → length left ≡ g.size
    → ((v : ℕ) → v < g.size → at left v ≡ as_high g core (at core v) v) → IsFirstLayer core left layer g.size → length start ≡ g.size
    → ((v : ℕ) → v < g.size → at start v ≡ untaken_rank) → Ranks layer 0 start rank → Layered g core 0 left rank layer
layered_first g core left layer start rank small n counted f one none r = record {
  one_left = n;
  one_rank = r.one_each ∙ one;
  counted = λ v l. counted v l ∙ sym (left_at-first g core rank v);
  here = λ v m. ((f.within v m).0, r.ranked v m);
  all_here = in-layer;
  once = f.once;
  high = λ v l up. elim (cases_lt (at core v) (at left v)) [ inl lt ↦ lt | inr le ↦ absurd (omega (arith, r.ranked v (f.all v l le), up)) ];
  low = λ v l down. (f.within v (in-layer v l (omega (arith, down)))).1;
  untaken = λ v l up. elim (cases_Bool (member v layer)) [
    | inl m ↦ absurd (omega (arith, r.ranked v m, up))
    | inr m ↦ r.others v m ∙ none v l
  ];
  taken = λ v l down.
      let zero' : at rank v ≡ 0 = omega (arith, down) in
      let m : member v layer ≡ true = in-layer v l zero' in
      omega (arith, ap (λ s. left_at g core rank s v) zero', left_at-first g core rank v, counted v l, (f.within v m).1);
  not_before = λ v s l up at-first.
      let zero' : s ≡ 0 = omega (arith, at-first) in
      elim (cases_Bool (member v layer)) [
        | inl m ↦ absurd (omega (arith, r.ranked v m, up))
        | inr m ↦ elim (cases_lt (at core v) (at left v)) [
          | inl lt ↦ omega (arith, ap (λ k. left_at g core rank k v) zero', left_at-first g core rank v, counted v l, lt)
          | inr le ↦ absurd (true≢false (sym (f.all v l le) ∙ m))
        ]
      ];
  room = omega (arith, count-le-length (λ v. leb 0 (at rank v)) (below g.size), length-below g.size);
} where
  in-layer : (v : ℕ) → v < g.size → at rank v ≡ 0 → member v layer ≡ true
  in-layer v l z = elim (cases_Bool (member v layer)) [
    | inl m ↦ m
    | inr m ↦ absurd (omega (arith, r.others v m, none v l, z, small, l))
  ]

-- who joins the next layer is a vertex
pub joins-within : (g : SimpleGraph) (core : List ℕ) (step : ℕ) (left rank layer left' next : List ℕ) → Layered g core step left rank layer
    → TakesLayer g core layer left left' next → (v : ℕ) → member v next ≡ true → v < g.size
joins-within g core step left rank layer left' next h t v m = elim (cases_lt v g.size) [
  | inl l ↦ l
  | inr out ↦ absurd (omega (arith, (t.dropped v m).0, get_or_past left v 0 (omega (arith, h.one_left, out))))
]

module _ (g : SimpleGraph) (core : List ℕ) (step : ℕ) (left rank layer left' next rank' : List ℕ) (h : Layered g core step left rank layer)
    (small : g.size < 2 ^ 32) (t : TakesLayer g core layer left left' next) (r : Ranks next (step + 1) rank rank') where
  -- who joins the next layer is a vertex that had no rank
  joins : (v : ℕ) → member v next ≡ true → (v < g.size) × (step < at rank v)
  joins v m =
      let l : v < g.size = joins-within g core step left rank layer left' next h t v m in
      elim (cases_lt step (at rank v)) [ inl up ↦ (l, up) | inr down ↦ absurd (omega (arith, h.low v l down, (t.dropped v m).0)) ]

  -- no vertex changes its place before the next step
  left-same : (s level w : ℕ) → s ≤ step + 1 → is_left_at core rank' level s w ≡ is_left_at core rank level s w
  left-same s level w le = ap (λ b. ltb level (at core w) || (eqb level (at core w) && b)) (elim (cases_Bool (member w next)) [
    | inl m ↦ le-leb s (at rank' w) (omega (arith, r.ranked w m, le)) ∙ sym (le-leb s (at rank w) (omega (arith, (joins w m).1, le)))
    | inr m ↦ ap (leb s) (r.others w m)
  ])

  left_at-same : (s v : ℕ) → s ≤ step + 1 → left_at g core rank' s v ≡ left_at g core rank s v
  left_at-same s v le = count-agree (λ w. adjacent g v w && is_left_at core rank' (at core v) s w) (λ w. adjacent g v w && is_left_at core rank (at core v) s w)
      (below g.size) (λ w _. ap (λ b. adjacent g v w && b) (left-same s (at core v) w le))

  -- what is left is counted for the next step
  counted-next : (v : ℕ) → v < g.size → at left' v ≡ left_at g core rank' (step + 1) v
  counted-next v l =
      omega (
        arith,
        t.lost v l,
        h.counted v l,
        left_at-step g core rank layer step v h.once h.here h.all_here,
        left_at-same (step + 1) v (omega arith),
      )

  -- where the layer was not empty, fewer are left
  room-next : (x : ℕ) → member x layer ≡ true → (step + 1) + count_by (λ v. leb (step + 1) (at rank' v)) (below g.size) ≤ g.size
  room-next x m =
      let k = h.here x m in
      let out : member x next ≡ false = false_from_ne_true _ (λ in'. absurd (omega (arith, (joins x in').1, k.1))) in
      let fewer : count_by (λ v. leb (step + 1) (at rank' v)) (below g.size) < count_by (λ v. leb step (at rank v)) (below g.size) =
      count-fewer (λ v. leb (step + 1) (at rank' v)) (λ v. leb step (at rank v)) x (below g.size) (Distinct-below g.size) (member-below x g.size k.0)
      (false_from_ne_true _ (λ b. absurd (omega (arith, leb-true (step + 1) (at rank' x) b, r.others x out, k.1))))
      (le-leb step (at rank x) (omega (arith, k.1)))
      (λ v in' b. le-leb step (at rank v) (elim (cases_Bool (member v next)) [
        | inl n ↦ omega (arith, (joins v n).1)
        | inr n ↦ omega (arith, leb-true (step + 1) (at rank' v) b, r.others v n)
      ])) in
      omega (arith, fewer, h.room)

  -- who is not taken yet has a greater rank than the next step
  beyond-step : (x v : ℕ) → member x layer ≡ true → v < g.size → member v next ≡ false → step < at rank v
      → (step + 1 < at rank' v) × (at rank' v ≡ untaken_rank)
  beyond-step x v m l out up =
      let is : at rank' v ≡ untaken_rank = r.others v out ∙ h.untaken v l up in
      let some : 0 < count_by (λ w. leb (step + 1) (at rank' w)) (below g.size) =
      count-some (λ w. leb (step + 1) (at rank' w)) v (below g.size) (Distinct-below g.size) (member-below v g.size l)
      (le-leb (step + 1) (at rank' v) (omega (arith, r.others v out, up))) in
      (omega (arith, some, room-next x m, small, is), is)

  -- the state at the beginning of the next step
  pub layered_next : (x : ℕ) → member x layer ≡ true → Layered g core (step + 1) left' rank' next
  layered_next x m = record {
    one_left = t.one_each ∙ h.one_left;
    one_rank = r.one_each ∙ h.one_rank;
    counted = counted-next;
    here = λ v n. ((joins v n).0, r.ranked v n);
    all_here = all-here;
    once = t.once;
    high = high-next;
    low = λ v l down. elim (cases_Bool (member v next)) [
      | inl n ↦ (t.dropped v n).1
      | inr n ↦ omega (arith, t.fewer v, h.low v l (old-low v l n down))
    ];
    untaken = λ v l up. elim (cases_Bool (member v next)) [
      | inl n ↦ absurd (omega (arith, r.ranked v n, up))
      | inr n ↦ r.others v n ∙ h.untaken v l (omega (arith, r.others v n, up))
    ];
    taken = λ v l down. elim (cases_Bool (member v next)) [
      | inl n ↦ omega (arith, ap (λ s. left_at g core rank' s v) (r.ranked v n), counted-next v l, (t.dropped v n).1)
      | inr n ↦
          let before : at rank v ≤ step = old-low v l n down in
          omega (arith, ap (λ s. left_at g core rank' s v) (r.others v n), left_at-same (at rank v) v (omega (arith, before)), h.taken v l before)
    ];
    not_before = λ v s l up le. elim (cases_lt step s) [
      | inl next' ↦
          let is : s ≡ step + 1 = omega (arith, next', le) in
          omega (arith, ap (λ k. left_at g core rank' k v) is, counted-next v l, high-next v l (omega (arith, is, up)))
      | inr le' ↦ omega (arith, left_at-same s v le, h.not_before v s l (old-up v s l up le') le')
    ];
    room = room-next x m;
  } where
    -- who was taken by now, and does not join, was taken before
    old-low : (v : ℕ) → v < g.size → member v next ≡ false → at rank' v ≤ step + 1 → at rank v ≤ step
    old-low v l n down = elim (cases_lt step (at rank v)) [
      | inl up ↦ absurd (omega (arith, (beyond-step x v m l n up).0, down))
      | inr le ↦ le
    ]

    -- who is taken after an earlier step was so before
    old-up : (v s : ℕ) → v < g.size → s < at rank' v → s ≤ step → s < at rank v
    old-up v s l up le = elim (cases_Bool (member v next)) [
      | inl n ↦ omega (arith, (joins v n).1, le)
      | inr n ↦ omega (arith, r.others v n, up)
    ]

    high-next : (v : ℕ) → v < g.size → step + 1 < at rank' v → at core v < at left' v
    high-next v l up = elim (cases_Bool (member v next)) [
      | inl n ↦ absurd (omega (arith, r.ranked v n, up))
      | inr n ↦ elim (cases_lt (at core v) (at left' v)) [
        | inl lt ↦ lt
        | inr le ↦ absurd (true≢false (sym (t.all v (h.high v l (omega (arith, r.others v n, up))) le) ∙ n))
      ]
    ]

    all-here : (v : ℕ) → v < g.size → at rank' v ≡ step + 1 → member v next ≡ true
    all-here v l is = elim (cases_Bool (member v next)) [
      | inl n ↦ n
      | inr n ↦ absurd (omega (arith, (beyond-step x v m l n (omega (arith, r.others v n, is))).0, is))
    ]

-- the least number that passes, up to one that does
least : (p : ℕ → Bool) (k : ℕ) → p k ≡ true → (i : ℕ) × (i ≤ k) × (p i ≡ true) × ((j : ℕ) → j < i → p j ≡ false)
least p k t = elim (first_up_to k) [ inl f ↦ (f.0, f.1, f.2, f.3) | inr none ↦ absurd (true≢false (sym t ∙ none k (omega arith))) ] where
  first_up_to : (n : ℕ) → ((i : ℕ) × (i ≤ n) × (p i ≡ true) × ((j : ℕ) → j < i → p j ≡ false)) ⊎ ((j : ℕ) → j ≤ n → p j ≡ false)
  first_up_to zero = elim (cases_Bool (p 0)) [
    | inl y ↦ inl (0, omega arith, y, λ j l. absurd (omega arith))
    | inr f ↦ inr (λ j l. let z : j ≡ 0 = omega arith in ap p z ∙ f)
  ]
  first_up_to (suc n) = elim (first_up_to n) [
    | inl f ↦ inl (f.0, omega (arith, f.1), f.2, f.3)
    | inr none ↦ elim (cases_Bool (p (suc n))) [
      | inl y ↦ inl (suc n, omega arith, y, λ j l. none j (omega arith))
      | inr f ↦ inr (λ j l. elim (cases_eq j (suc n)) [ inl e ↦ ap p e ∙ f | inr ne ↦ none j (omega (arith, ne)) ])
    ]
  ]

-- Where all that are left at a step have too many neighbours left, none is left: the first of them, in an order that certifies, would have few.
pub none_waits : (g : SimpleGraph) (core : List ℕ) (step : ℕ) (rank : List ℕ) → AreCoreNumbers g core
    → ((w : ℕ) → w < g.size → step ≤ at rank w → at core w < left_at g core rank step w) → (v : ℕ) → v < g.size → at rank v < step
none_waits g core step rank right many v l = elim (cases_lt (at rank v) step) [
  | inl lt ↦ lt
  | inr up ↦
      let (other, order, c') = certificate_exists g in
      let c : Certifies g core order =
      subst (λ (numbers : List ℕ). Certifies g numbers order) (core-unique g other core (certified-core_numbers g other order c') right) c' in
      let place : (w : ℕ) → w < g.size → (j : ℕ) × (j < length order) × (get_or order j 0 ≡ w) = λ w lw.
      let (j, lj, at-j) = c.enumerates.complete w lw in (j, lj, get_or-any order j 0 w lj ∙ at-j) in
      let waits : ℕ → Bool = λ i. leb step (at rank (get_or order i 0)) in
      let (k, lk, at-k) = place v l in
      let (i, le, first, before) = least waits k (ap (λ w. leb step (at rank w)) at-k ∙ le-leb step (at rank v) up) in
      let x : ℕ = get_or order i 0 in
      let lx : x < g.size = c.enumerates.below i 0 (omega (arith, le, lk)) in
      let rest : List ℕ = drop (i + 1) order in
      let stays : ℕ → Bool = λ w. adjacent g x w && is_left_at core rank (at core x) step w in
      let later : (w : ℕ) → member w (below g.size) ≡ true → stays w ≡ true → member w rest ≡ true = λ w m s.
      let (j, lj, at-j) = place w (below-member w g.size m) in
      let p = and_parts (adjacent g x w) (is_left_at core rank (at core x) step w) s in
      let behind : i < j = elim (cases_order i j) [
        | inl same ↦ absurd (true≢false (sym p.0 ∙ (ap (adjacent g x) (sym at-j ∙ ap (λ n. get_or order n 0) (sym same)) ∙ adjacent-self g x)))
        | inr (inl lt) ↦ lt
        | inr (inr gt) ↦ elim (or_cases (ltb (at core x) (at core w)) _ p.1) [
          | inl above ↦
              absurd (omega (arith, ltb-true (at core x) (at core w) above, c.rising j i 0 gt (omega (arith, le, lk)), ap (at core) at-j))
          | inr beside ↦
              absurd (true≢false (sym (and_parts (eqb (at core x) (at core w)) (leb step (at rank w)) beside).1
              ∙ (ap (λ u. leb step (at rank u)) (sym at-j) ∙ before j gt)))
        ]
      ] in
      subst (λ (n : ℕ). member n rest ≡ true) at-j (member-drop_at (i + 1) j order (omega (arith, behind)) lj) in
      let among : left_at g core rank step x ≤ count_by stays rest = count-le stays (below g.size) rest (Distinct-below g.size) later in
      let fewer : count_by stays rest ≤ degree_among g rest x =
      count-mono stays (adjacent g x) rest (λ w _ s. (and_parts (adjacent g x w) (is_left_at core rank (at core x) step w) s).0) in
      absurd (omega (arith, c.few_later i (omega (arith, le, lk)), among, fewer, many x lx (leb-true step (at rank x) first)))
]

-- So where a step takes nothing, nothing is left.
none_left : (g : SimpleGraph) (core : List ℕ) (step : ℕ) (left rank : List ℕ) → AreCoreNumbers g core → Layered g core step left rank [] → (v : ℕ)
    → v < g.size → at rank v ≤ step
none_left g core step left rank right h v l = omega (arith, none_waits g core step rank right many v l) where
  many : (w : ℕ) → w < g.size → step ≤ at rank w → at core w < left_at g core rank step w
  many w lw up = elim (cases_lt step (at rank w)) [
    | inl lt ↦ omega (arith, h.high w lw lt, h.counted w lw)
    | inr le ↦ absurd (false≢true (h.all_here w lw (omega (arith, up, le))))
  ]

-- once a step takes nothing, all ranks are known
pub layered_all : (g : SimpleGraph) (core : List ℕ) (step : ℕ) (left rank : List ℕ) → AreCoreNumbers g core → Layered g core step left rank []
    → AreLayers g core rank
layered_all g core step left rank right h = record {
  one_each = h.one_rank;
  taken = λ v l. h.taken v l (none_left g core step left rank right h v l);
  not_before = λ v s l up. h.not_before v s l up (omega (arith, up, none_left g core step left rank right h v l));
}

-- while a step takes some, there are more vertices than steps before it
pub step-below : (g : SimpleGraph) (core : List ℕ) (step : ℕ) (left rank layer : List ℕ) → Layered g core step left rank layer → (x : ℕ)
    → member x layer ≡ true → step < g.size
step-below g core step left rank layer h x m =
    let k = h.here x m in
    omega (
      arith,
      h.room,
      count-some (λ v. leb step (at rank v)) x (below g.size) (Distinct-below g.size) (member-below x g.size k.0)
          (le-leb step (at rank x) (omega (arith, k.1))),
    )

-- each vertex has those left that are beside it and taken in this step
pub beside-left : (g : SimpleGraph) (core : List ℕ) (step : ℕ) (left rank layer : List ℕ) → Layered g core step left rank layer → (v : ℕ)
    → v < g.size → count_by (are_beside g core v) layer ≤ at left v
beside-left g core step left rank layer h v l = omega (arith, h.counted v l, left_at-step g core rank layer step v h.once h.here h.all_here)
